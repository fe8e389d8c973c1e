use Rattle.board.specs.LaddersLemmas.{room, ok_put, rail_says}
use Rattle.board.proofs.ladder.Rail.add.Goals as goal

pub put-requires : goal.put-requires
put-requires c =
    let s = c.args.self.now in
    room s.order.side c.args.market c.args.quote _ c.requires.listed c.requires.none (rail_says s.order.side _ s.sound)

pub invariant_of-self : goal.invariant_of-self
invariant_of-self c =
    let s = c.args.self.now in
    record { sound = ok_put s.order.side c.args.market c.args.quote _ _ c.requires.listed c.requires.ranged c.requires.none s.sound c.put.ensures }
