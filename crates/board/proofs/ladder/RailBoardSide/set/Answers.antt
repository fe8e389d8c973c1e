use Rattle.board.specs.LaddersLemmas.{set_none, set_some, gone_quote}
use Rattle.board.proofs.ladder.RailBoardSide.set.Goals as goal

pub add-requires-clause-none : goal.add-requires-clause-none
add-requires-clause-none c =
    let s = c.args.self.now in
    gone_quote s.order.side c.args.market _ _ s.sound c.remove.ensures.stands

pub returns-in-Some-clause-quotes : goal.returns-in-Some-clause-quotes
returns-in-Some-clause-quotes c =
    let s = c.args.self.now in
    rw c.in-Some.is (set_some s.order.side _ c.args.market c.in-Some.quote _ _ _ s.sound c.remove.ensures.stands c.add.ensures.stands)

pub returns-in_default-clause-quotes : goal.returns-in_default-clause-quotes
returns-in_default-clause-quotes c =
    let s = c.args.self.now in
    rw c.in_default.is (set_none s.order.side c.args.market _ _ s.sound c.remove.ensures.stands)
