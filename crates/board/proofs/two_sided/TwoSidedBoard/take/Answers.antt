use Rattle.std.proofs.Common.{ap, ◌∙◌}
use Rattle.board.specs.Quotes.{take_answer, lowered, quote_ok}
use Rattle.board.specs.SidesLemmas.{both_lawful}
use Rattle.board.proofs.Answers.{answered_ok}
use Rattle.board.proofs.two_sided.TwoSidedBoard.take.Goals as goal

pub set-requires-clause-ranged : goal.set-requires-clause-ranged
set-requires-clause-ranged g c =
    let b = c.args.self.now in
    let l = both_lawful _ _ (g.met.S.BoardSide.lawful b.bids) (g.met.S.BoardSide.lawful b.offers) in
    c.in_ok-left.ensures.sound.1 (ap quote_ok c.look.ensures ∙ l.ranged c.args.side c.args.market)

pub returns-clause-after : goal.returns-clause-after
returns-clause-after g c =
    let a = answered_ok (take_answer c.args.market c.look.result c.args.shares) (lowered c.look.result c.args.shares) c.in_ok-left.left c.in_ok-left.ensures.value in
    rw (a.1, c.look.ensures) at c.set.ensures
