use Rattle.std.proofs.Common.{◌∙◌}
use Rattle.board.specs.Sides.{both_sides}
use Rattle.board.specs.SidesLemmas.{side_best_is}
use Rattle.board.proofs.two_sided.TwoSidedBoard.best.Goals as goal

pub returns : goal.returns
returns g c =
    let b = c.args.self.now in
    rw (c.half.ensures.side, c.half.ensures.quotes) at c.best.ensures ∙ side_best_is (both_sides (g.S.BoardSide.quoted b.bids) (g.S.BoardSide.quoted b.offers)) c.args.side
