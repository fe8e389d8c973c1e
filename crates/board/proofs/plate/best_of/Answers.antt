use Rattle.std.proofs.Common.{◌≡◌, arith}
use Rattle.board.specs.Quotes.{best_in}
use Rattle.board.proofs.plate.best_of.Goals as goal

pub returns : goal.returns
unfolding best_in
returns c = let e : c.loop-place.place ≡ 16 = omega arith in rw e at c.loop-place.invariant
