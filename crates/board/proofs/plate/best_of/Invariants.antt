use Rattle.std.proofs.Common.{◌≡◌}
use Rattle.board.specs.Quotes.{best_upto}
use Rattle.board.specs.Plates.{at_market}
use Rattle.board.proofs.plate.best_of.Given as goal

abbrev pub invariant-loop-place : goal.invariant-loop-place
invariant-loop-place l = l.best ≡ best_upto (λ _. at_market l.row) l.side l.place
