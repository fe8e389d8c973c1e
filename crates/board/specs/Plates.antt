-- What the tables of a plate mean: the quotation of market m stands at place m - 1.
-- Rests on Sides.
use Rattle.std.specs.Prelude.{ℕ, zero, suc, List, None, Option, slice_index_or}
use Rattle.market.specs.declared.types.Side.{Side}
use Rattle.board.specs.declared.types.Quote.{Quote}
use Rattle.board.specs.declared.types.Best.{Best}
use Rattle.board.specs.Sides.{side_best}

abbrev pub at_market : List (Option Quote) → ℕ → Option Quote
at_market xs zero = None
at_market xs (suc n) = slice_index_or xs n None

-- the best quotation of one side's table
abbrev pub row_best : Side → List (Option Quote) → Option Best
row_best side row = side_best side (at_market row)
