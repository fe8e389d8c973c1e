-- The two sides, which price is better for each, and the range of prices and shares.
-- Rests on the type of a side alone.
use Rattle.std.specs.Prelude.{Bool, true, false, ◌&&◌, ℕ, ltb, leb}
use Rattle.market.specs.declared.types.Side.{Side}
use Rattle.market.specs.declared.types.Side.TheVariants.{Buy, Sell}

abbrev pub opposite : Side → Side
opposite Buy = Sell
opposite Sell = Buy

abbrev pub same_side : Side → Side → Bool
same_side Buy Buy = true
same_side Buy Sell = false
same_side Sell Buy = false
same_side Sell Sell = true

-- price a is strictly better than b: a higher bid, a lower offer
abbrev pub better : Side → ℕ → ℕ → Bool
better Buy a b = ltb b a
better Sell a b = ltb a b

-- prices and shares run from 1 to 1,000,000
abbrev pub in_range : ℕ → Bool
in_range n = leb 1 n && leb n 1000000
