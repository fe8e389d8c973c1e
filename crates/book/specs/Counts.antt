-- The side that is meant, of two things given for bids and offers.
-- Rests on the two sides alone.
use Rattle.std.specs.Prelude.{ℕ}
use Rattle.market.specs.declared.types.Side.{Side}
use Rattle.market.specs.declared.types.Side.TheVariants.{Buy, Sell}

abbrev pub side_of : {A : Type 0} → Side → A → A → A
side_of Buy bids offers = bids
side_of Sell bids offers = offers

abbrev pub count_of : Side → ℕ → ℕ → ℕ
count_of Buy bids offers = bids
count_of Sell bids offers = offers
