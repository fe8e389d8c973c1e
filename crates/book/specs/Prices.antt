-- Conditions 1 and 4, which ask of a resting order its price alone, as a lowest and a highest price.
-- Rests on who may trade.
use Rattle.std.specs.Prelude.{◌≡◌, ℕ, ◌^◌, ◌<◌, Bool, cond, ◌&&◌, List, nat_le}
use Rattle.rules.specs.declared.types.Order.{Order}
use Rattle.rules.specs.Orders.{meets}
use Rattle.rules.specs.Trading.{Bests, within_limit, unbarred, reaches_mtv, behind_displayed}
use Rattle.book.specs.declared.types.Prices.{Prices}

abbrev pub between : Prices → ℕ → Bool
between r p = nat_le r.low p && nat_le p r.high

-- of each price that 32 bits hold, the bounds say what the two conditions say
abbrev pub Bounds : Order → Bests → Prices → Type 0
Bounds i x r = (p : ℕ) → p < 2 ^ 32 → between r p ≡ (within_limit i p && unbarred i x p)

-- conditions 1 to 4 by the bounds
abbrev pub four_between : Prices → Order → Order → Bool
four_between r i o = between r o.price && (meets i.kind o.kind && reaches_mtv i o)

unfoldable pub worth_between : Prices → Order → Order → ℕ
worth_between r i o = cond (four_between r i o) o.«open» 0

-- all five by the bounds
unfoldable pub passes_between : Prices → Order → List Order → List Order → Order → Bool
passes_between r i own opp o = four_between r i o && behind_displayed i own opp o
