-- What a market holds, by its sides. Assumes nothing.
use Rattle.std.proofs.Common.{◌≡◌, ℕ, ◌+◌, ◌<◌, ◌≤◌, true, List, length, refl, arith}
use Rattle.std.proofs.lemmas.Bool.Decides.{nat_tests}
use Rattle.market.specs.declared.types.Side.{Side}
use Rattle.market.specs.declared.types.Side.TheVariants.{Buy, Sell}
use Rattle.market.specs.Words.{opposite}
use Rattle.board.specs.Quotes.{Quotes}
use Rattle.rules.specs.declared.types.Order.{Order}
use Rattle.rules.specs.Calls.{Market, of_side, with_side, by_sides, rests}
use Rattle.law.specs.Holdings.{quoted, holdings}

pub held_on : (s : Side) (m : Market) → holdings m ≡ (length (of_side s m) + length (of_side (opposite s) m)) + (quoted m.quotes s 16 + quoted m.quotes (opposite s) 16)
held_on Buy m = refl
held_on Sell m = omega arith

pub held_by_sides : (s : Side) (own opp : List Order) (b : Quotes) (n : ℕ) → holdings (by_sides s own opp b n) ≡ (length own + length opp) + (quoted b s 16 + quoted b (opposite s) 16)
held_by_sides Buy own opp b n = refl
held_by_sides Sell own opp b n = omega arith

-- a side with no more orders than it had
pub held_with_side : (s : Side) (os : List Order) (m : Market) → length os ≤ length (of_side s m) → holdings (with_side s os m) ≤ holdings m
held_with_side Buy os m h = omega arith
held_with_side Sell os m h = omega arith

pub resting_open : (o : Order) → rests o ≡ true → 0 < o.«open»
resting_open o h = grind (arith, nat_tests)
