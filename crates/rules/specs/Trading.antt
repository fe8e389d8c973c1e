-- Who may trade: the five conditions, one by one, and the volume that an MTV is measured by.
-- Rests on the kinds of order and on what a board means.
use Rattle.std.specs.Prelude.{ℕ, zero, suc, ◌+◌, Bool, true, cond, not, ◌&&◌, ◌||◌, List, [], ◌∷◌, Some, None, Option, nat_le}
use Rattle.market.specs.declared.types.Side.{Side}
use Rattle.market.specs.Words.{opposite, better}
use Rattle.board.specs.declared.types.Quote.{Quote}
use Rattle.board.specs.declared.types.Best.{Best}
use Rattle.board.specs.Quotes.{Quotes, best_in}
use Rattle.rules.specs.declared.types.Order.{Order}
use Rattle.rules.specs.Orders.{mtv_of, displayed, program, type2, meets}

-- what stands while an order comes in: that order, whose open shares are q, its own side, the
-- other side, first to last, and the away quotations
pub record Stand : Type 0 where
  pub incoming : Order
  pub own : List Order
  pub opp : List Order
  pub quotes : Quotes

-- 1. the resting price is no worse than the incoming limit: a buyer pays no more, a seller gets no less
abbrev pub within_limit : Order → ℕ → Bool
within_limit i price = not (better i.side price i.price)

-- 3. the resting order's MTV is at most what is open of the incoming one
abbrev pub reaches_mtv : Order → Order → Bool
reaches_mtv i o = nat_le (mtv_of o.kind) i.«open»

-- 4. no protected bid is above the price and no protected offer below it; for an incoming Type 2
-- only the quotations of its own side count. It is enough to ask the best of each side.
pub record Bests : Type 0 where
  pub own : Option Best
  pub other : Option Best

abbrev pub bests : Quotes → Side → Bests
bests b s = record { own = best_in b s; other = best_in b (opposite s) }

abbrev pub no_better : Option Best → Side → ℕ → Bool
no_better None s p = true
no_better (Some x) s p = not (better s x.quote.price p)

abbrev pub unbarred : Order → Bests → ℕ → Bool
unbarred i x p = no_better x.own i.side p && (type2 i.kind || no_better x.other (opposite i.side) p)

-- 5. between two Program orders every displayed order at rest is worse than the price for its side
abbrev pub worse_than : ℕ → Order → Bool
worse_than p o = not (displayed o.kind) || better o.side p o.price

abbrev pub all_worse : ℕ → List Order → Bool
all_worse p [] = true
all_worse p (o ∷ os) = worse_than p o && all_worse p os

abbrev pub behind_displayed : Order → List Order → List Order → Order → Bool
behind_displayed i own opp o = not (program i.kind && program o.kind) || (all_worse o.price opp && all_worse o.price own)

-- conditions 1 to 4; the second is the table of kinds
abbrev pub first_four : Order → Bests → Order → Bool
first_four i x o = within_limit i o.price && (meets i.kind o.kind && (reaches_mtv i o && unbarred i x o.price))

-- all five; shut, since what uses it needs only its name
unfoldable pub passes : Order → Bests → List Order → List Order → Order → Bool
passes i x own opp o = first_four i x o && behind_displayed i own opp o

abbrev pub may_trade : Stand → Order → Bool
may_trade s = passes s.incoming (bests s.quotes s.incoming.side) s.own s.opp

-- the volume: open shares of the orders that pass conditions 1 to 4
abbrev pub worth : Order → Bests → Order → ℕ
worth i x o = cond (first_four i x o) o.«open» 0

abbrev pub resting_volume : Order → Bests → List Order → ℕ
resting_volume i x [] = 0
resting_volume i x (o ∷ os) = worth i x o + resting_volume i x os

-- and for a Type 2 the shares of each protected quotation of the other side at its limit or better
abbrev pub quote_worth : Order → Option Quote → ℕ
quote_worth i None = 0
quote_worth i (Some q) = cond (within_limit i q.price) q.shares 0

-- over the markets 1 to n
abbrev pub away_upto : Order → Quotes → ℕ → ℕ
away_upto i b zero = 0
away_upto i b (suc n) = away_upto i b n + quote_worth i (b (opposite i.side) (suc n))

-- shut, since at 16 it would open to a sum of 16 parts
unfoldable pub away_volume : Order → Quotes → ℕ
away_volume i b = cond (type2 i.kind) (away_upto i b 16) 0

abbrev pub volume : Order → List Order → Quotes → ℕ
volume i opp b = resting_volume i (bests b i.side) opp + away_volume i b
