-- The away quotations: what a board means, what post and take make of it, and which is best.
-- Rests on the shared words of a market and on the types of a board.
use Rattle.std.specs.Prelude.{◌≡◌, ℕ, zero, suc, ◌-◌, Bool, true, false, cond, ◌&&◌, ◌||◌, Some, None, Ok, Err, Option, Result, ◌==◌, nat_le}
use Rattle.market.specs.declared.types.Side.{Side}
use Rattle.market.specs.declared.types.Refusal.{Refusal}
use Rattle.market.specs.declared.types.Refusal.TheVariants.{MarketNumber, Quotation, Take}
use Rattle.market.specs.Words.{same_side, better, in_range}
use Rattle.board.specs.declared.types.Quote.{Quote}
use Rattle.board.specs.declared.types.Best.{Best}

-- for each side and market, nothing or one quotation
abbrev pub Quotes : Type 0
Quotes = Side → ℕ → Option Quote

abbrev pub market_ok : ℕ → Bool
market_ok m = nat_le 1 m && nat_le m 16

abbrev pub quote_ok : Option Quote → Bool
quote_ok None = true
quote_ok (Some q) = in_range q.price && in_range q.shares

-- every quotation lies in its ranges, and no market but 1 to 16 has one
pub record Lawful (b : Quotes) : Type 0 where
  pub ranged : (s : Side) (m : ℕ) → quote_ok (b s m) ≡ true
  pub none : (s : Side) (m : ℕ) → market_ok m ≡ false → b s m ≡ None

-- the quotation of one side and market set to x
abbrev pub with_quote : Quotes → Side → ℕ → Option Quote → Quotes
with_quote b s m x t n = cond (same_side s t && m == n) x (b t n)

-- a post: shares 0 at price 0 removes, and else both figures lie in their ranges
abbrev pub removes : ℕ → ℕ → Bool
removes price shares = price == 0 && shares == 0

abbrev pub post_answer : ℕ → ℕ → ℕ → Result Unit Refusal
post_answer market price shares =
    cond (market_ok market) (cond (removes price shares || (in_range price && in_range shares)) (Ok tt) (Err Quotation)) (Err MarketNumber)

abbrev pub posted : ℕ → ℕ → Option Quote
posted price shares = cond (shares == 0) None (Some (record { price = price; shares = shares }))

-- a take: of 1 share or more, and no more than are there
abbrev pub shares_of : Option Quote → ℕ
shares_of None = 0
shares_of (Some q) = q.shares

abbrev pub take_answer : ℕ → Option Quote → ℕ → Result Unit Refusal
take_answer market q shares =
    cond (market_ok market) (cond (nat_le 1 shares && nat_le shares (shares_of q)) (Ok tt) (Err Take)) (Err MarketNumber)

abbrev pub lowered : Option Quote → ℕ → Option Quote
lowered None n = None
lowered (Some q) n = cond (nat_le q.shares n) None (Some (record { price = q.price; shares = q.shares - n }))

-- what an answer leaves: the change where it is Ok, and else what was
abbrev pub if_ok : {A : Type 0} → Result Unit Refusal → A → A → A
if_ok (Ok u) a b = a
if_ok (Err e) a b = b

-- an answer that hands on a value
abbrev pub answered : {A : Type 0} → Result Unit Refusal → A → Result A Refusal
answered (Ok u) a = Ok a
answered (Err e) a = Err e

-- the better of the best so far and one market's quotation; among equals what was there stays
abbrev pub better_of : Side → Option Best → ℕ → Option Quote → Option Best
better_of s b m None = b
better_of s None m (Some q) = Some (record { market = m; quote = q })
better_of s (Some b) m (Some q) = cond (better s q.price b.quote.price) (Some (record { market = m; quote = q })) (Some b)

-- the best of the markets 1 to n
abbrev pub best_upto : Quotes → Side → ℕ → Option Best
best_upto b s zero = None
best_upto b s (suc n) = better_of s (best_upto b s n) (suc n) (b s (suc n))

-- shut, since at 16 it would open to a term of 16 levels
unfoldable pub best_in : Quotes → Side → Option Best
best_in b s = best_upto b s 16
