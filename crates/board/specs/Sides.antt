-- One side of a board, and what two of them make together.
-- Rests on Quotes.
use Rattle.std.specs.Prelude.{◌≡◌, ℕ, true, false, cond, None, Option, ◌==◌}
use Rattle.market.specs.declared.types.Side.{Side}
use Rattle.market.specs.declared.types.Side.TheVariants.{Buy, Sell}
use Rattle.board.specs.declared.types.Quote.{Quote}
use Rattle.board.specs.declared.types.Best.{Best}
use Rattle.board.specs.Quotes.{Quotes, market_ok, quote_ok, best_in}

abbrev pub both_sides : (ℕ → Option Quote) → (ℕ → Option Quote) → Quotes
both_sides bids offers Buy = bids
both_sides bids offers Sell = offers

-- the quotation of one market set to x
abbrev pub with_level : (ℕ → Option Quote) → ℕ → Option Quote → ℕ → Option Quote
with_level f m x n = cond (m == n) x (f n)

-- the best of the markets, as the side asks
abbrev pub side_best : Side → (ℕ → Option Quote) → Option Best
side_best s f = best_in (λ _. f) s

-- every quotation of the side lies in its ranges, and no market but 1 to 16 has one
pub record LawfulSide (f : ℕ → Option Quote) : Type 0 where
  pub ranged : (m : ℕ) → quote_ok (f m) ≡ true
  pub none : (m : ℕ) → market_ok m ≡ false → f m ≡ None
