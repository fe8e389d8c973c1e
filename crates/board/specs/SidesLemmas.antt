-- What two sides make together: the best of one, and that the board is lawful. Assumes nothing.
-- Lemmas, which nobody has to believe: they stand beside the definitions, since the law of an impl cites them.
use Rattle.std.specs.Prelude.{◌≡◌, ℕ, zero, suc, true, false, Option, refl, None}
use Rattle.std.proofs.Common.{ap}
use Rattle.market.specs.declared.types.Side.{Side}
use Rattle.market.specs.declared.types.Side.TheVariants.{Buy, Sell}
use Rattle.board.specs.declared.types.Quote.{Quote}
use Rattle.board.specs.Quotes.{Quotes, Lawful, quote_ok, market_ok, better_of, best_upto, best_in}
use Rattle.board.specs.Sides.{both_sides, side_best, LawfulSide}

-- the best of a board's side is that of the side alone
pub side_best_is : (b : Quotes) (s : Side) → side_best s (b s) ≡ best_in b s
unfolding best_in
side_best_is b s = upto 16 where
  upto : (n : ℕ) → best_upto (λ _. b s) s n ≡ best_upto b s n
  upto zero = refl
  upto (suc n) = ap (λ r. better_of s r (suc n) (b s (suc n))) (upto n)

pub both_lawful : (bids offers : ℕ → Option Quote) → LawfulSide bids → LawfulSide offers → Lawful (both_sides bids offers)
both_lawful bids offers kb ko = record { ranged = ranged; none = none } where
  ranged : (s : Side) (m : ℕ) → quote_ok (both_sides bids offers s m) ≡ true
  ranged Buy m = kb.ranged m
  ranged Sell m = ko.ranged m

  none : (s : Side) (m : ℕ) → market_ok m ≡ false → both_sides bids offers s m ≡ None
  none Buy m h = kb.none m h
  none Sell m h = ko.none m h
