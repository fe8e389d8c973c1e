-- The table of a side is lawful. Assumes nothing.
-- Lemmas, which nobody has to believe: they stand beside the definitions, since the law of an impl cites them.
use Rattle.std.specs.Prelude.{◌≡◌, ℕ, zero, suc, true, false, List, length, None, Option, slice_index_or, refl}
use Rattle.std.proofs.Common.{arith}
use Rattle.std.proofs.lemmas.List.{get_or_past}
use Rattle.std.proofs.lemmas.Bool.Decides.{nat_tests}
use Rattle.board.specs.declared.types.Quote.{Quote}
use Rattle.board.specs.Quotes.{quote_ok, market_ok}
use Rattle.board.specs.Sides.{LawfulSide}
use Rattle.board.specs.Plates.{at_market}

-- past the table there is nothing
at_past : (xs : List (Option Quote)) (m : ℕ) → length xs ≡ 16 → market_ok m ≡ false → at_market xs m ≡ None
at_past xs zero l h = refl
at_past xs (suc n) l h = get_or_past xs n None (grind (arith, nat_tests))

at_ok : (xs : List (Option Quote)) (m : ℕ) → ((k : ℕ) → quote_ok (slice_index_or xs k None) ≡ true) → quote_ok (at_market xs m) ≡ true
at_ok xs zero h = refl
at_ok xs (suc n) h = h n

pub table_lawful : (xs : List (Option Quote)) → length xs ≡ 16 → ((k : ℕ) → quote_ok (slice_index_or xs k None) ≡ true) → LawfulSide (at_market xs)
table_lawful xs l q = record { ranged = λ m. at_ok xs m q; none = λ m. at_past xs m l }
