-- An answer that hands on a value, taken apart. Assumes nothing.
use Rattle.std.proofs.Common.{◌≡◌, Ok, Err, Result, refl}
use Rattle.market.specs.declared.types.Refusal.{Refusal}
use Rattle.board.specs.Quotes.{answered}

pub answered_ok : {A : Type 0} (r : Result Unit Refusal) (a x : A) → Ok x ≡ answered r a → (r ≡ Ok tt) × (x ≡ a)
answered_ok (Ok tt) a x e = (refl, (cc))
answered_ok (Err f) a x e = absurd (cc)
