-- What stands on a shelf, as a list, first to last: searching it, reading it and putting in.
-- Rests on lists alone.
use Rattle.std.specs.Prelude.{ℕ, zero, suc, Bool, cond, List, [], ◌∷◌, Some, None, Option}
use Rattle.shelf.specs.declared.types.Placed.{Placed}

-- the first that passes, with its place; n stand before the list
abbrev pub first : {A : Type 0} → (A → Bool) → List A → ℕ → Option (Placed A)
first p [] n = None
first p (x ∷ xs) n = cond (p x) (Some (record { place = n; item = x })) (first p xs (suc n))

-- how many stand before the first that passes
abbrev pub first_at : {A : Type 0} → (A → Bool) → List A → ℕ
first_at p [] = zero
first_at p (x ∷ xs) = cond (p x) zero (suc (first_at p xs))

-- in front of the first that it is ahead of
abbrev pub put_in : {A : Type 0} → (A → A → Bool) → A → List A → List A
put_in before x [] = x ∷ []
put_in before x (y ∷ ys) = cond (before x y) (x ∷ y ∷ ys) (y ∷ put_in before x ys)

abbrev pub nth : {A : Type 0} → ℕ → List A → Option A
nth n [] = None
nth zero (x ∷ xs) = Some x
nth (suc n) (x ∷ xs) = nth n xs
