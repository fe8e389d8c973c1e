-- Searches from the front of a shelf, by what is left of the list. Assumes nothing.
use Rattle.std.proofs.Common.{◌≡◌, ℕ, zero, suc, ◌+◌, ◌<◌, ◌≤◌, Bool, true, false, cond, List, [], ◌∷◌, length, get_or, Some, None, Option, nat_lt, sym, refl, ap, arith}
use Rattle.std.proofs.lemmas.Bool.{cases_Bool}
use Rattle.std.proofs.lemmas.Bool.Decides.{nat_tests}
use Rattle.std.proofs.lemmas.List.Recursion.{is_position_or_len}
use Rattle.std.specs.List.{position, position_or_len}
use Rattle.std.specs.Option.{unwrap_or}
use Rattle.shelf.specs.declared.types.Placed.{Placed}
use Rattle.shelf.specs.Standing.{first, first_at}

module _ {X : Type 0} where
  pub first_at_le : (p : X → Bool) (xs : List X) → first_at p xs ≤ length xs
  first_at_le p [] = omega arith
  first_at_le p (x ∷ xs) = let h = first_at_le p xs in elim (p x) as (λ b. cond b zero (suc (first_at p xs)) ≤ suc (length xs)) [ true ↦ omega arith | false ↦ omega arith ]

  -- the place of the first that passes is how many stand before it
  pub found_place : (p : X → Bool) (xs : List X) (n : ℕ) (w : Placed X) → first p xs n ≡ Some w → (w.place ≡ n + first_at p xs) × (first_at p xs < length xs)
  found_place p [] n w e = let z : ◌≡◌ {A = ℕ} 0 1 = cc in absurd (omega arith)
  found_place p (x ∷ xs) n w e = let ih = found_place p xs (suc n) w in (grind (arith, nat_tests, cases_Bool (p x)), grind (arith, nat_tests, cases_Bool (p x)))

  -- what a search finds stands in the list
  pub first_within : (p : X → Bool) (xs : List X) (n : ℕ) (c : Placed X) → Some c ≡ first p xs n → c.place < n + length xs
  first_within p xs n c e = let f = found_place p xs n c (sym e) in omega arith

  pub first_is : (p : X → Bool) (xs : List X) (n : ℕ) (d : X) → first_at p xs < length xs → first p xs n ≡ Some (record { place = n + first_at p xs; item = get_or xs (first_at p xs) d })
  first_is p [] n d h = absurd (omega arith)
  first_is p (x ∷ xs) n d h = let ih = first_is p xs (suc n) d in grind (arith, nat_tests, cases_Bool (p x))

  first_not : (p : X → Bool) (xs : List X) (n : ℕ) → length xs ≤ first_at p xs → first p xs n ≡ None
  first_not p [] n h = refl
  first_not p (x ∷ xs) n h = let ih = first_not p xs (suc n) in grind (arith, nat_tests, cases_Bool (p x))

  -- the searches here, by the library's
  first_at_is : (p : X → Bool) (xs : List X) → first_at p xs ≡ position_or_len p xs
  first_at_is p xs = is_position_or_len (first_at p) p refl (λ x ys. ap (cond (p x) 0) (omega arith)) xs

  position_by : (p : X → Bool) (xs : List X) (r : Option ℕ) → r ≡ position p xs → r ≡ cond (nat_lt (first_at p xs) (length xs)) (Some (first_at p xs)) None
  position_by p xs r e = rw (first_at_is p xs) e

  pub first_at_found : (p : X → Bool) (xs : List X) (r : Option ℕ) → r ≡ position p xs → unwrap_or r (length xs) ≡ first_at p xs
  first_at_found p xs r e = let f = position_by p xs r e in let l = first_at_le p xs in grind (arith, nat_tests)

  pub first_found : (p : X → Bool) (xs : List X) (r : Option ℕ) (k : ℕ) (d : X) → r ≡ position p xs → r ≡ Some k → Some (record { place = k; item = get_or xs k d }) ≡ first p xs 0
  first_found p xs r k d e h =
      let f = position_by p xs r e in
      let i = first_is p xs 0 d in
      grind (arith, nat_tests)

  pub first_missed : (p : X → Bool) (xs : List X) (r : Option ℕ) → r ≡ position p xs → r ≡ None → None ≡ first p xs 0
  first_missed p xs r e h =
      let f = position_by p xs r e in
      let n = first_not p xs 0 in
      grind (arith, nat_tests)
