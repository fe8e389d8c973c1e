-- Sums over the numbers 1 to n, and when such a sum is one over a list. Assumes nothing.
use Rattle.std.proofs.Common.{◌≡◌, ℕ, zero, suc, ◌+◌, ◌<◌, ◌≤◌, List, [], ◌∷◌, Some, None, Option, sym, refl, ap, ◌∙◌, ap₂, inl, inr, arith}
use Rattle.std.specs.List.{AllByRecursion}
use Rattle.std.proofs.lemmas.Bool.{cases_eq, cond-true, cond-false, eq-eqb, ne_eqb}
use Rattle.shelf.specs.Order.{Distinct}
use Rattle.law.specs.Judge.{Sum, count_upto}
use Rattle.law.proofs.Finding.{found, absent}

pub count_same : (g h : ℕ → ℕ) (n : ℕ) → ((k : ℕ) → g k ≡ h k) → count_upto g n ≡ count_upto h n
count_same g h zero e = refl
count_same g h (suc n) e = ap₂ (λ x y. x + y) (e (suc n)) (count_same g h n e)

pub count_at_most : (g : ℕ → ℕ) (n : ℕ) → ((k : ℕ) → g k ≤ 1) → count_upto g n ≤ n
count_at_most g zero e = omega arith
count_at_most g (suc n) e = let a = e (suc n) in let b = count_at_most g n e in omega arith

count_none : (g : ℕ → ℕ) (n : ℕ) → ((k : ℕ) → g k ≡ 0) → count_upto g n ≡ 0
count_none g zero e = refl
count_none g (suc n) e = let a = e (suc n) in let b = count_none g n e in omega arith

-- up to n the two agree where they differ only behind it
count_below : (g h : ℕ → ℕ) (k n : ℕ) → n < k → ((j : ℕ) → (k ≡ j → ⊥) → g j ≡ h j) → count_upto g n ≡ count_upto h n
count_below g h k zero l e = refl
count_below g h k (suc n) l e = let a = e (suc n) (λ w. omega arith) in let b = count_below g h k n (omega arith) e in omega arith

-- two figures that differ at one number
pub count_differs : (g h : ℕ → ℕ) (k n : ℕ) → 1 ≤ k → k ≤ n → ((j : ℕ) → (k ≡ j → ⊥) → g j ≡ h j) → count_upto g n + h k ≡ count_upto h n + g k
count_differs g h k zero l u e = absurd (omega arith)
count_differs g h k (suc n) l u e = elim (cases_eq k (suc n)) [
  | inl d ↦
      let below = count_below g h k n (omega arith) e in
      let p = ap g d in
      let q = ap h d in
      omega arith
  | inr d ↦ let below = count_differs g h k n l (omega arith) e in let p = e (suc n) d in omega arith
]

-- where the one that differs is 1 at most, the count grows by 1 at most
pub count_one_more : (g h : ℕ → ℕ) (k n : ℕ) → g k ≤ 1 → ((j : ℕ) → (k ≡ j → ⊥) → g j ≡ h j) → count_upto g n ≤ suc (count_upto h n)
count_one_more g h k zero l e = omega arith
count_one_more g h k (suc n) l e = elim (cases_eq k (suc n)) [
  | inl d ↦
      let below = count_below g h k n (omega arith) e in
      let p = ap g d in
      omega arith
  | inr d ↦ let below = count_one_more g h k n l e in let p = e (suc n) d in omega arith
]

-- the figures of a function that gives each its own
pub sum_is : (F : ℕ → ℕ → Type 0) (g : ℕ → ℕ) → ((n : ℕ) → F n (g n)) → (n : ℕ) → Sum F n (count_upto g n)
sum_is F g h zero = refl
sum_is F g h (suc n) = (g (suc n), count_upto g n, h (suc n), sum_is F g h n, refl)

-- a sum over tags is the sum over the list; `refl` and `λ _ _. refl` show that total is that sum
pub count_found : {X : Type 0} (tag : X → ℕ) (figure : Option X → ℕ) (total : List X → ℕ) → figure None ≡ 0 → total [] ≡ 0 → ((x : X) (xs : List X) → total (x ∷ xs) ≡ figure (Some x) + total xs) → (n : ℕ) (xs : List X) → Distinct tag xs → AllByRecursion (λ x. (1 ≤ tag x) × (tag x ≤ n)) xs → count_upto (λ k. figure (found tag k xs)) n ≡ total xs
count_found tag figure total z none more n [] d a = count_none (λ k. figure None) n (λ _. z) ∙ sym none
count_found tag figure total z none more n (x ∷ xs) d a =
    let rest = count_found tag figure total z none more n xs d.1 a.1 in
    let gone : figure (found tag (tag x) xs) ≡ 0 = ap figure (absent tag (tag x) xs d.0) ∙ z in
    let here : figure (found tag (tag x) (x ∷ xs)) ≡ figure (Some x) = ap figure (cond-true _ _ _ (eq-eqb (tag x) (tag x) refl)) in
    let one = count_differs (λ k. figure (found tag k (x ∷ xs))) (λ k. figure (found tag k xs)) (tag x) n a.0.0 a.0.1 (λ j ne. ap figure (cond-false _ _ _ (ne_eqb (tag x) j ne))) in
    let whole = more x xs in
    omega arith
