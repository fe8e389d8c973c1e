-- Runs of writes: the order that they keep, and what they count. Assumes nothing.
use Rattle.std.proofs.Common.{◌≡◌, ℕ, zero, suc, ◌+◌, Bool, cond, List, [], ◌∷◌, ◌++◌, set, Some, None, Option, sym, refl, ap, subst, arith}
use Rattle.std.specs.List.{remove}
use Rattle.std.proofs.lemmas.Bool.{cond_both}
use Rattle.shelf.specs.Order.{Total, Sorted}
use Rattle.shelf.specs.Standing.{put_in, nth}
use Rattle.shelf.specs.Laws.{Write, Put, TakeOut, Replace, after, listed, left, came, after_all, left_all, came_all, tally, by, Fits, FitsAll}
use Rattle.shelf.proofs.Sorting.{pairwise_removed, put_sorted, set_sorted}

-- where nothing stands, nothing is replaced
set_past : {A : Type 0} (xs : List A) (n : ℕ) (y : A) → nth n xs ≡ None → set xs n y ≡ xs
set_past [] n y e = refl
set_past (x ∷ xs) zero y e = let z : ◌≡◌ {A = ℕ} 0 1 = cc in absurd (omega arith)
set_past (x ∷ xs) (suc n) y e = ap (λ zs. x ∷ zs) (set_past xs n y e)

module _ {A K : Type 0} (label : K → ℕ) (ahead : K → K → Bool) (key : A → K) (t : Total label ahead) where
  write_sorted : (w : Write A) (xs : List A) → Fits label key w xs → Sorted (by ahead key) xs → Sorted (by ahead key) (after (by ahead key) w xs)
  write_sorted (Put x) xs f s = put_sorted label ahead key t x xs f s
  write_sorted (TakeOut at) xs f s = pairwise_removed _ xs at s
  write_sorted (Replace at y) xs f s = by_place (nth at xs) refl where
    by_place : (r : Option A) → nth at xs ≡ r → Sorted (by ahead key) (set xs at y)
    by_place None e = subst (Sorted (by ahead key)) (sym (set_past xs at y e)) s
    by_place (Some x) e = set_sorted ahead key x y xs at e (f x e) s

  pub run_sorted : (ws : List (Write A)) (xs : List A) → FitsAll label ahead key ws xs → Sorted (by ahead key) xs → Sorted (by ahead key) (after_all (by ahead key) ws xs)
  run_sorted [] xs f s = s
  run_sorted (w ∷ ws) xs f s = run_sorted ws (after (by ahead key) w xs) f.1 (write_sorted w xs f.0 s)

module _ {A : Type 0} (before : A → A → Bool) (p : A → Bool) where
  tally_append : (xs ys : List A) → tally p (xs ++ ys) ≡ tally p xs + tally p ys
  tally_append [] ys = omega arith
  tally_append (x ∷ xs) ys = let ih = tally_append xs ys in omega arith

  tally_put : (x : A) (xs : List A) → tally p (put_in before x xs) ≡ cond (p x) 1 0 + tally p xs
  tally_put x [] = refl
  tally_put x (y ∷ ys) =
      let ih = tally_put x ys in
      cond_both (before x y) (x ∷ y ∷ ys) (y ∷ put_in before x ys) (λ zs. tally p zs ≡ cond (p x) 1 0 + tally p (y ∷ ys)) (λ _. refl) (λ _. omega arith)

  tally_removed : (xs : List A) (n : ℕ) → tally p (remove xs n) + tally p (listed (nth n xs)) ≡ tally p xs
  tally_removed [] zero = refl
  tally_removed [] (suc n) = refl
  tally_removed (x ∷ xs) zero = omega arith
  tally_removed (x ∷ xs) (suc n) = let ih = tally_removed xs n in omega arith

  tally_set : (xs : List A) (n : ℕ) (y : A) → tally p (set xs n y) + tally p (listed (nth n xs)) ≡ tally p xs + tally p (came (Replace n y) xs)
  tally_set [] n y = refl
  tally_set (x ∷ xs) zero y = omega arith
  tally_set (x ∷ xs) (suc n) y = let ih = tally_set xs n y in omega arith

  write_counts : (w : Write A) (xs : List A) → tally p (after before w xs) + tally p (left w xs) ≡ tally p xs + tally p (came w xs)
  write_counts (Put x) xs = let e = tally_put x xs in omega arith
  write_counts (TakeOut at) xs = let e = tally_removed xs at in omega arith
  write_counts (Replace at y) xs = tally_set xs at y

  pub run_counts : (ws : List (Write A)) (xs : List A) → tally p (after_all before ws xs) + tally p (left_all before ws xs) ≡ tally p xs + tally p (came_all before ws xs)
  run_counts [] xs = omega arith
  run_counts (w ∷ ws) xs =
      let ih = run_counts ws (after before w xs) in
      let e = write_counts w xs in
      let l = tally_append (left w xs) (left_all before ws (after before w xs)) in
      let c = tally_append (came w xs) (came_all before ws (after before w xs)) in
      omega arith
