-- What a put, a take-out and a replacement keep of a shelf: its order, and what stands on it. Assumes nothing.
use Rattle.std.proofs.Common.{◌≡◌, ℕ, zero, suc, Bool, true, cond, List, [], ◌∷◌, length, set, Some, sym, refl, ap, ◌∙◌, subst, ⊎_elim, arith}
use Rattle.std.specs.List.{AllByRecursion, insert, remove}
use Rattle.std.proofs.lemmas.Bool.{both_ways, cond_both}
use Rattle.std.proofs.ByRecursion.{All-weaker, All-set}
use Rattle.shelf.specs.Order.{Total, Pairwise, Sorted, Distinct}
use Rattle.shelf.specs.Standing.{first_at, put_in, nth}

module _ {X : Type 0} where
  -- before the first that it is ahead of: by its place, and by what is passed
  pub inserted_first : (before : X → X → Bool) (x : X) (xs : List X) → insert xs (first_at (before x) xs) x ≡ put_in before x xs
  inserted_first before x [] = refl
  inserted_first before x (y ∷ ys) =
      cond_both (before x y) zero (suc (first_at (before x) ys)) (λ n. insert (y ∷ ys) n x ≡ put_in before x (y ∷ ys))
      (λ t. sym (ap (λ b. cond b (x ∷ y ∷ ys) (y ∷ put_in before x ys)) t))
      (λ f. ap (λ zs. y ∷ zs) (inserted_first before x ys) ∙ sym (ap (λ b. cond b (x ∷ y ∷ ys) (y ∷ put_in before x ys)) f))

  pub all_put_in : (P : X → Type 0) (before : X → X → Bool) (x : X) (xs : List X) → P x → AllByRecursion P xs → AllByRecursion P (put_in before x xs)
  all_put_in P before x [] h a = (h, tt)
  all_put_in P before x (y ∷ ys) h a =
      cond_both (before x y) (x ∷ y ∷ ys) (y ∷ put_in before x ys) (AllByRecursion P) (λ _. (h, a)) (λ _. (a.0, all_put_in P before x ys h a.1))

  pub length_put_in : (before : X → X → Bool) (x : X) (xs : List X) → length (put_in before x xs) ≡ suc (length xs)
  length_put_in before x [] = refl
  length_put_in before x (y ∷ ys) =
      cond_both (before x y) (x ∷ y ∷ ys) (y ∷ put_in before x ys) (λ zs. length zs ≡ suc (suc (length ys))) (λ _. refl) (λ _. ap suc (length_put_in before x ys))

  pub all_removed : (P : X → Type 0) (xs : List X) (n : ℕ) → AllByRecursion P xs → AllByRecursion P (remove xs n)
  all_removed P [] zero a = tt
  all_removed P [] (suc n) a = tt
  all_removed P (x ∷ xs) zero a = a.1
  all_removed P (x ∷ xs) (suc n) a = (a.0, all_removed P xs n a.1)

  -- a relation that holds from each to each behind it stays when one is taken out
  pub pairwise_removed : (R : X → X → Type 0) (xs : List X) (n : ℕ) → Pairwise R xs → Pairwise R (remove xs n)
  pairwise_removed R [] zero p = tt
  pairwise_removed R [] (suc n) p = tt
  pairwise_removed R (x ∷ xs) zero p = p.1
  pairwise_removed R (x ∷ xs) (suc n) p = (all_removed (R x) xs n p.0, pairwise_removed R xs n p.1)

  -- a put keeps the tags of what stands apart
  pub distinct_put : (tag : X → ℕ) (before : X → X → Bool) (x : X) (xs : List X) → AllByRecursion (λ y. tag x ≡ tag y → ⊥) xs → Distinct tag xs → Distinct tag (put_in before x xs)
  distinct_put tag before x [] a d = (tt, tt)
  distinct_put tag before x (y ∷ ys) a d =
      cond_both (before x y) (x ∷ y ∷ ys) (y ∷ put_in before x ys) (Distinct tag)
      (λ _. (a, d))
      (λ _. (all_put_in (λ w. tag y ≡ tag w → ⊥) before x ys (λ i. a.0 (sym i)) d.0, distinct_put tag before x ys a.1 d.1))

  -- what all have, the one at a place has
  pub all_nth : (P : X → Type 0) (xs : List X) (n : ℕ) (x : X) → nth n xs ≡ Some x → AllByRecursion P xs → P x
  all_nth P [] n x e a = let z : ◌≡◌ {A = ℕ} 0 1 = cc in absurd (omega arith)
  all_nth P (y ∷ ys) zero x e a = let i : y ≡ x = cc in subst P i a.0
  all_nth P (y ∷ ys) (suc n) x e a = all_nth P ys n x e a.1

module _ {X K : Type 0} (ahead : K → K → Bool) (key : X → K) where
  -- a thing of the same key stands as well in the place of another
  pub set_sorted : (x y : X) (xs : List X) (n : ℕ) → nth n xs ≡ Some x → key y ≡ key x → Sorted (λ a b. ahead (key a) (key b)) xs → Sorted (λ a b. ahead (key a) (key b)) (set xs n y)
  set_sorted x y [] n e k s = let z : ◌≡◌ {A = ℕ} 0 1 = cc in absurd (omega arith)
  set_sorted x y (w ∷ ws) zero e k s =
      let i : w ≡ x = cc in
      (subst (λ v. AllByRecursion (λ b. ahead v (key b) ≡ true) ws) (ap key i ∙ sym k) s.0, s.1)
  set_sorted x y (w ∷ ws) (suc n) e k s =
      let h = all_nth (λ b. ahead (key w) (key b) ≡ true) ws n x e s.0 in
      (All-set (λ b. ahead (key w) (key b) ≡ true) ws n y (ap (ahead (key w)) k ∙ h) s.0, set_sorted x y ws n e k s.1)

module _ {X K : Type 0} (label : K → ℕ) (ahead : K → K → Bool) (key : X → K) (t : Total label ahead) where
  abbrev before : X → X → Bool
  before x y = ahead (key x) (key y)

  -- a put keeps a sorted shelf sorted
  pub put_sorted : (x : X) (xs : List X) → AllByRecursion (λ y. label (key x) ≡ label (key y) → ⊥) xs → Sorted before xs → Sorted before (put_in before x xs)
  put_sorted x [] d s = (tt, tt)
  put_sorted x (y ∷ ys) d s =
      cond_both (before x y) (x ∷ y ∷ ys) (y ∷ put_in before x ys) (Sorted before)
      (λ e. ((e, All-weaker (λ w. before y w ≡ true) (λ w. before x w ≡ true) (λ w h. t.chain (key x) (key y) (key w) e h) ys s.0), s))
      (λ e.
      let h : before y x ≡ true = ⊎_elim (λ (w : before x y ≡ true). absurd (both_ways (before x y) e w)) (λ w. w) (t.apart (key x) (key y) d.0) in
      (all_put_in (λ w. before y w ≡ true) before x ys h s.0, put_sorted x ys d.1 s.1))
