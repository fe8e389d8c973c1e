-- Lists whose things have tags: what a search finds, and what putting in, taking out and exchanging leave to be found.
-- Assumes nothing; nothing here knows of orders.
use Rattle.std.proofs.Common.{◌≡◌, ℕ, zero, suc, ◌+◌, ◌≤◌, Bool, true, false, cond, eqb, List, [], ◌∷◌, length, set, Some, None, Option, sym, refl, ap, ◌∙◌, subst, inl, inr, arith}
use Rattle.std.specs.List.{AllByRecursion, remove}
use Rattle.std.proofs.lemmas.Bool.Decides.{nat_tests}
use Rattle.std.proofs.lemmas.Bool.{cases_Bool, cond_both, both_ways, eq-eqb, ne_eqb, cond-true, cond-false}
use Rattle.std.proofs.ByRecursion.{All-weaker}
use Rattle.shelf.specs.declared.types.Placed.{Placed}
use Rattle.shelf.specs.Order.{Total, Pairwise, Sorted, Distinct}
use Rattle.shelf.specs.Standing.{first, put_in, nth}
use Rattle.shelf.proofs.Sorting.{all_put_in, all_removed, pairwise_removed}
use Rattle.law.proofs.Branches.{some_is, none_some}

module _ {X : Type 0} where
  -- Searches by a test, with the place: the first that passes.
  pub first_passes : (p : X → Bool) (xs : List X) (n : ℕ) (c : Placed X) → first p xs n ≡ Some c → p c.item ≡ true
  first_passes p [] n c e = grind (arith, nat_tests)
  first_passes p (x ∷ xs) n c e = let ih = first_passes p xs (suc n) c in grind (arith, nat_tests)

  pub first_none : (p : X → Bool) (xs : List X) (n : ℕ) → first p xs n ≡ None → AllByRecursion (λ x. p x ≡ false) xs
  first_none p [] n e = tt
  first_none p (x ∷ xs) n e = let ih = first_none p xs (suc n) in grind (arith, nat_tests)

  pub first_nth : (p : X → Bool) (xs : List X) (n : ℕ) (c : Placed X) → first p xs n ≡ Some c → (j : ℕ) × ((c.place ≡ n + j) × (nth j xs ≡ Some c.item))
  first_nth p [] n c e = absurd (none_some c e)
  first_nth p (x ∷ xs) n c e =
      cond_both (p x) (Some (record { place = n; item = x })) (first p xs (suc n)) (λ r. r ≡ Some c → (j : ℕ) × ((c.place ≡ n + j) × (nth j (x ∷ xs) ≡ Some c.item)))
      (λ _ h. subst (λ (d : Placed X). (j : ℕ) × ((d.place ≡ n + j) × (nth j (x ∷ xs) ≡ Some d.item))) (some_is _ c h) (0, (omega arith, refl)))
      (λ _ h. let (j, w) = first_nth p xs (suc n) c h in let k = w.0 in (suc j, (omega arith, w.1))) e

  -- in a sorted list nothing that passes stands before the first
  pub first_least : {tag : X → ℕ} (lt : X → X → Bool) → Total tag lt → (p : X → Bool) (xs : List X) (n : ℕ) (c : Placed X) → Sorted lt xs → first p xs n ≡ Some c → AllByRecursion (λ x. p x ≡ true → lt x c.item ≡ false) xs
  first_least lt t p [] n c a e = tt
  first_least lt t p (x ∷ xs) n c a e =
      cond_both (p x) (Some (record { place = n; item = x })) (first p xs (suc n)) (λ r. r ≡ Some c → AllByRecursion (λ z. p z ≡ true → lt z c.item ≡ false) (x ∷ xs))
      (λ _ h. subst (λ (d : Placed X). AllByRecursion (λ z. p z ≡ true → lt z d.item ≡ false) (x ∷ xs)) (some_is _ c h)
      ((λ _. t.never x), All-weaker (λ z. lt x z ≡ true) (λ z. p z ≡ true → lt z x ≡ false) (λ z k _. behind z k) xs a.0))
      (λ f h. ((λ w. absurd (both_ways (p x) f w)), first_least lt t p xs (suc n) c a.1 h)) e
    where
      behind : (z : X) → lt x z ≡ true → lt z x ≡ false
      behind z k = elim (cases_Bool (lt z x)) [ inl w ↦ absurd (both_ways (lt x x) (t.never x) (t.chain x z x k w)) | inr w ↦ w ]

  -- Searches by tag.
  abbrev pub found : (X → ℕ) → ℕ → List X → Option X
  found tag n [] = None
  found tag n (x ∷ xs) = cond (eqb (tag x) n) (Some x) (found tag n xs)

  abbrev pub item_of : Option (Placed X) → Option X
  item_of None = None
  item_of (Some c) = Some c.item

  pub found_first : (tag : X → ℕ) (k : ℕ) (xs : List X) (n : ℕ) → item_of (first (λ x. eqb (tag x) k) xs n) ≡ found tag k xs
  found_first tag k [] n = refl
  found_first tag k (x ∷ xs) n = let ih = found_first tag k xs (suc n) in grind (arith, nat_tests)

  pub found_tag : (tag : X → ℕ) (n : ℕ) (xs : List X) (x : X) → found tag n xs ≡ Some x → tag x ≡ n
  found_tag tag n [] x e = grind (arith, nat_tests)
  found_tag tag n (y ∷ xs) x e = let ih = found_tag tag n xs x in grind (arith, nat_tests)

  pub all_found : (P : X → Type 0) (tag : X → ℕ) (n : ℕ) (xs : List X) (x : X) → AllByRecursion P xs → found tag n xs ≡ Some x → P x
  all_found P tag n [] x a e = absurd (none_some x e)
  all_found P tag n (y ∷ xs) x a e = let ih = all_found P tag n xs x a.1 in grind (arith, nat_tests)

  pub all_nth : (P : X → Type 0) (xs : List X) (j : ℕ) (x : X) → AllByRecursion P xs → nth j xs ≡ Some x → P x
  all_nth P [] j x a e = absurd (none_some x e)
  all_nth P (y ∷ xs) zero x a e = subst P (some_is y x e) a.0
  all_nth P (y ∷ xs) (suc j) x a e = all_nth P xs j x a.1 e

  -- what no tag equals is not found, and the other way round
  pub absent : (tag : X → ℕ) (n : ℕ) (xs : List X) → AllByRecursion (λ y. n ≡ tag y → ⊥) xs → found tag n xs ≡ None
  absent tag n [] a = refl
  absent tag n (x ∷ xs) a = let ih = absent tag n xs a.1 in let d = a.0 in grind (arith, nat_tests)

  pub none_tagged : (tag : X → ℕ) (n : ℕ) (xs : List X) → found tag n xs ≡ None → AllByRecursion (λ y. n ≡ tag y → ⊥) xs
  none_tagged tag n [] e = tt
  none_tagged tag n (x ∷ xs) e = let ih = none_tagged tag n xs in grind (arith, nat_tests)

  -- where tags are distinct, each is found under its own
  pub nth_found : (tag : X → ℕ) (xs : List X) (j : ℕ) (x : X) → Distinct tag xs → nth j xs ≡ Some x → found tag (tag x) xs ≡ Some x
  nth_found tag [] j x d e = absurd (none_some x e)
  nth_found tag (y ∷ xs) zero x d e = let same = some_is y x e in grind (arith, nat_tests)
  nth_found tag (y ∷ xs) (suc j) x d e =
      let ih = nth_found tag xs j x d.1 e in
      let other = all_nth (λ z. tag y ≡ tag z → ⊥) xs j x d.0 e in
      grind (arith, nat_tests)

  -- to hold of all is to hold of each that is found under its tag
  pub all_from_found : (P : X → Type 0) (tag : X → ℕ) (xs : List X) → Distinct tag xs → ((x : X) → found tag (tag x) xs ≡ Some x → P x) → AllByRecursion P xs
  all_from_found P tag [] d k = tt
  all_from_found P tag (x ∷ xs) d k = (
    k x (cond-true _ _ _ (eq-eqb (tag x) (tag x) refl)),
    all_from_found P tag xs d.1 (λ y e. k y (cond-false _ _ _ (ne_eqb (tag x) (tag y) (all_found (λ z. tag x ≡ tag z → ⊥) tag (tag y) xs y d.0 e)) ∙ e)),
  )

  -- One thing edited in its place: exchanged, or taken out.
  abbrev pub edited : List X → ℕ → Option X → List X
  edited xs j None = remove xs j
  edited xs j (Some y) = set xs j y

  pub found_edited : (tag : X → ℕ) (xs : List X) (j : ℕ) (x : X) (r : Option X) → Distinct tag xs → nth j xs ≡ Some x → ((y : X) → r ≡ Some y → tag y ≡ tag x) → (n : ℕ) → found tag n (edited xs j r) ≡ cond (eqb (tag x) n) r (found tag n xs)
  found_edited tag [] j x r d e k n = absurd (none_some x e)
  found_edited tag (z ∷ xs) zero x None d e k n = let same = some_is z x e in let none = absent tag (tag z) xs d.0 in grind (arith, nat_tests)
  found_edited tag (z ∷ xs) zero x (Some y) d e k n = let same = some_is z x e in let t = k y refl in grind (arith, nat_tests)
  found_edited tag (z ∷ xs) (suc j) x None d e k n =
      let ih = found_edited tag xs j x None d.1 e k n in
      let other = all_nth (λ y. tag z ≡ tag y → ⊥) xs j x d.0 e in
      grind (arith, nat_tests)
  found_edited tag (z ∷ xs) (suc j) x (Some y) d e k n =
      let ih = found_edited tag xs j x (Some y) d.1 e k n in
      let other = all_nth (λ y. tag z ≡ tag y → ⊥) xs j x d.0 e in
      grind (arith, nat_tests)

  pub all_edited : (P : X → Type 0) (xs : List X) (j : ℕ) (r : Option X) → ((y : X) → r ≡ Some y → P y) → AllByRecursion P xs → AllByRecursion P (edited xs j r)
  all_edited P xs j None k a = all_removed P xs j a
  all_edited P [] j (Some y) k a = tt
  all_edited P (x ∷ xs) zero (Some y) k a = (k y refl, a.1)
  all_edited P (x ∷ xs) (suc j) (Some y) k a = (a.0, all_edited P xs j (Some y) k a.1)

  -- a relation that what is put in keeps to the others stays
  pub pairwise_edited : (R : X → X → Type 0) (xs : List X) (j : ℕ) (x : X) (r : Option X) → nth j xs ≡ Some x → ((y z : X) → r ≡ Some y → R x z → R y z) → ((y z : X) → r ≡ Some y → R z x → R z y) → Pairwise R xs → Pairwise R (edited xs j r)
  pairwise_edited R xs j x None e l k a = pairwise_removed R xs j a
  pairwise_edited R [] j x (Some y) e l k a = absurd (none_some x e)
  pairwise_edited R (z ∷ xs) zero x (Some y) e l k a =
      (All-weaker (R z) (R y) (λ w h. l y w refl (subst (λ v. R v w) (some_is z x e) h)) xs a.0, a.1)
  pairwise_edited R (z ∷ xs) (suc j) x (Some y) e l k a =
      (all_edited (R z) xs j (Some y) (λ w g. k w z g (all_nth (R z) xs j x a.0 e)) a.0, pairwise_edited R xs j x (Some y) e l k a.1)

  pub length_removed : (xs : List X) (j : ℕ) (x : X) → nth j xs ≡ Some x → suc (length (remove xs j)) ≡ length xs
  length_removed [] j x e = absurd (none_some x e)
  length_removed (z ∷ xs) zero x e = refl
  length_removed (z ∷ xs) (suc j) x e = ap suc (length_removed xs j x e)

  pub length_edited : (xs : List X) (j : ℕ) (x : X) (r : Option X) → nth j xs ≡ Some x → length (edited xs j r) ≤ length xs
  length_edited xs j x None e = let h = length_removed xs j x e in omega arith
  length_edited [] j x (Some y) e = absurd (none_some x e)
  length_edited (z ∷ xs) zero x (Some y) e = omega arith
  length_edited (z ∷ xs) (suc j) x (Some y) e = let h = length_edited xs j x (Some y) e in omega arith

  -- One thing put in.
  pub found_put_in : (tag : X → ℕ) (lt : X → X → Bool) (x : X) (n : ℕ) (ys : List X) → AllByRecursion (λ y. tag x ≡ tag y → ⊥) ys → found tag n (put_in lt x ys) ≡ cond (eqb (tag x) n) (Some x) (found tag n ys)
  found_put_in tag lt x n [] ne = refl
  found_put_in tag lt x n (y ∷ ys) ne = let ih = found_put_in tag lt x n ys ne.1 in let d = ne.0 in grind (arith, nat_tests, cases_Bool (lt x y))

  pub put_in_distinct : (tag : X → ℕ) (lt : X → X → Bool) (x : X) (ys : List X) → AllByRecursion (λ y. tag x ≡ tag y → ⊥) ys → Distinct tag ys → Distinct tag (put_in lt x ys)
  put_in_distinct tag lt x [] ne a = (tt, tt)
  put_in_distinct tag lt x (y ∷ ys) ne a =
      cond_both (lt x y) (x ∷ y ∷ ys) (y ∷ put_in lt x ys) (Distinct tag) (λ _. (ne, a))
      (λ _. (all_put_in (λ z. tag y ≡ tag z → ⊥) lt x ys (λ e. ne.0 (sym e)) a.0, put_in_distinct tag lt x ys ne.1 a.1))
