-- The fields of a body from a place on. Assumes nothing.
use Rattle.std.proofs.Common.{◌≡◌, ℕ, suc, ◌+◌, ◌<◌, ◌≤◌, cond, ltb, leb, List, [], ◌∷◌, length, take, drop, Some, None, sym, refl, ap, ◌∙◌, ⊎_elim, arith}
use Rattle.std.specs.Bool.{then_some}
use Rattle.std.proofs.lemmas.List.{drop-drop, length-drop}
use Rattle.std.proofs.lemmas.Bool.{cond-true, cond-false, le-leb, lt-leb, lt-ltb, le-ltb, leb-true, leb-false, cases_lt}
use Rattle.files.specs.Fields.{word, further, fields}
use Rattle.files.specs.Lines.{ends_at, only_at, left}
use Rattle.files.proofs.Words.{by_test, word_le, word_take, further_none, further_some}

pub left_none : (xs : List ℕ) (at : ℕ) → length xs < at → left at xs ≡ []
unfolding left
left_none xs at h = cond-false (leb at (length xs)) (fields (drop at xs)) [] (lt-leb at (length xs) h)

pub left_some : (xs : List ℕ) (at : ℕ) → at ≤ length xs → left at xs ≡ fields (drop at xs)
unfolding left
left_some xs at h = cond-true (leb at (length xs)) (fields (drop at xs)) [] (le-leb at (length xs) h)

-- the field at a place is the first word of what stands from there on
pub field_next : (xs rest : List ℕ) (at n : ℕ) → at ≤ length xs → rest ≡ drop at xs → n ≡ length (word 32 rest)
    → (left at xs ≡ take n rest ∷ left (at + n + 1) xs) × (at + length (take n rest) + 1 ≡ at + n + 1) × (at + n + 1 ≤ length xs + 1)
field_next xs rest at n h r e =
    let next = at + n + 1 in
    let s = suc (length (word 32 rest)) in
    let w : take n rest ≡ word 32 rest = ap (λ k. take k rest) e ∙ word_take 32 rest in
    let l = word_le 32 rest in
    let d = ap length r ∙ length-drop at xs in
    let behind : further 32 rest ≡ left next xs = ⊎_elim
    (λ (k : n < length rest). further_some 32 rest (omega arith) ∙ ap fields (ap (drop s) r ∙ drop-drop s at xs ∙ ap (λ j. drop j xs) (omega arith)) ∙ sym (left_some xs next (omega arith)))
    (λ (k : length rest ≤ n). further_none 32 rest (omega arith) ∙ sym (left_none xs next (omega arith))) (cases_lt n (length rest)) in
    (left_some xs at h ∙ ap fields (sym r) ∙ ap (λ ys. word 32 rest ∷ ys) behind ∙ ap (λ v. v ∷ left next xs) (sym w), omega (arith, ap length w), omega arith)

pub left_ends : (xs : List ℕ) (at : ℕ) → ltb (length xs) at ≡ ends_at 0 (left at xs)
unfolding left
left_ends xs at =
    by_test (leb at (length xs)) (λ b. ltb (length xs) at ≡ ends_at 0 (cond b (fields (drop at xs)) []))
    (λ e. le-ltb (length xs) at (leb-true at (length xs) e)) (λ e. lt-ltb (length xs) at (leb-false at (length xs) e))

-- a value, where no field is left
pub at_end : {A : Type 0} → (xs : List ℕ) (at : ℕ) (x : A) → then_some (ltb (length xs) at) x ≡ only_at 0 (left at xs) x
at_end xs at x = by_test (ltb (length xs) at) (λ b. then_some b x ≡ cond b (Some x) None) (λ e. refl) (λ e. refl) ∙ ap (λ b. cond b (Some x) None) (left_ends xs at)
