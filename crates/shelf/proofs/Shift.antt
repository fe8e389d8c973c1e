-- Cells moved by one place, as what they leave of the shelf. Assumes nothing.
use Rattle.std.proofs.Common.{◌≡◌, ℕ, zero, suc, ◌+◌, ◌-◌, ◌<◌, ◌≤◌, List, [], ◌∷◌, ◌++◌, length, take, drop, set, sym, refl, ap, ◌∙◌, add-one, arith}
use lib.Seq.{paste}
use Rattle.std.proofs.Math.Seq.{take-set-lt}
use Rattle.std.specs.List.{insert, remove}
use Rattle.std.proofs.lemmas.List.{take-take, length-drop, drop-take}
use Rattle.std.proofs.lemmas.List.Edits.{take-paste, drop-paste}

module _ {X : Type 0} where
  -- the cell in front of a part that was moved takes the new thing
  set_front : (xs zs : List X) (i : ℕ) (y : X) → i < length xs → set (take (suc i) xs ++ zs) i y ≡ take i xs ++ (y ∷ zs)
  set_front [] zs i y h = absurd (omega arith)
  set_front (x ∷ xs) zs zero y h = refl
  set_front (x ∷ xs) zs (suc i) y h = ap (λ ys. x ∷ ys) (set_front xs zs i y (omega arith))

  drop_of_take : (xs : List X) (i n : ℕ) → i ≤ n → drop i (take n xs) ≡ take (n - i) (drop i xs)
  drop_of_take xs i n h =
      let e : n ≡ i + (n - i) = omega arith in
      ap (λ k. drop i (take k xs)) e ∙ drop-take i (n - i) xs

  -- what stood from a place on moved back by one, and the new thing written there
  pub inserted_stands : (xs moved : List X) (i n : ℕ) (y : X) → i ≤ n → n < length xs → moved ≡ paste xs (i + 1) (drop i xs) (n - i) → take (n + 1) (set moved i y) ≡ insert (take n xs) i y
  inserted_stands xs moved i n y h l e =
      let zs = take (n - i) (drop i xs) in
      let d = length-drop i xs in
      let k : n + 1 ≡ (i + 1) + (n - i) = omega arith in
      let t : take (n + 1) moved ≡ take (suc i) xs ++ zs =
      ap (take (n + 1)) e ∙ ap (λ m. take m (paste xs (i + 1) (drop i xs) (n - i))) k ∙ take-paste xs (i + 1) (drop i xs) (n - i) (omega arith) (omega arith) ∙ ap (λ m. take m xs ++ zs) (add-one i) in
      take-set-lt (n + 1) moved i y (omega arith) ∙ ap (λ ys. set ys i y) t ∙ set_front xs zs i y (omega arith)
      ∙ ap (λ ys. ys ++ (y ∷ zs)) (sym (take-take i n xs h)) ∙ ap (λ ys. take i (take n xs) ++ (y ∷ ys)) (sym (drop_of_take xs i n h))

  -- what stood behind a place moved up by one
  pub removed_stands : (xs moved : List X) (i n : ℕ) → i < n → n ≤ length xs → moved ≡ paste xs i (drop (i + 1) xs) (n - (i + 1)) → take (n - 1) moved ≡ remove (take n xs) i
  removed_stands xs moved i n h l e =
      let d = length-drop (i + 1) xs in
      let k : n - 1 ≡ i + (n - (i + 1)) = omega arith in
      let z : take (n - (i + 1)) (drop (i + 1) xs) ≡ drop (suc i) (take n xs) = sym (drop_of_take xs (i + 1) n (omega arith)) ∙ ap (λ m. drop m (take n xs)) (add-one i) in
      ap (take (n - 1)) e ∙ ap (λ m. take m (paste xs i (drop (i + 1) xs) (n - (i + 1)))) k
      ∙ take-paste xs i (drop (i + 1) xs) (n - (i + 1)) (omega arith) (omega arith)
      ∙ ap (λ ys. ys ++ take (n - (i + 1)) (drop (i + 1) xs)) (sym (take-take i n xs (omega arith))) ∙ ap (λ ys. take i (take n xs) ++ ys) z

  pub removed_behind : (xs moved : List X) (i n : ℕ) → i < n → n ≤ length xs → moved ≡ paste xs i (drop (i + 1) xs) (n - (i + 1)) → drop (n - 1) moved ≡ drop (n - 1) xs
  removed_behind xs moved i n h l e =
      let d = length-drop (i + 1) xs in
      let k : n - 1 ≡ i + (n - (i + 1)) = omega arith in
      ap (drop (n - 1)) e ∙ ap (λ m. drop m (paste xs i (drop (i + 1) xs) (n - (i + 1)))) k
      ∙ drop-paste xs i (drop (i + 1) xs) (n - (i + 1)) (omega arith) (omega arith) ∙ ap (λ m. drop m xs) (sym k)
