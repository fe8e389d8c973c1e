-- The lines of a text, one by one, and what a file of them holds. Assumes nothing.
use Rattle.std.proofs.Common.{◌≡◌, ℕ, suc, ◌+◌, ◌-◌, ◌*◌, ◌<◌, ◌≤◌, cond, eqb, List, [], ◌∷◌, ◌++◌, length, take, drop, sym, refl, ap, ◌∙◌, arith}
use Rattle.std.specs.List.{flat_map}
use Rattle.std.proofs.lemmas.List.{length-append, take-append-drop}
use Rattle.files.specs.Fields.{word}
use Rattle.files.specs.Written.{short, contents, layout}
use Rattle.files.specs.Packing.{lines_in, later_lines, begun_line, unparted}
use Rattle.files.proofs.Words.{by_test, word_take}
use Rattle.shelf.proofs.Cells.{drop_later}
use Rattle.files.proofs.LayingOut.{length_contents}

later_are : (xs : List ℕ) → later_lines xs ≡ lines_in (drop (suc (length (word 10 xs))) xs)
unfolding lines_in
later_are [] = refl
later_are (c ∷ cs) =
    by_test (eqb c 10) (λ b. cond b (begun_line cs (later_lines cs)) (later_lines cs) ≡ lines_in (drop (length (cond b [] (c ∷ word 10 cs))) cs))
    (λ e. refl) (λ e. later_are cs)

pub no_lines : (text : List ℕ) → length text ≡ 0 → lines_in text ≡ []
unfolding lines_in
no_lines [] e = refl
no_lines (c ∷ cs) e = absurd (omega arith)

-- the first line, and what is left behind it
pub first_line : (text : List ℕ) (n : ℕ) → 0 < length text → n ≡ length (word 10 text) → lines_in text ≡ take n text ∷ lines_in (drop (n + 1) text)
unfolding lines_in
first_line [] n h e = absurd (omega arith)
first_line (c ∷ cs) n h e =
    let text = c ∷ cs in
    let w : take n text ≡ word 10 text = ap (λ k. take k text) e ∙ word_take 10 text in
    let k : suc (length (word 10 text)) ≡ n + 1 = omega arith in
    ap (λ v. v ∷ later_lines text) (sym w) ∙ ap (λ ls. take n text ∷ ls) (later_are text ∙ ap (λ m. lines_in (drop m text)) k)

-- a text has no more lines than bytes, nor more bytes in them
begun_few : (text : List ℕ) → (length (later_lines text) ≤ length text - 1) × (length (word 10 text) + length (flat_map (λ b. b) (later_lines text)) ≤ length text)
begun_few [] = (omega arith, omega arith)
begun_few (c ∷ cs) =
    by_test (eqb c 10)
    (λ b. (length (cond b (begun_line cs (later_lines cs)) (later_lines cs)) ≤ suc (length cs) - 1) × (length (cond b [] (c ∷ word 10 cs)) + length (flat_map (λ b. b) (cond b (begun_line cs (later_lines cs)) (later_lines cs))) ≤ suc (length cs)))
    (λ e. begun cs (begun_few cs)) (λ e. let f = begun_few cs in (omega arith, omega arith))
  where
    begun : (ys : List ℕ) → (length (later_lines ys) ≤ length ys - 1) × (length (word 10 ys) + length (flat_map (λ b. b) (later_lines ys)) ≤ length ys)
        → (length (begun_line ys (later_lines ys)) ≤ suc (length ys) - 1) × (0 + length (flat_map (λ b. b) (begun_line ys (later_lines ys))) ≤ suc (length ys))
    begun [] f = (omega arith, omega arith)
    begun (d ∷ ds) f =
        let j = length-append (word 10 (d ∷ ds)) (flat_map (λ b. b) (later_lines (d ∷ ds))) in
        (omega arith, omega arith)

pub lines_few : (text : List ℕ) → (length (lines_in text) ≤ length text) × (length (unparted text) ≤ length text)
unfolding lines_in
lines_few [] = (omega arith, omega arith)
lines_few (c ∷ cs) =
    let f = begun_few (c ∷ cs) in
    let j = length-append (word 10 (c ∷ cs)) (flat_map (λ b. b) (later_lines (c ∷ cs))) in
    (omega arith, omega arith)

-- the size of a file
pub length_layout : (ls : List (List ℕ)) → length (layout ls) ≡ 2 + 4 * length ls + length (flat_map (λ b. b) ls)
unfolding layout
length_layout ls =
    let c = length_contents (2 + 4 * length ls) ls in
    let a = length-append (contents (2 + 4 * length ls) ls) (flat_map (λ b. b) ls) in
    omega arith

-- the count, the contents and the bodies, written one behind the other, are the file
pub written_out : (ls : List (List ℕ)) (out out1 out2 out3 : List ℕ) (n b : ℕ) → n ≡ length ls → b ≡ length (flat_map (λ b. b) ls)
    → take 2 out1 ≡ short n → drop 2 out1 ≡ drop 2 out
    → take (2 + 4 * length ls) out2 ≡ take 2 out1 ++ contents (2 + 4 * n) ls → drop (2 + 4 * length ls) out2 ≡ drop (2 + 4 * length ls) out1
    → take (2 + 4 * n + length (flat_map (λ b. b) ls)) out3 ≡ take (2 + 4 * n) out2 ++ flat_map (λ b. b) ls → drop (2 + 4 * n + length (flat_map (λ b. b) ls)) out3 ≡ drop (2 + 4 * n + length (flat_map (λ b. b) ls)) out2
    → out3 ≡ layout ls ++ drop (2 + 4 * n + b) out
unfolding layout
written_out ls out out1 out2 out3 n b e k s1 b1 s2 b2 s3 b3 =
    let f = 2 + 4 * length ls in
    let bytes = flat_map (λ b. b) ls in
    let t = f + length bytes in
    let x : 2 + 4 * n ≡ f = omega arith in
    let d : drop t out3 ≡ drop t out = rw x at b3 ∙ drop_later out2 out1 f t (omega arith) b2 ∙ drop_later out1 out 2 t (omega arith) b1 in
    let c : take f out2 ≡ short (length ls) ++ contents f ls = rw x at s2 ∙ ap (λ ys. ys ++ contents f ls) (s1 ∙ ap short e) in
    let s : take t out3 ≡ short (length ls) ++ contents f ls ++ bytes = rw x at s3 ∙ ap (λ ys. ys ++ bytes) c in
    sym (take-append-drop t out3) ∙ ap (λ ys. ys ++ drop t out3) s ∙ ap (λ ys. short (length ls) ++ contents f ls ++ bytes ++ ys) (d ∙ ap (λ m. drop m out) (omega arith))
