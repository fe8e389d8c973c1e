-- A file whose contents are right is the layout of its bodies, and a layout reads back as its bodies. Assumes nothing.
use Rattle.std.proofs.Common.{◌≡◌, ℕ, zero, suc, ◌+◌, ◌*◌, ◌/◌, ◌%◌, ◌<◌, ◌≤◌, cond, eqb, List, [], ◌∷◌, ◌++◌, length, get_or, take, drop, Some, None, sym, refl, ap, ◌∙◌, add-zero, arith}
use Rattle.std.specs.List.{flat_map}
use Rattle.std.proofs.lemmas.List.{drop_more, drop_all, drop-drop, drop_at, take_at, take-append-drop, length-drop, length-append, get_or-drop, length-take-le}
use Rattle.std.proofs.ByRecursion.{All-get_or}
use Rattle.std.proofs.lemmas.Bool.{eqb-true, eq-eqb}
use Rattle.files.specs.Files.{short_at, count_of, offset_of, length_of, body_in, wrong_entry}
use Rattle.files.specs.Written.{short, contents, layout, Bytes}
use Rattle.files.proofs.Words.{by_test}

-- the k bodies from i on
abbrev pub bodies_from : List ℕ → ℕ → ℕ → List (List ℕ)
bodies_from file zero i = []
bodies_from file (suc k) i = body_in file i ∷ bodies_from file k (suc i)

-- two bytes and the number that they make
pub short_of : (a b : ℕ) → a < 256 → b < 256 → short (a + 256 * b) ≡ a ∷ b ∷ []
short_of a b h k =
    let p : (a + 256 * b) % 256 ≡ a = omega arith in
    let q : (a + 256 * b) / 256 ≡ b = omega arith in
    cc

pub short_back : (n : ℕ) → n % 256 + 256 * (n / 256) ≡ n
short_back n = omega arith

-- two bytes of a file
two_more : (file : List ℕ) (i : ℕ) → Bytes file → i + 1 < length file → drop i file ≡ short (short_at file i) ++ drop (i + 2) file
two_more file i b h =
    let p = drop_more file i 0 (omega arith) in
    let q = drop_more file (i + 1) 0 (omega arith) in
    let s = short_of (get_or file i 0) (get_or file (i + 1) 0) (All-get_or (λ x. x < 256) file i 0 (omega arith) b) (All-get_or (λ x. x < 256) file (i + 1) 0 (omega arith) b) in
    let r : drop (i + 1 + 1) file ≡ drop (i + 2) file = ap (λ n. drop n file) (omega arith) in
    p ∙ ap (λ xs. get_or file i 0 ∷ xs) (q ∙ ap (λ xs. get_or file (i + 1) 0 ∷ xs) r) ∙ ap (λ xs. xs ++ drop (i + 2) file) (sym s)

-- a file with right contents

next_right : (file : List ℕ) (k i next : ℕ) → wrong_entry file (suc k) i next ≡ None → (offset_of file i ≡ next) × (wrong_entry file k (suc i) (next + length_of file i) ≡ None)
next_right file k i next e =
    by_test (eqb (offset_of file i) next) (λ b. cond b (wrong_entry file k (suc i) (next + length_of file i)) (Some i) ≡ None → (offset_of file i ≡ next) × (wrong_entry file k (suc i) (next + length_of file i) ≡ None))
    (λ t h. (eqb-true _ _ t, h)) (λ t h. absurd (let z : ◌≡◌ {A = ℕ} 0 1 = cc in omega arith)) e

end_right : (file : List ℕ) (i next : ℕ) → wrong_entry file zero i next ≡ None → next ≡ length file
end_right file i next e =
    by_test (eqb next (length file)) (λ b. cond b None (Some i) ≡ None → next ≡ length file)
    (λ t h. eqb-true _ _ t) (λ t h. absurd (let z : ◌≡◌ {A = ℕ} 0 1 = cc in omega arith)) e

next_within : (file : List ℕ) (k i next : ℕ) → wrong_entry file k i next ≡ None → next ≤ length file
next_within file zero i next e = let h = end_right file i next e in omega arith
next_within file (suc k) i next e = let r = next_within file k (suc i) (next + length_of file i) (next_right file k i next e).1 in omega arith

-- the length of a body is what its entry says, where it lies within the file
body_length : (file : List ℕ) (i : ℕ) → offset_of file i + length_of file i ≤ length file → length (body_in file i) ≡ length_of file i
body_length file i h =
    let d = length-drop (offset_of file i) file in
    length-take-le (length_of file i) (drop (offset_of file i) file) (omega arith)

-- the bodies follow one another
bodies_joined : (file : List ℕ) (k i next : ℕ) → wrong_entry file k i next ≡ None → drop next file ≡ flat_map (λ b. b) (bodies_from file k i)
bodies_joined file zero i next e = drop_all next file (let h = end_right file i next e in omega arith)
bodies_joined file (suc k) i next e =
    let r = next_right file k i next e in
    let ih = bodies_joined file k (suc i) (next + length_of file i) r.1 in
    let t = take-append-drop (length_of file i) (drop next file) in
    let d = drop-drop (length_of file i) next file in
    sym t ∙ ap (λ xs. take (length_of file i) (drop next file) ++ xs) (d ∙ ih) ∙ ap (λ n. take (length_of file i) (drop n file) ++ flat_map (λ b. b) (bodies_from file k (suc i))) (sym r.0)

-- the contents are those of the bodies
contents_are : (file : List ℕ) (k i next : ℕ) → Bytes file → 2 + 4 * (i + k) ≤ length file → wrong_entry file k i next ≡ None → drop (2 + 4 * i) file ≡ contents next (bodies_from file k i) ++ drop (2 + 4 * (i + k)) file
contents_are file zero i next b h e = ap (λ n. drop (2 + 4 * n) file) (sym (add-zero i))
contents_are file (suc k) i next b h e =
    let r = next_right file k i next e in
    let w = next_within file k (suc i) (next + length_of file i) r.1 in
    let ih = contents_are file k (suc i) (next + length_of file i) b (omega arith) r.1 in
    let l : length (body_in file i) ≡ length_of file i = body_length file i (omega (arith, r.0, w)) in
    let o = two_more file (2 + 4 * i) b (omega arith) in
    let m = two_more file (4 + 4 * i) b (omega arith) in
    let bs = bodies_from file k (suc i) in
    let end = drop (2 + 4 * (i + suc k)) file in
    let p : drop (2 + 4 * i + 2) file ≡ drop (4 + 4 * i) file = ap (λ n. drop n file) (omega arith) in
    let q : drop (4 + 4 * i + 2) file ≡ drop (2 + 4 * suc i) file = ap (λ n. drop n file) (omega arith) in
    let z : drop (2 + 4 * (suc i + k)) file ≡ end = ap (λ n. drop n file) (omega arith) in
    let a : drop (2 + 4 * i) file ≡ short (offset_of file i) ++ short (length_of file i) ++ (contents (next + length_of file i) bs ++ end) =
    o ∙ ap (λ xs. short (offset_of file i) ++ xs) (p ∙ m ∙ ap (λ xs. short (length_of file i) ++ xs) (q ∙ ih ∙ ap (λ xs. contents (next + length_of file i) bs ++ xs) z)) in
    a ∙ ap (λ n. short n ++ short (length_of file i) ++ (contents (next + length_of file i) bs ++ end)) r.0 ∙ ap (λ n. short next ++ short n ++ (contents (next + n) bs ++ end)) (sym l)

pub length_bodies : (file : List ℕ) (k i : ℕ) → length (bodies_from file k i) ≡ k
length_bodies file zero i = refl
length_bodies file (suc k) i = ap suc (length_bodies file k (suc i))

-- a file with right contents is the layout of its bodies
pub right_layout : (file : List ℕ) → Bytes file → 2 + 4 * count_of file ≤ length file → wrong_entry file (count_of file) 0 (2 + 4 * count_of file) ≡ None → file ≡ layout (bodies_from file (count_of file) 0)
unfolding layout
right_layout file b h e =
    let n = count_of file in
    let bs = bodies_from file n 0 in
    let z : 2 + 4 * (0 + n) ≡ 2 + 4 * n = omega arith in
    let a = two_more file 0 b (omega arith) in
    let c = contents_are file n 0 (2 + 4 * n) b (omega (arith, z)) e in
    let d = ap (λ k. drop k file) z ∙ bodies_joined file n 0 (2 + 4 * n) e in
    let l = length_bodies file n 0 in
    a ∙ ap (λ xs. short n ++ xs) (c ∙ ap (λ xs. contents (2 + 4 * n) bs ++ xs) d) ∙ ap (λ k. short k ++ contents (2 + 4 * k) bs ++ flat_map (λ x. x) bs) (sym l)

-- a layout

reads_at : (file xs : List ℕ) (n k : ℕ) → drop n file ≡ xs → get_or file (n + k) 0 ≡ get_or xs k 0
reads_at file xs n k e = sym (get_or-drop n file k 0) ∙ ap (λ ys. get_or ys k 0) e

-- where a file has the contents and the bodies of a list, its entries are right and its bodies are the list
pub entries_right : (file : List ℕ) (bs : List (List ℕ)) (i next : ℕ) (rest : List ℕ) → drop (2 + 4 * i) file ≡ contents next bs ++ rest → drop next file ≡ flat_map (λ b. b) bs → next ≤ length file
    → (wrong_entry file (length bs) i next ≡ None) × (bodies_from file (length bs) i ≡ bs)
entries_right file [] i next rest c d h =
    let l = length-drop next file in
    let e : next ≡ length file = omega (arith, ap length d) in
    (ap (λ b. cond b None (Some i)) (eq-eqb next (length file) e), refl)
entries_right file (b ∷ bs) i next rest c d h =
    let n = length b in
    let xs = next % 256 ∷ next / 256 ∷ n % 256 ∷ n / 256 ∷ (contents (next + n) bs ++ rest) in
    let e : drop (2 + 4 * i) file ≡ xs = c in
    let o0 : get_or file (2 + 4 * i) 0 ≡ next % 256 = ap (λ k. get_or file k 0) (omega arith) ∙ reads_at file xs (2 + 4 * i) 0 e in
    let o1 : get_or file (2 + 4 * i + 1) 0 ≡ next / 256 = reads_at file xs (2 + 4 * i) 1 e in
    let l0 : get_or file (4 + 4 * i) 0 ≡ n % 256 = ap (λ k. get_or file k 0) (omega arith) ∙ reads_at file xs (2 + 4 * i) 2 e in
    let l1 : get_or file (4 + 4 * i + 1) 0 ≡ n / 256 = ap (λ k. get_or file k 0) (omega arith) ∙ reads_at file xs (2 + 4 * i) 3 e in
    let o : offset_of file i ≡ next = ap (λ x. x + 256 * get_or file (2 + 4 * i + 1) 0) o0 ∙ ap (λ x. next % 256 + 256 * x) o1 ∙ short_back next in
    let l : length_of file i ≡ n = ap (λ x. x + 256 * get_or file (4 + 4 * i + 1) 0) l0 ∙ ap (λ x. n % 256 + 256 * x) l1 ∙ short_back n in
    let c' : drop (2 + 4 * suc i) file ≡ contents (next + n) bs ++ rest = ap (λ k. drop k file) (omega arith) ∙ sym (drop-drop 4 (2 + 4 * i) file) ∙ ap (drop 4) e in
    let d' : drop (next + n) file ≡ flat_map (λ x. x) bs = sym (drop-drop n next file) ∙ ap (drop n) d ∙ drop_at b (flat_map (λ x. x) bs) n refl in
    let g = length-drop next file in
    let j = length-append b (flat_map (λ x. x) bs) in
    let ih = entries_right file bs (suc i) (next + n) rest c' d' (omega (arith, g, j, ap length d)) in
    let w : wrong_entry file (suc (length bs)) i next ≡ wrong_entry file (length bs) (suc i) (next + length_of file i) = ap (λ t. cond t (wrong_entry file (length bs) (suc i) (next + length_of file i)) (Some i)) (eq-eqb (offset_of file i) next o) in
    let v : body_in file i ≡ b = ap (λ k. take k (drop (offset_of file i) file)) l ∙ ap (λ k. take n (drop k file)) o ∙ ap (take n) d ∙ take_at b (flat_map (λ x. x) bs) n refl in
    (w ∙ ap (λ k. wrong_entry file (length bs) (suc i) (next + k)) l ∙ ih.0, ap (λ x. x ∷ bodies_from file (length bs) (suc i)) v ∙ ap (λ ys. b ∷ ys) ih.1)

pub length_contents : (next : ℕ) (bs : List (List ℕ)) → length (contents next bs) ≡ 4 * length bs
length_contents next [] = refl
length_contents next (b ∷ bs) = let ih = length_contents (next + length b) bs in omega arith

pub record Laid (bs : List (List ℕ)) : Type 0 where
  pub count : count_of (layout bs) ≡ length bs
  pub room : 2 + 4 * length bs ≤ length (layout bs)
  pub entries : wrong_entry (layout bs) (length bs) 0 (2 + 4 * length bs) ≡ None
  pub bodies : bodies_from (layout bs) (length bs) 0 ≡ bs

pub laid : (bs : List (List ℕ)) → Laid bs
unfolding layout
laid bs =
    let n = length bs in
    let inner = contents (2 + 4 * n) bs ++ flat_map (λ b. b) bs in
    let l = length_contents (2 + 4 * n) bs in
    let j = length-append (contents (2 + 4 * n) bs) (flat_map (λ b. b) bs) in
    let d : drop (2 + 4 * n) (layout bs) ≡ flat_map (λ b. b) bs = sym (drop-drop (4 * n) 2 (layout bs)) ∙ drop_at (contents (2 + 4 * n) bs) (flat_map (λ b. b) bs) (4 * n) l in
    let r : 2 + 4 * n ≤ length (layout bs) = omega (arith, l, j) in
    let e = entries_right (layout bs) bs 0 (2 + 4 * n) (flat_map (λ b. b) bs) refl d r in
    record { count = short_back n; room = r; entries = e.0; bodies = e.1 }
