-- What reading a file has to do with writing one. Assumes nothing.
use Rattle.std.proofs.Common.{◌≡◌, ℕ, zero, suc, ◌+◌, ◌*◌, ◌<◌, ◌≤◌, false, cond, ◌||◌, ltb, List, [], ◌∷◌, map, length, get_or, Some, None, Ok, Err, Option, Result, sym, refl, ap, ◌∙◌, subst, ⊎_elim, zero-add, arith, w8, Fits}
use Rattle.std.specs.List.{AllByRecursion}
use Rattle.std.proofs.lemmas.List.{length-map}
use Rattle.std.proofs.ByRecursion.{All-from_get_or}
use Rattle.std.proofs.lemmas.Bool.{cases_lt, cond-true, cond-false, lt-ltb, le-ltb}
use Rattle.std.proofs.lemmas.Bool.Decides.{nat_tests}
use Rattle.market.specs.declared.types.Refusal.{Refusal}
use Rattle.market.specs.declared.types.Refusal.TheVariants.{FileSize, Contents, Body}
use Rattle.shelf.specs.Standing.{nth}
use Rattle.files.specs.Fields.{fault_of}
use Rattle.files.specs.Lines.{Line, read_line}
use Rattle.files.specs.Files.{count_of, offset_of, body_in, wrong_size, wrong_entry, wrong_body, refusal_of, refused, checked, line_at, lines_from, taken_in, read_file, counted}
use Rattle.files.specs.Written.{body_bytes, layout, file_bytes, LawfulLine, Fitting, Bytes, ReadsBack, OnlyWritten, OneReading, Answered, ReadsExactly}
use Rattle.files.proofs.Words.{by_test}
use Rattle.files.proofs.Lines.{body_clean, body_reads, body_lawful}
use Rattle.files.proofs.LayingOut.{bodies_from, length_bodies, right_layout, laid}

pub by_option : {X : Type 0} (o : Option X) (P : Option X → Type 0) → (o ≡ None → P None) → ((x : X) → o ≡ Some x → P (Some x)) → P o
by_option None P n s = n refl
by_option (Some x) P n s = s x refl

abbrev Clean : List ℕ → Type 0
Clean b = fault_of b ≡ None

-- no body is refused exactly if none has a fault
bodies_clean : (file : List ℕ) (k i : ℕ) → wrong_body file k i ≡ None → AllByRecursion Clean (bodies_from file k i)
bodies_clean file zero i e = tt
bodies_clean file (suc k) i e =
    by_option (fault_of (body_in file i)) (λ o. ◌≡◌ {A = Option Refusal} (elim o [ None ↦ wrong_body file k (suc i) | Some m ↦ Some (Body i (offset_of file i + m.place)) ]) None → AllByRecursion Clean (bodies_from file (suc k) i))
    (λ n h. (n, bodies_clean file k (suc i) h)) (λ m s h. absurd (let z : ◌≡◌ {A = ℕ} 0 1 = cc in omega arith)) e

clean_bodies : (file : List ℕ) (k i : ℕ) → AllByRecursion Clean (bodies_from file k i) → wrong_body file k i ≡ None
clean_bodies file zero i h = refl
clean_bodies file (suc k) i h = ap (λ o. elim o [ None ↦ wrong_body file k (suc i) | Some m ↦ Some (Body i (offset_of file i + m.place)) ]) h.0 ∙ clean_bodies file k (suc i) h.1

-- bodies without a fault are lines, written
lines_of : (bs : List (List ℕ)) → AllByRecursion Clean bs → (lines : List Line) × AllByRecursion LawfulLine lines × (bs ≡ map body_bytes lines)
lines_of [] h = ([], tt, refl)
lines_of (b ∷ bs) h =
    let l = body_lawful b h.0 in
    let r = lines_of bs h.1 in
    (l.0 ∷ r.0, (l.1, r.1), ap (λ x. x ∷ bs) l.2 ∙ ap (λ ys. body_bytes l.0 ∷ ys) r.2)

written_clean : (lines : List Line) → AllByRecursion LawfulLine lines → AllByRecursion Clean (map body_bytes lines)
written_clean [] h = tt
written_clean (l ∷ ls) h = (body_clean l h.0, written_clean ls h.1)

-- what an accepted file passed
pub record Accepted (file : List ℕ) (n : ℕ) : Type 0 where
  pub count : count_of file ≡ n
  pub size : wrong_size file ≡ false
  pub entries : wrong_entry file (count_of file) 0 (2 + 4 * count_of file) ≡ None
  pub bodies : wrong_body file (count_of file) 0 ≡ None

accepted : (file : List ℕ) (n : ℕ) → checked file ≡ Ok n → Accepted file n
unfolding refusal_of
accepted file n e =
    by_test (wrong_size file) (λ b. wrong_size file ≡ b → ◌≡◌ {A = Result ℕ Refusal} (refused (count_of file) (cond b (Some FileSize) (elim (wrong_entry file (count_of file) 0 (2 + 4 * count_of file)) [ Some i ↦ Some (Contents i (2 + 4 * i)) | None ↦ wrong_body file (count_of file) 0 ]))) (Ok n) → Accepted file n)
    (λ t _ h. absurd (let z : ◌≡◌ {A = ℕ} 0 1 = cc in omega arith))
    (λ t _ h. by_option (wrong_entry file (count_of file) 0 (2 + 4 * count_of file)) (λ o. ◌≡◌ {A = Result ℕ Refusal} (refused (count_of file) (elim o [ Some i ↦ Some (Contents i (2 + 4 * i)) | None ↦ wrong_body file (count_of file) 0 ])) (Ok n) → Accepted file n)
    (λ u k. by_option (wrong_body file (count_of file) 0) (λ o. ◌≡◌ {A = Result ℕ Refusal} (refused (count_of file) o) (Ok n) → Accepted file n)
    (λ v j. let c : count_of file ≡ n = cc in record { count = c; size = t; entries = u; bodies = v })
    (λ r v j. absurd (let z : ◌≡◌ {A = ℕ} 0 1 = cc in omega arith)) k)
    (λ i u k. absurd (let z : ◌≡◌ {A = ℕ} 0 1 = cc in omega arith)) h)
    refl e

size_right : (l c : ℕ) → (ltb 65535 l || (ltb l 2 || (ltb 512 c || ltb l (2 + 4 * c)))) ≡ false → (l ≤ 65535) × (c ≤ 512) × (2 + 4 * c ≤ l)
size_right l c e = (grind (arith, nat_tests), grind (arith, nat_tests), grind (arith, nat_tests))

right_size : (l c : ℕ) → l ≤ 65535 → c ≤ 512 → 2 + 4 * c ≤ l → (ltb 65535 l || (ltb l 2 || (ltb 512 c || ltb l (2 + 4 * c)))) ≡ false
right_size l c h k j = grind (arith, nat_tests)

pub only_written : OnlyWritten
only_written file n b e =
    let a = accepted file n e in
    let s = size_right (length file) (count_of file) a.size in
    let l = right_layout file b s.2 a.entries in
    let r = lines_of (bodies_from file (count_of file) 0) (bodies_clean file (count_of file) 0 a.bodies) in
    let f : file ≡ file_bytes r.0 = l ∙ ap layout r.2 in
    let m = length-map r.0 body_bytes in
    let k : length r.0 ≡ count_of file = sym m ∙ sym (ap length r.2) ∙ length_bodies file (count_of file) 0 in
    (r.0, (r.1, omega (arith, k, s.1), omega (arith, ap length f, s.0)), k ∙ a.count, f)

-- the bodies of a file, read
lines_at : (file : List ℕ) (k j : ℕ) (lines : List Line) → AllByRecursion LawfulLine lines → bodies_from file k j ≡ map body_bytes lines → (i : ℕ) → i < k → read_line (body_in file (j + i)) ≡ nth i lines
lines_at file zero j lines h e i l = absurd (omega arith)
lines_at file (suc k) j [] h e i l = absurd (let z : ◌≡◌ {A = ℕ} 0 1 = cc in omega arith)
lines_at file (suc k) j (x ∷ xs) h e zero l =
    let b : body_in file j ≡ body_bytes x = cc in
    let c : body_in file (j + zero) ≡ body_in file j = ap (body_in file) (omega arith) in
    ap read_line (c ∙ b) ∙ body_reads x h.0
lines_at file (suc k) j (x ∷ xs) h e (suc i) l =
    let b : bodies_from file k (suc j) ≡ map body_bytes xs = cc in
    let c : body_in file (j + suc i) ≡ body_in file (suc j + i) = ap (body_in file) (omega arith) in
    ap read_line c ∙ lines_at file k (suc j) xs h.1 b i (omega arith)

nth_none : {X : Type 0} (xs : List X) (i : ℕ) → length xs ≤ i → nth i xs ≡ None
nth_none [] i h = refl
nth_none (x ∷ xs) zero h = absurd (omega arith)
nth_none (x ∷ xs) (suc i) h = nth_none xs i (omega arith)

pub written_accepted : (lines : List Line) → Fitting lines → checked (file_bytes lines) ≡ Ok (length lines)
unfolding refusal_of
written_accepted lines h =
    let bs = map body_bytes lines in
    let f = file_bytes lines in
    let d = laid bs in
    let m = length-map lines body_bytes in
    let c = d.count in
    let s : wrong_size f ≡ false = right_size (length f) (count_of f) h.2 (omega (arith, c, m, h.1)) (omega (arith, c, d.room)) in
    let e : wrong_entry f (count_of f) 0 (2 + 4 * count_of f) ≡ None = ap (λ k. wrong_entry f k 0 (2 + 4 * k)) c ∙ d.entries in
    let w : wrong_body f (count_of f) 0 ≡ None = clean_bodies f (count_of f) 0 (subst (λ ys. AllByRecursion Clean ys) (sym (ap (λ k. bodies_from f k 0) c ∙ d.bodies)) (written_clean lines h.0)) in
    ap (λ b. refused (count_of f) (cond b (Some FileSize) (elim (wrong_entry f (count_of f) 0 (2 + 4 * count_of f)) [ Some i ↦ Some (Contents i (2 + 4 * i)) | None ↦ wrong_body f (count_of f) 0 ]))) s
    ∙ ap (λ o. refused (count_of f) (elim o [ Some i ↦ Some (Contents i (2 + 4 * i)) | None ↦ wrong_body f (count_of f) 0 ])) e
    ∙ ap (refused (count_of f)) w
    ∙ ap (λ (k : ℕ). Ok k) (c ∙ m)

pub written_lines : (lines : List Line) → AllByRecursion LawfulLine lines → (i : ℕ) → line_at (file_bytes lines) i ≡ nth i lines
written_lines lines h i =
    let bs = map body_bytes lines in
    let f = file_bytes lines in
    let d = laid bs in
    let m = length-map lines body_bytes in
    let c = d.count in
    ⊎_elim
    (λ (l : i < count_of f).
    cond-true (ltb i (count_of f)) (read_line (body_in f i)) None (lt-ltb i (count_of f) l)
    ∙ ap (λ k. read_line (body_in f k)) (sym (zero-add i))
    ∙ lines_at f (count_of f) 0 lines h (ap (λ k. bodies_from f k 0) c ∙ d.bodies) i l)
    (λ (l : count_of f ≤ i).
    cond-false (ltb i (count_of f)) (read_line (body_in f i)) None (le-ltb i (count_of f) l)
    ∙ sym (nth_none lines i (omega (arith, c, m))))
    (cases_lt i (count_of f))

pub reads_back : ReadsBack
reads_back lines h = (written_accepted lines h, written_lines lines h.0)

-- lists with the same element at each place are one
same_nth : {X : Type 0} (xs ys : List X) → ((i : ℕ) → nth i xs ≡ nth i ys) → xs ≡ ys
same_nth [] [] h = refl
same_nth [] (y ∷ ys) h = absurd (let e = h 0 in let z : ◌≡◌ {A = ℕ} 0 1 = cc in omega arith)
same_nth (x ∷ xs) [] h = absurd (let e = h 0 in let z : ◌≡◌ {A = ℕ} 0 1 = cc in omega arith)
same_nth (x ∷ xs) (y ∷ ys) h =
    let e = h 0 in
    let j : x ≡ y = cc in
    let r = same_nth xs ys (λ i. h (suc i)) in
    cc

pub one_reading : OneReading
one_reading ks ls g h e = same_nth ks ls (λ i. sym (written_lines ks g.0 i) ∙ ap (λ f. line_at f i) e ∙ written_lines ls h.0 i)

pub answered : (file : List ℕ) (r : Result ℕ Refusal) → Bytes file → r ≡ checked file → Answered file r
answered file (Ok n) b e = only_written file n b (sym e)
answered file (Err f) b e = λ lines h g. let w = written_accepted lines h in let c = ap checked g in let z : ◌≡◌ {A = ℕ} 0 1 = cc in absurd (omega arith)

pub line_written : (file : List ℕ) (i : ℕ) (o : Option Line) → o ≡ line_at file i → (lines : List Line) → Fitting lines → file ≡ file_bytes lines → o ≡ nth i lines
line_written file i o v lines h e = v ∙ ap (λ f. line_at f i) e ∙ written_lines lines h.0 i

-- Reading a file as a whole.

lines_from_are : (file : List ℕ) (k j : ℕ) (lines : List Line) → AllByRecursion LawfulLine lines → bodies_from file k j ≡ map body_bytes lines → lines_from file k j ≡ lines
lines_from_are file zero j [] h e = refl
lines_from_are file zero j (x ∷ xs) h e = absurd (let z : ◌≡◌ {A = ℕ} 0 1 = cc in omega arith)
lines_from_are file (suc k) j [] h e = absurd (let z : ◌≡◌ {A = ℕ} 0 1 = cc in omega arith)
lines_from_are file (suc k) j (x ∷ xs) h e =
    let b : body_in file j ≡ body_bytes x = cc in
    let c : bodies_from file k (suc j) ≡ map body_bytes xs = cc in
    ap (λ o. taken_in o (lines_from file k (suc j))) (ap read_line b ∙ body_reads x h.0) ∙ ap (λ ls. x ∷ ls) (lines_from_are file k (suc j) xs h.1 c)

refused_none : {A : Type 0} (o : Option Refusal) (n m : A) → refused n o ≡ Ok m → (o ≡ None) × (n ≡ m)
refused_none None n m e = (refl, cc)
refused_none (Some r) n m e = absurd (let z : ◌≡◌ {A = ℕ} 0 1 = cc in omega arith)

pub read_written : (lines : List Line) → Fitting lines → read_file (file_bytes lines) ≡ Ok lines
unfolding read_file
read_written lines h =
    let f = file_bytes lines in
    let d = laid (map body_bytes lines) in
    let r = refused_none (refusal_of f) (count_of f) (length lines) (written_accepted lines h) in
    ap (refused (lines_from f (count_of f) 0)) r.0 ∙ ap (λ (ls : List Line). Ok ls) (lines_from_are f (count_of f) 0 lines h.0 (ap (λ k. bodies_from f k 0) d.count ∙ d.bodies))

read_checked : (file : List ℕ) (lines : List Line) → read_file file ≡ Ok lines → checked file ≡ Ok (count_of file)
unfolding read_file
read_checked file lines e = ap (refused (count_of file)) (refused_none (refusal_of file) (lines_from file (count_of file) 0) lines e).0

pub reads_exactly : ReadsExactly
reads_exactly file lines b = (only, λ h e. ap read_file e ∙ read_written lines h)
  where
    only : read_file file ≡ Ok lines → Fitting lines × (file ≡ file_bytes lines)
    only e =
        let w = only_written file (count_of file) b (read_checked file lines e) in
        let r = ap read_file w.3 ∙ read_written w.0 w.1 in
        let j : w.0 ≡ lines = cc in
        (subst Fitting j w.1, w.3 ∙ ap file_bytes j)

pub checked_counted : (file : List ℕ) (r : Result ℕ Refusal) → Bytes file → r ≡ checked file → r ≡ counted (read_file file)
unfolding read_file
checked_counted file r b e =
    by_option (refusal_of file) (λ o. refusal_of file ≡ o → r ≡ refused (count_of file) o → r ≡ counted (refused (lines_from file (count_of file) 0) o))
    (λ _ n h.
    let w = only_written file (count_of file) b (ap (refused (count_of file)) n) in
    let q = ap read_file w.3 ∙ read_written w.0 w.1 in
    let l : lines_from file (count_of file) 0 ≡ w.0 = (refused_none (refusal_of file) (lines_from file (count_of file) 0) w.0 q).1 in
    h ∙ ap (λ (k : ℕ). Ok k) (sym w.2 ∙ ap length (sym l)))
    (λ x _ n h. h)
    refl e

pub line_read : (file : List ℕ) (i : ℕ) (o : Option Line) → Bytes file → o ≡ line_at file i → (lines : List Line) → read_file file ≡ Ok lines → o ≡ nth i lines
line_read file i o b v lines e =
    let w = (reads_exactly file lines b).0 e in
    line_written file i o v lines w.0 w.1

pub bytes_of : (xs : List ℕ) → ((i : ℕ) → Fits w8 (get_or xs i 0)) → Bytes xs
bytes_of xs h = All-from_get_or (λ b. b < 256) xs 0 (λ i _. let f = h i in omega arith)
