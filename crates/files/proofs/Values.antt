-- A field says a value exactly if it is that value written. Assumes nothing.
use Rattle.std.proofs.Common.{◌≡◌, ℕ, ◌^◌, ◌<◌, ◌≤◌, Bool, true, false, cond, ◌&&◌, eqb, ltb, List, [], ◌∷◌, length, get_or, Ok, Err, codes, decimal, Result, sym, refl, ap, ◌∙◌, ⊎_elim, arith, rules}
use Rattle.std.proofs.lemmas.Str.Parse.{IsNumeralModel, numerals_by_fold, digits_value_short}
use Rattle.std.proofs.lemmas.Fmt.{digits_decimal, digits_value-decimal, decimal_nonempty, length-decimal-le, first_decimal, decimal_digit, decimal-digits_value}
use Rattle.std.proofs.lemmas.Bool.{cases_lt, cases_Bool, and_parts}
use Rattle.std.proofs.lemmas.Bool.Decides.{nat_tests}
use Rattle.market.specs.declared.types.Side.{Side}
use Rattle.market.specs.declared.types.Side.TheVariants.{Buy, Sell}
use Rattle.rules.specs.declared.types.Routing.{Routing}
use Rattle.rules.specs.declared.types.Routing.TheVariants.{Type1, Type2}
use Rattle.rules.specs.declared.types.Mark.{Mark}
use Rattle.rules.specs.declared.types.Mark.TheVariants as mark
use Rattle.files.specs.declared.types.Fault.{Fault}
use Rattle.files.specs.declared.types.Fault.TheVariants.{TooLong, NotANumber}
use Rattle.files.specs.declared.types.Letter.{Letter}
use Rattle.files.specs.declared.types.Letter.TheVariants as letter
use Rattle.files.specs.declared.types.KindLetter.{KindLetter}
use Rattle.files.specs.declared.types.KindLetter.TheVariants as kind
use Rattle.files.specs.Fields.{Alphabet, Digits, LabelLetters, every, belongs, figure, number, is_label, first_letter, kind_letter, side_letter, routing_digit, mark_letter}
use Rattle.files.specs.Written.{side_bytes, routing_bytes, mark_bytes, Small}
use Rattle.files.proofs.Spacing.{Unspaced}

pub own : IsNumeralModel (λ ds. every (belongs Digits) ds ≡ true) (figure 0)
own = numerals_by_fold _ (search rules) figure (search rules)

-- the tests of a number, over what they look at: its length, its first byte, whether all are digits, what it writes
abbrev tested : ℕ → ℕ → Bool → ℕ → Result ℕ Fault
tested l g b f = cond (ltb 0 l && b) (cond (ltb 7 l) (Err TooLong) (cond (ltb 1 l && eqb g 48) (Err NotANumber) (Ok f))) (Err NotANumber)

tests_pass : (l g : ℕ) (b : Bool) (f : ℕ) → 0 < l → l ≤ 7 → b ≡ true → (1 < l → g ≡ 48 → ⊥) → tested l g b f ≡ Ok f
tests_pass l g b f h k d z = grind (arith, nat_tests, cases_Bool b)

tests_passed : (l g : ℕ) (b : Bool) (f n : ℕ) → tested l g b f ≡ Ok n → (0 < l) × (l ≤ 7) × (b ≡ true) × (g ≡ 48 → l ≡ 1) × (f ≡ n)
tests_passed l g true f n e = (grind (arith, nat_tests), grind (arith, nat_tests), refl, (λ z. grind (arith, nat_tests)), grind (arith, nat_tests))
tests_passed l g false f n e = absurd (grind (arith, nat_tests))

-- a decimal of a small number is a number of the format
pub number_decimal : (n : ℕ) → Small n → number (decimal n) ≡ Ok n
number_decimal n h =
    let b : n < 2 ^ 64 = omega arith in
    let d = digits_decimal own n b in
    let v = digits_value-decimal own n b in
    let s = decimal_nonempty n b in
    let l : length (decimal n) ≤ 7 = length-decimal-le 7 n (omega arith) (omega arith) b in
    let f : 1 < length (decimal n) → get_or (decimal n) 0 0 ≡ 48 → ⊥ = λ k z. ⊎_elim
    (λ (p : 0 < n). let q = first_decimal n p b in omega arith)
    (λ (p : n ≤ 0). let q = ap length (decimal_digit n (omega arith)) in omega arith)
    (cases_lt 0 n) in
    tests_pass (length (decimal n)) (get_or (decimal n) 0 0) (every (belongs Digits) (decimal n)) (figure 0 (decimal n)) s l d f ∙ ap (λ (x : ℕ). Ok x) v

-- and there is no other
pub number_is : (w : List ℕ) (n : ℕ) → number w ≡ Ok n → Small n × (w ≡ decimal n)
number_is w n e =
    let t = tests_passed (length w) (get_or w 0 0) (every (belongs Digits) w) (figure 0 w) n e in
    let v : figure 0 w < 10 ^ 7 = digits_value_short own w 7 t.2 t.1 in
    let d : decimal (figure 0 w) ≡ w = decimal-digits_value own w t.2 t.0 t.3 (omega arith) in
    (omega (arith, t.4, v), sym d ∙ ap decimal t.4)

-- letters: what is read is what was written
pub side_is : (w : List ℕ) (s : Side) → side_letter w ≡ Ok s → w ≡ side_bytes s
side_is [] s e = grind (arith, nat_tests)
side_is (c ∷ []) s e = grind (arith, nat_tests)
side_is (c ∷ d ∷ cs) s e = grind (arith, nat_tests)

pub routing_is : (w : List ℕ) (r : Routing) → routing_digit w ≡ Ok r → w ≡ routing_bytes r
routing_is [] r e = grind (arith, nat_tests)
routing_is (c ∷ []) r e = grind (arith, nat_tests)
routing_is (c ∷ d ∷ cs) r e = grind (arith, nat_tests)

pub mark_is : (w : List ℕ) (m : Mark) → mark_letter w ≡ Ok m → w ≡ mark_bytes m
mark_is [] m e = grind (arith, nat_tests)
mark_is (c ∷ []) m e = grind (arith, nat_tests)
mark_is (c ∷ d ∷ cs) m e = grind (arith, nat_tests)

abbrev pub letter_bytes : Letter → List ℕ
letter_bytes letter.New = codes "N"
letter_bytes letter.Cut = codes "U"
letter_bytes letter.Cancel = codes "X"
letter_bytes letter.Post = codes "Q"

pub letter_is : (w : List ℕ) (l : Letter) → first_letter w ≡ Ok l → w ≡ letter_bytes l
letter_is [] l e = grind (arith, nat_tests)
letter_is (c ∷ []) l e = grind (arith, nat_tests)
letter_is (c ∷ d ∷ cs) l e = grind (arith, nat_tests)

abbrev pub kind_letter_bytes : KindLetter → List ℕ
kind_letter_bytes kind.Displayed = codes "L"
kind_letter_bytes kind.Dark = codes "D"
kind_letter_bytes kind.Olo = codes "O"
kind_letter_bytes kind.Ilo = codes "I"

pub kind_letter_is : (w : List ℕ) (k : KindLetter) → kind_letter w ≡ Ok k → w ≡ kind_letter_bytes k
kind_letter_is [] k e = grind (arith, nat_tests)
kind_letter_is (c ∷ []) k e = grind (arith, nat_tests)
kind_letter_is (c ∷ d ∷ cs) k e = grind (arith, nat_tests)

pub side_reads : (s : Side) → side_letter (side_bytes s) ≡ Ok s
side_reads Buy = refl
side_reads Sell = refl

pub routing_reads : (r : Routing) → routing_digit (routing_bytes r) ≡ Ok r
routing_reads Type1 = refl
routing_reads Type2 = refl

pub mark_reads : (m : Mark) → mark_letter (mark_bytes m) ≡ Ok m
mark_reads mark.Rest = refl
mark_reads mark.Cancel = refl

-- no word of a line has a space
every_unspaced : (a : Alphabet) (w : List ℕ) → every (belongs a) w ≡ true → Unspaced w
every_unspaced a [] e = tt
every_unspaced a (c ∷ cs) e =
    let p = and_parts (belongs a c) (every (belongs a) cs) e in
    (apart a c p.0, every_unspaced a cs p.1)
  where
    apart : (b : Alphabet) (x : ℕ) → belongs b x ≡ true → x ≡ 32 → ⊥
    apart Digits x f z = grind (arith, nat_tests)
    apart LabelLetters x f z = grind (arith, nat_tests)

pub decimal_unspaced : (n : ℕ) → Small n → Unspaced (decimal n)
decimal_unspaced n h = every_unspaced Digits (decimal n) (digits_decimal own n (omega arith))

pub label_unspaced : (w : List ℕ) → is_label w ≡ true → Unspaced w
label_unspaced w e = every_unspaced LabelLetters w (and_parts _ (every (belongs LabelLetters) w) e).1

pub side_unspaced : (s : Side) → Unspaced (side_bytes s)
side_unspaced Buy = ((λ e. omega arith), tt)
side_unspaced Sell = ((λ e. omega arith), tt)

pub routing_unspaced : (r : Routing) → Unspaced (routing_bytes r)
routing_unspaced Type1 = ((λ e. omega arith), tt)
routing_unspaced Type2 = ((λ e. omega arith), tt)

pub mark_unspaced : (m : Mark) → Unspaced (mark_bytes m)
mark_unspaced mark.Rest = ((λ e. omega arith), tt)
mark_unspaced mark.Cancel = ((λ e. omega arith), tt)

-- the words of letters and labels are not empty
pub decimal_long : (n : ℕ) → Small n → 0 < length (decimal n)
decimal_long n h = decimal_nonempty n (omega arith)
