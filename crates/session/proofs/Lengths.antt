-- How long the text of a session is. Rests on the ranges of the figures of a tape and on the count of its rows.
use Rattle.std.proofs.Common.{◌≡◌, ℕ, zero, suc, ◌+◌, ◌*◌, ◌/◌, ◌%◌, ◌^◌, max, decimal, ap, ◌<◌, ◌≤◌, List, [], ◌∷◌, ◌++◌, length, Some, None, Ok, Err, Option, Result, refl, arith, lit≤, length-append}
use Rattle.std.specs.List.{AllByRecursion}
use Rattle.std.proofs.Math.Nat.{pow-succ'}
use Rattle.std.proofs.lemmas.Fmt.{decimal_digit, decimal_step, length-decimal-le}
use Rattle.std.proofs.lemmas.Bool.Decides.{nat_tests}
use Rattle.std.proofs.ByRecursion.{All-weaker}
use Rattle.market.specs.declared.types.Side.{Side}
use Rattle.market.specs.declared.types.Side.TheVariants.{Buy, Sell}
use Rattle.market.specs.declared.types.Refusal.{Refusal}
use Rattle.market.specs.declared.types.Refusal.TheVariants as refusal
use Rattle.market.specs.Refusals.{number_of}
use Rattle.board.specs.declared.types.Quote.{Quote}
use Rattle.board.specs.Quotes.{Quotes, Lawful}
use Rattle.rules.specs.declared.types.Accepted.{Accepted}
use Rattle.rules.specs.declared.types.Row.{Row}
use Rattle.rules.specs.declared.types.Row.TheVariants.{Fill, Route}
use Rattle.rules.specs.Rankings.{Ranking, Ranks}
use Rattle.law.specs.Tape.{Entry}
use Rattle.law.specs.Holdings.{one_if, quoted, rows_in}
use Rattle.law.specs.Judge.{count_upto}
use Rattle.law.specs.Ranges.{RangedRow, RangedAnswer, RangedEntry}
use Rattle.law.proofs.Rows.{tape_counted}
use Rattle.law.proofs.Ranges.{tape_ranged}
use Rattle.files.specs.Lines.{Line, New, Cut, Cancel, Post}
use Rattle.session.specs.Listing.{figure_text, four_text, answer_text, row_text, rows_text, label_text, entries_text}
use Rattle.session.specs.Sessions.{calls, session_tape}
use Rattle.files.specs.Written.{LawfulLine, Fitting}

-- how many digits a number has
pub decimal_length : (k n : ℕ) → 10 ^ k ≤ max n 1 → n < 10 * 10 ^ k → n < 2 ^ 64 → length (decimal n) ≡ k + 1
decimal_length zero n low high fits = ap length (decimal_digit n (omega arith))
decimal_length (suc k) n low high fits =
    let p = pow-succ' 10 k in
    let rest = decimal_length k (n / 10) (omega arith) (omega arith) (omega arith) in
    let step = ap length (decimal_step n (omega arith) fits) in
    omega (arith, length-append (decimal (n / 10)) ((48 + n % 10) ∷ []))

figure_short : (n : ℕ) → n ≤ 1000000 → length (figure_text n) ≤ 8
figure_short n h = let k = length-decimal-le 7 n (omega arith) (omega arith) (omega arith) in omega arith

-- the figure of any number of 32 bits
pub figure_fits : (n : ℕ) → n < 2 ^ 32 → length (figure_text n) ≤ 11
figure_fits n h = let k = length-decimal-le 10 n (omega arith) (omega arith) (omega arith) in omega arith

pub four_short : (a b c d : ℕ) → a ≤ 1000000 → b ≤ 1000000 → c ≤ 1000000 → d ≤ 1000000 → length (four_text a b c d) ≤ 33
four_short a b c d f g h k =
    let p = figure_short a f in
    let q = figure_short b g in
    let r = figure_short c h in
    let s = figure_short d k in
    simp length-append (omega arith)

number_small : (e : Refusal) → number_of e ≤ 18
number_small refusal.Price = lit≤ tt
number_small refusal.Shares = lit≤ tt
number_small refusal.SmallOlo = lit≤ tt
number_small refusal.SmallIlo = lit≤ tt
number_small refusal.LargeMtv = lit≤ tt
number_small refusal.SideFull = lit≤ tt
number_small refusal.ArrivalsSpent = lit≤ tt
number_small refusal.ShortReport = lit≤ tt
number_small refusal.NotResting = lit≤ tt
number_small refusal.CutShares = lit≤ tt
number_small refusal.MarketNumber = lit≤ tt
number_small refusal.Quotation = lit≤ tt
number_small refusal.SideCells = lit≤ tt
number_small refusal.FileSize = lit≤ tt
number_small (refusal.Contents index place) = lit≤ tt
number_small (refusal.Body index place) = lit≤ tt
number_small refusal.ShortListing = lit≤ tt
number_small refusal.Take = lit≤ tt

answer_short : (label : List ℕ) (r : Result Accepted Refusal) → length label ≤ 12 → RangedAnswer r → length (answer_text label r) ≤ 45
answer_short label (Ok w) l h =
    let k = four_short 0 w.arrival w.«open» w.cancelled (omega arith) h.0 h.1 h.2 in
    let n = length-append label (four_text 0 w.arrival w.«open» w.cancelled) in
    omega arith
answer_short label (Err e) l h =
    let s = number_small e in
    let k = four_short (number_of e) 0 0 0 (omega arith) (omega arith) (omega arith) (omega arith) in
    let n = length-append label (four_text (number_of e) 0 0 0) in
    omega arith

row_short : (r : Row) → RangedRow r → length (row_text r) ≤ 34
row_short (Fill incoming resting price shares) h = let k = four_short incoming resting price shares h.0.1 h.1.1 h.2.1 h.3.1 in omega arith
row_short (Route arrival market price shares) h =
    let m = h.1.1 in
    let k = four_short arrival market price shares h.0.1 (omega arith) h.2.1 h.3.1 in
    omega arith

rows_short : (rs : List Row) → AllByRecursion RangedRow rs → length (rows_text rs) ≤ 34 * length rs
rows_short [] h = omega arith
rows_short (r ∷ rs) h =
    let one = row_short r h.0 in
    let rest = rows_short rs h.1 in
    let n = length-append (row_text r) (rows_text rs) in
    omega arith

abbrev Labelled : Line → Type 0
Labelled line = length (label_text line) ≤ 12

pub labelled : (line : Line) → LawfulLine line → Labelled line
labelled (New label side price kind shares) h = let l = h.0 in grind (arith, nat_tests)
labelled (Cut arrival shares) h = lit≤ tt
labelled (Cancel arrival) h = lit≤ tt
labelled (Post market side price shares) h = lit≤ tt

entries_short : (lines : List Line) (es : List Entry) → AllByRecursion Labelled lines → AllByRecursion RangedEntry es → length (entries_text lines es) ≤ 45 * length lines + 34 * rows_in es
entries_short [] es l h = omega arith
entries_short (line ∷ lines) [] l h = omega arith
entries_short (line ∷ lines) (e ∷ es) l h =
    let one = answer_short (label_text line) e.answer l.0 h.0.0 in
    let rows = rows_short e.rows h.0.1 in
    let rest = entries_short lines es l.1 h.1 in
    let p = length-append (answer_text (label_text line) e.answer) (rows_text e.rows) in
    let n = length-append (answer_text (label_text line) e.answer ++ rows_text e.rows) (entries_text lines es) in
    omega arith

one_at_most : (o : Option Quote) → one_if o ≤ 1
one_at_most None = lit≤ tt
one_at_most (Some q) = lit≤ tt

quoted_few : (b : Quotes) (s : Side) (n : ℕ) → quoted b s n ≤ n
unfolding quoted
quoted_few b s n = few n
  where
    few : (n : ℕ) → count_upto (λ m. one_if (b s m)) n ≤ n
    few zero = omega arith
    few (suc n) = let one = one_at_most (b s (suc n)) in let rest = few n in omega arith

length_calls : (lines : List Line) → length (calls lines) ≡ length lines
length_calls [] = refl
length_calls (line ∷ lines) = let rest = length_calls lines in omega arith

-- 512 lines of 45 bytes, and 544 rows of 34
pub session_short : (ranking : Ranking) → Ranks ranking → (b : Quotes) → Lawful b → (lines : List Line) → Fitting lines → length (entries_text lines (session_tape ranking b lines)) ≤ 41536
session_short ranking law b l lines fits =
    let short = entries_short lines (session_tape ranking b lines) (All-weaker LawfulLine Labelled labelled lines fits.0) (tape_ranged ranking law b l (calls lines)) in
    let rows = tape_counted ranking law b l (calls lines) in
    let bids = quoted_few b Buy 16 in
    let offers = quoted_few b Sell 16 in
    let many = length_calls lines in
    let most = fits.1 in
    omega arith
