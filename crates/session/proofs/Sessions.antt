-- A session that is played to its end: what is written is the text of its tape. Rests on the law of the tape, for a fresh book.
use Rattle.std.proofs.Common.{◌≡◌, ℕ, ◌≤◌, Bool, true, false, cond, List, ◌++◌, length, take, drop, Ok, Err, Result, sym, refl, ap, ◌∙◌, subst, arith, length-append}
use Rattle.std.proofs.lemmas.List.{take-append-drop}
use Rattle.std.proofs.lemmas.Bool.{le-ltb}
use Rattle.market.specs.declared.types.Refusal.{Refusal}
use Rattle.market.specs.declared.types.Refusal.TheVariants.{ShortListing}
use Rattle.board.specs.Quotes.{Quotes, Lawful}
use Rattle.rules.specs.Rankings.{Ranking, Ranks}
use Rattle.rules.specs.Calls.{Market, terms, fresh, lit}
use Rattle.law.specs.Tape.{empty_account}
use Rattle.law.specs.Law.{after, tape, FairTape}
use Rattle.law.proofs.Tapes.{tape_law}
use Rattle.files.specs.Lines.{Line}
use Rattle.files.specs.Files.{read_file, lines_read, lines_in, counted}
use Rattle.files.specs.Written.{Bytes}
use Rattle.files.proofs.Laws.{reads_exactly}
use Rattle.session.specs.declared.listing.Page.{Page}
use Rattle.session.specs.Pages.{HasRoom, Wrote}
use Rattle.session.specs.Markets.{text_from}
use Rattle.session.specs.Listing.{entries_text, light_text, light_after}
use Rattle.session.specs.Sessions.{calls, session_tape, session_text, session_lines, answer_of, listing_after, quotes_after, written_over, FairSession, Ran}
use Rattle.session.proofs.Writing.{wrote_then}
use Rattle.session.proofs.Ending.{has_ran}
use Rattle.session.proofs.Lengths.{session_short}
use Rattle.session.proofs.Playing.{light_right}

-- the count that an accepted file is answered is that of its lines
pub lines_counted : (r : Result (List Line) Refusal) (n : ℕ) → Ok n ≡ counted r → (r ≡ Ok (lines_read r)) × (n ≡ length (lines_read r))
lines_counted (Ok lines) n e = (refl, let k : n ≡ length lines = cc in k)
lines_counted (Err f) n e = cc

light_short : (b : Bool) → length (light_text b) ≡ 5
light_short b = elim b as (λ v. length (light_text v) ≡ 5) [ true ↦ refl | false ↦ refl ]

-- text written from the start of a page, and what is behind it
wrote_whole : {p q : Page} {text : List ℕ} (old : List ℕ) → p.written ≡ 0 → p.bytes.now ≡ old → Wrote p q text → q.bytes.now ≡ written_over text old
wrote_whole {p} {q} {text} old start is_old w =
    let e : q.written ≡ length text = omega arith in
    rw (← is_old)
    (sym (take-append-drop q.written q.bytes.now) ∙ ap (λ xs. xs ++ drop q.written q.bytes.now) (w.front ∙ ap (λ n. take n p.bytes.now ++ text) start) ∙ ap (λ xs. text ++ xs) (w.behind ∙ ap (λ n. drop n p.bytes.now) e))

-- A session of a file that is read, of `count` lines, over a book made with a ranking, and the market
-- that it holds over the board's quotations.
pub record Begun (ranking made : Ranking) (b : Quotes) (start : Market) (file : List ℕ) (count : ℕ) : Type 0 where
  pub read : (read_file file ≡ Ok (lines_in file)) × (count ≡ length (lines_in file))
  pub lines : tape (terms made) start (calls (lines_in file)) ≡ session_tape ranking b (lines_in file)
  pub market : after (terms made) start (calls (lines_in file)) ≡ after (terms ranking) (fresh b) (calls (lines_in file))
  pub short : length (entries_text (lines_in file) (session_tape ranking b (lines_in file))) ≤ 41536
  pub fair : FairTape ranking (empty_account b) (session_tape ranking b (lines_in file))

pub begun : {ranking made : Ranking} {b : Quotes} {start : Market} {file : List ℕ} {count : ℕ} → Ranks ranking → Lawful b → made ≡ ranking → start ≡ fresh b → Bytes file → Ok count ≡ counted (read_file file) → Begun ranking made b start file count
begun {ranking} {b = b} {file = file} law lawful same is_fresh bytes counts =
    let read = lines_counted (read_file file) _ counts in
    let lines = lines_in file in
    record {
      read = read;
      lines = rw (same, is_fresh) refl;
      market = rw (same, is_fresh) refl;
      short = session_short ranking law b lawful lines ((reads_exactly file lines bytes).0 read.0).0;
      fair = tape_law ranking law b lawful (calls lines);
    }

-- What is left when the lines and the identifier are written.
pub record Done (ranking : Ranking) (b : Quotes) (file old : List ℕ) (r : Page) (quotes : Quotes) : Type 0 where
  pub answer : Ok r.written ≡ answer_of ranking b (session_lines (length old) file)
  pub listing : r.bytes.now ≡ listing_after ranking b (session_lines (length old) file) old
  pub board : quotes ≡ quotes_after ranking b (session_lines (length old) file)
  pub fair : FairSession ranking b (session_lines (length old) file)
  pub short : r.written ≤ 46000
  pub ran : Ran file old r.bytes.now (Ok r.written)

module _ {ranking made : Ranking} {b : Quotes} {start : Market} {file : List ℕ} {count : ℕ} (s : Begun ranking made b start file count) (p : Page) (first : p.written ≡ 0) (old : List ℕ) (is_old : p.bytes.now ≡ old) (enough : 65536 ≤ length old) where
  pub lines_room : HasRoom p (text_from made start (lines_in file))
  lines_room = rw s.lines (omega (arith, s.short, ap length is_old))

  pub light_room : {q : Page} (l : Bool) → Wrote p q (text_from made start (lines_in file)) → HasRoom q (light_text l)
  light_room l w = let v = rw s.lines at w in omega (arith, s.short, ap length is_old, light_short l, v.end, v.same_length)

  pub done : {q r : Page} {m : Market} {l : Bool} → Wrote p q (text_from made start (lines_in file)) → m ≡ after (terms made) start (calls (lines_in file)) → l ≡ lit m → Wrote q r (light_text l) → Done ranking b file old r m.quotes
  done {q} {r} {m} {l} w leaves is_lit v =
      let lines = lines_in file in
      let left : m ≡ after (terms ranking) (fresh b) (calls lines) = leaves ∙ s.market in
      let light : l ≡ light_after false (session_tape ranking b lines) = is_lit ∙ ap lit left ∙ sym (light_right (terms ranking) (fresh b) (calls lines)) in
      let played : session_lines (length old) file ≡ Ok lines = ap (λ t. cond t (Err ShortListing) (read_file file)) (le-ltb (length old) 65536 enough) ∙ s.read.0 in
      let whole : Wrote p r (session_text ranking b lines) = wrote_then (rw s.lines at w) (rw light at v) in
      let n : r.written ≡ length (session_text ranking b lines) = omega (arith, whole.end) in
      let short : r.written ≤ 46000 = omega (arith, n, s.short, light_short (light_after false (session_tape ranking b lines)), length-append (entries_text lines (session_tape ranking b lines)) (light_text (light_after false (session_tape ranking b lines)))) in
      let answer = ap (λ (k : ℕ). Ok k) n ∙ ap (answer_of ranking b) (sym played) in
      let listing = wrote_whole old first is_old whole ∙ ap (λ x. listing_after ranking b x old) (sym played) in
      record {
        answer = answer;
        listing = listing;
        board = ap (λ (x : Market). x.quotes) left ∙ ap (quotes_after ranking b) (sym played);
        fair = subst (FairSession ranking b) (sym played) s.fair;
        short = short;
        ran = has_ran ranking b file old r.bytes.now (Ok r.written) answer listing short;
      }
