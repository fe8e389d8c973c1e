-- What a session comes to, a listing or one refusal, and what it leaves of what it was handed.
-- Rests on the reading of a file, on the tape that the rules give, and on the text of a listing.
use Rattle.std.specs.Prelude.{◌≡◌, ℕ, ◌+◌, ◌≤◌, cond, List, [], ◌∷◌, ◌++◌, length, drop, Some, None, Ok, Err, Option, Result, nat_lt}
use Rattle.market.specs.declared.types.Refusal.{Refusal}
use Rattle.market.specs.declared.types.Refusal.TheVariants.{ShortListing}
use Rattle.market.specs.Refusals.{number_of}
use Rattle.board.specs.Quotes.{Quotes}
use Rattle.rules.specs.declared.types.Call.{Call}
use Rattle.rules.specs.Rankings.{Ranking, size_time}
use Rattle.rules.specs.declared.types.Accepted.{Accepted}
use Rattle.rules.specs.Calls.{figures, terms, fresh}
use Rattle.law.specs.Tape.{Entry, empty_account}
use Rattle.law.specs.Law.{after, tape, FairTape}
use Rattle.files.specs.Lines.{Line}
use Rattle.files.specs.Calls.{call_of}
use Rattle.files.specs.Files.{read_file, refusal_of}
use Rattle.session.specs.Listing.{listing_text, refusal_text}

-- the calls that lines make, each with a report of 144 rows
abbrev pub calls : List Line → List (Call × ℕ)
calls [] = []
calls (line ∷ lines) = (call_of line, 144) ∷ calls lines

-- how many rows an answer speaks of
abbrev pub rows_count : Result Accepted Refusal → ℕ
rows_count r = (figures r).rows

-- the tape that the rules give for lines, on a fresh book and over what the board meant before them
abbrev pub session_tape : Ranking → Quotes → List Line → List Entry
session_tape ranking b lines = tape (terms ranking) (fresh b) (calls lines)

abbrev pub session_text : Ranking → Quotes → List Line → List ℕ
session_text ranking b lines = listing_text lines (session_tape ranking b lines)

-- the lines to play, or why the session is refused: a listing of fewer than 65,536 bytes comes
-- before all else, and then the file
abbrev pub session_lines : ℕ → List ℕ → Result (List Line) Refusal
session_lines room file = cond (nat_lt room 65536) (Err ShortListing) (read_file file)

-- a session answers the length of its listing, or why it is refused
abbrev pub answer_of : Ranking → Quotes → Result (List Line) Refusal → Result ℕ Refusal
answer_of ranking b (Ok lines) = Ok (length (session_text ranking b lines))
answer_of ranking b (Err e) = Err e

-- bytes that begin with a text, and behind it are as they were
abbrev pub written_over : List ℕ → List ℕ → List ℕ
written_over text old = text ++ drop (length text) old

-- the bytes handed in begin with the listing; a refusal leaves every byte as it was
abbrev pub listing_after : Ranking → Quotes → Result (List Line) Refusal → List ℕ → List ℕ
listing_after ranking b (Ok lines) old = written_over (session_text ranking b lines) old
listing_after ranking b (Err e) old = old

-- what the board means after the session
abbrev pub quotes_after : Ranking → Quotes → Result (List Line) Refusal → Quotes
quotes_after ranking b (Ok lines) = (after (terms ranking) (fresh b) (calls lines)).quotes
quotes_after ranking b (Err e) = b

-- the tape whose text is listed passes the judge
abbrev pub FairSession : Ranking → Quotes → Result (List Line) Refusal → Type 0
FairSession ranking b (Ok lines) = FairTape ranking (empty_account b) (session_tape ranking b lines)
FairSession ranking b (Err e) = Unit {0}

-- no listing passes 46,000 bytes
abbrev pub Short : Result ℕ Refusal → Type 0
Short (Ok n) = n ≤ 46000
Short (Err e) = Unit {0}

-- why a session is refused: a listing of fewer than 65,536 bytes comes before all else, and then the file
abbrev pub session_refusal : ℕ → List ℕ → Option Refusal
session_refusal room file = cond (nat_lt room 65536) (Some ShortListing) (refusal_of file)

-- of a session alone, whatever its text: a refused one leaves every byte of the listing as it was, and
-- one that runs leaves every byte behind those that it answers
abbrev pub Ran : List ℕ → List ℕ → List ℕ → Result ℕ Refusal → Type 0
Ran file old new (Ok n) = (session_refusal (length old) file ≡ None) × (n ≤ 65536) × (n ≤ length old) × (drop n new ≡ drop n old)
Ran file old new (Err e) = (session_refusal (length old) file ≡ Some e) × (new ≡ old)

-- a board without a quotation
abbrev pub no_quotes : Quotes
no_quotes side market = None

-- what the program `rig` prints: size-time, and a board without a quotation
abbrev pub printed : Result (List Line) Refusal → List ℕ
printed (Ok lines) = session_text size_time no_quotes lines
printed (Err e) = refusal_text e

-- the one number that the C host is answered
abbrev pub host_number : Result ℕ Refusal → ℕ
host_number (Ok n) = n
host_number (Err e) = 100000 + number_of e
