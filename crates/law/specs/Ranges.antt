-- The ranges of the figures of a tape: arrivals, prices and shares up to 1,000,000, and markets up to 16.
-- Rests on the tape of the calls on a fresh book.
use Rattle.std.specs.Prelude.{ℕ, ◌≤◌, List, Ok, Err, Result}
use Rattle.std.specs.List.{AllByRecursion}
use Rattle.market.specs.declared.types.Refusal.{Refusal}
use Rattle.board.specs.Quotes.{Quotes, Lawful}
use Rattle.rules.specs.declared.types.Row.{Row}
use Rattle.rules.specs.declared.types.Row.TheVariants.{Fill, Route}
use Rattle.rules.specs.declared.types.Call.{Call}
use Rattle.rules.specs.declared.types.Accepted.{Accepted}
use Rattle.rules.specs.Rankings.{Ranking, Ranks}
use Rattle.rules.specs.Calls.{terms, fresh}
use Rattle.law.specs.Tape.{Entry}
use Rattle.law.specs.Law.{tape}

-- from 1 to n
abbrev pub Within : ℕ → ℕ → Type 0
Within n x = (1 ≤ x) × (x ≤ n)

abbrev pub RangedRow : Row → Type 0
RangedRow (Fill incoming resting price shares) = Within 1000000 incoming × Within 1000000 resting × Within 1000000 price × Within 1000000 shares
RangedRow (Route arrival market price shares) = Within 1000000 arrival × Within 16 market × Within 1000000 price × Within 1000000 shares

-- a post answers with arrival 0, and any call may leave nothing open and cancel nothing
abbrev pub RangedAnswer : Result Accepted Refusal → Type 0
RangedAnswer (Ok w) = (w.arrival ≤ 1000000) × (w.«open» ≤ 1000000) × (w.cancelled ≤ 1000000)
RangedAnswer (Err e) = Unit {0}

abbrev pub RangedEntry : Entry → Type 0
RangedEntry e = RangedAnswer e.answer × AllByRecursion RangedRow e.rows

abbrev pub TapeRanged : Type 0
TapeRanged =
    (ranking : Ranking) → Ranks ranking → (b : Quotes) → Lawful b → (cs : List (Call × ℕ))
    → AllByRecursion RangedEntry (tape (terms ranking) (fresh b) cs)
