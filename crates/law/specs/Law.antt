-- The law of the tape: whatever the calls, every entry passes the judge, for every lawful ranking and every start of the board.
-- Rests on the judge, and on the rules of the calls for the run whose tape is judged.
use Rattle.std.specs.Prelude.{◌≡◌, ℕ, List, [], ◌∷◌, ◌++◌}
use Rattle.board.specs.Quotes.{Quotes, Lawful}
use Rattle.rules.specs.declared.types.Call.{Call}
use Rattle.rules.specs.Rankings.{Ranking, Ranks}
use Rattle.rules.specs.Calls.{Market, Terms, Outcome, terms, fresh, apply, open_shares, lit}
use Rattle.law.specs.Tape.{Entry, Account, empty_account, reckon}
use Rattle.law.specs.Judge.{Judged}

-- the entry of a call: what it gave, and what `open` and `light` answer of the market after it
abbrev pub entry : Call → ℕ → Outcome → Entry
entry c room o = record { call = c; room = room; answer = o.answer; rows = o.rows; shown = open_shares o.market; light = lit o.market }

-- the market that calls leave, each with the rows of the report handed to it, and their tape
abbrev pub after : Terms → Market → List (Call × ℕ) → Market
after t m [] = m
after t m (c ∷ cs) = after t (apply t m c.0 c.1).market cs

abbrev pub tape : Terms → Market → List (Call × ℕ) → List Entry
tape t m [] = []
tape t m (c ∷ cs) = entry c.0 c.1 (apply t m c.0 c.1) ∷ tape t (apply t m c.0 c.1).market cs

-- every entry passes, each with the account that the entries before it leave
abbrev pub FairTape : Ranking → Account → List Entry → Type 0
FairTape ranking a [] = Unit {0}
FairTape ranking a (e ∷ es) = Judged ranking a e × FairTape ranking (reckon e a) es

abbrev pub TapeLaw : Type 0
TapeLaw =
    (ranking : Ranking) → Ranks ranking → (b : Quotes) → Lawful b → (cs : List (Call × ℕ))
    → FairTape ranking (empty_account b) (tape (terms ranking) (fresh b) cs)

-- one more call adds its entry at the end, at the market that the calls before it leave
pub record GoesOn (t : Terms) (m : Market) (cs : List (Call × ℕ)) (c : Call) (room : ℕ) : Type 0 where
  pub tape_is : tape t m (cs ++ (c, room) ∷ []) ≡ tape t m cs ++ entry c room (apply t (after t m cs) c room) ∷ []
  pub after_is : after t m (cs ++ (c, room) ∷ []) ≡ (apply t (after t m cs) c room).market

abbrev pub TapeGoesOn : Type 0
TapeGoesOn = (t : Terms) (m : Market) (cs : List (Call × ℕ)) (c : Call) (room : ℕ) → GoesOn t m cs c room

-- What one call owes to the law: whatever history led to the market m, the tape of that history and
-- of this call passes the judge.
abbrev pub Upholds : Ranking → Market → Call → ℕ → Outcome → Type 0
Upholds ranking m c room o =
    (b : Quotes) → Lawful b → (cs : List (Call × ℕ)) → after (terms ranking) (fresh b) cs ≡ m
    → FairTape ranking (empty_account b) (tape (terms ranking) (fresh b) cs ++ entry c room o ∷ [])
