-- The judge leaves no choice: of the same calls, from the same account, only one tape passes.
-- Rests on the judge alone; neither a rule of a call nor a run stands here.
use Rattle.std.specs.Prelude.{◌≡◌, ℕ, List, [], ◌∷◌}
use Rattle.rules.specs.Rankings.{Ranking, Ranks}
use Rattle.law.specs.Tape.{Entry, Account}
use Rattle.law.specs.Law.{FairTape}

-- two tapes of the same calls, each with the same rows of report
abbrev pub SameCalls : List Entry → List Entry → Type 0
SameCalls [] [] = Unit {0}
SameCalls [] (d ∷ ds) = ⊥
SameCalls (e ∷ es) [] = ⊥
SameCalls (e ∷ es) (d ∷ ds) = (e.call ≡ d.call) × (e.room ≡ d.room) × SameCalls es ds

-- two entries with the same answer and rows, and the same shown just after
pub record SameEntry (e d : Entry) : Type 0 where
  pub answer : e.answer ≡ d.answer
  pub rows : e.rows ≡ d.rows
  pub shown : (n : ℕ) → e.shown n ≡ d.shown n
  pub light : e.light ≡ d.light

abbrev pub SameTape : List Entry → List Entry → Type 0
SameTape [] [] = Unit {0}
SameTape [] (d ∷ ds) = ⊥
SameTape (e ∷ es) [] = ⊥
SameTape (e ∷ es) (d ∷ ds) = SameEntry e d × SameTape es ds

abbrev pub OneVerdict : Type 0
OneVerdict =
    (ranking : Ranking) → Ranks ranking → (a : Account) (es ds : List Entry) → SameCalls es ds
    → FairTape ranking a es → FairTape ranking a ds → SameTape es ds
