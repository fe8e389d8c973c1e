-- What the cursors over the fields of a body and over the lines of a text have left, and give.
-- Rests on the fields of a body and on the lines of a text.
use Rattle.std.specs.Prelude.{◌≡◌, ℕ, ◌+◌, ◌≤◌, List, [], ◌∷◌, length, Option, MatchOption}
use Rattle.std.specs.Borrow.{Bor}
use Rattle.files.specs.declared.cursors.Fields.{Fields}
use Rattle.files.specs.declared.cursors.Lines.{Lines}
use Rattle.files.specs.Lines.{left}
use Rattle.files.specs.Packing.{lines_in}

-- the fields that are left to read
abbrev pub left_in : Fields → List (List ℕ)
left_in fields = left fields.at fields.body.now

-- the lines that are left
abbrev pub lines_left : Lines → List (List ℕ)
lines_left lines = lines_in lines.text.now

-- the field that begins at a place came, with that place, and the next one is the one behind it; or none begins there
abbrev pub GivesField : List ℕ → ℕ → Option (ℕ × Bor (List ℕ)) → ℕ → Type 0
GivesField body at given next = MatchOption given ((left at body ≡ []) × (next ≡ at))
    (λ f. (f.0 ≡ at) × (left at body ≡ f.1.now ∷ left next body) × (at + length f.1.now + 1 ≡ next) × (next ≤ length body + 1))
