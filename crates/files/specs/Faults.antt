-- What the first malformed field of a body is, in the words of writing: up to it the body begins as
-- some lawful line does, with it as none does. Rests on the words of a line and the fields of a body.
use Rattle.std.specs.Prelude.{◌≡◌, ℕ, zero, suc, ◌+◌, min, List, [], ◌∷◌, length, take, Some, ◌≢◌}
use Rattle.files.specs.Fields.{Malformed, fields, fault_of}
use Rattle.files.specs.Lines.{Line}
use Rattle.files.specs.Written.{words, LawfulLine}

-- the place of the first byte of field k, or past the last field's space
abbrev pub begins : ℕ → List (List ℕ) → ℕ
begins k [] = 0
begins zero (w ∷ ws) = 0
begins (suc k) (w ∷ ws) = length w + 1 + begins k ws

-- some lawful line has these words in front
abbrev pub BeginsLine : List (List ℕ) → Type 0
BeginsLine ws = (line : Line) × LawfulLine line × (take (length ws) (words line) ≡ ws)

-- field k is the first malformed one
pub record FirstMalformed (body : List ℕ) (k place : ℕ) : Type 0 where
  pub before : BeginsLine (take k (fields body))
  pub not_with : (line : Line) → LawfulLine line → take (suc k) (words line) ≢ take (suc k) (fields body)
  pub at : place ≡ min (begins k (fields body)) (length body)

-- a body is refused at its first malformed field
abbrev pub RefusedFirst : Type 0
RefusedFirst = (body : List ℕ) (m : Malformed) → fault_of body ≡ Some m → (k : ℕ) × FirstMalformed body k m.place
