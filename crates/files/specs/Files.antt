-- A session file: its contents, its bodies, and why it is refused.
-- Rests on the fields of a body.
use Rattle.std.specs.Prelude.{ℕ, zero, suc, ◌+◌, ◌*◌, Bool, cond, ◌||◌, List, [], ◌∷◌, length, take, drop, Some, None, Ok, Err, Option, Result, ◌==◌, nat_lt, slice_index}
use Rattle.market.specs.declared.types.Refusal.{Refusal}
use Rattle.market.specs.declared.types.Refusal.TheVariants.{FileSize, Contents, Body}
use Rattle.files.specs.Fields.{fault_of}
use Rattle.files.specs.Lines.{Line, read_line}

-- a number of 16 bits, low byte first
abbrev pub short_at : List ℕ → ℕ → ℕ
short_at file at = slice_index file at + 256 * slice_index file (at + 1)

abbrev pub count_of : List ℕ → ℕ
count_of file = short_at file 0

abbrev pub offset_of : List ℕ → ℕ → ℕ
offset_of file i = short_at file (2 + 4 * i)

abbrev pub length_of : List ℕ → ℕ → ℕ
length_of file i = short_at file (4 + 4 * i)

abbrev pub body_in : List ℕ → ℕ → List ℕ
body_in file i = take (length_of file i) (drop (offset_of file i) file)

-- over 65,535 bytes, under 2, a count over 512, or no room for the contents
abbrev pub wrong_size : List ℕ → Bool
wrong_size file = nat_lt 65535 (length file) || (nat_lt (length file) 2 || (nat_lt 512 (count_of file) || nat_lt (length file) (2 + 4 * count_of file)))

-- the first wrong entry among the k from i on, where the next offset has to be `next`; the one
-- behind the last if only the end is wrong
abbrev pub wrong_entry : List ℕ → ℕ → ℕ → ℕ → Option ℕ
wrong_entry file zero i next = cond (next == length file) None (Some i)
wrong_entry file (suc k) i next = cond (offset_of file i == next) (wrong_entry file k (suc i) (next + length_of file i)) (Some i)

-- the first malformed field in the k bodies from i on
abbrev pub wrong_body : List ℕ → ℕ → ℕ → Option Refusal
wrong_body file zero i = None
wrong_body file (suc k) i = elim (fault_of (body_in file i)) [
  | None ↦ wrong_body file k (suc i)
  | Some m ↦ Some (Body i (offset_of file i + m.place))
]

-- why a file is refused, if it is
unfoldable pub refusal_of : List ℕ → Option Refusal
refusal_of file =
    cond (wrong_size file) (Some FileSize)
    (elim (wrong_entry file (count_of file) 0 (2 + 4 * count_of file)) [
      | Some i ↦ Some (Contents i (2 + 4 * i))
      | None ↦ wrong_body file (count_of file) 0
    ])

abbrev pub refused : {A : Type 0} → A → Option Refusal → Result A Refusal
refused n None = Ok n
refused n (Some r) = Err r

-- the count of the bodies, or why the file is refused
abbrev pub checked : List ℕ → Result ℕ Refusal
checked file = refused (count_of file) (refusal_of file)

-- the body of an index
abbrev pub line_at : List ℕ → ℕ → Option Line
line_at file i = cond (nat_lt i (count_of file)) (read_line (body_in file i)) None

abbrev pub taken_in : Option Line → List Line → List Line
taken_in None lines = lines
taken_in (Some line) lines = line ∷ lines

-- the lines of the k bodies from i on
abbrev pub lines_from : List ℕ → ℕ → ℕ → List Line
lines_from file zero i = []
lines_from file (suc k) i = taken_in (read_line (body_in file i)) (lines_from file k (suc i))

-- all the lines of a file, or why it is refused
unfoldable pub read_file : List ℕ → Result (List Line) Refusal
read_file file = refused (lines_from file (count_of file) 0) (refusal_of file)

abbrev pub lines_read : Result (List Line) Refusal → List Line
lines_read (Ok lines) = lines
lines_read (Err refusal) = []

-- the lines of a file, where it is accepted
abbrev pub lines_in : List ℕ → List Line
lines_in file = lines_read (read_file file)

abbrev pub counted : Result (List Line) Refusal → Result ℕ Refusal
counted (Ok lines) = Ok (length lines)
counted (Err refusal) = Err refusal
