-- The text of a listing: a line for each call, one for each of its rows, and the last line.
-- Rests on the tape, on the lines of a file for the labels, and on decimals as the library writes them.
use Rattle.std.specs.Prelude.{ℕ, Bool, true, false, List, [], ◌∷◌, ◌++◌, codes, decimal, Result}
use Rattle.std.specs.List.{flat_map}
use Rattle.market.specs.declared.types.Refusal.{Refusal}
use Rattle.market.specs.Refusals.{number_of, index_of, place_of}
use Rattle.rules.specs.declared.types.Accepted.{Accepted}
use Rattle.rules.specs.declared.types.Row.{Row}
use Rattle.rules.specs.declared.types.Row.TheVariants.{Fill, Route}
use Rattle.rules.specs.Calls.{figures}
use Rattle.law.specs.Tape.{Entry}
use Rattle.files.specs.Lines.{Line, New, Cut, Cancel, Post}

-- a space and a number
abbrev pub figure_text : ℕ → List ℕ
figure_text n = 32 ∷ decimal n

-- four figures, each behind a space, and a line feed
abbrev pub four_text : ℕ → ℕ → ℕ → ℕ → List ℕ
four_text a b c d = figure_text a ++ (figure_text b ++ (figure_text c ++ (figure_text d ++ (10 ∷ []))))

-- `label answer arrival open cancelled`
abbrev pub answer_text : List ℕ → Result Accepted Refusal → List ℕ
answer_text label r = let f = figures r in label ++ four_text f.number f.arrival f.«open» f.cancelled

-- `F` or `R` and four figures
abbrev pub row_text : Row → List ℕ
row_text (Fill incoming resting price shares) = codes "F" ++ four_text incoming resting price shares
row_text (Route arrival market price shares) = codes "R" ++ four_text arrival market price shares

abbrev pub rows_text : List Row → List ℕ
rows_text = flat_map row_text

-- the label of a new order; other calls have a dash
abbrev pub label_text : Line → List ℕ
label_text (New label side price kind shares) = label
label_text (Cut arrival shares) = codes "-"
label_text (Cancel arrival) = codes "-"
label_text (Post market side price shares) = codes "-"

-- `LI 0` or `LI 1`
abbrev pub light_text : Bool → List ℕ
light_text true = codes "LI 1" ++ (10 ∷ [])
light_text false = codes "LI 0" ++ (10 ∷ [])

-- the line of a call and those of its rows
abbrev pub entry_text : Line → Entry → List ℕ
entry_text line e = answer_text (label_text line) e.answer ++ rows_text e.rows

-- the entries of a tape, each under the label of the line that made its call
abbrev pub entries_text : List Line → List Entry → List ℕ
entries_text [] es = []
entries_text (line ∷ lines) [] = []
entries_text (line ∷ lines) (e ∷ es) = entry_text line e ++ entries_text lines es

-- what `light` answers after the last entry, where b is what it answers before the first
abbrev pub light_after : Bool → List Entry → Bool
light_after b [] = b
light_after b (e ∷ es) = light_after e.light es

-- the whole listing; on a fresh book the identifier is not lit
abbrev pub listing_text : List Line → List Entry → List ℕ
listing_text lines es = entries_text lines es ++ light_text (light_after false es)

-- `BAD number index place`
abbrev pub refusal_text : Refusal → List ℕ
refusal_text e = codes "BAD" ++ (figure_text (number_of e) ++ (figure_text (index_of e) ++ (figure_text (place_of e) ++ (10 ∷ []))))
