-- How lines are written as the bytes of a session file, and what reading has to do with it.
-- Rests on decimals as the library writes them, and on the reading of a file.
use Rattle.std.specs.Prelude.{◌≡◌, ℕ, ◌+◌, ◌*◌, ◌/◌, ◌%◌, ◌<◌, ◌≤◌, true, List, [], ◌∷◌, ◌++◌, map, length, Ok, Err, codes, decimal, Result, ◌≢◌}
use Rattle.std.specs.List.{flat_map, AllByRecursion}
use Rattle.market.specs.declared.types.Refusal.{Refusal}
use Rattle.market.specs.declared.types.Side.{Side}
use Rattle.market.specs.declared.types.Side.TheVariants.{Buy, Sell}
use Rattle.rules.specs.declared.types.Kind.{Kind}
use Rattle.rules.specs.declared.types.Kind.TheVariants.{Displayed, Dark, Olo, Ilo}
use Rattle.rules.specs.declared.types.Routing.{Routing}
use Rattle.rules.specs.declared.types.Routing.TheVariants.{Type1, Type2}
use Rattle.rules.specs.declared.types.Mark.{Mark}
use Rattle.rules.specs.declared.types.Mark.TheVariants as mark
use Rattle.shelf.specs.Standing.{nth}
use Rattle.files.specs.Fields.{is_label}
use Rattle.files.specs.Lines.{Line, New, Cut, Cancel, Post}
use Rattle.files.specs.Files.{checked, line_at, read_file}

abbrev pub side_bytes : Side → List ℕ
side_bytes Buy = codes "B"
side_bytes Sell = codes "S"

abbrev pub routing_bytes : Routing → List ℕ
routing_bytes Type1 = codes "1"
routing_bytes Type2 = codes "2"

abbrev pub mark_bytes : Mark → List ℕ
mark_bytes mark.Rest = codes "R"
mark_bytes mark.Cancel = codes "C"

abbrev pub kind_bytes : Kind → List ℕ
kind_bytes Displayed = codes "L"
kind_bytes Dark = codes "D"
kind_bytes Olo = codes "O"
kind_bytes (Ilo routing mtv mark) = codes "I"

-- what an ILO has besides
abbrev pub ilo_words : Kind → List (List ℕ)
ilo_words Displayed = []
ilo_words Dark = []
ilo_words Olo = []
ilo_words (Ilo routing mtv mark) = routing_bytes routing ∷ decimal mtv ∷ mark_bytes mark ∷ []

abbrev pub words : Line → List (List ℕ)
words (New label side price kind shares) = codes "N" ∷ label ∷ kind_bytes kind ∷ side_bytes side ∷ decimal price ∷ decimal shares ∷ ilo_words kind
words (Cut arrival shares) = codes "U" ∷ decimal arrival ∷ decimal shares ∷ []
words (Cancel arrival) = codes "X" ∷ decimal arrival ∷ []
words (Post market side price shares) = codes "Q" ∷ decimal market ∷ side_bytes side ∷ decimal price ∷ decimal shares ∷ []

-- one space between words
abbrev pub spaced : List (List ℕ) → List ℕ
spaced [] = []
spaced (w ∷ ws) = w ++ flat_map (λ v. 32 ∷ v) ws

unfoldable pub body_bytes : Line → List ℕ
body_bytes line = spaced (words line)

-- a number of 16 bits, low byte first
abbrev pub short : ℕ → List ℕ
short n = n % 256 ∷ n / 256 ∷ []

-- the offset and the length of each body, where the first begins at `next`
abbrev pub contents : ℕ → List (List ℕ) → List ℕ
contents next [] = []
contents next (b ∷ bs) = short next ++ short (length b) ++ contents (next + length b) bs

-- the count, the contents, the bodies
unfoldable pub layout : List (List ℕ) → List ℕ
layout bodies = short (length bodies) ++ contents (2 + 4 * length bodies) bodies ++ flat_map (λ b. b) bodies

abbrev pub file_bytes : List Line → List ℕ
file_bytes lines = layout (map body_bytes lines)

-- numbers of a body have at most seven digits
abbrev pub Small : ℕ → Type 0
Small n = n < 10000000

abbrev pub LawfulKind : Kind → Type 0
LawfulKind Displayed = Unit {0}
LawfulKind Dark = Unit {0}
LawfulKind Olo = Unit {0}
LawfulKind (Ilo routing mtv mark) = Small mtv

-- a line that can be written: a label of 1 to 12 capital letters and digits, and small numbers
abbrev pub LawfulLine : Line → Type 0
LawfulLine (New label side price kind shares) = (is_label label ≡ true) × Small price × LawfulKind kind × Small shares
LawfulLine (Cut arrival shares) = Small arrival × Small shares
LawfulLine (Cancel arrival) = Small arrival
LawfulLine (Post market side price shares) = Small market × Small price × Small shares

-- the lines fit into one file
abbrev pub Fitting : List Line → Type 0
Fitting lines = AllByRecursion LawfulLine lines × (length lines ≤ 512) × (length (file_bytes lines) ≤ 65535)

abbrev pub Bytes : List ℕ → Type 0
Bytes file = AllByRecursion (λ b. b < 256) file

-- every list of lines that fits, written out, is accepted, and reads back as itself
abbrev pub ReadsBack : Type 0
ReadsBack = (lines : List Line) → Fitting lines → (checked (file_bytes lines) ≡ Ok (length lines)) × ((i : ℕ) → line_at (file_bytes lines) i ≡ nth i lines)

-- no other file is accepted
abbrev pub OnlyWritten : Type 0
OnlyWritten = (file : List ℕ) (n : ℕ) → Bytes file → checked file ≡ Ok n → (lines : List Line) × Fitting lines × (length lines ≡ n) × (file ≡ file_bytes lines)

-- a file is read as some lines exactly if they fit and it is what they are written as
abbrev pub ReadsExactly : Type 0
ReadsExactly = (file : List ℕ) (lines : List Line) → Bytes file → (read_file file ≡ Ok lines → Fitting lines × (file ≡ file_bytes lines)) × (Fitting lines → file ≡ file_bytes lines → read_file file ≡ Ok lines)

-- a file says one list of lines at most
abbrev pub OneReading : Type 0
OneReading = (ks ls : List Line) → Fitting ks → Fitting ls → file_bytes ks ≡ file_bytes ls → ks ≡ ls

-- what an answer of the check says of the file: it is that of some lines, as many as answered, or of none
abbrev pub Answered : List ℕ → Result ℕ Refusal → Type 0
Answered file (Ok n) = (lines : List Line) × Fitting lines × (length lines ≡ n) × (file ≡ file_bytes lines)
Answered file (Err refusal) = (lines : List Line) → Fitting lines → file ≢ file_bytes lines
