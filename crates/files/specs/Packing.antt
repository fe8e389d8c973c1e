-- A text of lines, and the session file that is packed from it, whatever the lines hold.
-- Rests on the layout of a session file.
use Rattle.std.specs.Prelude.{ℕ, cond, List, [], ◌∷◌, ◌++◌, length, drop, Ok, Err, Result, ◌==◌, nat_lt, codes}
use Rattle.std.specs.List.{flat_map}
use Rattle.files.specs.declared.types.PackError.{PackError}
use Rattle.files.specs.declared.types.PackError.TheVariants.{TooManyLines, TooLarge, NoRoom}
use Rattle.files.specs.Fields.{word}
use Rattle.files.specs.Written.{layout}

-- a line begins only where there is a byte, so a final line feed ends the last line and begins none
abbrev pub begun_line : List ℕ → List (List ℕ) → List (List ℕ)
begun_line [] later = []
begun_line (c ∷ cs) later = word 10 (c ∷ cs) ∷ later

-- the lines behind the first
abbrev pub later_lines : List ℕ → List (List ℕ)
later_lines [] = []
later_lines (c ∷ cs) = cond (c == 10) (begun_line cs (later_lines cs)) (later_lines cs)

-- the lines of a text, without their line feeds
unfoldable pub lines_in : List ℕ → List (List ℕ)
lines_in text = begun_line text (later_lines text)

-- the lines, one behind the other
abbrev pub unparted : List ℕ → List ℕ
unparted text = flat_map (λ b. b) (lines_in text)

-- how many bytes are written, or why the lines are not packed
abbrev pub packed : List (List ℕ) → ℕ → Result ℕ PackError
packed ls room =
    cond (nat_lt 512 (length ls)) (Err TooManyLines)
    (cond (nat_lt 65535 (length (layout ls))) (Err TooLarge)
    (cond (nat_lt room (length (layout ls))) (Err NoRoom) (Ok (length (layout ls)))))

-- what an output holds after the packing: the file and what stood behind it, or what it held
abbrev pub output_after : List (List ℕ) → List ℕ → Result ℕ PackError → List ℕ
output_after ls out (Ok n) = layout ls ++ drop n out
output_after ls out (Err e) = out

-- how an error is told
abbrev pub message : PackError → List ℕ
message TooManyLines = codes "more than 512 lines"
message TooLarge = codes "the session file would have more than 65,535 bytes"
message NoRoom = codes "the session file does not fit its buffer"
