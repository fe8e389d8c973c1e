use Rattle.std.proofs.Common.{◌≡◌, ◌+◌, ◌++◌, map, take, drop}
use Rattle.rules.specs.Calls.{standing_row}
use Rattle.book.proofs.asking.write_side.Given as goal

-- the rows before, then those of the orders so far; the rows behind are as they were
abbrev pub invariant-loop-i : goal.invariant-loop-i
invariant-loop-i l =
    (take (l.at + l.i) l.rows ≡ take l.at l.initial.rows ++ map (standing_row l.side) (take l.i l.orders))
    × (drop (l.at + l.i) l.rows ≡ drop (l.at + l.i) l.initial.rows)
