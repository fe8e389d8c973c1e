use Rattle.std.proofs.Common.{◌≡◌, ◌-◌, take}
use Rattle.rules.specs.Sweeps.{sweep, rows_before, standing, with_open}
use Rattle.book.specs.Held.{orders, KeptFrom, Shortened}
use Rattle.book.proofs.sweeping.sweep.Given as goal

-- the rows so far, and the sweep that is left, make the sweep; what is behind both is as it was
abbrev pub invariant-loop-rows : goal.invariant-loop-rows
invariant-loop-rows g l =
    let b = g.B.Board.quotes in
    (rows_before (take l.rows l.report) (sweep (144 - l.rows) (standing (with_open l.«open» l.incoming) l.own (orders l.opp) (b l.board)))
    ≡ sweep 144 (standing (with_open l.initial.«open» l.incoming) l.own (orders l.initial.opp) (b l.initial.board)))
    × KeptFrom l.rows l.initial.report l.report
    × Shortened l.initial.opp l.opp
    × (l.opp.cells.ghost_name ≡ l.initial.opp.cells.ghost_name)
