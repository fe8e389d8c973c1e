use Rattle.std.proofs.Common.{◌≡◌, ◌+◌, length}
use Rattle.std.specs.List.{flat_map}
use Rattle.files.specs.Cursors.{lines_left}
use Rattle.files.specs.Packing.{lines_in, unparted}
use Rattle.files.proofs.pack.measure.Given as goal

-- what was counted, and what is left, make the whole
abbrev pub invariant-loop-line : goal.invariant-loop-line
invariant-loop-line l = record {
  can_next : (goal.iterator-loop-line).can_next l.line-iterator;
  is_finite : (goal.iterator-loop-line).is_finite l.line-iterator;
  lines : l.extent.lines + length (lines_left l.line-iterator) ≡ length (lines_in l.text);
  bytes : l.extent.bytes + length (flat_map (λ b. b) (lines_left l.line-iterator)) ≡ length (unparted l.text);
}
