use Rattle.std.proofs.Common.{◌≡◌, ◌+◌, ◌++◌, length, take, drop}
use Rattle.std.specs.List.{flat_map}
use Rattle.files.specs.Cursors.{lines_left}
use Rattle.files.specs.Packing.{unparted}
use Rattle.files.proofs.pack.write_bodies.Given as goal

-- what is written, and the lines that are left, make the bodies
abbrev pub invariant-loop-line : goal.invariant-loop-line
invariant-loop-line l =
    let left = flat_map (λ b. b) (lines_left l.line-iterator) in
    record {
      can_next : (goal.iterator-loop-line).can_next l.line-iterator;
      is_finite : (goal.iterator-loop-line).is_finite l.line-iterator;
      stands : take l.next l.out ++ left ≡ take l.first l.initial.out ++ unparted l.text;
      behind : drop l.next l.out ≡ drop l.next l.initial.out;
      room : l.next + length left ≡ l.first + length (unparted l.text);
    }
