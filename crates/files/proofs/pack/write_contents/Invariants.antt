use Rattle.std.proofs.Common.{◌≡◌, ◌+◌, ◌*◌, ◌++◌, length, take, drop}
use Rattle.std.specs.List.{flat_map}
use Rattle.files.specs.Cursors.{lines_left}
use Rattle.files.specs.Written.{contents}
use Rattle.files.specs.Packing.{lines_in, unparted}
use Rattle.files.proofs.pack.write_contents.Given as goal

-- what is written, and the entries that are left, make the contents
abbrev pub invariant-loop-line : goal.invariant-loop-line
invariant-loop-line l =
    let left = lines_left l.line-iterator in
    record {
      can_next : (goal.iterator-loop-line).can_next l.line-iterator;
      is_finite : (goal.iterator-loop-line).is_finite l.line-iterator;
      stands : take l.place l.out ++ contents l.next left ≡ take 2 l.initial.out ++ contents l.first (lines_in l.text);
      behind : drop l.place l.out ≡ drop l.place l.initial.out;
      room : l.place + 4 * length left ≡ 2 + 4 * length (lines_in l.text);
      within : l.next + length (flat_map (λ b. b) left) ≡ l.first + length (unparted l.text);
    }
