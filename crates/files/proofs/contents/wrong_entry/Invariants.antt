use Rattle.std.proofs.Common.{◌≡◌, ◌+◌, ◌-◌, ◌*◌, ◌≤◌}
use Rattle.files.specs.Files.{wrong_entry}
use Rattle.files.proofs.contents.wrong_entry.Given as goal

-- the entries that are left decide
abbrev pub invariant-loop-index : goal.invariant-loop-index
invariant-loop-index l =
    (wrong_entry l.file (l.count - l.index) l.index l.next ≡ wrong_entry l.file l.count 0 (2 + 4 * l.count)) × (l.next ≤ 2 + 4 * l.count + 65535 * l.index)
