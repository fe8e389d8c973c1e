use Rattle.std.proofs.Common.{◌≡◌, ◌+◌, ◌-◌, ◌≤◌, length}
use Rattle.files.specs.Fields.{fault_of}
use Rattle.files.specs.Files.{wrong_body}
use Rattle.files.proofs.Entries.{fault_left}
use Rattle.files.proofs.reading.check_bodies.Given as goal

-- the fields that are left decide about the body
abbrev pub invariant-loop-at : goal.invariant-loop-at
invariant-loop-at l = record {
  can_next : (goal.iterator-loop-at).can_next l.at-iterator;
  is_finite : (goal.iterator-loop-at).is_finite l.at-iterator;
  body : l.at-iterator.body.now ≡ l.body;
  within : l.at-iterator.at ≤ length l.body + 1;
  decides : fault_left l.wanted l.body l.at-iterator.at ≡ fault_of l.body;
}

-- the bodies that are left decide about the file
abbrev pub invariant-loop-index : goal.invariant-loop-index
invariant-loop-index l = wrong_body l.file (l.count - l.index) l.index ≡ wrong_body l.file l.count 0
