use Rattle.std.proofs.Common.{◌≡◌, ◌^◌, ◌<◌, true, take}
use Rattle.files.specs.Fields.{Digits, belongs, every, figure}
use Rattle.files.proofs.fields.figure_of.Given as goal

-- the bytes passed are digits, and the sum is what they write
abbrev pub invariant-loop-b : goal.invariant-loop-b
invariant-loop-b l = record {
  sum : l.sum ≡ figure 0 (take l.b-index l.field);
  small : l.sum < 10 ^ l.b-index;
  digits : every (belongs Digits) (take l.b-index l.field) ≡ true;
}
