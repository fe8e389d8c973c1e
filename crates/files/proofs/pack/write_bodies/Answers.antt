use Rattle.std.proofs.Common.{length, refl, ap, arith}
use Rattle.std.specs.List.{flat_map}
use Rattle.std.proofs.lemmas.List.{length-append}
use Rattle.files.specs.Cursors.{lines_left}
use Rattle.files.proofs.Writes.{stands_more, stays_more}
use Rattle.files.proofs.pack.write_bodies.Goals as goal

pub loop-line-preserved : goal.loop-line-preserved
loop-line-preserved c =
    let line = c.in-Some.line.now in
    let n = c.loop-line.next in
    let s = ap (flat_map (λ b. b)) c.in-Some.ensures.steps in
    let l = ap length s in
    let j = length-append line (flat_map (λ b. b) (lines_left c.next.new.self)) in
    record {
      can_next = tt;
      is_finite = tt;
      stands = stands_more c.loop-line.out c.write_at.new.out line n (length line) refl _ _ _ c.write_at.ensures.stands s c.loop-line.invariant.stands;
      behind = stays_more c.loop-line.out c.write_at.new.out line n (length line) refl _ c.write_at.ensures.behind c.loop-line.invariant.behind;
      room = omega arith;
    }
