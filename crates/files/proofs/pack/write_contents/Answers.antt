use Rattle.std.proofs.Common.{◌≡◌, ◌+◌, ◌++◌, length, take, drop, sym, refl, ap, ◌∙◌, arith}
use Rattle.std.specs.List.{flat_map}
use Rattle.std.proofs.lemmas.List.{length-append}
use Rattle.files.specs.Cursors.{lines_left}
use Rattle.files.specs.Written.{short, contents}
use Rattle.files.specs.Packing.{lines_in}
use Rattle.files.proofs.Writes.{stands_more, stays_more}
use Rattle.files.proofs.pack.write_contents.Goals as goal

pub loop-line-preserved : goal.loop-line-preserved
loop-line-preserved c =
    let line = c.in-Some.line.now in
    let p = c.loop-line.place in
    let n = c.loop-line.next in
    let old = c.args.out.now in
    let out1 = c.write_short.new.out in
    let out2 = c.write_short-in-loop-line.new.out in
    let later = contents (n + length line) (lines_left c.next.new.self) in
    let whole = take 2 old ++ contents c.args.first (lines_in c.args.text.now) in
    let e = c.in-Some.ensures.steps in
    let s1 = stands_more c.loop-line.out out1 (short n) p 2 refl (short (length line) ++ later) _ whole c.write_short.ensures.stands (ap (contents n) e) c.loop-line.invariant.stands in
    let s2 = stands_more out1 out2 (short (length line)) (p + 2) 2 refl later _ whole c.write_short-in-loop-line.ensures.stands refl s1 in
    let b1 = stays_more c.loop-line.out out1 (short n) p 2 refl old c.write_short.ensures.behind c.loop-line.invariant.behind in
    let b2 = stays_more out1 out2 (short (length line)) (p + 2) 2 refl old c.write_short-in-loop-line.ensures.behind b1 in
    let z : p + 4 ≡ p + 2 + 2 = omega arith in
    let l = ap length e in
    let m = ap (λ ls. length (flat_map (λ b. b) ls)) e in
    let j = length-append line (flat_map (λ b. b) (lines_left c.next.new.self)) in
    record {
      can_next = tt;
      is_finite = tt;
      stands = ap (λ m. take m out2 ++ later) z ∙ s2;
      behind = ap (λ m. drop m out2) z ∙ b2 ∙ ap (λ m. drop m old) (sym z);
      room = omega arith;
      within = omega arith;
    }
