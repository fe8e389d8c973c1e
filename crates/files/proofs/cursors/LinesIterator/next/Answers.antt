use Rattle.std.proofs.Common.{◌≡◌, ◌+◌, ◌<◌, ◌∷◌, length, take, drop, sym, ap, ◌∙◌, arith, rules}
use Rattle.std.proofs.lemmas.Bool.{eqb-true}
use Rattle.std.proofs.lemmas.Bool.Decides.{nat_tests}
use Rattle.std.proofs.lemmas.Grind.{common_steps}
use Rattle.files.specs.Packing.{lines_in}
use Rattle.files.proofs.Packing.{no_lines, first_line}
use Rattle.files.proofs.cursors.LinesIterator.next.Goals as goal

pub returns-then-is_empty-clause-steps : goal.returns-then-is_empty-clause-steps
returns-then-is_empty-clause-steps c =
    let n = no_lines c.args.self.now.text.now (eqb-true _ 0 (sym c.if-is_empty.ensures)) in
    (n, n)

pub returns : goal.returns
returns c =
    let text = c.args.self.now.text.now in
    let n = c.word_len-len.result in
    let e = c.if-is_empty.ensures in
    let h : 0 < length text = grind (arith, nat_tests) in
    let r : c.unwrap_or-self.result.now ≡ drop (n + 1) text = grind (arith, common_steps) in
    let s : lines_in text ≡ take n text ∷ lines_in c.unwrap_or-self.result.now = first_line text n h c.word_len-len.ensures.value ∙ ap (λ ys. take n text ∷ lines_in ys) (sym r) in
    let l = ap length s in
    record { steps = s; goes = search rules }
