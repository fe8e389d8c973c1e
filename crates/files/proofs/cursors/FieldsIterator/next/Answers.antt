use Rattle.std.proofs.Common.{refl, ◌∙◌, arith}
use Rattle.std.proofs.lemmas.List.{take_rest}
use Rattle.files.proofs.Parting.{left_none, field_next}
use Rattle.files.proofs.cursors.FieldsIterator.next.Goals as goal

pub returns-in_err-rest-clause-steps : goal.returns-in_err-rest-clause-steps
returns-in_err-rest-clause-steps c = (refl, rw c.from_residual.ensures (left_none c.args.self.now.body.now c.args.self.now.at (omega (arith, c.in_err-rest.ensures.lookup)), refl))

pub returns-clause-steps : goal.returns-clause-steps
returns-clause-steps c =
    let xs = c.args.self.now.body.now in
    let at = c.args.self.now.at in
    let l = c.in_ok-rest.ensures.lookup.0 in
    let n = field_next xs c.in_ok-rest.rest.now at c.word_len-len.result l.0 (l.2 ∙ take_rest xs at) c.word_len-len.ensures.value in
    (refl, (refl, n.0, n.1, n.2))
