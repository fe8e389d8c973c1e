use Rattle.std.proofs.Common.{length, ap, ◌∙◌, arith}
use Rattle.std.specs.Option.{unwrap_or}
use Rattle.files.proofs.Words.{word_le, word_len}
use Rattle.files.proofs.cursors.word_len.Goals as goal

pub returns : goal.returns
returns c =
    let xs = c.args.bytes.now in
    let n = c.unwrap_or.ensures ∙ ap (λ o. unwrap_or o (length xs)) c.mark_at.ensures ∙ word_len c.args.mark xs in
    let l = word_le c.args.mark xs in
    record { value = n; within = omega arith }
