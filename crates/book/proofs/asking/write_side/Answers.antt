use Rattle.std.proofs.Common.{◌+◌, ◌<◌, length, ◌∙◌, arith}
use Rattle.std.proofs.lemmas.List.{drop-set-lt}
use Rattle.book.proofs.Loops.{rows_more}
use Rattle.shelf.proofs.Cells.{drop_later}
use Rattle.book.proofs.asking.write_side.Goals as goal

pub loop-i-preserved : goal.loop-i-preserved
loop-i-preserved c =
    let i = c.loop-i.i in
    let at = c.args.at in
    let k : at + i < length c.loop-i.rows = omega arith in
    let x = c.standing_row.result in (
      rows_more c.args.side c.args.orders.now c.args.rows.now c.loop-i.rows at i _ x c.standing_row.ensures c.loop-i-test.true k c.loop-i.invariant.0,
      drop-set-lt (at + (i + 1)) c.loop-i.rows (at + i) x (omega arith) ∙ drop_later c.loop-i.rows c.args.rows.now (at + i) (at + (i + 1)) (omega arith) c.loop-i.invariant.1,
    )
