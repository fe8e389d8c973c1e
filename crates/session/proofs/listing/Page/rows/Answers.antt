use Rattle.session.proofs.Writing.{rows_room, rows_wrote}
use Rattle.session.proofs.listing.Page.rows.Goals as goal

pub row-requires : goal.row-requires
row-requires c = rows_room c.args.rows.now c.loop-row.row-index _ c.loop-row-test.true c.requires c.loop-row.invariant

pub loop-row-preserved : goal.loop-row-preserved
loop-row-preserved c = rows_wrote c.args.rows.now c.loop-row.row-index _ c.loop-row-test.true c.loop-row.invariant c.row.ensures
