use Rattle.session.proofs.Writing.{bytes_room, bytes_wrote}
use Rattle.session.proofs.listing.Page.text.Goals as goal

pub byte-requires : goal.byte-requires
byte-requires c = bytes_room c.args.text.now c.loop-b.b-index 0 c.loop-b-test.true c.requires c.loop-b.invariant

pub loop-b-preserved : goal.loop-b-preserved
loop-b-preserved c = bytes_wrote c.args.text.now c.loop-b.b-index _ c.loop-b-test.true c.loop-b.invariant c.byte.ensures
