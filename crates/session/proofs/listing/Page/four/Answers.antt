use Rattle.session.proofs.Writing.{wrote_then}
use Rattle.session.proofs.listing.Page.four.Goals as goal

pub returns : goal.returns
returns c =
    wrote_then c.figure.ensures (wrote_then c.figure-2.ensures (wrote_then c.figure-3.ensures (wrote_then c.figure-4.ensures c.byte.ensures)))
