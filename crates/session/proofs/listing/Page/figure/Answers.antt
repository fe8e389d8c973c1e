use Rattle.session.proofs.Writing.{wrote_then}
use Rattle.session.proofs.listing.Page.figure.Goals as goal

pub returns : goal.returns
returns c = wrote_then c.byte.ensures c.number.ensures
