use Rattle.session.proofs.Writing.{wrote_then}
use Rattle.session.proofs.listing.Page.row.Goals as goal

pub returns-in-Fill : goal.returns-in-Fill
returns-in-Fill c = rw c.in-Fill.is (wrote_then c.byte.ensures c.four.ensures)

pub returns-in-Route : goal.returns-in-Route
returns-in-Route c = rw c.in-Route.is (wrote_then c.byte-in-Route.ensures c.four-in-Route.ensures)
