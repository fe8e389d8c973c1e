use Rattle.session.proofs.Writing.{wrote_then}
use Rattle.session.proofs.listing.Page.answer.Goals as goal

pub returns-in-Ok : goal.returns-in-Ok
returns-in-Ok c = rw c.in-Ok.is (wrote_then c.text.ensures c.four.ensures)

pub returns-in-Err : goal.returns-in-Err
returns-in-Err c = rw (c.in-Err.is, ← c.number.ensures) (wrote_then c.text.ensures c.four-in-Err.ensures)
