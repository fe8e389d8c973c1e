use Rattle.shelf.proofs.Shift.{inserted_stands}
use Rattle.shelf.proofs.Shelf.insert_at.Goals as goal

pub returns-clause-stands : goal.returns-clause-stands
returns-clause-stands g c = inserted_stands _ _ _ _ _ c.requires.0 c.requires.1 c.copy_within.ensures.after
