use Rattle.law.proofs.Tapes.{tape_law}
use Rattle.law.proofs.tape_law.Goals as goal

pub returns : goal.returns
returns c = tape_law
