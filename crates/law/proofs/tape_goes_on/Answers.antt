use Rattle.law.proofs.Tapes.{tape_goes_on}
use Rattle.law.proofs.tape_goes_on.Goals as goal

pub returns : goal.returns
returns c = tape_goes_on
