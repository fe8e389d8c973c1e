use Rattle.law.proofs.Ranges.{tape_ranged}
use Rattle.law.proofs.figures_ranged.Goals as goal

pub returns : goal.returns
returns c = tape_ranged
