use Rattle.law.proofs.Shares.{sides_fit}
use Rattle.law.proofs.sides_fit.Goals as goal

pub returns : goal.returns
returns c = sides_fit
