use Rattle.law.proofs.Shares.{rows_fit}
use Rattle.law.proofs.rows_fit.Goals as goal

pub returns : goal.returns
returns c = rows_fit
