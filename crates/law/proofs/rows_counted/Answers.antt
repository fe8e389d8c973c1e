use Rattle.law.proofs.Rows.{rows_counted}
use Rattle.law.proofs.rows_counted.Goals as goal

pub returns : goal.returns
returns c = rows_counted
