use Rattle.law.proofs.Rows.{tape_counted}
use Rattle.law.proofs.tape_counted.Goals as goal

pub returns : goal.returns
returns c = tape_counted
