use Rattle.law.proofs.Deciding.{one_verdict}
use Rattle.law.proofs.one_verdict.Goals as goal

pub returns : goal.returns
returns c = one_verdict
