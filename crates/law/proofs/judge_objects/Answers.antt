use Rattle.law.proofs.Objecting.{objections}
use Rattle.law.proofs.judge_objects.Goals as goal

pub returns : goal.returns
returns c = objections
