use Rattle.law.proofs.Shares.{shares_kept}
use Rattle.law.proofs.shares_kept.Goals as goal

pub returns : goal.returns
returns c = shares_kept
