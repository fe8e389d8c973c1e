use Rattle.law.proofs.Shares.{fills_kept}
use Rattle.law.proofs.fills_kept.Goals as goal

pub returns : goal.returns
returns c = fills_kept
