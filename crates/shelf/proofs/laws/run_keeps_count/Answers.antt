use Rattle.shelf.proofs.Runs.{run_counts}
use Rattle.shelf.proofs.laws.run_keeps_count.Goals as goal

pub returns : goal.returns
returns g c = run_counts
