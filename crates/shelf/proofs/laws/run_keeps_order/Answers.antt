use Rattle.shelf.proofs.Runs.{run_sorted}
use Rattle.shelf.proofs.laws.run_keeps_order.Goals as goal

pub returns : goal.returns
returns g c = run_sorted
