use Rattle.shelf.proofs.Sorting.{put_sorted}
use Rattle.shelf.proofs.laws.put_keeps_order.Goals as goal

pub returns : goal.returns
returns g c = put_sorted
