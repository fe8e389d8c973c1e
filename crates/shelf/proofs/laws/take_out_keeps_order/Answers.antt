use Rattle.shelf.proofs.Sorting.{pairwise_removed}
use Rattle.shelf.proofs.laws.take_out_keeps_order.Goals as goal

pub returns : goal.returns
returns g c = λ ahead key at xs. pairwise_removed _ xs at
