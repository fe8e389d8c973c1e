use Rattle.shelf.proofs.Sorting.{set_sorted}
use Rattle.shelf.proofs.laws.replace_keeps_order.Goals as goal

pub returns : goal.returns
returns g c = λ ahead key at x y xs. set_sorted ahead key x y xs at
