use Rattle.std.proofs.Common.{◌≡◌, drop}
use Rattle.rules.specs.Trading.{all_worse}
use Rattle.book.proofs.eligible.all_worse.Given as goal

-- what is left decides
abbrev pub invariant-loop-order : goal.invariant-loop-order
invariant-loop-order l = all_worse l.price (drop l.order-index l.orders) ≡ all_worse l.price l.orders
