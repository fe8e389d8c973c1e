use Rattle.std.proofs.Common.{sym, ◌∙◌}
use Rattle.book.proofs.Loops.{worse_more, worse_stop, worse_all}
use Rattle.book.proofs.eligible.all_worse.Goals as goal

pub returns-then-not-is_worse : goal.returns-then-not-is_worse
returns-then-not-is_worse c =
    sym (worse_stop c.args.price c.args.orders.now c.loop-order.order-index _ c.loop-order-test.true (sym c.if-not-is_worse.ensures)) ∙ c.loop-order.invariant

pub loop-order-preserved : goal.loop-order-preserved
loop-order-preserved c =
    sym (worse_more c.args.price c.args.orders.now c.loop-order.order-index _ c.loop-order-test.true (sym c.if-not-is_worse.ensures)) ∙ c.loop-order.invariant

pub returns : goal.returns
returns c = sym (worse_all c.args.price c.args.orders.now c.loop-order.order-index c.loop-order-test.false) ∙ c.loop-order.invariant
