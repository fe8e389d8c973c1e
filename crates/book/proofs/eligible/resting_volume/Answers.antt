use Rattle.std.proofs.Common.{◌∙◌, rules}
use Rattle.book.specs.Asked.{asked}
use Rattle.book.proofs.Loops.{volume_more}
use Rattle.book.proofs.Prices.{worth_is}
use Rattle.book.proofs.eligible.resting_volume.Goals as goal

pub loop-order-preserved : goal.loop-order-preserved
loop-order-preserved c =
    let w = worth_is c.args.incoming.now (asked c.args.bests.now) c.prices-prices.result _ c.prices-prices.ensures c.worth.ensures.fits in (
      volume_more c.args.incoming.now (asked c.args.bests.now) c.args.opp.now c.loop-order.order-index _ c.loop-order.sum c.from-sum.result _ c.loop-order-test.true (c.from-sum.ensures ∙ c.worth.ensures.value ∙ w) c.loop-order.invariant.0,
      search rules,
    )
