use Rattle.std.proofs.Common.{◌≡◌, ◌+◌, ◌*◌, ◌^◌, ◌≤◌, drop}
use Rattle.rules.specs.Trading.{resting_volume}
use Rattle.book.specs.Asked.{asked}
use Rattle.book.proofs.eligible.resting_volume.Given as goal

-- the sum so far and what is left make the volume; and the sum fits
abbrev pub invariant-loop-order : goal.invariant-loop-order
invariant-loop-order l =
    (l.sum + resting_volume l.incoming (asked l.bests) (drop l.order-index l.opp) ≡ resting_volume l.incoming (asked l.bests) l.opp)
    × (l.sum ≤ 2 ^ 32 * l.order-index)
