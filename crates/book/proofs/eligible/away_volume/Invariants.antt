use Rattle.std.proofs.Common.{◌≡◌, ◌-◌, ◌*◌, ◌^◌, ◌≤◌}
use Rattle.rules.specs.Trading.{away_upto}
use Rattle.book.proofs.eligible.away_volume.Given as goal

-- the shares of the markets so far; and the sum fits
abbrev pub invariant-loop-market : goal.invariant-loop-market
invariant-loop-market g l = (l.sum ≡ away_upto l.incoming (g.B.Board.quotes l.board) (l.market - 1)) × (l.sum ≤ 2 ^ 32 * (l.market - 1))
