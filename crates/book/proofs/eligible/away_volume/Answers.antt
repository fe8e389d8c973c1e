use Rattle.std.proofs.Common.{◌≡◌, ◌-◌, cond, ap, ◌∙◌, arith}
use Rattle.rules.specs.Trading.{away_upto, away_volume}
use Rattle.book.proofs.eligible.away_volume.Goals as goal

pub returns-then-not-is_type2-clause-value : goal.returns-then-not-is_type2-clause-value
unfolding away_volume
returns-then-not-is_type2-clause-value g c =
    ap (λ t. cond t (away_upto c.args.incoming.now (g.B.Board.quotes c.args.board.now) 16) 0) c.if-not-is_type2.ensures

pub returns-clause-value : goal.returns-clause-value
unfolding away_volume
returns-clause-value g c =
    let n = away_upto c.args.incoming.now (g.B.Board.quotes c.args.board.now) in
    let e : c.loop-market.market - 1 ≡ 16 = omega arith in
    c.loop-market.invariant.0 ∙ ap n e ∙ ap (λ t. cond t (n 16) 0) c.if-not-is_type2.ensures
