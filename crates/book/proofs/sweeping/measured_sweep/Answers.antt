use Rattle.std.proofs.Common.{◌≡◌, true, false, length, drop, sym, ap, ◌∙◌, arith}
use Rattle.std.proofs.lemmas.List.{take-append-le, length-take-le}
use Rattle.rules.specs.Sweeps.{standing, swept, with_open}
use Rattle.book.specs.Held.{orders}
use Rattle.book.proofs.Steps.{measured_enough, measured_short, not_back, kept_behind}
use Rattle.book.proofs.sweeping.measured_sweep.Goals as goal
use Rattle.book.proofs.sweeping.measured_sweep.Goals.{After-sweep}

pub returns-then-falls_short-clause-swept : goal.returns-then-falls_short-clause-swept
returns-then-falls_short-clause-swept g c =
    let s = standing c.args.incoming.now c.args.own.now (orders c.args.opp.now) (g.B.Board.quotes c.args.board.now) in
    sym (measured_short s (not_back _ false (sym (rw c.standing.ensures at c.if-falls_short.ensures))))

written : (g : _) (c : After-sweep g) → length c.sweep.new.report ≡ 144
written g c = omega (arith, c.requires.1, length-take-le 144 c.args.report.now)

pub returns-clause-swept : goal.returns-clause-swept
returns-clause-swept g c =
    let s = standing c.args.incoming.now c.args.own.now (orders c.args.opp.now) (g.B.Board.quotes c.args.board.now) in
    let left = standing (with_open c.sweep.result.«open» c.args.incoming.now) c.args.own.now (orders c.sweep.new.opp) (g.B.Board.quotes c.sweep.new.board) in
    let all = written g (goal.at.returns-clause-swept g c).After-sweep in
    ap (λ rows. swept rows left) (take-append-le c.sweep.result.rows c.sweep.new.report (drop 144 c.args.report.now) (omega (arith, c.sweep.ensures.rows.0)))
    ∙ c.sweep.ensures.swept ∙ sym (measured_enough s (not_back _ true (sym (rw c.standing.ensures at c.if-falls_short.ensures))))

pub returns-clause-rows : goal.returns-clause-rows
returns-clause-rows g c =
    let all = written g (goal.at.returns-clause-rows g c).After-sweep in
    (c.sweep.ensures.rows.0, kept_behind c.sweep.result.rows c.args.report.now c.sweep.new.report c.sweep.ensures.rows.0 c.requires.1 all c.sweep.ensures.rows.1)
