use Rattle.std.proofs.Common.{◌≡◌, suc, ◌+◌, ◌-◌, ◌<◌, length, ◌∙◌, arith}
use Rattle.std.proofs.lemmas.List.{drop-set-lt, take-set}
use Rattle.book.proofs.Steps.{sweep_more, sweep_ends, sweep_full}
use Rattle.book.proofs.Changes.{shortened_twice}
use Rattle.shelf.proofs.Cells.{drop_later}
use Rattle.book.proofs.sweeping.sweep.Goals as goal

pub loop-rows-preserved : goal.loop-rows-preserved
loop-rows-preserved g c =
    let t = c.step.ensures in
    let n = c.loop-rows.rows in
    let e = rw c.with_open-now.ensures at c.in-Some.ensures.step in
    let h : n < length c.loop-rows.report = omega arith in
    let k : 144 - n ≡ suc (144 - (n + 1)) = omega arith in
    let inv = c.loop-rows.invariant in (
      sweep_more c.loop-rows.report n (144 - n) _ _ _ _ _ h k e inv.0,
      drop-set-lt (n + 1) c.loop-rows.report n c.in-Some.done (omega arith) ∙ drop_later c.loop-rows.report c.args.report.now n (n + 1) (omega arith) inv.1,
      shortened_twice c.args.opp.now c.loop-rows.opp c.step.new.opp inv.2 t.behind,
      t.same ∙ inv.3,
    )

pub returns-in_default-clause-swept : goal.returns-in_default-clause-swept
returns-in_default-clause-swept g c =
    let t = c.in_default.ensures.step in
    let n = rw c.with_open-now.ensures at t.0 in
    rw (take-set, t.1, t.2) (sweep_ends _ _ _ _ n c.loop-rows.invariant.0)

pub returns-clause-swept : goal.returns-clause-swept
returns-clause-swept g c =
    let e : c.loop-rows.rows ≡ 144 = omega arith in
    let z : 144 - c.loop-rows.rows ≡ 0 = omega arith in
    rw e at (sweep_full _ _ _ _ z c.loop-rows.invariant.0)

pub returns-clause-rows : goal.returns-clause-rows
returns-clause-rows g c =
    let e : c.loop-rows.rows ≡ 144 = omega arith in
    (omega arith, rw e at c.loop-rows.invariant.1)
