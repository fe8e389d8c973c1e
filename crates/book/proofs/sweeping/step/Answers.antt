use Rattle.std.proofs.Common.{◌≡◌, Some, None, refl, ap, ◌∙◌}
use Rattle.shelf.specs.Standing.{first}
use Rattle.rules.specs.Trading.{Bests, passes}
use Rattle.rules.specs.Sweeps.{standing, routed_first, next, chosen}
use Rattle.book.specs.Asked.{asked}
use Rattle.book.specs.Held.{orders}
use Rattle.book.proofs.Steps.{next_zero, next_is, chosen_is}
use Rattle.book.proofs.sweeping.step.Goals as goal
use Rattle.book.proofs.sweeping.step.Goals.{After-choose}

pub returns-then-incoming-eq0-clause-step : goal.returns-then-incoming-eq0-clause-step
returns-then-incoming-eq0-clause-step g c = (next_zero _ c.if-incoming-eq0.true, refl, refl)

-- the step that the rules take is the one with the order that was chosen
by_choice : (g : _) (c : After-choose g) → next (standing c.args.incoming.now c.args.own.now (orders c.args.opp.now) (g.B.Board.quotes c.args.board.now)) ≡ chosen (standing c.args.incoming.now c.args.own.now (orders c.args.opp.now) (g.B.Board.quotes c.args.board.now)) c.choose.result
by_choice g c =
    let i = c.args.incoming.now in
    let own = c.args.own.now in
    let os = orders c.args.opp.now in
    let f = c.choose.ensures.value ∙ ap (λ xs. first (passes i (asked c.bests-bests.result) own xs) xs 0) c.standing.ensures ∙ ap (λ x. first (passes i x own os) os 0) c.bests-bests.ensures in
    next_is _ c.choose.result c.if-incoming-eq0.false f

pub returns-in_err-chosen-clause-step : goal.returns-in_err-chosen-clause-step
returns-in_err-chosen-clause-step g c =
    let s = standing c.args.incoming.now c.args.own.now (orders c.args.opp.now) (g.B.Board.quotes c.args.board.now) in
    rw c.from_residual.ensures (by_choice g (goal.at.returns-in_err-chosen-clause-step g c).After-choose ∙ ap (chosen s) c.in_err-chosen.was, refl, refl)

pub returns-in-Some-clause-step : goal.returns-in-Some-clause-step
returns-in-Some-clause-step g c =
    let i = c.args.incoming.now in
    let s = standing i c.args.own.now (orders c.args.opp.now) (g.B.Board.quotes c.args.board.now) in
    let order = c.in_ok-chosen.chosen in
    let a = by_choice g (goal.at.returns-in-Some-clause-step g c).After-choose ∙ ap (chosen s) c.in_ok-chosen.was in
    let r = c.in-Some.ensures ∙ ap (λ (x : Bests). routed_first i x.other order.item.price) c.bests-bests.ensures in
    let b = chosen_is s order (Some c.in-Some.best) r in
    cc

pub returns-in-None-clause-step : goal.returns-in-None-clause-step
returns-in-None-clause-step g c =
    let i = c.args.incoming.now in
    let s = standing i c.args.own.now (orders c.args.opp.now) (g.B.Board.quotes c.args.board.now) in
    let order = c.in_ok-chosen.chosen in
    let a = by_choice g (goal.at.returns-in-None-clause-step g c).After-choose ∙ ap (chosen s) c.in_ok-chosen.was in
    let r = c.in-None.ensures ∙ ap (λ (x : Bests). routed_first i x.other order.item.price) c.bests-bests.ensures in
    let b = chosen_is s order None r in
    cc
