use Rattle.std.proofs.Common.{◌≡◌, ◌^◌, ◌<◌, Some, None, rules, sym, ◌∙◌}
use Rattle.std.specs.List.{position}
use Rattle.std.proofs.lemmas.Iterator.{YieldsList-from_slice}
use Rattle.std.proofs.lemmas.Iterator.Search.{position_from_yields_List}
use Rattle.rules.specs.declared.types.Order.{Order}
use Rattle.rules.specs.Trading.{passes}
use Rattle.book.specs.Asked.{asked}
use Rattle.book.proofs.Prices.{passes_is}
use Rattle.book.proofs.Searches.{first_by_place}
use Rattle.book.proofs.eligible.choose.Goals as goal
use Rattle.book.proofs.eligible.choose.Goals.{After-position}

-- the place found is the first at which an order passes all five conditions
found : (c : After-position) → c.position.result ≡ position (passes c.args.incoming.now (asked c.args.bests.now) c.args.own.now c.args.opp.now) c.args.opp.now
found c =
    let i = c.args.incoming.now in
    let x = asked c.args.bests.now in
    let own = c.args.own.now in
    let opp = c.args.opp.now in
    let met = λ (o : Order) (h : o.price < 2 ^ 32). passes_is i x c.prices-prices.result o c.prices-prices.ensures h own opp in
    position_from_yields_List (passes i x own opp) _ _ c.position.result c.position.ensures.ran (YieldsList-from_slice opp c.iter.ensures.rest) (λ y b q k. search (rules, met))

pub returns-in_err-place-clause-value : goal.returns-in_err-place-clause-value
returns-in_err-place-clause-value c =
    c.from_residual.ensures ∙ sym (first_by_place _ c.args.opp.now c.args.incoming.now None (sym c.in_err-place.was ∙ found (goal.at.returns-in_err-place-clause-value c).After-position))

pub returns-clause-value : goal.returns-clause-value
returns-clause-value c =
    sym (first_by_place _ c.args.opp.now _ (Some c.in_ok-place.place) (sym c.in_ok-place.was ∙ found (goal.at.returns-clause-value c).After-position))
