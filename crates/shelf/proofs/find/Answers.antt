use Rattle.std.proofs.Common.{rules, tests, Bool, ◌∙◌, nat_eq}
use Rattle.std.proofs.lemmas.Iterator.{YieldsList-from_slice}
use Rattle.std.proofs.lemmas.Iterator.Search.{position_from_yields_List}
use Rattle.shelf.proofs.Searches.{first_found, first_missed}
use Rattle.shelf.proofs.find.Goals as goal

pub returns-in_err-place : goal.returns-in_err-place
returns-in_err-place g c =
    let p : g.row.T.Denot → Bool = λ y. nat_eq (g.T.Shelved.tagged y) c.args.tag in
    let xs = c.args.standing.now in
    let found = position_from_yields_List p _ _ c.position.result c.position.ensures.ran (YieldsList-from_slice xs cc) (λ x b q k. search (rules, tests)) in
    let m = first_missed p xs c.position.result found c.in_err-place.was in
    c.from_residual.ensures ∙ m

pub returns : goal.returns
returns g c =
    let p : g.row.T.Denot → Bool = λ y. nat_eq (g.T.Shelved.tagged y) c.args.tag in
    let xs = c.args.standing.now in
    let found = position_from_yields_List p _ _ c.position.result c.position.ensures.ran (YieldsList-from_slice xs cc) (λ x b q k. search (rules, tests)) in
    let i = c.index-standing-place.is in
    let m = first_found p xs c.position.result c.in_ok-place.place c.index-standing-place.result found c.in_ok-place.was in
    cc
