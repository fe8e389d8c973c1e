use Rattle.std.proofs.Common.{rules, tests, Bool, ◌∙◌}
use Rattle.std.proofs.lemmas.Iterator.{YieldsList-from_slice}
use Rattle.std.proofs.lemmas.Iterator.Search.{position_from_yields_List}
use Rattle.shelf.proofs.Searches.{first_at_found}
use Rattle.shelf.proofs.place_for.Goals as goal

pub returns : goal.returns
returns g c =
    let p : g.row.T.Denot → Bool = λ y. g.P.Precedence.ahead c.args.order.now (g.T.Shelved.keyed c.args.x.now) (g.T.Shelved.keyed y) in
    let xs = c.args.standing.now in
    let found = position_from_yields_List p _ _ c.position.result c.position.ensures.ran (YieldsList-from_slice xs cc) (λ x b q k. search (rules, tests)) in
    c.unwrap_or.ensures ∙ first_at_found p xs c.position.result found
