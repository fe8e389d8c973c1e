use Rattle.std.proofs.Common.{Bool, take, ap, ◌∙◌, arith}
use Rattle.std.proofs.lemmas.List.{length-take-le}
use Rattle.std.specs.List.{insert}
use Rattle.shelf.specs.Standing.{first_at}
use Rattle.shelf.proofs.Searches.{first_at_le}
use Rattle.shelf.proofs.Sorting.{inserted_first}
use Rattle.shelf.proofs.Shelf.put.Goals as goal

pub insert_at-requires : goal.insert_at-requires
insert_at-requires g c =
    let s = c.args.self.now in
    let p : g.row.T.Denot → Bool = λ y. g.P.Precedence.ahead c.args.order.now (g.T.Shelved.keyed c.args.x) (g.T.Shelved.keyed y) in
    let n = length-take-le s.count s.cells.now s.within in
    let l = first_at_le p (take s.count s.cells.now) in
    let f = ap (first_at p) c.standing.ensures in
    (omega (arith, c.place_for-at.ensures), omega arith)

pub returns-clause-ok : goal.returns-clause-ok
returns-clause-ok g c =
    let s = c.args.self.now in
    let before : g.row.T.Denot → g.row.T.Denot → Bool = λ a b. g.P.Precedence.ahead c.args.order.now (g.T.Shelved.keyed a) (g.T.Shelved.keyed b) in
    let i = inserted_first before c.args.x (take s.count s.cells.now) in
    let at = c.place_for-at.ensures ∙ ap (first_at (before c.args.x)) c.standing.ensures in
    (c.insert_at.ensures.count, c.insert_at.ensures.stands ∙ ap (λ k. insert (take s.count s.cells.now) k c.args.x) at ∙ i, c.insert_at.ensures.behind)
