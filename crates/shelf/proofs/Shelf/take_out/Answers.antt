use Rattle.std.proofs.Common.{◌<◌, ◌≤◌, length, arith}
use Rattle.shelf.proofs.Shift.{removed_stands, removed_behind}
use Rattle.shelf.proofs.Shelf.take_out.Goals as goal

pub returns-clause-ok : goal.returns-clause-ok
returns-clause-ok g c =
    let h : c.args.at < c.args.self.now.count = omega arith in
    let l : c.args.self.now.count ≤ length c.args.self.now.cells.now = c.args.self.now.within in
    (h, omega arith, removed_stands _ _ _ _ h l c.copy_within.ensures.after, removed_behind _ _ _ _ h l c.copy_within.ensures.after)
