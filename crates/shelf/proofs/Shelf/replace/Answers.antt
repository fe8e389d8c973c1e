use Rattle.std.proofs.Common.{◌<◌, arith}
use Rattle.std.proofs.lemmas.List.{drop-set-lt}
use Rattle.std.proofs.Math.Seq.{take-set-lt}
use Rattle.shelf.proofs.Shelf.replace.Goals as goal

pub returns-clause-ok : goal.returns-clause-ok
returns-clause-ok g c =
    let h : c.args.at < c.args.self.now.count = omega arith in
    (h, take-set-lt _ _ _ _ h, drop-set-lt _ _ _ _ h)
