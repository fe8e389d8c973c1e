use Rattle.std.proofs.Common.{◌∙◌}
use Rattle.files.proofs.Parting.{at_end}
use Rattle.files.proofs.cursors.Fields.at_end.Goals as goal

pub returns : goal.returns
returns g c = c.then_some.ensures ∙ at_end c.args.self.body.now c.args.self.at c.args.value
