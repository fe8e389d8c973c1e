use Rattle.std.proofs.Common.{zero-le}
use Rattle.files.proofs.Parting.{left_some}
use Rattle.files.proofs.cursors.Fields.of.Goals as goal

pub returns-clause-fields : goal.returns-clause-fields
returns-clause-fields c = left_some c.args.body.now 0 zero-le
