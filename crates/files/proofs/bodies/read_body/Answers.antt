use Rattle.std.proofs.Common.{rules}
use Rattle.files.specs.Lines.{read_line}
use Rattle.files.proofs.bodies.read_body.Goals as goal

-- close to the limits of the search that the check makes by itself
pub returns-in-New : goal.returns-in-New
unfolding read_line
returns-in-New c = search rules
