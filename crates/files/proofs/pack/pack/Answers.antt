use Rattle.files.specs.Packing.{lines_in}
use Rattle.files.proofs.Packing.{written_out}
use Rattle.files.proofs.pack.pack.Goals as goal

pub returns-clause-after : goal.returns-clause-after
returns-clause-after c =
    let m = c.measure-extent in
    let short = c.write_short.ensures in
    let contents = c.write_contents.ensures in
    let bodies = c.write_bodies.ensures in
    written_out (lines_in c.args.text.now) c.args.out.now c.write_short.new.out c.write_contents.new.out c.write_bodies.new.out
    m.result.lines m.result.bytes m.ensures.lines m.ensures.bytes
    short.stands short.behind contents.stands contents.behind bodies.stands bodies.behind
