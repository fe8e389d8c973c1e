use Rattle.std.proofs.Common.{◌≡◌, None, Option, rules}
use Rattle.files.specs.Lines.{Line, line_in}
use Rattle.files.specs.Files.{line_at}
use Rattle.files.proofs.Laws.{line_written, line_read, bytes_of}
use Rattle.files.proofs.reading.body_at.Goals as goal

pub returns-then-index-from : goal.returns-then-index-from
returns-then-index-from c =
    let f = c.args.file.now in
    let v : ◌≡◌ {A = Option Line} None (line_at f c.args.index) = search rules in
    record { value = v; written = line_written f c.args.index None v; read = line_read f c.args.index None (bytes_of f c.type_inv.file) v }

pub returns : goal.returns
returns c =
    let f = c.args.file.now in
    let v : line_in c.read_body.result ≡ line_at f c.args.index = search rules in
    record { value = v; written = line_written f c.args.index (line_in c.read_body.result) v; read = line_read f c.args.index (line_in c.read_body.result) (bytes_of f c.type_inv.file) v }
