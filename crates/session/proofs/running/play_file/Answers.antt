use Rattle.std.proofs.Common.{◌≡◌, rules, ap, ◌∙◌, arith}
use Rattle.std.proofs.lemmas.Bool.Decides.{nat_tests}
use Rattle.rules.specs.Calls.{lit}
use Rattle.files.proofs.Laws.{bytes_of}
use Rattle.session.specs.Sessions.{no_quotes}
use Rattle.session.specs.Markets.{market_of}
use Rattle.session.proofs.Sessions.{begun, lines_room, light_room, done}
use Rattle.session.proofs.running.play_file.Goals as goal

pub play_all-requires : goal.play_all-requires
play_all-requires g c =
    let made = rw c.unwrap.ensures at c.make.ensures in
    let s = begun (g.met.R.Ranking.lawful c.args.ranking) (g.met.B.Board.lawful c.args.board.now) (ap g.R.Ranking.ranked made.1) (made.2 _) (bytes_of c.args.file.now c.type_inv.file) c.requires.read in
    let page = c.new-page.ensures in
    record { read = s.read; room = lines_room s c.new-page.result page.written _ page.bytes c.requires.room }

pub unwrap-lit-requires : goal.unwrap-lit-requires
unwrap-lit-requires g c = let e = c.light.ensures no_quotes in grind (arith, nat_tests)

pub light-requires-2 : goal.light-requires-2
light-requires-2 g c =
    let made = rw c.unwrap.ensures at c.make.ensures in
    let s = begun (g.met.R.Ranking.lawful c.args.ranking) (g.met.B.Board.lawful c.args.board.now) (ap g.R.Ranking.ranked made.1) (made.2 _) (bytes_of c.args.file.now c.type_inv.file) c.requires.read in
    let page = c.new-page.ensures in
    light_room s c.new-page.result page.written _ page.bytes c.requires.room c.unwrap-lit.result c.play_all.ensures.wrote

pub returns : goal.returns
returns g c =
    let made = rw c.unwrap.ensures at c.make.ensures in
    let s = begun (g.met.R.Ranking.lawful c.args.ranking) (g.met.B.Board.lawful c.args.board.now) (ap g.R.Ranking.ranked made.1) (made.2 _) (bytes_of c.args.file.now c.type_inv.file) c.requires.read in
    let page = c.new-page.ensures in
    let p = c.play_all in
    let m = market_of p.new.self (g.B.Board.quotes p.new.board) in
    let shown = c.light.ensures (g.B.Board.quotes p.new.board) in
    let unwrapped = c.unwrap-lit.ensures in
    let is_lit : c.unwrap-lit.result ≡ lit m = grind (arith, nat_tests) in
    let d = done s c.new-page.result page.written _ page.bytes c.requires.room p.ensures.wrote p.ensures.market is_lit c.light-2.ensures in
    let same_bytes = c.light-2.ensures.same_bytes ∙ p.ensures.wrote.same_bytes ∙ page.same_bytes in
    let listing = d.listing in
    let ran = d.ran in
    record { answer = d.answer; listing = search rules; board = d.board; fair = d.fair; short = d.short; ran = search rules }
