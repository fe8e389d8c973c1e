use Rattle.std.proofs.Common.{◌≡◌, Some, sym, ap, ◌∙◌, arith}
use Rattle.shelf.specs.Standing.{nth}
use Rattle.files.specs.Lines.{line_of, line_in}
use Rattle.files.specs.Files.{lines_in}
use Rattle.session.proofs.Playing.{room_left, played_more, body_there}
use Rattle.session.proofs.running.Session.play_all.Goals as goal

pub unwrap-body-requires : goal.unwrap-body-requires
unwrap-body-requires g c =
    let lines = lines_in c.args.file.now in
    body_there c.body_at.result lines c.loop-index.index (omega (arith, c.requires.read.1)) (c.body_at.ensures.read lines c.requires.read.0)

pub play-requires : goal.play-requires
play-requires g c =
    let lines = lines_in c.args.file.now in
    let line = line_of c.unwrap-body.result in
    let l = c.loop-index in
    let here : nth l.index lines ≡ Some line = sym (c.body_at.ensures.read lines c.requires.read.0) ∙ ap line_in c.unwrap-body.ensures in
    rw l.invariant.ranking (room_left l.invariant.played line here c.requires.room)

pub loop-index-preserved : goal.loop-index-preserved
loop-index-preserved g c =
    let lines = lines_in c.args.file.now in
    let line = line_of c.unwrap-body.result in
    let l = c.loop-index in
    let p = c.play.ensures in
    let here : nth l.index lines ≡ Some line = sym (c.body_at.ensures.read lines c.requires.read.0) ∙ ap line_in c.unwrap-body.ensures in
    record {
      played = played_more l.invariant.played line here (rw l.invariant.ranking at p.wrote) (rw l.invariant.ranking at p.market);
      ranking = p.ranking ∙ l.invariant.ranking;
    }
