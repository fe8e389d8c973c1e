use Rattle.std.proofs.Common.{◌≡◌, length, subst, arith}
use Rattle.rules.specs.Calls.{outcome, rows_in}
use Rattle.book.specs.Held.{held}
use Rattle.files.specs.Lines.{line_of}
use Rattle.session.specs.Markets.{market_of, outcome_of}
use Rattle.session.specs.Pages.{Wrote}
use Rattle.session.proofs.Writing.{wrote_then}
use Rattle.session.proofs.Playing.{rows_there, entry_is}
use Rattle.session.proofs.running.Session.play.Goals as goal

pub rows_of-requires : goal.rows_of-requires
rows_of-requires g c =
    let quotes = g.B.Board.quotes in
    let old = c.args.self.now in
    let a = c.apply-answer in
    let n = held a.new.self a.new.bids a.new.offers (quotes a.new.board) in
    let handed : (length old.bids ≡ 128) × (length old.offers ≡ 128) × (length old.report ≡ 144) = (omega arith, omega arith, omega arith) in
    let gave : outcome a.result (rows_in a.result a.new.report) n ≡ outcome_of (g.R.Ranking.ranked old.book.ranking) (market_of old (quotes c.args.board.now)) (line_of c.args.body.now) = rw (handed.0, handed.1, handed.2, c.from.ensures) at a.ensures.outcome in
    rows_there _ _ n _ a.result a.new.report gave

pub returns-clause-wrote : goal.returns-clause-wrote
returns-clause-wrote g c =
    let quotes = g.B.Board.quotes in
    let old = c.args.self.now in
    let a = c.apply-answer in
    let n = held a.new.self a.new.bids a.new.offers (quotes a.new.board) in
    let handed : (length old.bids ≡ 128) × (length old.offers ≡ 128) × (length old.report ≡ 144) = (omega arith, omega arith, omega arith) in
    let gave : outcome a.result (rows_in a.result a.new.report) n ≡ outcome_of (g.R.Ranking.ranked old.book.ranking) (market_of old (quotes c.args.board.now)) (line_of c.args.body.now) = rw (handed.0, handed.1, handed.2, c.from.ensures) at a.ensures.outcome in
    subst (Wrote c.args.page.now c.rows.new.self) (entry_is (line_of c.args.body.now) c.label_of.ensures c.rows_of.ensures gave) (wrote_then c.answer.ensures c.rows.ensures)
