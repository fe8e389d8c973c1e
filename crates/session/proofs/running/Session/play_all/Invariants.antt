use Rattle.std.proofs.Common.{◌≡◌}
use Rattle.files.specs.Files.{lines_in}
use Rattle.session.specs.Markets.{market_of}
use Rattle.session.proofs.Playing.{Played}
use Rattle.session.proofs.running.Session.play_all.Given as goal

-- the lines so far are played and written
abbrev pub invariant-loop-index : goal.invariant-loop-index
invariant-loop-index g l =
    let quotes = g.B.Board.quotes in
    let first = l.initial.self in
    record {
      played : Played (g.R.Ranking.ranked first.book.ranking) (market_of first (quotes l.initial.board)) (market_of l.self (quotes l.board)) (lines_in l.file) l.index l.initial.page l.page;
      ranking : l.self.book.ranking ≡ first.book.ranking;
    }
