use Rattle.std.proofs.Common.{length}
use Rattle.book.specs.Held.{held}
use Rattle.book.proofs.Tapes.{goes_on_fairly}
use Rattle.book.proofs.book.Book.apply.Goals as goal

pub returns-clause-tape : goal.returns-clause-tape
returns-clause-tape g c =
    let k = c.args.self.now in
    goes_on_fairly (g.R.Ranking.ranked k.ranking) (g.met.R.Ranking.lawful k.ranking) (length c.args.bids.now) (length c.args.offers.now) (held k c.args.bids.now c.args.offers.now (g.B.Board.quotes c.args.board.now)) c.args.call (length c.args.report.now) _ c.make_call.ensures.outcome
