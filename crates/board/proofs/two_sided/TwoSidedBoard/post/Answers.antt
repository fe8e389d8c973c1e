use Rattle.board.specs.Quotes.{post_answer, posted}
use Rattle.board.proofs.Answers.{answered_ok}
use Rattle.board.proofs.two_sided.TwoSidedBoard.post.Goals as goal

pub returns-clause-after : goal.returns-clause-after
returns-clause-after g c =
    let a = answered_ok (post_answer c.args.market c.args.price c.args.shares) (posted c.args.price c.args.shares) c.in_ok-quote.quote c.in_ok-quote.ensures.value in
    rw a.1 at c.set.ensures
