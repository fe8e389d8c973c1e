use Rattle.std.proofs.Common.{◌∙◌}
use Rattle.std.proofs.lemmas.Result.{err_from_is_err_and}
use Rattle.book.specs.Held.{held}
use Rattle.book.proofs.Entries.{cells_pass}
use Rattle.book.proofs.Changes.{post_by}
use Rattle.book.proofs.book.Book.post.Goals as goal

pub returns-in_err-post-clause-outcome : goal.returns-in_err-post-clause-outcome
returns-in_err-post-clause-outcome g c =
    let m = held c.args.self.now c.args.bids.now c.args.offers.now (g.B.Board.quotes c.args.board.now) in
    let cells = c.in_ok-check_cells.ensures.passes in
    let p = err_from_is_err_and c.from_residual-in_err-post.result c.from_residual-in_err-post.ensures.1 in
    rw (p.1, p.2) (post_by m c.args.market c.args.side c.args.price c.args.shares _ _ c.in_err-post.ensures.answer c.in_err-post.ensures.after ∙ cells_pass c.args.bids.now c.args.offers.now m _ cells)

pub returns-clause-outcome : goal.returns-clause-outcome
returns-clause-outcome g c =
    let m = held c.args.self.now c.args.bids.now c.args.offers.now (g.B.Board.quotes c.args.board.now) in
    let cells = c.in_ok-check_cells.ensures.passes in
    post_by m c.args.market c.args.side c.args.price c.args.shares _ _ c.in_ok-post.ensures.answer c.in_ok-post.ensures.after ∙ cells_pass c.args.bids.now c.args.offers.now m _ cells
