use Rattle.std.proofs.Common.{[], length, Ok, ap, ◌∙◌}
use Rattle.std.proofs.lemmas.Result.{err_from_is_err_and}
use Rattle.rules.specs.Calls.{outcome, accepted, cells_refusal}
use Rattle.book.specs.Held.{held}
use Rattle.book.proofs.Entries.{cells_pass}
use Rattle.book.proofs.Changes.{cancel_back, cancel_done}
use Rattle.book.proofs.book.Book.cancel.Goals as goal

pub returns-in_err-at-clause-outcome : goal.returns-in_err-at-clause-outcome
returns-in_err-at-clause-outcome g c = λ b.
    let m = held c.args.self.now c.args.bids.now c.args.offers.now b in
    let p = err_from_is_err_and c.from_residual.result c.from_residual.ensures.1 in
    rw (p.1, p.2) (cancel_back m c.args.arrival (cells_refusal (length c.args.bids.now) (length c.args.offers.now)) _ (c.in_err-at.ensures.refusal b))

pub returns-clause-outcome : goal.returns-clause-outcome
returns-clause-outcome g c = λ b.
    let m = held c.args.self.now c.args.bids.now c.args.offers.now b in
    let at = c.in_ok-at.at in
    let found = c.in_ok-at.ensures in
    ap (λ a. outcome (Ok a) [] (held c.take_off.new.self c.take_off.new.bids c.take_off.new.offers b)) c.gone.ensures
    ∙ ap (outcome (Ok (accepted at.order.arrival 0 at.order.«open» 0)) []) (c.take_off.ensures.market b)
    ∙ cancel_done m c.args.arrival at (found.value b)
    ∙ cells_pass c.args.bids.now c.args.offers.now m _ found.passes.0
