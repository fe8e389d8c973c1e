use Rattle.std.proofs.Common.{◌≡◌, ◌-◌, true, false, ◌||◌, eqb, ltb, [], length, Ok, ap, ◌∙◌, arith}
use Rattle.std.proofs.lemmas.Bool.Decides.{nat_tests}
use Rattle.std.proofs.lemmas.Result.{err_from_is_err_and}
use Rattle.rules.specs.declared.types.Order.{Order}
use Rattle.rules.specs.Calls.{outcome, terms, put_on, accepted, moved, cut_down, cells_refusal}
use Rattle.book.specs.Held.{held}
use Rattle.book.proofs.Entries.{cells_pass}
use Rattle.book.proofs.Changes.{cut_back, cut_refused, cut_leaves, cut_stays, behind_twice}
use Rattle.book.proofs.book.Book.cut.Goals as goal

pub returns-in_err-at-clause-outcome : goal.returns-in_err-at-clause-outcome
returns-in_err-at-clause-outcome g c = λ b.
    let k = c.args.self.now in
    let m = held k c.args.bids.now c.args.offers.now b in
    let p = err_from_is_err_and c.from_residual.result c.from_residual.ensures.1 in
    rw (p.1, p.2) (cut_back (terms (g.R.Ranking.ranked k.ranking)) m c.args.arrival c.args.shares (cells_refusal (length c.args.bids.now) (length c.args.offers.now)) _ (c.in_err-at.ensures.refusal b))

pub returns-then-shares-eq0-clause-outcome : goal.returns-then-shares-eq0-clause-outcome
returns-then-shares-eq0-clause-outcome g c = λ b.
    let k = c.args.self.now in
    let m = held k c.args.bids.now c.args.offers.now b in
    let found = c.in_ok-at.ensures in
    let o = c.then-shares-eq0.either in
    let r : (eqb c.args.shares 0 || ltb c.in_ok-at.at.order.«open» c.args.shares) ≡ true = grind (arith, nat_tests) in
    cut_refused (terms (g.R.Ranking.ranked k.ranking)) m c.args.arrival c.args.shares c.in_ok-at.at (found.value b) r
    ∙ cells_pass c.args.bids.now c.args.offers.now m _ found.passes.0

pub returns-then-leaves-clause-outcome : goal.returns-then-leaves-clause-outcome
returns-then-leaves-clause-outcome g c = λ b.
    let k = c.args.self.now in
    let m = held k c.args.bids.now c.args.offers.now b in
    let at = c.in_ok-at.at in
    let found = c.in_ok-at.ensures in
    let r : (eqb c.args.shares 0 || ltb at.order.«open» c.args.shares) ≡ false = grind (arith, nat_tests) in
    ap (λ a. outcome (Ok a) [] (held c.take_off.new.self c.take_off.new.bids c.take_off.new.offers b)) c.gone.ensures
    ∙ ap (outcome (Ok (accepted at.order.arrival 0 at.order.«open» 0)) []) (c.take_off.ensures.market b)
    ∙ cut_leaves (terms (g.R.Ranking.ranked k.ranking)) m c.args.arrival c.args.shares at (found.value b) r c.if-leaves.ensures
    ∙ cells_pass c.args.bids.now c.args.offers.now m _ found.passes.0

pub returns-clause-outcome : goal.returns-clause-outcome
returns-clause-outcome g c = λ b.
    let k = c.args.self.now in
    let r = g.R.Ranking.ranked in
    let m = held k c.args.bids.now c.args.offers.now b in
    let l = c.in_ok-at.at in
    let found = c.in_ok-at.ensures in
    let n = c.args.shares in
    let p : (eqb n 0 || ltb l.order.«open» n) ≡ false = grind (arith, nat_tests) in
    let t = c.take_off.ensures in
    let down = c.cut_down-left.ensures in
    let off = held c.take_off.new.self c.take_off.new.bids c.take_off.new.offers b in
    let same : held c.put_on.new.self c.put_on.new.bids c.put_on.new.offers b ≡ moved (terms (r k.ranking)) m l n =
    c.put_on.ensures.market b ∙ ap (λ x. put_on (r x) l.side c.cut_down-left.result off) t.ranking
    ∙ ap (λ o. put_on (r k.ranking) l.side o off) down
    ∙ ap (put_on (r k.ranking) l.side (cut_down n l.order)) (t.market b) in
    ap (λ (o : Order). outcome (Ok (accepted o.arrival o.«open» n 0)) [] (held c.put_on.new.self c.put_on.new.bids c.put_on.new.offers b)) down
    ∙ ap (outcome (Ok (accepted l.order.arrival (l.order.«open» - n) n 0)) []) same
    ∙ cut_stays (terms (r k.ranking)) m c.args.arrival n l (found.value b) p c.if-leaves.ensures
    ∙ cells_pass c.args.bids.now c.args.offers.now m _ found.passes.0

pub returns-clause-cells : goal.returns-clause-cells
returns-clause-cells g c =
    let k = c.args.self.now in
    let t = c.take_off.ensures in
    let u = c.put_on.ensures in (
      u.ranking ∙ t.ranking,
      behind_twice c.args.bids.now c.take_off.new.bids c.put_on.new.bids k.bids c.take_off.new.self.bids c.put_on.new.self.bids t.fewer.0 t.bids u.bids,
      behind_twice c.args.offers.now c.take_off.new.offers c.put_on.new.offers k.offers c.take_off.new.self.offers c.put_on.new.self.offers t.fewer.1 t.offers u.offers,
    )
