use Rattle.std.proofs.Common.{◌≡◌, ◌+◌, ◌≤◌, min, max, length, take, Ok, sym, refl, ap, ◌∙◌, rules, arith}
use Rattle.std.proofs.lemmas.List.{length-take-le}
use Rattle.std.proofs.lemmas.Result.{err_from_is_err_and}
use Rattle.rules.specs.Sweeps.{with_open}
use Rattle.rules.specs.Calls.{market, terms, entered, outcome, arriving, enter}
use Rattle.book.specs.Held.{held, orders, SameBehind}
use Rattle.book.proofs.Entries.{own_count, enter_refused, enter_left, cells_pass, market_left, behind_left}
use Rattle.shelf.proofs.Cells.{drop_later}
use Rattle.book.proofs.book.Book.enter.Goals as goal
use Rattle.book.proofs.book.Book.enter.Goals.{After-answer, in-Buy, in-Sell}

pub returns-in_err-check_entry-clause-outcome : goal.returns-in_err-check_entry-clause-outcome
returns-in_err-check_entry-clause-outcome g c =
    let k = c.args.self.now in
    let b = g.B.Board.quotes c.args.board.now in
    let m = held k c.args.bids.now c.args.offers.now b in
    let cells = c.in_ok-check_cells.ensures.passes in
    let n = own_count c.args.side k.bids k.offers k.arrivals c.args.bids.now c.args.offers.now b (omega (arith, k.within, cells)) (omega (arith, k.within, cells)) in
    let f = enter_refused (terms (g.R.Ranking.ranked k.ranking)) m c.args.side c.args.price c.args.kind c.args.shares (length c.args.report.now) _ _ (n ∙ sym c.count.ensures.value) c.in_err-check_entry.ensures.value in
    let p = err_from_is_err_and c.from_residual-in_err-check_entry.result c.from_residual-in_err-check_entry.ensures.1 in
    rw (p.1, p.2) (sym f ∙ cells_pass c.args.bids.now c.args.offers.now m _ cells)

-- both shelves still hold the cells that they were made of
same_cells : (g : _) (c : After-answer g) → (c.match-side.bids.cells.ghost_name ≡ c.over-bids.result.cells.ghost_name) × (c.match-side.offers.cells.ghost_name ≡ c.over-offers.result.cells.ghost_name)
same_cells g c =
    elim c.match-side.branch [
      | in-Buy w ↦ let same = w.trade-swept.ensures.same in rw (w.bids-is, w.offers-is) same
      | in-Sell w ↦ let same = w.trade-swept-in-Sell.ensures.same in rw (w.bids-is, w.offers-is) (same.1, same.0)
    ]

pub returns-clause-outcome : goal.returns-clause-outcome
returns-clause-outcome g c =
    let k = c.args.self.now in
    let side = c.args.side in
    let b = g.B.Board.quotes c.args.board.now in
    let m = held k c.args.bids.now c.args.offers.now b in
    let r = terms (g.R.Ranking.ranked k.ranking) in
    let room = length c.args.report.now in
    let cells = c.in_ok-check_cells.ensures.passes in
    let entry = c.in_ok-check_entry.ensures in
    let n = own_count side k.bids k.offers k.arrivals c.args.bids.now c.args.offers.now b (omega (arith, k.within, cells)) (omega (arith, k.within, cells)) ∙ sym c.count.ensures.value in
    let i = arriving m side c.args.price c.args.kind c.args.shares in
    let t = c.match-side.swept in
    let enough-b : min k.bids (length c.args.bids.now) ≡ k.bids = omega (arith, k.within, cells) in
    let enough-o : min k.offers (length c.args.offers.now) ≡ k.offers = omega (arith, k.within, cells) in
    let bids : orders c.over-bids.result ≡ take k.bids c.args.bids.now = rw (c.over-bids.ensures.count, c.over-bids.ensures.cells, enough-b) refl in
    let offers : orders c.over-offers.result ≡ take k.offers c.args.offers.now = rw (c.over-offers.ensures.count, c.over-offers.ensures.cells, enough-o) refl in
    let left : outcome (Ok (entered (with_open t.«open» i) t.rows)) (take t.rows c.match-side.report) (market (orders c.match-side.bids) (orders c.match-side.offers) (g.B.Board.quotes c.match-side.board) (k.arrivals + 1)) ≡ enter r m side c.args.price c.args.kind c.args.shares room =
    elim c.match-side.branch [
      | in-Buy w ↦
          let u = w.trade-swept in
          let rows : u.result.rows ≤ length u.new.report = omega (arith, u.ensures.rows.0, entry.passes.0) in
          rw (w.swept-is, w.bids-is, w.offers-is, w.board-is, w.report-is)
          (enter_left r m side c.args.price c.args.kind c.args.shares room
          c.count.result u.result.rows u.result.«open» (take u.result.rows u.new.report) (orders c.over-bids.result) (orders c.over-offers.result) (orders u.new.own) (orders u.new.opp) (g.B.Board.quotes u.new.board) _
          (rw w.in-Buy.is bids) (rw w.in-Buy.is offers) (rw w.in-Buy.is refl)
          n entry.value (length-take-le u.result.rows u.new.report rows) u.ensures.swept u.ensures.own)
      | in-Sell w ↦
          let u = w.trade-swept-in-Sell in
          let rows : u.result.rows ≤ length u.new.report = omega (arith, u.ensures.rows.0, entry.passes.0) in
          rw (w.swept-is, w.bids-is, w.offers-is, w.board-is, w.report-is)
          (enter_left r m side c.args.price c.args.kind c.args.shares room
          c.count.result u.result.rows u.result.«open» (take u.result.rows u.new.report) (orders c.over-offers.result) (orders c.over-bids.result) (orders u.new.own) (orders u.new.opp) (g.B.Board.quotes u.new.board) _
          (rw w.in-Sell.is offers) (rw w.in-Sell.is bids) (rw w.in-Sell.is refl)
          n entry.value (length-take-le u.result.rows u.new.report rows) u.ensures.swept u.ensures.own)
    ] in
    let w = c.answer.ensures ∙ ap (λ o. entered o t.rows) c.with_open.ensures in
    let same = same_cells g c in
    rw w (ap (outcome _ _) (market_left _ _ c.match-side.bids c.match-side.offers _ _ _ _ (search rules) (search rules) (search (rules, same.0)) (search (rules, same.1))) ∙ left ∙ cells_pass c.args.bids.now c.args.offers.now m _ cells)

pub returns-clause-cells : goal.returns-clause-cells
returns-clause-cells g c =
    let k = c.args.self.now in
    let cells = c.in_ok-check_cells.ensures.passes in
    let same = same_cells g c in
    let bids : c.over-bids.result.count ≤ k.bids = omega (arith, c.over-bids.ensures.count) in
    let offers : c.over-offers.result.count ≤ k.offers = omega (arith, c.over-offers.ensures.count) in
    let left : SameBehind k.bids c.match-side.bids.count c.over-bids.result.cells.now c.match-side.bids.cells.now × SameBehind k.offers c.match-side.offers.count c.over-offers.result.cells.now c.match-side.offers.cells.now =
    elim c.match-side.branch [
      | in-Buy w ↦
          let u = w.trade-swept in
          let own = drop_later u.new.own.cells.now c.over-bids.result.cells.now u.new.own.count (max k.bids u.new.own.count) (omega arith) u.ensures.behind.1 in
          let opp = drop_later u.new.opp.cells.now c.over-offers.result.cells.now c.over-offers.result.count (max k.offers u.new.opp.count) (omega arith) u.ensures.behind.0.1 in
          rw (w.bids-is, w.offers-is) (own, opp)
      | in-Sell w ↦
          let u = w.trade-swept-in-Sell in
          let own = drop_later u.new.own.cells.now c.over-offers.result.cells.now u.new.own.count (max k.offers u.new.own.count) (omega arith) u.ensures.behind.1 in
          let opp = drop_later u.new.opp.cells.now c.over-bids.result.cells.now c.over-bids.result.count (max k.bids u.new.opp.count) (omega arith) u.ensures.behind.0.1 in
          rw (w.bids-is, w.offers-is) (opp, own)
    ] in (
      refl,
      behind_left _ _ c.match-side.bids k.bids _ (search rules) (search (rules, same.0)) (rw c.over-bids.ensures.cells at left.0),
      behind_left _ _ c.match-side.offers k.offers _ (search rules) (search (rules, same.1)) (rw c.over-offers.ensures.cells at left.1),
    )
