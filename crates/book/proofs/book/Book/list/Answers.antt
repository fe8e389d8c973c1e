use Rattle.std.proofs.Common.{◌≡◌, ◌≤◌, false, ltb, ◌++◌, map, length, take, sym, refl, ap, ◌∙◌, subst, arith}
use Rattle.std.specs.List.Sorted.{IsPermutation}
use Rattle.std.proofs.lemmas.List.{length-take-le}
use Rattle.std.proofs.lemmas.List.Sorted.{IsPermutation-refl}
use Rattle.std.proofs.lemmas.Bool.Decides.{nat_tests}
use Rattle.market.specs.declared.types.Side.TheVariants.{Buy, Sell}
use Rattle.rules.specs.Calls.{standing_row, standing_rows}
use Rattle.book.specs.Held.{held}
use Rattle.shelf.proofs.Cells.{drop_later}
use Rattle.book.proofs.book.Book.list.Goals as goal

pub returns : goal.returns
returns g c b =
    let k = c.args.self.now in
    let one = c.write_side-count in
    let two = c.write_side in
    let stand = c.in_ok-bids.ensures.value in
    let cells = c.in_ok-bids.ensures.passes in
    let written : take two.result two.new.rows ≡ standing_rows (held k c.args.bids.now c.args.offers.now b) =
    two.ensures.rows ∙ ap (λ rows. rows ++ map (standing_row Sell) c.in_ok-bids.offers.now) one.ensures.rows
    ∙ ap (λ bids. map (standing_row Buy) bids ++ map (standing_row Sell) c.in_ok-bids.offers.now) stand.0
    ∙ ap (λ offers. map (standing_row Buy) (take k.bids c.args.bids.now) ++ map (standing_row Sell) offers) stand.1 in
    let bids = ap length stand.0 ∙ length-take-le k.bids c.args.bids.now (omega (arith, k.within, cells)) in
    let offers = ap length stand.1 ∙ length-take-le k.offers c.args.offers.now (omega (arith, k.within, cells)) in
    let fits : two.result ≤ length two.new.rows = omega (arith, one.ensures.value, two.ensures.value, bids, offers, k.within) in
    let enough : ltb (length c.args.rows.now) 256 ≡ false = grind (arith, nat_tests) in
    let later = drop_later one.new.rows c.args.rows.now one.result two.result (omega (arith, two.ensures.value)) one.ensures.behind in (
      sym (length-take-le two.result two.new.rows fits) ∙ ap length written,
      subst (λ xs. IsPermutation xs (take two.result two.new.rows)) written (IsPermutation-refl (take two.result two.new.rows)),
      two.ensures.behind ∙ later,
      rw (cells.0, cells.1, enough) refl,
    )
