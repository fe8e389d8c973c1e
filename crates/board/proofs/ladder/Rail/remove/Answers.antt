use Rattle.std.proofs.Common.{length, sym, ap, arith}
use Rattle.board.specs.Ladders.{of_market}
use Rattle.shelf.proofs.Searches.{found_place}
use Rattle.board.specs.LaddersLemmas.{lost_without, taken_out, ok_without}
use Rattle.board.proofs.ladder.Rail.remove.Goals as goal

pub take_out-requires : goal.take_out-requires
take_out-requires c =
    let p = found_place (of_market c.args.market) c.as_slice.result.now 0 c.in-Some.found (sym c.in-Some.ensures) in
    let e = ap length c.as_slice.ensures in
    omega (arith, p.0, p.1)

pub invariant_of-self : goal.invariant_of-self
invariant_of-self c =
    let s = c.args.self.now in
    record { sound = ok_without s.order.side c.args.market _ _ s.sound (taken_out c.args.market _ c.as_slice.result.now _ c.in-Some.found c.in-Some.ensures c.as_slice.ensures c.take_out.ensures) }

pub returns-in-Some-clause-stands : goal.returns-in-Some-clause-stands
returns-in-Some-clause-stands c = taken_out c.args.market _ c.as_slice.result.now _ c.in-Some.found c.in-Some.ensures c.as_slice.ensures c.take_out.ensures

pub returns-in_default-clause-stands : goal.returns-in_default-clause-stands
returns-in_default-clause-stands c =
    let e = lost_without c.args.market c.as_slice.result.now 0 (sym c.in_default.ensures) in
    rw c.as_slice.ensures at e
