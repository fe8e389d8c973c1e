use Rattle.std.proofs.Common.{arith}
use Rattle.session.specs.Listing.{refusal_text}
use Rattle.session.specs.Pages.{Wrote}
use Rattle.session.proofs.Lengths.{figure_fits}
use Rattle.session.proofs.Writing.{wrote_then}
use Rattle.session.proofs.listing.Page.refusal.Goals as goal

pub returns : goal.returns
returns c =
    let wrote : Wrote c.args.self.now c.byte.new.self (refusal_text c.args.refusal) =
    rw (← c.number.ensures, ← c.index.ensures, ← c.place.ensures)
    (wrote_then c.text.ensures (wrote_then c.figure.ensures (wrote_then c.figure-2.ensures (wrote_then c.figure-3.ensures c.byte.ensures)))) in
    let number = figure_fits c.number.result (omega arith) in
    let index = figure_fits c.index.result (omega arith) in
    let place = figure_fits c.place.result (omega arith) in
    record { wrote = wrote; short = omega arith }
