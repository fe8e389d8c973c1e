use Rattle.std.proofs.Common.{◌≡◌}
use mathlib.Core.Path.{fun_ext}
use Rattle.board.specs.Plates.{at_market}
use Rattle.board.specs.Sides.{both_sides}
use Rattle.session.specs.Sessions.{no_quotes}
use Rattle.session.proofs.running.run_session.Goals as goal

pub returns : goal.returns
returns c =
    let empty : both_sides (at_market c.new.result.bids.quotes) (at_market c.new.result.offers.quotes) ≡ no_quotes = fun_ext (λ s. fun_ext (λ m. c.new.ensures s m)) in
    record {
      answer = rw empty at c.run.ensures.answer;
      listing = rw empty at c.run.ensures.listing;
      fair = rw empty at c.run.ensures.fair;
      short = c.run.ensures.short;
      ran = c.run.ensures.ran;
    }
