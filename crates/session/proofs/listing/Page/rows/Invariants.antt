use Rattle.std.proofs.Common.{take}
use Rattle.session.specs.Listing.{rows_text}
use Rattle.session.specs.Pages.{Wrote}
use Rattle.session.proofs.listing.Page.rows.Given as goal

-- the rows so far are written
abbrev pub invariant-loop-row : goal.invariant-loop-row
invariant-loop-row l = Wrote l.initial.self l.self (rows_text (take l.row-index l.rows))
