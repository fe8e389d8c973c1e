use Rattle.std.proofs.Common.{take}
use Rattle.session.specs.Pages.{Wrote}
use Rattle.session.proofs.listing.Page.text.Given as goal

-- the bytes so far are written
abbrev pub invariant-loop-b : goal.invariant-loop-b
invariant-loop-b l = Wrote l.initial.self l.self (take l.b-index l.text)
