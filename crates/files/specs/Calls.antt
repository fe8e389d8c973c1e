-- The call that a line makes.
-- Rests on the lines of a session file and on the calls of the rules.
use Rattle.rules.specs.declared.types.Call.{Call}
use Rattle.rules.specs.declared.types.Call.TheVariants as call
use Rattle.files.specs.Lines.{Line, New, Cut, Cancel, Post}

abbrev pub call_of : Line → Call
call_of (New label side price kind shares) = call.Enter side price kind shares
call_of (Cut arrival shares) = call.Cut arrival shares
call_of (Cancel arrival) = call.Cancel arrival
call_of (Post market side price shares) = call.Post market side price shares
