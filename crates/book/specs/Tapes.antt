-- What one call adds to the tape of the calls before it.
-- Rests on the law of the tape.
use Rattle.std.specs.Prelude.{◌≡◌, ℕ, List, [], ◌∷◌, ◌++◌}
use Rattle.board.specs.Quotes.{Quotes}
use Rattle.rules.specs.declared.types.Call.{Call}
use Rattle.rules.specs.Rankings.{Ranking}
use Rattle.rules.specs.Calls.{Market, Outcome, terms, fresh}
use Rattle.law.specs.Law.{Upholds, after}

-- Whatever calls led from a fresh book to the market m, their tape with the entry of this call
-- passes the judge, and the market after it is what those calls and this one leave.
pub record GoesOnFairly (ranking : Ranking) (m : Market) (call : Call) (room : ℕ) (gave : Outcome) : Type 0 where
  pub fair : Upholds ranking m call room gave
  pub leaves : (start : Quotes) (calls : List (Call × ℕ)) → after (terms ranking) (fresh start) calls ≡ m → gave.market ≡ after (terms ranking) (fresh start) (calls ++ (call, room) ∷ [])
