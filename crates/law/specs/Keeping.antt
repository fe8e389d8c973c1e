-- What every call keeps: shares are neither lost nor invented, and rows and sides stay within their bounds.
-- Rests on the rules of the calls, at every market that calls on a fresh book leave.
use Rattle.std.specs.Prelude.{◌≡◌, ℕ, ◌+◌, ◌≤◌, cond, List, [], ◌∷◌, length, Ok, Err, Result, ◌==◌}
use Rattle.market.specs.declared.types.Side.{Side}
use Rattle.market.specs.declared.types.Refusal.{Refusal}
use Rattle.board.specs.Quotes.{Quotes, Lawful}
use Rattle.rules.specs.declared.types.Row.{Row}
use Rattle.rules.specs.declared.types.Row.TheVariants.{Fill, Route}
use Rattle.rules.specs.declared.types.Call.{Call}
use Rattle.rules.specs.declared.types.Call.TheVariants as call
use Rattle.rules.specs.declared.types.Accepted.{Accepted}
use Rattle.rules.specs.Rankings.{Ranking, Ranks}
use Rattle.rules.specs.Calls.{Market, Outcome, terms, fresh, of_side, apply, open_shares}
use Rattle.law.specs.Law.{after}

-- a statement on a market, a call on it and its outcome, for every call of every history from a fresh book
abbrev pub AtEveryCall : (Market → Call → Outcome → Type 0) → Type 0
AtEveryCall Holds =
    (ranking : Ranking) → Ranks ranking → (b : Quotes) → Lawful b → (cs : List (Call × ℕ)) (c : Call) (room : ℕ)
    → Holds (after (terms ranking) (fresh b) cs) c (apply (terms ranking) (after (terms ranking) (fresh b) cs) c room)

-- the shares of rows, filled and routed together, and those filled of one resting order
abbrev pub traded : List Row → ℕ
traded [] = 0
traded (Fill incoming resting price shares ∷ rs) = shares + traded rs
traded (Route arrival market price shares ∷ rs) = shares + traded rs

abbrev pub filled_of : ℕ → List Row → ℕ
filled_of n [] = 0
filled_of n (Fill incoming resting price shares ∷ rs) = cond (resting == n) shares 0 + filled_of n rs
filled_of n (Route arrival market price shares ∷ rs) = filled_of n rs

-- The shares entered are open, cancelled, filled or routed; those open before a cut or a cancel are open or cancelled.
abbrev pub SharesAnswered : Market → Call → Result Accepted Refusal → List Row → Type 0
SharesAnswered m c (Err e) rows = Unit {0}
SharesAnswered m (call.Enter side price kind shares) (Ok w) rows = shares ≡ w.«open» + (w.cancelled + traded rows)
SharesAnswered m (call.Cut arrival shares) (Ok w) rows = open_shares m arrival ≡ w.«open» + w.cancelled
SharesAnswered m (call.Cancel arrival) (Ok w) rows = open_shares m arrival ≡ w.«open» + w.cancelled
SharesAnswered m (call.Post market side price shares) (Ok w) rows = Unit {0}

abbrev pub SharesKept : Type 0
SharesKept = AtEveryCall (λ m c o. SharesAnswered m c o.answer o.rows)

-- the order that a call enters or changes
abbrev pub Named : Result Accepted Refusal → ℕ → Type 0
Named (Ok w) n = w.arrival ≡ n
Named (Err e) n = ⊥

-- Of every other order exactly the shares filled leave: so no fill passes what was open of it.
abbrev pub FillsKept : Type 0
FillsKept = AtEveryCall (λ m c o. (n : ℕ) → (Named o.answer n → ⊥) → open_shares m n ≡ open_shares o.market n + filled_of n o.rows)

-- No call writes more than 144 rows, and none leaves more than 128 orders on a side.
abbrev pub RowsFit : Type 0
RowsFit = AtEveryCall (λ m c o. length o.rows ≤ 144)

abbrev pub SidesFit : Type 0
SidesFit = AtEveryCall (λ m c o. (side : Side) → length (of_side side o.market) ≤ 128)
