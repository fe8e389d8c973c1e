-- The tape, one entry for each call, and the reckoner: what follows from a tape alone for every order and quotation.
-- Rests on the types of orders and calls, and on what a post and a take make of the quotations.
use Rattle.std.specs.Prelude.{ℕ, suc, ◌-◌, Bool, cond, List, [], ◌∷◌, Some, None, Ok, Err, Option, Result, ◌==◌}
use Rattle.market.specs.declared.types.Refusal.{Refusal}
use Rattle.market.specs.Words.{opposite}
use Rattle.board.specs.Quotes.{Quotes, with_quote, posted}
use Rattle.rules.specs.declared.types.Order.{Order}
use Rattle.rules.specs.declared.types.Row.{Row}
use Rattle.rules.specs.declared.types.Row.TheVariants.{Fill, Route}
use Rattle.rules.specs.declared.types.Call.{Call}
use Rattle.rules.specs.declared.types.Call.TheVariants as call
use Rattle.rules.specs.declared.types.Accepted.{Accepted}
use Rattle.rules.specs.Sweeps.{less, taken}
use Rattle.rules.specs.Calls.{new_order}

-- a call with the rows of the report that was handed in, its answer and its rows, and what `open`
-- (for each number) and `light` answer just after it
pub record Entry : Type 0 where
  pub call : Call
  pub room : ℕ
  pub answer : Result Accepted Refusal
  pub rows : List Row
  pub shown : ℕ → ℕ
  pub light : Bool

-- what the reckoner has: each order under its arrival, where `open` is its remainder and `size` its
-- ranking size; the quotations; and how many entries were accepted
pub record Account : Type 0 where
  pub known : ℕ → Option Order
  pub quotes : Quotes
  pub accepted : ℕ

-- at the start: no orders, and what the board meant before the first call
abbrev pub empty_account : Quotes → Account
empty_account b = record { known = λ n. None; quotes = b; accepted = 0 }

-- a number that no order has, has remainder 0
abbrev pub remainder_of : Option Order → ℕ
remainder_of None = 0
remainder_of (Some o) = o.«open»

abbrev pub remainder : Account → ℕ → ℕ
remainder a n = remainder_of (a.known n)

-- the order of one number changed, if there is one
abbrev pub changed : (Order → Order) → Option Order → Option Order
changed f None = None
changed f (Some o) = Some (f o)

abbrev pub change : ℕ → (Order → Order) → Account → Account
change k f a = record { known = λ n. cond (k == n) (changed f (a.known n)) (a.known n); quotes = a.quotes; accepted = a.accepted }

abbrev pub with_quotes : Quotes → Account → Account
with_quotes b a = record { known = a.known; quotes = b; accepted = a.accepted }

abbrev pub added : Order → Account → Account
added i a = record { known = λ n. cond (i.arrival == n) (Some i) (a.known n); quotes = a.quotes; accepted = suc a.accepted }

-- what a route of this order takes: a quotation of its other side
abbrev pub routed : Option Order → Quotes → ℕ → ℕ → Quotes
routed None b market n = b
routed (Some i) b market n = taken b (opposite i.side) market n

-- a fill lowers the remainders of both its orders, a route its order's and the market's quotation
abbrev pub reckon_row : Row → Account → Account
reckon_row (Fill incoming resting price n) a = change resting (less n) (change incoming (less n) a)
reckon_row (Route arrival market price n) a = with_quotes (routed (a.known arrival) a.quotes market n) (change arrival (less n) a)

abbrev pub reckon_rows : List Row → Account → Account
reckon_rows [] a = a
reckon_rows (r ∷ rs) a = reckon_rows rs (reckon_row r a)

-- a cut takes c shares off the remainder and n off the ranking size
abbrev pub cut_by : ℕ → ℕ → Order → Order
cut_by n c o = record { arrival = o.arrival; side = o.side; price = o.price; kind = o.kind; size = o.size - n; «open» = o.«open» - c }

-- an accepted call; the shares answered as cancelled are taken off at the end
abbrev pub reckon_call : Call → Accepted → List Row → Account → Account
reckon_call (call.Enter side price kind shares) w rows a =
    change w.arrival (less w.cancelled) (reckon_rows rows (added (new_order w.arrival side price kind shares) a))
reckon_call (call.Cut arrival shares) w rows a = change arrival (cut_by shares w.cancelled) a
reckon_call (call.Cancel arrival) w rows a = change arrival (less w.cancelled) a
reckon_call (call.Post market side price shares) w rows a = with_quotes (with_quote a.quotes side market (posted price shares)) a

-- a refused call changes nothing
abbrev pub reckon_answer : Call → Result Accepted Refusal → List Row → Account → Account
reckon_answer c (Ok w) rows a = reckon_call c w rows a
reckon_answer c (Err e) rows a = a

abbrev pub reckon : Entry → Account → Account
reckon e = reckon_answer e.call e.answer e.rows
