-- The calls as functions from a market and arguments to an answer, rows and the market after.
-- Rests on the sweep and on the order of a side.
use Rattle.std.specs.Prelude.{◌≡◌, ℕ, ◌+◌, ◌-◌, Bool, true, false, cond, not, ◌&&◌, ◌||◌, List, [], ◌∷◌, ◌++◌, map, length, take, drop, Some, None, Ok, Err, Option, Result, ◌==◌, nat_eq, nat_le, nat_lt}
use Rattle.std.specs.List.{remove}
use Rattle.market.specs.declared.types.Side.{Side}
use Rattle.market.specs.declared.types.Side.TheVariants.{Buy, Sell}
use Rattle.market.specs.declared.types.Refusal.{Refusal}
use Rattle.market.specs.declared.types.Refusal.TheVariants.{Price, Shares, SmallOlo, SmallIlo, LargeMtv, SideFull, ArrivalsSpent, ShortReport, NotResting, CutShares, SideCells}
use Rattle.market.specs.Words.{in_range, opposite}
use Rattle.market.specs.Refusals.{number_of}
use Rattle.shelf.specs.declared.types.Placed.{Placed}
use Rattle.shelf.specs.Standing.{first, put_in}
use Rattle.board.specs.Quotes.{Quotes, post_answer, posted, with_quote, if_ok}
use Rattle.rules.specs.declared.types.Kind.{Kind}
use Rattle.rules.specs.declared.types.Order.{Order}
use Rattle.rules.specs.declared.types.Located.{Located}
use Rattle.rules.specs.declared.types.Row.{Row}
use Rattle.rules.specs.declared.types.Call.{Call}
use Rattle.rules.specs.declared.types.Call.TheVariants as call
use Rattle.rules.specs.declared.types.Accepted.{Accepted}
use Rattle.rules.specs.declared.types.Standing.{Standing}
use Rattle.rules.specs.Orders.{mtv_of, is_olo, is_ilo, program, cancels, too_small}
use Rattle.rules.specs.Rankings.{Ranking, before}
use Rattle.rules.specs.Sweeps.{Swept, standing, measured_sweep}

-- a market: both sides, first to last, the away quotations, and how many entries were accepted
pub record Market : Type 0 where
  pub bids : List Order
  pub offers : List Order
  pub quotes : Quotes
  pub arrivals : ℕ

abbrev pub market : List Order → List Order → Quotes → ℕ → Market
market bids offers b n = record { bids = bids; offers = offers; quotes = b; arrivals = n }

-- a fresh book over these quotations: nothing rests, and no entry was accepted
abbrev pub fresh : Quotes → Market
fresh b = market [] [] b 0

-- what a book was made with
pub record Terms : Type 0 where
  pub ranking : Ranking

abbrev pub terms : Ranking → Terms
terms r = record { ranking = r }

-- the orders of a side, and a market with that side exchanged
abbrev pub of_side : Side → Market → List Order
of_side Buy m = m.bids
of_side Sell m = m.offers

abbrev pub with_side : Side → List Order → Market → Market
with_side Buy os m = market os m.offers m.quotes m.arrivals
with_side Sell os m = market m.bids os m.quotes m.arrivals

-- a market by the side of an entry and the other one
abbrev pub by_sides : Side → List Order → List Order → Quotes → ℕ → Market
by_sides Buy own opp b n = market own opp b n
by_sides Sell own opp b n = market opp own b n

-- a call's answer, its rows and the market after it
pub record Outcome : Type 0 where
  pub answer : Result Accepted Refusal
  pub rows : List Row
  pub market : Market

abbrev pub outcome : Result Accepted Refusal → List Row → Market → Outcome
outcome r rs m = record { answer = r; rows = rs; market = m }

-- the figures that belong to an answer; a refusal has its number and zeros
pub record Figures : Type 0 where
  pub number : ℕ
  pub arrival : ℕ
  pub «open» : ℕ
  pub cancelled : ℕ
  pub rows : ℕ

abbrev pub figures : Result Accepted Refusal → Figures
figures (Ok a) = record { number = 0; arrival = a.arrival; «open» = a.«open»; cancelled = a.cancelled; rows = a.rows }
figures (Err e) = record { number = number_of e; arrival = 0; «open» = 0; cancelled = 0; rows = 0 }

abbrev pub accepted : ℕ → ℕ → ℕ → ℕ → Accepted
accepted arrival left cancelled rows = record { arrival = arrival; «open» = left; cancelled = cancelled; rows = rows }

-- the first case that holds, in the order in which they are looked at
abbrev pub first_case : List (Refusal × Bool) → Option Refusal
first_case [] = None
first_case (c ∷ cs) = cond c.1 (Some c.0) (first_case cs)

-- a refused call leaves the market as it was and writes no row
abbrev pub decided : Option Refusal → Market → Outcome → Outcome
decided None m o = o
decided (Some e) m o = outcome (Err e) [] m

-- before all else: each side handed in has 128 cells
abbrev pub cells_ok : ℕ → ℕ → Bool
cells_ok bids offers = bids == 128 && offers == 128

abbrev pub cells_refusal : ℕ → ℕ → Option Refusal
cells_refusal bids offers = cond (cells_ok bids offers) None (Some SideCells)

-- Enter.
abbrev pub new_order : ℕ → Side → ℕ → Kind → ℕ → Order
new_order arrival side price kind shares =
    record { arrival = arrival; side = side; price = price; kind = kind; size = shares; «open» = shares }

abbrev pub arriving : Market → Side → ℕ → Kind → ℕ → Order
arriving m side price kind shares = new_order (m.arrivals + 1) side price kind shares

-- count is how many rest on the entry's side, room the rows of the report
unfoldable pub enter_refusal : Order → ℕ → ℕ → ℕ → Option Refusal
enter_refusal i arrivals count room =
    first_case (
    (ShortReport, nat_lt room 144)
    ∷ (Price, not (in_range i.price))
    ∷ (Shares, not (in_range i.size))
    ∷ (SmallOlo, is_olo i.kind && too_small i.kind i.price i.size)
    ∷ (SmallIlo, is_ilo i.kind && too_small i.kind i.price i.size)
    ∷ (LargeMtv, nat_lt i.size (mtv_of i.kind))
    ∷ (ArrivalsSpent, nat_le 1000000 arrivals)
    ∷ (SideFull, not (cancels i.kind) && nat_le 128 count)
    ∷ [])

-- the residue rests, or it is cancelled, or nothing is left
abbrev pub rests : Order → Bool
rests i = not (i.«open» == 0) && not (cancels i.kind)

abbrev pub own_after : Ranking → Order → List Order → List Order
own_after ranking i own = cond (rests i) (put_in (before ranking i.side) i own) own

-- what an entry answers, where i is what the sweep left of it
abbrev pub entered : Order → ℕ → Accepted
entered i rows = accepted i.arrival (cond (cancels i.kind) 0 i.«open») (cond (cancels i.kind) i.«open» 0) rows

abbrev pub settled : Terms → Swept → Outcome
settled t w =
    let s = w.stand in
    outcome (Ok (entered s.incoming (length w.rows))) w.rows
    (by_sides s.incoming.side (own_after t.ranking s.incoming s.own) s.opp s.quotes s.incoming.arrival)

unfoldable pub enter : Terms → Market → Side → ℕ → Kind → ℕ → ℕ → Outcome
enter t m side price kind shares room =
    let i = arriving m side price kind shares in
    decided (enter_refusal i m.arrivals (length (of_side side m)) room) m
    (settled t (measured_sweep (standing i (of_side side m) (of_side (opposite side) m) m.quotes)))

-- The resting order of an arrival, with its side and place.
abbrev pub on_side : Side → Option (Placed Order) → Option Located
on_side side None = None
on_side side (Some c) = Some (record { side = side; place = c.place; order = c.item })

abbrev pub or_else : {A : Type 0} → Option A → Option A → Option A
or_else None y = y
or_else (Some x) y = Some x

abbrev pub of_arrival : ℕ → List Order → Option (Placed Order)
of_arrival k os = first (λ o. nat_eq o.arrival k) os 0

abbrev pub located : ℕ → List Order → List Order → Option Located
located k bids offers = or_else (on_side Buy (of_arrival k bids)) (on_side Sell (of_arrival k offers))

abbrev pub at_rest : ℕ → Market → Option Located
at_rest k m = located k m.bids m.offers

-- Open: an order's open shares, 0 if it does not rest.
abbrev pub open_of : Option Located → ℕ
open_of None = 0
open_of (Some l) = l.order.«open»

abbrev pub open_shares : Market → ℕ → ℕ
open_shares m k = open_of (at_rest k m)

-- Cancel and cut.
abbrev pub is_none : {A : Type 0} → Option A → Bool
is_none None = true
is_none (Some x) = false

abbrev pub cancel_refusal : Option Located → Option Refusal
cancel_refusal l = first_case ((NotResting, is_none l) ∷ [])

abbrev pub cut_refusal : Option Located → ℕ → Option Refusal
cut_refusal l n = first_case ((NotResting, is_none l) ∷ (CutShares, (n == 0) || nat_lt (open_of l) n) ∷ [])

-- an order leaves by a cut that leaves nothing open, or too small a ranking size
abbrev pub leaves : ℕ → Order → Bool
leaves n o = nat_le o.«open» n || too_small o.kind o.price (o.size - n)

abbrev pub cut_down : ℕ → Order → Order
cut_down n o = record { arrival = o.arrival; side = o.side; price = o.price; kind = o.kind; size = o.size - n; «open» = o.«open» - n }

-- its side without it
abbrev pub taken_off : Market → Located → Market
taken_off m l = with_side l.side (remove (of_side l.side m) l.place) m

-- an order put where it belongs on a side
abbrev pub put_on : Ranking → Side → Order → Market → Market
put_on ranking side o m = with_side side (put_in (before ranking side) o (of_side side m)) m

-- a smaller ranking size may stand elsewhere, so the order is taken out and put in again
abbrev pub moved : Terms → Market → Located → ℕ → Market
moved t m l n = put_on t.ranking l.side (cut_down n l.order) (taken_off m l)

abbrev pub cancelled : Market → Option Located → Outcome
cancelled m None = outcome (Err NotResting) [] m
cancelled m (Some l) = outcome (Ok (accepted l.order.arrival 0 l.order.«open» 0)) [] (taken_off m l)

abbrev pub cut_stayed : Terms → Market → Located → ℕ → Outcome
cut_stayed t m l n = outcome (Ok (accepted l.order.arrival (l.order.«open» - n) n 0)) [] (moved t m l n)

abbrev pub cut_to : Terms → Market → Option Located → ℕ → Outcome
cut_to t m None n = outcome (Err NotResting) [] m
cut_to t m (Some l) n = cond (leaves n l.order) (cancelled m (Some l)) (cut_stayed t m l n)

unfoldable pub cancel : Market → ℕ → Outcome
cancel m k = decided (cancel_refusal (at_rest k m)) m (cancelled m (at_rest k m))

unfoldable pub cut : Terms → Market → ℕ → ℕ → Outcome
cut t m k n = decided (cut_refusal (at_rest k m) n) m (cut_to t m (at_rest k m) n)

-- Post: the board's own call.
abbrev pub post_accepted : Result Unit Refusal → Result Accepted Refusal
post_accepted (Ok u) = Ok (accepted 0 0 0 0)
post_accepted (Err e) = Err e

unfoldable pub post : Market → ℕ → Side → ℕ → ℕ → Outcome
post m k side price shares =
    let r = post_answer k price shares in
    outcome (post_accepted r) [] (market m.bids m.offers (if_ok r (with_quote m.quotes side k (posted price shares)) m.quotes) m.arrivals)

-- One call of the four; room is the rows of the report that is handed in.
abbrev pub apply : Terms → Market → Call → ℕ → Outcome
apply t m (call.Enter side price kind shares) room = enter t m side price kind shares room
apply t m (call.Cut arrival shares) room = cut t m arrival shares
apply t m (call.Cancel arrival) room = cancel m arrival
apply t m (call.Post k side price shares) room = post m k side price shares

-- Light: the Liquidity Identifier is lit exactly while a Program order rests.
abbrev pub any_program : List Order → Bool
any_program [] = false
any_program (o ∷ os) = program o.kind || any_program os

abbrev pub lit : Market → Bool
lit m = any_program m.bids || any_program m.offers

-- List: the rows of the orders at rest, here bids before offers; a list may have them in any order.
abbrev pub standing_row : Side → Order → Standing
standing_row side o = record { arrival = o.arrival; side = side; price = o.price; «open» = o.«open» }

abbrev pub list_refusal : ℕ → ℕ → ℕ → Option Refusal
list_refusal bids offers room = first_case ((SideCells, not (cells_ok bids offers)) ∷ (ShortReport, nat_lt room 256) ∷ [])

abbrev pub standing_rows : Market → List Standing
standing_rows m = map (standing_row Buy) m.bids ++ map (standing_row Sell) m.offers

-- the rows that an answer speaks of, in the report that it left
abbrev pub rows_in : Result Accepted Refusal → List Row → List Row
rows_in (Ok a) report = take a.rows report
rows_in (Err e) report = []

-- a refusal leaves the report as it was, and an acceptance the rows behind its own
abbrev pub RowsKept : Result Accepted Refusal → List Row → List Row → Type 0
RowsKept (Ok a) old new = drop a.rows new ≡ drop a.rows old
RowsKept (Err e) old new = new ≡ old
