-- One step of a sweep, a route or a fill, and the sweep.
-- Rests on who may trade.
use Rattle.std.specs.Prelude.{ℕ, zero, suc, ◌-◌, min, cond, ◌&&◌, List, [], ◌∷◌, ◌++◌, Some, None, Option, ◌==◌, nat_le, slice_set}
use Rattle.std.specs.List.{remove}
use Rattle.market.specs.declared.types.Side.{Side}
use Rattle.market.specs.Words.{opposite, better}
use Rattle.shelf.specs.declared.types.Placed.{Placed}
use Rattle.shelf.specs.Standing.{first}
use Rattle.board.specs.declared.types.Best.{Best}
use Rattle.board.specs.Quotes.{Quotes, best_in, if_ok, take_answer, with_quote, lowered}
use Rattle.rules.specs.declared.types.Order.{Order}
use Rattle.rules.specs.declared.types.Row.{Row}
use Rattle.rules.specs.declared.types.Row.TheVariants.{Fill, Route}
use Rattle.rules.specs.Orders.{mtv_of, type2}
use Rattle.rules.specs.Trading.{Stand, may_trade, volume}

abbrev pub with_open : ℕ → Order → Order
with_open n o = record { arrival = o.arrival; side = o.side; price = o.price; kind = o.kind; size = o.size; «open» = n }

-- n shares fewer open
abbrev pub less : ℕ → Order → Order
less n o = with_open (o.«open» - n) o

-- the quotations after a take, which may be refused
abbrev pub taken : Quotes → Side → ℕ → ℕ → Quotes
taken b s m n = if_ok (take_answer m (b s m) n) (with_quote b s m (lowered (b s m) n)) b

-- a side after n shares of the order at a place are filled: with nothing open it leaves
abbrev pub filled : List Order → Placed Order → ℕ → List Order
filled os c n = cond (nat_le c.item.«open» n) (remove os c.place) (slice_set os c.place (less n c.item))

abbrev pub standing : Order → List Order → List Order → Quotes → Stand
standing i own opp b = record { incoming = i; own = own; opp = opp; quotes = b }

pub record Step : Type 0 where
  pub row : Row
  pub stand : Stand

abbrev pub stepped : Row → Stand → Step
stepped r s = record { row = r; stand = s }

-- a route takes the lesser of q and the quotation's shares
abbrev pub route : Stand → Best → Step
route s b =
    let n = min s.incoming.«open» b.quote.shares in
    stepped (Route s.incoming.arrival b.market b.quote.price n)
    (standing (less n s.incoming) s.own s.opp (taken s.quotes (opposite s.incoming.side) b.market n))

-- a fill takes the lesser of q and what is open of the resting order
abbrev pub fill : Stand → Placed Order → Step
fill s c =
    let n = min s.incoming.«open» c.item.«open» in
    stepped (Fill s.incoming.arrival c.item.arrival c.item.price n)
    (standing (less n s.incoming) s.own (filled s.opp c n) s.quotes)

-- the quotation that goes before a fill at a price: for a Type 2, the best of the other side, if it
-- is strictly better
abbrev pub routed_first : Order → Option Best → ℕ → Option Best
routed_first i None p = None
routed_first i (Some b) p = cond (type2 i.kind && better (opposite i.side) b.quote.price p) (Some b) None

abbrev pub trade : Stand → Placed Order → Option Best → Step
trade s c None = fill s c
trade s c (Some b) = route s b

abbrev pub chosen : Stand → Option (Placed Order) → Option Step
chosen s None = None
chosen s (Some c) = Some (trade s c (routed_first s.incoming (best_in s.quotes (opposite s.incoming.side)) c.item.price))

-- the next step: none where q is 0 or nothing may trade, and else with the first that may
unfoldable pub next : Stand → Option Step
next s = cond (s.incoming.«open» == 0) None (chosen s (first (may_trade s) s.opp 0))

pub record Swept : Type 0 where
  pub rows : List Row
  pub stand : Stand

abbrev pub swept : List Row → Stand → Swept
swept rs s = record { rows = rs; stand = s }

-- rows written before a sweep goes on
abbrev pub rows_before : List Row → Swept → Swept
rows_before rs w = swept (rs ++ w.rows) w.stand

-- a sweep of at most so many steps
unfoldable pub sweep : ℕ → Stand → Swept
sweep zero s = swept [] s
sweep (suc n) s = elim (next s) [ None ↦ swept [] s | Some t ↦ rows_before (t.row ∷ []) (sweep n t.stand) ]

-- an entry is measured first: with a volume below its MTV nothing trades; 144 steps are enough,
-- since each but the last takes an order or a quotation off
unfoldable pub measured_sweep : Stand → Swept
measured_sweep s = cond (nat_le (mtv_of s.incoming.kind) (volume s.incoming s.opp s.quotes)) (sweep 144 s) (swept [] s)
