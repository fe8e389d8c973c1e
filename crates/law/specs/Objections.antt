-- The judge objects: small tapes, each with one fault of its own kind, that do not pass.
-- Rests on the judge, with the ranking size-time and, at the start, no quotation.
use Rattle.std.specs.Prelude.{ℕ, Bool, true, false, cond, List, [], ◌∷◌, length, None, Ok, Err, ◌==◌}
use Rattle.market.specs.declared.types.Side.TheVariants.{Buy, Sell}
use Rattle.market.specs.declared.types.Refusal.{Refusal}
use Rattle.market.specs.declared.types.Refusal.TheVariants.{Price}
use Rattle.board.specs.Quotes.{Quotes}
use Rattle.rules.specs.declared.types.Routing.TheVariants.{Type1, Type2}
use Rattle.rules.specs.declared.types.Mark.TheVariants.{Rest}
use Rattle.rules.specs.declared.types.Kind.TheVariants.{Displayed, Olo, Ilo}
use Rattle.rules.specs.declared.types.Row.{Row}
use Rattle.rules.specs.declared.types.Row.TheVariants.{Fill, Route}
use Rattle.rules.specs.declared.types.Call.{Call}
use Rattle.rules.specs.declared.types.Call.TheVariants.{Enter, Cut, Cancel, Post}
use Rattle.rules.specs.Rankings.{size_time}
use Rattle.rules.specs.Calls.{accepted}
use Rattle.law.specs.Tape.{Entry, empty_account}
use Rattle.law.specs.Law.{FairTape}

abbrev pub unquoted : Quotes
unquoted side market = None

-- what `open` shows: of each number listed its shares, and else 0
pub record Shows : Type 0 where
  pub number : ℕ
  pub shares : ℕ

abbrev pub shows : ℕ → ℕ → Shows
shows number shares = record { number = number; shares = shares }

abbrev pub showing : List Shows → ℕ → ℕ
showing [] n = 0
showing (x ∷ xs) n = cond (x.number == n) x.shares (showing xs n)

-- an entry of an accepted call: arrival, open, cancelled, rows, then what is shown and whether it is lit
abbrev pub answered : Call → ℕ → ℕ → ℕ → List Row → List Shows → Bool → Entry
answered c arrival left cancelled rows shown light =
    record { call = c; room = 144; answer = Ok (accepted arrival left cancelled (length rows)); rows = rows; shown = showing shown; light = light }

abbrev pub refused : Call → Refusal → Entry
refused c e = record { call = c; room = 144; answer = Err e; rows = []; shown = showing []; light = false }

-- a displayed bid of 100 at 1000 that rests as the first order
abbrev pub bid : Entry
bid = answered (Enter Buy 1000 Displayed 100) 1 100 0 [] (shows 1 100 ∷ []) false

-- and another behind it
abbrev pub second_bid : Entry
second_bid = answered (Enter Buy 1000 Displayed 100) 2 100 0 [] (shows 1 100 ∷ shows 2 100 ∷ []) false

-- a displayed sale of 100 at 1000
abbrev pub sale : Call
sale = Enter Sell 1000 Displayed 100

-- a fill below a protected bid
abbrev pub below_bid : List Entry
below_bid = answered (Post 1 Buy 1001 100) 0 0 0 [] [] false ∷ bid ∷ answered sale 2 0 0 (Fill 2 1 1000 100 ∷ []) [] false ∷ []

-- a fill above a protected offer
abbrev pub above_offer : List Entry
above_offer = answered (Post 1 Sell 999 100) 0 0 0 [] [] false ∷ bid ∷ answered sale 2 0 0 (Fill 2 1 1000 100 ∷ []) [] false ∷ []

-- a fill by a Type 2 that passes by a better bid instead of routing to it
abbrev pub unrouted : List Entry
unrouted =
    answered (Post 1 Buy 1001 100) 0 0 0 [] [] false ∷ bid
    ∷ answered (Enter Sell 1000 (Ilo Type2 0 Rest) 5000) 2 4900 0 (Fill 2 1 1000 100 ∷ []) (shows 2 4900 ∷ []) true ∷ []

-- a route at the price of the order whose turn it is, where nothing is to be gained
abbrev pub routed_at_equal : List Entry
routed_at_equal =
    answered (Post 1 Buy 1000 100) 0 0 0 [] [] false ∷ bid
    ∷ answered (Enter Sell 1000 (Ilo Type2 0 Rest) 5000) 2 4800 0 (Route 2 1 1000 100 ∷ Fill 2 1 1000 100 ∷ []) (shows 2 4800 ∷ []) true ∷ []

-- of two equal bids the one of the higher market routed to first
abbrev pub routed_to_higher : List Entry
routed_to_higher =
    answered (Post 1 Buy 1001 100) 0 0 0 [] [] false ∷ answered (Post 2 Buy 1001 100) 0 0 0 [] [] false ∷ bid
    ∷ answered (Enter Sell 1000 (Ilo Type2 0 Rest) 5000) 2 4700 0 (Route 2 2 1001 100 ∷ Route 2 1 1001 100 ∷ Fill 2 1 1000 100 ∷ []) (shows 2 4700 ∷ []) true ∷ []

-- a fill between two Program orders at the price of a displayed bid
abbrev pub at_displayed : List Entry
at_displayed =
    answered (Enter Buy 1000 (Ilo Type1 0 Rest) 5000) 1 5000 0 [] (shows 1 5000 ∷ []) true
    ∷ answered (Enter Buy 1000 Displayed 100) 2 100 0 [] (shows 1 5000 ∷ shows 2 100 ∷ []) true
    ∷ answered (Enter Sell 1000 Olo 500) 3 0 0 (Fill 3 1 1000 500 ∷ []) (shows 1 4500 ∷ shows 2 100 ∷ []) true ∷ []

-- a fill out of turn: the second bid before the first
abbrev pub out_of_turn : List Entry
out_of_turn = bid ∷ second_bid ∷ answered sale 3 0 0 (Fill 3 2 1000 100 ∷ []) (shows 1 100 ∷ []) false ∷ []

-- a row at another price than the resting order's
abbrev pub other_price : List Entry
other_price = bid ∷ answered (Enter Sell 999 Displayed 100) 2 0 0 (Fill 2 1 999 100 ∷ []) [] false ∷ []

-- a row of fewer shares than could trade
abbrev pub fewer_shares : List Entry
fewer_shares = bid ∷ answered sale 2 50 0 (Fill 2 1 1000 50 ∷ []) (shows 1 50 ∷ shows 2 50 ∷ []) false ∷ []

-- a row of more shares than are open of the resting order
abbrev pub more_shares : List Entry
more_shares = bid ∷ answered (Enter Sell 1000 Displayed 150) 2 0 0 (Fill 2 1 1000 150 ∷ []) [] false ∷ []

-- rows naming an order that does not rest: one that was cancelled, and one that never was
abbrev pub of_cancelled : List Entry
of_cancelled =
    bid ∷ answered (Cancel 1) 1 0 100 [] [] false
    ∷ answered sale 2 0 0 (Fill 2 1 1000 100 ∷ []) [] false ∷ []

abbrev pub of_nobody : List Entry
of_nobody = bid ∷ answered sale 2 0 0 (Fill 2 7 1000 100 ∷ []) (shows 1 100 ∷ []) false ∷ []

-- a sweep ended early: nothing trades, though the bid might
abbrev pub ended_early : List Entry
ended_early = bid ∷ answered sale 2 100 0 [] (shows 1 100 ∷ shows 2 100 ∷ []) false ∷ []

-- an entry refused for its price, which lies in its range
abbrev pub refused_outside : List Entry
refused_outside = refused (Enter Buy 1000 Displayed 100) Price ∷ []

-- an entry accepted at the price 0
abbrev pub accepted_inside : List Entry
accepted_inside = answered (Enter Buy 0 Displayed 100) 1 100 0 [] (shows 1 100 ∷ []) false ∷ []

-- a remainder of 100 of which 99 are shown
abbrev pub shown_wrongly : List Entry
shown_wrongly = answered (Enter Buy 1000 Displayed 100) 1 100 0 [] (shows 1 99 ∷ []) false ∷ []

-- the identifier unlit while an OLO rests, and lit while none does
abbrev pub unlit_wrongly : List Entry
unlit_wrongly = answered (Enter Buy 1000 Olo 500) 1 500 0 [] (shows 1 500 ∷ []) false ∷ []

abbrev pub lit_wrongly : List Entry
lit_wrongly = answered (Enter Buy 1000 Displayed 100) 1 100 0 [] (shows 1 100 ∷ []) true ∷ []

-- an OLO of 700 left at rest by a cut to 400, below its least size
abbrev pub cut_too_small : List Entry
cut_too_small =
    answered (Enter Buy 1000 Olo 700) 1 700 0 [] (shows 1 700 ∷ []) true
    ∷ answered (Cut 1 300) 1 400 300 [] (shows 1 400 ∷ []) true ∷ []

abbrev pub Objects : List Entry → Type 0
Objects es = FairTape size_time (empty_account unquoted) es → ⊥

pub record Objections : Type 0 where
  pub below_bid : Objects below_bid
  pub above_offer : Objects above_offer
  pub unrouted : Objects unrouted
  pub routed_at_equal : Objects routed_at_equal
  pub routed_to_higher : Objects routed_to_higher
  pub at_displayed : Objects at_displayed
  pub out_of_turn : Objects out_of_turn
  pub other_price : Objects other_price
  pub fewer_shares : Objects fewer_shares
  pub more_shares : Objects more_shares
  pub of_cancelled : Objects of_cancelled
  pub of_nobody : Objects of_nobody
  pub ended_early : Objects ended_early
  pub refused_outside : Objects refused_outside
  pub accepted_inside : Objects accepted_inside
  pub shown_wrongly : Objects shown_wrongly
  pub unlit_wrongly : Objects unlit_wrongly
  pub lit_wrongly : Objects lit_wrongly
  pub cut_too_small : Objects cut_too_small
