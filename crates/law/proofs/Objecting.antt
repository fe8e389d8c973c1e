-- The judge objects to each of the faulty tapes, by the clause that the fault offends. Assumes nothing.
use Rattle.std.proofs.Common.{◌≡◌, ℕ, ◌<◌, ◌≤◌, Bool, true, false, cond, eqb, ◌⊎◌, List, [], ◌∷◌, Some, None, Option, sym, refl, ap, ◌∙◌, subst, inl, inr, arith}
use Rattle.std.proofs.lemmas.Bool.{both_ways, true≢false, false≢true}
use Rattle.market.specs.declared.types.Side.{Side}
use Rattle.market.specs.declared.types.Side.TheVariants.{Buy, Sell}
use Rattle.market.specs.declared.types.Refusal.{Refusal}
use Rattle.market.specs.declared.types.Refusal.TheVariants.{Price}
use Rattle.market.specs.Words.{opposite}
use Rattle.board.specs.declared.types.Quote.{Quote}
use Rattle.rules.specs.declared.types.Routing.TheVariants.{Type2}
use Rattle.rules.specs.declared.types.Mark.TheVariants.{Rest}
use Rattle.rules.specs.declared.types.Kind.TheVariants.{Displayed, Olo, Ilo}
use Rattle.rules.specs.declared.types.Order.{Order}
use Rattle.rules.specs.declared.types.Row.{Row}
use Rattle.rules.specs.declared.types.Row.TheVariants.{Fill, Route}
use Rattle.rules.specs.declared.types.Call.TheVariants.{Post}
use Rattle.rules.specs.declared.types.Accepted.{Accepted}
use Rattle.rules.specs.Orders.{mtv_of, program, meets}
use Rattle.rules.specs.Rankings.{size_time}
use Rattle.rules.specs.Calls.{new_order}
use Rattle.rules.specs.Sweeps.{less}
use Rattle.law.specs.Tape.{Account, empty_account, changed, added, reckon}
use Rattle.law.specs.Judge.{NotBetter, NoneBetter, Rests, MayTrade, InTurn, FairFill, FairRoute, Ended, FairEntry}
use Rattle.law.specs.Objections.{unquoted, answered, bid, second_bid, below_bid, above_offer, unrouted, routed_at_equal, routed_to_higher, at_displayed, out_of_turn, other_price, fewer_shares, more_shares, of_cancelled, of_nobody, ended_early, refused_outside, accepted_inside, shown_wrongly, unlit_wrongly, lit_wrongly, cut_too_small, Objects, Objections}
use Rattle.law.proofs.Branches.{some_is, none_some}

-- a case that does not hold is passed over
past : {P Q R : Type 0} → (P → ⊥) → (P × R) ⊎ ((P → ⊥) × Q) → Q
past n f = elim f [ inl h ↦ absurd (n h.0) | inr h ↦ h.1 ]

-- the first row of an entry that has no MTV, and the end of a sweep without rows
module _ (a : Account) (i : Order) (w : Accepted) (z : mtv_of i.kind ≡ 0) where
  filled_by : (incoming resting price shares : ℕ) (rows : List Row) → FairEntry size_time a i w (Fill incoming resting price shares ∷ rows) → (x : Order) × (o : Order) × FairFill size_time (added i a) i.arrival incoming resting price shares x o
  filled_by incoming resting price shares rows f = let (v, m) = f.measured in (m.reached (omega arith)).0

  routed_by : (incoming market price shares : ℕ) (rows : List Row) → FairEntry size_time a i w (Route incoming market price shares ∷ rows) → (x : Order) × (o : Order) × (q : Quote) × FairRoute size_time (added i a) i.arrival incoming market price shares x o q
  routed_by incoming market price shares rows f = let (v, m) = f.measured in (m.reached (omega arith)).0

  ended_by : FairEntry size_time a i w [] → Ended (added i a) i.arrival
  ended_by f = let (v, m) = f.measured in m.reached (omega arith)

-- with no quotation, and an order that is no Program order, four figures decide
plain : (a : Account) (i o : Order) → Rests a i o → o.side ≡ opposite i.side → NotBetter i.side o.price i.price → meets i.kind o.kind ≡ true → mtv_of o.kind ≤ i.«open» → a.quotes ≡ unquoted → program i.kind ≡ false → MayTrade a i o
plain a i o rests across limit kinds reached none no_program = record {
  first_four = record {
    rests = rests;
    across = across;
    limit = limit;
    kinds = kinds;
    reached = reached;
    own_quotes = free i.side;
    other_quotes = λ _. free (opposite i.side);
  };
  behind_displayed = λ p. absurd (both_ways (program i.kind) no_program p);
}
  where
    free : (s : Side) → NoneBetter a.quotes s o.price
    free s m q e = absurd (none_some q (sym (ap (λ b. b s m) none) ∙ e))

-- the accounts before and while the last entry of a tape comes in
abbrev start : Account
start = empty_account unquoted

abbrev one_bid : Account
one_bid = reckon bid start

abbrev displayed_bid : ℕ → Order
displayed_bid arrival = new_order arrival Buy 1000 Displayed 100

abbrev displayed_sale : ℕ → Order
displayed_sale arrival = new_order arrival Sell 1000 Displayed 100

no_below_bid : Objects below_bid
no_below_bid h =
    let (i, o, f) = filled_by _ (displayed_sale 2) _ refl 2 1 1000 100 [] h.1.1.0.answer in
    let l : 1001 ≤ 1000 = f.no_bid_above 1 (record { price = 1001; shares = 100 }) refl in
    omega arith

no_above_offer : Objects above_offer
no_above_offer h =
    let (i, o, f) = filled_by _ (displayed_sale 2) _ refl 2 1 1000 100 [] h.1.1.0.answer in
    let l : 1000 ≤ 999 = f.no_offer_below 1 (record { price = 999; shares = 100 }) refl in
    omega arith

no_unrouted : Objects unrouted
no_unrouted h =
    let (i, o, f) = filled_by _ (new_order 2 Sell 1000 _ 5000) _ refl 2 1 1000 100 [] h.1.1.0.answer in
    let l : 1001 ≤ 1000 = f.no_bid_above 1 (record { price = 1001; shares = 100 }) refl in
    omega arith

-- an ILO sale of 5,000 at 1000, of Type 2
abbrev type2_sale : Order
type2_sale = new_order 2 Sell 1000 (Ilo Type2 0 Rest) 5000

no_routed_at_equal : Objects routed_at_equal
no_routed_at_equal h =
    let (i, o, q, f) = routed_by _ type2_sale _ refl 2 1 1000 100 _ h.1.1.0.answer in
    let a : Account = added type2_sale (reckon bid (reckon (answered (Post 1 Buy 1000 100) 0 0 0 [] [] false) start)) in
    let x : type2_sale ≡ i = some_is type2_sale i f.known in
    let g : FairRoute size_time a 2 2 1 1000 100 type2_sale o q = subst (λ v. FairRoute size_time a 2 2 1 1000 100 v o q) (sym x) f in
    let p = g.at_price in
    let l : o.price < q.price = g.better in
    let r : 1000 ≤ o.price = g.in_turn.may_trade.first_four.limit in
    omega arith

no_routed_to_higher : Objects routed_to_higher
no_routed_to_higher h =
    let (i, o, q, f) = routed_by _ type2_sale _ refl 2 2 1001 100 _ h.1.1.1.0.answer in
    let a : Account = added type2_sale (reckon bid (reckon (answered (Post 2 Buy 1001 100) 0 0 0 [] [] false) (reckon (answered (Post 1 Buy 1001 100) 0 0 0 [] [] false) start))) in
    let x : type2_sale ≡ i = some_is type2_sale i f.known in
    let g : FairRoute size_time a 2 2 2 1001 100 type2_sale o q = subst (λ v. FairRoute size_time a 2 2 2 1001 100 v o q) (sym x) f in
    let l : 2 ≤ 1 = g.lowest 1 (record { price = 1001; shares = 100 }) refl g.at_price in
    omega arith

no_at_displayed : Objects at_displayed
no_at_displayed h =
    let (i, o, f) = filled_by _ (new_order 3 Sell 1000 Olo 500) _ refl 3 1 1000 500 [] h.1.1.0.answer in
    let x = some_is _ i f.known in
    let y = some_is _ o f.at_rest in
    let worse = f.behind_displayed (ap (λ (v : Order). program v.kind) (sym x)) (ap (λ (v : Order). program v.kind) (sym y)) in
    let l : 1000 < 1000 = worse (displayed_bid 2) (record { known = refl; remains = omega arith; another = λ e. let z : i.arrival ≡ 3 = ap (λ (v : Order). v.arrival) (sym x) in omega arith }) refl in
    omega arith

no_out_of_turn : Objects out_of_turn
no_out_of_turn h =
    let (i, o, f) = filled_by _ (displayed_sale 3) _ refl 3 2 1000 100 [] h.1.1.0.answer in
    let a : Account = added (displayed_sale 3) (reckon second_bid one_bid) in
    let x : displayed_sale 3 ≡ i = some_is (displayed_sale 3) i f.known in
    let y : displayed_bid 2 ≡ o = some_is (displayed_bid 2) o f.at_rest in
    let turn : InTurn size_time a (displayed_sale 3) (displayed_bid 2) = subst (λ v. InTurn size_time a (displayed_sale 3) v) (sym y) (subst (λ v. InTurn size_time a v o) (sym x) f.in_turn) in
    let first : MayTrade a (displayed_sale 3) (displayed_bid 1) = plain a (displayed_sale 3) (displayed_bid 1) (record { known = refl; remains = omega arith; another = λ e. omega arith }) refl (omega arith) refl (omega arith) refl refl in
    true≢false (turn.foremost (displayed_bid 1) first)

no_other_price : Objects other_price
no_other_price h =
    let (i, o, f) = filled_by one_bid (new_order 2 Sell 999 Displayed 100) _ refl 2 1 999 100 [] h.1.0.answer in
    let y : displayed_bid 1 ≡ o = some_is (displayed_bid 1) o f.at_rest in
    let p = f.at_price in
    let q : 1000 ≡ o.price = ap (λ (v : Order). v.price) y in
    omega arith

no_fewer_shares : Objects fewer_shares
no_fewer_shares h =
    let (i, o, f) = filled_by one_bid (displayed_sale 2) _ refl 2 1 1000 50 [] h.1.0.answer in
    let x : displayed_sale 2 ≡ i = some_is (displayed_sale 2) i f.known in
    let y : displayed_bid 1 ≡ o = some_is (displayed_bid 1) o f.at_rest in
    let n = f.quantity in
    let p : 100 ≡ i.«open» = ap (λ (v : Order). v.«open») x in
    let q : 100 ≡ o.«open» = ap (λ (v : Order). v.«open») y in
    omega arith

no_more_shares : Objects more_shares
no_more_shares h =
    let (i, o, f) = filled_by one_bid (new_order 2 Sell 1000 Displayed 150) _ refl 2 1 1000 150 [] h.1.0.answer in
    let y : displayed_bid 1 ≡ o = some_is (displayed_bid 1) o f.at_rest in
    let n = f.quantity in
    let q : 100 ≡ o.«open» = ap (λ (v : Order). v.«open») y in
    omega arith

no_of_cancelled : Objects of_cancelled
no_of_cancelled h =
    let (i, o, f) = filled_by _ (displayed_sale 2) _ refl 2 1 1000 100 [] h.1.1.0.answer in
    let y = some_is _ o f.at_rest in
    let q : 0 ≡ o.«open» = ap (λ (v : Order). v.«open») y in
    let r = f.in_turn.may_trade.first_four.rests.remains in
    omega arith

no_of_nobody : Objects of_nobody
no_of_nobody h =
    let (i, o, f) = filled_by one_bid (displayed_sale 2) _ refl 2 7 1000 100 [] h.1.0.answer in
    none_some o f.at_rest

no_ended_early : Objects ended_early
no_ended_early h =
    let (i, e, ends) = ended_by one_bid (displayed_sale 2) _ refl h.1.0.answer in
    let a : Account = added (displayed_sale 2) one_bid in
    let x : displayed_sale 2 ≡ i = some_is (displayed_sale 2) i e in
    let may : MayTrade a (displayed_sale 2) (displayed_bid 1) = plain a (displayed_sale 2) (displayed_bid 1) (record { known = refl; remains = omega arith; another = λ e. omega arith }) refl (omega arith) refl (omega arith) refl refl in
    elim ends [
      | inl z ↦ (let q : 100 ≡ i.«open» = ap (λ (v : Order). v.«open») x in omega arith)
      | inr n ↦ n (displayed_bid 1) (subst (λ v. MayTrade a v (displayed_bid 1)) x may)
    ]

no_refused_outside : Objects refused_outside
no_refused_outside h =
    let report = past (λ l. omega arith) h.0.refusal in
    let price = past (λ l. elim l [ inl u ↦ omega arith | inr u ↦ omega arith ]) report in
    let shares = past (λ l. elim l [ inl u ↦ omega arith | inr u ↦ omega arith ]) price in
    let olo = past (λ l. false≢true l.0) shares in
    let ilo = past (λ l. false≢true l.0) olo in
    let mtv = past (λ l. omega arith) ilo in
    let arrivals = past (λ l. omega arith) mtv in
    let none : ◌≡◌ {A = Option Refusal} (Some Price) None = past (λ l. let u = l.1 in omega arith) arrivals in
    none_some Price (sym none)

no_accepted_inside : Objects accepted_inside
no_accepted_inside h =
    let report = past (λ l. omega arith) h.0.refusal in
    elim report [ inl l ↦ none_some Price l.1 | inr l ↦ l.0 (inl (omega arith)) ]

no_shown_wrongly : Objects shown_wrongly
no_shown_wrongly h = let e : ◌≡◌ {A = ℕ} 99 100 = h.0.shown 1 in omega arith

no_unlit_wrongly : Objects unlit_wrongly
no_unlit_wrongly h = h.0.unlit refl (1, new_order 1 Buy 1000 Olo 500, refl, omega arith, refl)

no_lit_wrongly : Objects lit_wrongly
no_lit_wrongly h = let (n, o, e, r, p) = h.0.lit refl in never o p (eqb 1 n) e
  where
    never : (o : Order) → program o.kind ≡ true → (b : Bool) → cond b (changed (less 0) (cond b (Some (displayed_bid 1)) None)) (cond b (Some (displayed_bid 1)) None) ≡ Some o → ⊥
    never o p true g = both_ways (program o.kind) (ap (λ (v : Order). program v.kind) (sym (some_is (displayed_bid 1) o g))) p
    never o p false g = none_some o g

no_cut_too_small : Objects cut_too_small
no_cut_too_small h = true≢false (h.1.0.sized 1 (record { arrival = 1; side = Buy; price = 1000; kind = Olo; size = 400; «open» = 400 }) refl (omega arith)).allowed

pub objections : Objections
objections = record {
  below_bid = no_below_bid;
  above_offer = no_above_offer;
  unrouted = no_unrouted;
  routed_at_equal = no_routed_at_equal;
  routed_to_higher = no_routed_to_higher;
  at_displayed = no_at_displayed;
  out_of_turn = no_out_of_turn;
  other_price = no_other_price;
  fewer_shares = no_fewer_shares;
  more_shares = no_more_shares;
  of_cancelled = no_of_cancelled;
  of_nobody = no_of_nobody;
  ended_early = no_ended_early;
  refused_outside = no_refused_outside;
  accepted_inside = no_accepted_inside;
  shown_wrongly = no_shown_wrongly;
  unlit_wrongly = no_unlit_wrongly;
  lit_wrongly = no_lit_wrongly;
  cut_too_small = no_cut_too_small;
}
