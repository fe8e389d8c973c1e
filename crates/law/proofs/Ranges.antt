-- Whatever passes the judge has its figures in their ranges, and so has every tape.
-- Rests on the law of the tape.
use Rattle.std.proofs.Common.{◌≡◌, ℕ, suc, ◌<◌, ◌≤◌, true, eqb, List, [], ◌∷◌, Some, None, Ok, Err, Option, Result, sym, refl, ap, subst, inl, inr, arith}
use Rattle.std.specs.List.{AllByRecursion}
use Rattle.std.proofs.lemmas.Bool.Decides.{nat_tests, not_from_Decides}
use Rattle.std.proofs.lemmas.Bool.{cases_Bool, cases_lt, cond_both}
use Rattle.market.specs.declared.types.Refusal.{Refusal}
use Rattle.market.specs.Words.{opposite}
use Rattle.board.specs.Quotes.{Lawful, quote_ok, posted}
use Rattle.rules.specs.declared.types.Order.{Order}
use Rattle.rules.specs.declared.types.Row.{Row}
use Rattle.rules.specs.declared.types.Row.TheVariants.{Fill, Route}
use Rattle.rules.specs.declared.types.Call.{Call}
use Rattle.rules.specs.declared.types.Call.TheVariants as call
use Rattle.rules.specs.declared.types.Accepted.{Accepted}
use Rattle.rules.specs.Orders.{mtv_of, cancels}
use Rattle.rules.specs.Rankings.{Ranking}
use Rattle.rules.specs.Sweeps.{less}
use Rattle.rules.specs.Calls.{new_order, terms, fresh, leaves}
use Rattle.law.specs.Tape.{Entry, Account, empty_account, remainder_of, remainder, changed, change, added, routed, reckon_row, reckon_rows, cut_by, reckon_answer, reckon}
use Rattle.law.specs.Judge.{FairRow, FairSweep, FairEntry, FairCut, FairAnswer, FirstCase, Cases, refusal_of}
use Rattle.law.specs.Law.{tape, FairTape}
use Rattle.law.specs.Ranges.{Within, RangedRow, RangedAnswer, RangedEntry, TapeRanged}
use Rattle.law.proofs.Branches.{by_option}
use Rattle.law.proofs.Quotations.{quoted_market, with_quote_lawful, taken_lawful}
use Rattle.law.proofs.Refusals.{decides_leaves}
use Rattle.law.proofs.Tapes.{tape_law}

-- the order of a number, where the last arrival is given
abbrev RangedOrder : ℕ → ℕ → Option Order → Type 0
RangedOrder last n None = Unit {0}
RangedOrder last n (Some o) = Within 1000000 o.price × (o.«open» ≤ 1000000) × Within last n

-- every order and quotation of an account, and its count of entries
record Ranged (a : Account) : Type 0 where
  known : (n : ℕ) → RangedOrder a.accepted n (a.known n)
  accepted : a.accepted ≤ 1000000
  quotes : Lawful a.quotes

-- The reckoner keeps the ranges: a row and a cut keep the price of an order and open no more of it.
abbrev Lowers : (Order → Order) → Type 0
Lowers f = (o : Order) → ((f o).price ≡ o.price) × ((f o).«open» ≤ o.«open»)

change_ranged : (a : Account) → Ranged a → (k : ℕ) (f : Order → Order) → Lowers f → Ranged (change k f a)
change_ranged a r k f low = record {
  known = λ n. cond_both (eqb k n) (changed f (a.known n)) (a.known n) (RangedOrder a.accepted n) (λ _. still n (a.known n) (r.known n)) (λ _. r.known n);
  accepted = r.accepted;
  quotes = r.quotes;
}
  where
    still : (n : ℕ) (x : Option Order) → RangedOrder a.accepted n x → RangedOrder a.accepted n (changed f x)
    still n None h = tt
    still n (Some o) h = let l = low o in grind (arith, nat_tests)

less_lowers : (n : ℕ) → Lowers (less n)
less_lowers n o = (refl, omega arith)

added_ranged : (a : Account) → Ranged a → (i : Order) → i.arrival ≡ suc a.accepted → a.accepted < 1000000 → Within 1000000 i.price → i.«open» ≤ 1000000 → Ranged (added i a)
added_ranged a r i next room price size = record {
  known = λ n. cond_both (eqb i.arrival n) (Some i) (a.known n) (RangedOrder (suc a.accepted) n) (λ t. grind (arith, nat_tests)) (λ _. later n (a.known n) (r.known n));
  accepted = room;
  quotes = r.quotes;
}
  where
    later : (n : ℕ) (x : Option Order) → RangedOrder a.accepted n x → RangedOrder (suc a.accepted) n x
    later n None h = tt
    later n (Some o) h = grind (arith, nat_tests)

row_ranged : (r : Row) (a : Account) → Ranged a → Ranged (reckon_row r a)
row_ranged (Fill incoming resting price n) a r = change_ranged (change incoming (less n) a) (change_ranged a r incoming (less n) (less_lowers n)) resting (less n) (less_lowers n)
row_ranged (Route arrival market price n) a r =
    let c = change_ranged a r arrival (less n) (less_lowers n) in
    record { known = c.known; accepted = c.accepted; quotes = lawful (a.known arrival) }
  where
    lawful : (x : Option Order) → Lawful (routed x a.quotes market n)
    lawful None = r.quotes
    lawful (Some i) = taken_lawful a.quotes r.quotes (opposite i.side) market n

rows_ranged : (rows : List Row) (a : Account) → Ranged a → Ranged (reckon_rows rows a)
rows_ranged [] a r = r
rows_ranged (x ∷ rows) a r = rows_ranged rows (reckon_row x a) (row_ranged x a r)

-- What the account has of an order or a quotation.
module _ (a : Account) (r : Ranged a) where
  order_ranged : (n : ℕ) (o : Order) → a.known n ≡ Some o → Within 1000000 n × Within 1000000 o.price × (o.«open» ≤ 1000000)
  order_ranged n o e =
      let w : RangedOrder a.accepted n (Some o) = subst (RangedOrder a.accepted n) e (r.known n) in
      let last = r.accepted in
      grind (arith, nat_tests)

  remainder_ranged : (n : ℕ) → remainder a n ≤ 1000000
  remainder_ranged n = by_option (a.known n) (λ x. a.known n ≡ x → remainder_of x ≤ 1000000) (λ _ _. omega arith) (λ o _ e. (order_ranged n o e).2) refl

  resting_ranged : (n : ℕ) → (remainder a n ≡ 0 → ⊥) → n ≤ 1000000
  resting_ranged n d = by_option (a.known n) (λ x. a.known n ≡ x → n ≤ 1000000) (λ _ e. absurd (d (ap remainder_of e))) (λ o _ e. (order_ranged n o e).0.1) refl

  fair_row_ranged : (ranking : Ranking) (arrival : ℕ) (x : Row) → FairRow ranking a arrival x → RangedRow x
  fair_row_ranged ranking arrival (Fill incoming resting price shares) (i, o, f) =
      let u = order_ranged incoming i f.known in
      let v = order_ranged resting o f.at_rest in
      let p = f.at_price in
      let n = f.quantity in
      let some = f.some_shares in
      grind (arith, nat_tests)
  fair_row_ranged ranking arrival (Route incoming market price shares) (i, o, q, f) =
      let u = order_ranged incoming i f.known in
      let v : quote_ok (Some q) ≡ true = subst (λ x. quote_ok x ≡ true) f.quoted (r.quotes.ranged (opposite i.side) market) in
      let m = quoted_market a.quotes r.quotes (opposite i.side) market q f.quoted in
      let p = f.at_price in
      let n = f.quantity in
      let some = f.some_shares in
      grind (arith, nat_tests)

module _ (ranking : Ranking) where
  sweep_ranged : (arrival : ℕ) (rows : List Row) (a : Account) → Ranged a → FairSweep ranking arrival a rows → AllByRecursion RangedRow rows
  sweep_ranged arrival [] a r f = tt
  sweep_ranged arrival (x ∷ rows) a r f = (fair_row_ranged a r ranking arrival x f.0, sweep_ranged arrival rows (reckon_row x a) (row_ranged x a r) f.1)

  -- What a call answers, its rows and the account after it.
  module _ (a : Account) (r : Ranged a) where
    abbrev CallRanged : Call → Result Accepted Refusal → List Row → Type 0
    CallRanged c x rows = RangedAnswer x × AllByRecursion RangedRow rows × Ranged (reckon_answer c x rows a)

    entered_ranged : (i : Order) (w : Accepted) (rows : List Row) → Ranged (added i a) → FairEntry ranking a i w rows → (w.«open» ≤ 1000000) × (w.cancelled ≤ 1000000) × AllByRecursion RangedRow rows
    entered_ranged i w rows new f =
        let (v, m) = f.measured in
        let each : AllByRecursion RangedRow rows = elim (cases_lt v (mtv_of i.kind)) [
          | inl l ↦ subst (AllByRecursion RangedRow) (sym (m.below l)) tt
          | inr l ↦ sweep_ranged i.arrival rows (added i a) new (m.reached l)
        ] in
        let left = remainder_ranged (reckon_rows rows (added i a)) (rows_ranged rows (added i a) new) i.arrival in
        let gone = f.cancelling in
        let stays = f.resting in
        (grind (arith, nat_tests, cases_Bool (cancels i.kind)), grind (arith, nat_tests, cases_Bool (cancels i.kind)), each)

    cut_ranged : (arrival n : ℕ) (w : Accepted) (o : Order) → FairCut a arrival n w o → (w.«open» ≤ 1000000) × (w.cancelled ≤ 1000000)
    cut_ranged arrival n w o u = let l = (order_ranged a r arrival o u.known).2 in elim (cases_Bool (leaves n o)) [
      | inl t ↦ let v = u.leaving ((decides_leaves n o).0 t) in grind (arith, nat_tests)
      | inr t ↦ let v = u.staying (not_from_Decides (leaves n o) (decides_leaves n o) t) in grind (arith, nat_tests)
    ]

    answer_ranged : (c : Call) (room : ℕ) (x : Result Accepted Refusal) (rows : List Row) → FirstCase (Cases a c room) (refusal_of x) → FairAnswer ranking a c x rows → CallRanged c x rows
    answer_ranged c room (Err e) rows g f = (tt, subst (AllByRecursion RangedRow) (sym f) tt, r)
    answer_ranged (call.Enter side price kind shares) room (Ok w) rows g f =
        let i : Order = new_order (suc a.accepted) side price kind shares in
        let new : Ranged (added i a) = added_ranged a r i refl (grind (arith, nat_tests)) (grind (arith, nat_tests)) (grind (arith, nat_tests)) in
        let number : w.arrival ≡ suc a.accepted = f.arrival in
        let v = entered_ranged i w rows new f in
        let then = change_ranged (reckon_rows rows (added i a)) (rows_ranged rows (added i a) new) (suc a.accepted) (less w.cancelled) (less_lowers w.cancelled) in
        ((omega arith, v.0, v.1), v.2, subst (λ j. Ranged (change j (less w.cancelled) (reckon_rows rows (added (new_order j side price kind shares) a)))) (sym number) then)
    answer_ranged (call.Cut arrival n) room (Ok w) rows g f =
        let (o, u) = f.3 in
        let v = cut_ranged arrival n w o u in
        let number = f.0 in
        let m = resting_ranged a r arrival (λ z. grind (arith, nat_tests)) in
        ((omega arith, v.0, v.1), subst (AllByRecursion RangedRow) (sym f.2) tt, change_ranged a r arrival (cut_by n w.cancelled) (λ o. (refl, omega arith)))
    answer_ranged (call.Cancel arrival) room (Ok w) rows g f =
        let number = f.0 in
        let none_open = f.3 in
        let off = f.4 in
        let l = remainder_ranged a r arrival in
        let m = resting_ranged a r arrival (λ z. grind (arith, nat_tests)) in
        (grind (arith, nat_tests), subst (AllByRecursion RangedRow) (sym f.2) tt, change_ranged a r arrival (less w.cancelled) (less_lowers w.cancelled))
    answer_ranged (call.Post market side price shares) room (Ok w) rows g f =
        let number = f.0 in
        let none_open = f.3 in
        let off = f.4 in
        let fits = cond_both (eqb shares 0) None (Some (record { price = price; shares = shares })) (λ q. quote_ok q ≡ true) (λ _. refl) (λ t. grind (arith, nat_tests)) in
        let lawful = with_quote_lawful a.quotes r.quotes side market (posted price shares) (grind (arith, nat_tests)) fits in
        (grind (arith, nat_tests), subst (AllByRecursion RangedRow) (sym f.2) tt, record { known = r.known; accepted = r.accepted; quotes = lawful })

  tape_passed : (es : List Entry) (a : Account) → Ranged a → FairTape ranking a es → AllByRecursion RangedEntry es
  tape_passed [] a r f = tt
  tape_passed (e ∷ es) a r f =
      let v = answer_ranged a r e.call e.room e.answer e.rows f.0.refusal f.0.answer in
      ((v.0, v.1), tape_passed es (reckon e a) v.2 f.1)

pub tape_ranged : TapeRanged
tape_ranged ranking law b l cs = tape_passed ranking (tape (terms ranking) (fresh b) cs) (empty_account b) (record { known = λ n. tt; accepted = omega arith; quotes = l }) (tape_law ranking law b l cs)
