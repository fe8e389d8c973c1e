-- Whatever passes the judge is decided by the account and the calls: the refusal, the rows one by one, and the figures answered.
-- Rests on the order of a side, which is total.
use Rattle.std.proofs.Common.{◌≡◌, ℕ, zero, suc, min, Bool, true, false, List, [], ◌∷◌, length, Some, None, Ok, Err, Option, Result, sym, refl, ap, ◌∙◌, subst, ap₂, inl, inr, arith}
use Rattle.std.proofs.lemmas.Bool.Decides.{not_from_Decides}
use Rattle.std.proofs.lemmas.Bool.{cases_Bool, cases_eq, cases_lt, both_ways}
use Rattle.market.specs.declared.types.Side.{Side}
use Rattle.market.specs.declared.types.Side.TheVariants.{Buy, Sell}
use Rattle.market.specs.declared.types.Refusal.{Refusal}
use Rattle.market.specs.Words.{opposite}
use Rattle.board.specs.declared.types.Quote.{Quote}
use Rattle.board.specs.Quotes.{Quotes}
use Rattle.rules.specs.declared.types.Order.{Order}
use Rattle.rules.specs.declared.types.Row.{Row}
use Rattle.rules.specs.declared.types.Row.TheVariants.{Fill, Route}
use Rattle.rules.specs.declared.types.Call.{Call}
use Rattle.rules.specs.declared.types.Call.TheVariants as call
use Rattle.rules.specs.declared.types.Accepted.{Accepted}
use Rattle.rules.specs.Orders.{mtv_of, cancels}
use Rattle.rules.specs.Rankings.{Ranking, Ranks, before}
use Rattle.rules.specs.Calls.{new_order, leaves}
use Rattle.law.specs.Tape.{Entry, Account, remainder, added, reckon_row, reckon_rows, reckon_answer, reckon}
use Rattle.law.specs.Judge.{Better, NotBetter, NoneBetter, MayTrade, InTurn, FairFill, FairRoute, FairRow, Ended, FairSweep, Counts, Sum, OrderCounts, QuoteCounts, Volume, FirstCase, Cases, FairEntry, FairCut, FairCall, FairAnswer, refusal_of, ProgramRests, Judged}
use Rattle.law.specs.Law.{FairTape}
use Rattle.law.specs.Verdicts.{SameCalls, SameEntry, SameTape, OneVerdict}
use Rattle.rules.specs.Precedences.{orders_total}
use Rattle.law.proofs.Branches.{some_is, none_some}
use Rattle.law.proofs.Refusals.{decides_leaves}

-- one known order under one number
known_once : (a : Account) (n : ℕ) (i j : Order) → a.known n ≡ Some i → a.known n ≡ Some j → i ≡ j
known_once a n i j e f = some_is i j (sym e ∙ f)

-- the first case that holds is one
case_once : (cs : List (Refusal × Type 0)) (r s : Option Refusal) → FirstCase cs r → FirstCase cs s → r ≡ s
case_once [] r s f g = f ∙ sym g
case_once (c ∷ cs) r s f g = elim f [
  | inl p ↦ elim g [ inl q ↦ p.1 ∙ sym q.1 | inr q ↦ absurd (q.0 p.0) ]
  | inr p ↦ elim g [ inl q ↦ absurd (p.0 q.0) | inr q ↦ case_once cs r s p.1 q.1 ]
]

same_answer : (w z : Accepted) → w.arrival ≡ z.arrival → w.«open» ≡ z.«open» → w.cancelled ≡ z.cancelled → w.rows ≡ z.rows → w ≡ z
same_answer w z arrival left cancelled rows = λ k. record { arrival = arrival k; «open» = left k; cancelled = cancelled k; rows = rows k }

-- Figures that count.
counts_once : {P : Type 0} (n v w : ℕ) → Counts P n v → Counts P n w → v ≡ w
counts_once n v w c d = elim c [
  | inl p ↦ elim d [ inl q ↦ p.1 ∙ sym q.1 | inr q ↦ absurd (q.0 p.0) ]
  | inr p ↦ elim d [ inl q ↦ absurd (p.0 q.0) | inr q ↦ p.1 ∙ sym q.1 ]
]

order_once : (a : Account) (i : Order) (o : Option Order) (v w : ℕ) → OrderCounts a i o v → OrderCounts a i o w → v ≡ w
order_once a i None v w c d = c ∙ sym d
order_once a i (Some o) v w c d = counts_once o.«open» v w c d

quote_once : (i : Order) (q : Option Quote) (v w : ℕ) → QuoteCounts i q v → QuoteCounts i q w → v ≡ w
quote_once i None v w c d = c ∙ sym d
quote_once i (Some q) v w c d = counts_once q.shares v w c d

sum_once : (F : ℕ → ℕ → Type 0) → ((k v w : ℕ) → F k v → F k w → v ≡ w) → (n v w : ℕ) → Sum F n v → Sum F n w → v ≡ w
sum_once F once zero v w c d = c ∙ sym d
sum_once F once (suc n) v w c d =
    let (x, y, f, s, e) = c in
    let (x', y', f', s', e') = d in
    let p = once (suc n) x x' f f' in
    let q = sum_once F once n y y' s s' in
    omega arith

volume_once : (a : Account) (i : Order) (v w : ℕ) → Volume a i v → Volume a i w → v ≡ w
volume_once a i v w c d =
    let (x, y, f, s, e) = c in
    let (x', y', f', s', e') = d in
    let p = sum_once (λ n. OrderCounts a i (a.known n)) (λ k. order_once a i (a.known k)) a.accepted x x' f f' in
    let q = sum_once (λ m. QuoteCounts i (a.quotes (opposite i.side) m)) (λ k. quote_once i (a.quotes (opposite i.side) k)) 16 y y' s s' in
    omega arith

-- Prices.
not_both : (s : Side) (a b : ℕ) → Better s a b → NotBetter s a b → ⊥
not_both Buy a b p q = omega arith
not_both Sell a b p q = omega arith

level : (s : Side) (a b : ℕ) → NotBetter s a b → NotBetter s b a → a ≡ b
level Buy a b p q = omega arith
level Sell a b p q = omega arith

-- a price that no bid is above and no offer below, from the side that a route would take
barred : (b : Quotes) (p : ℕ) → NoneBetter b Buy p → NoneBetter b Sell p → (s : Side) → NoneBetter b s p
barred b p bid offer Buy = bid
barred b p bid offer Sell = offer

module _ (ranking : Ranking) (law : Ranks ranking) where
  -- one order has its turn
  turn_once : (a : Account) (i o x : Order) → InTurn ranking a i o → InTurn ranking a i x → o ≡ x
  turn_once a i o x p q =
      let f = p.may_trade.first_four in
      let g = q.may_trade.first_four in
      let s : Side = opposite i.side in
      let behind : before ranking s x o ≡ false = subst (λ t. before ranking t x o ≡ false) f.across (p.foremost x q.may_trade) in
      let ahead : before ranking s o x ≡ false = subst (λ t. before ranking t o x ≡ false) g.across (q.foremost o p.may_trade) in
      elim (cases_eq o.arrival x.arrival) [
        | inl e ↦ known_once a o.arrival o x f.rests.known (ap a.known e ∙ g.rests.known)
        | inr d ↦ elim ((orders_total ranking law s).apart o x d) [ inl t ↦ absurd (both_ways (before ranking s o x) ahead t) | inr t ↦ absurd (both_ways (before ranking s x o) behind t) ]
      ]

  -- The next row is one.
  fill_once : (a : Account) (arrival i r p n i' r' p' n' : ℕ) (x o x' o' : Order) → FairFill ranking a arrival i r p n x o → FairFill ranking a arrival i' r' p' n' x' o' → Fill i r p n ≡ Fill i' r' p' n'
  fill_once a arrival i r p n i' r' p' n' x o x' o' f g =
      let incoming : i ≡ i' = f.entry ∙ sym g.entry in
      let same : x ≡ x' = known_once a i x x' f.known (ap a.known incoming ∙ g.known) in
      let order : o ≡ o' = turn_once a x o o' f.in_turn (subst (λ z. InTurn ranking a z o') (sym same) g.in_turn) in
      let resting : r ≡ r' = f.numbered ∙ ap (λ (z : Order). z.arrival) order ∙ sym g.numbered in
      let price : p ≡ p' = f.at_price ∙ ap (λ (z : Order). z.price) order ∙ sym g.at_price in
      let shares : n ≡ n' = f.quantity ∙ ap₂ (λ (z : Order) (y : Order). min z.«open» y.«open») same order ∙ sym g.quantity in
      λ k. Fill (incoming k) (resting k) (price k) (shares k)

  route_once : (a : Account) (arrival i m p n i' m' p' n' : ℕ) (x o x' o' : Order) (q q' : Quote) → FairRoute ranking a arrival i m p n x o q → FairRoute ranking a arrival i' m' p' n' x' o' q' → Route i m p n ≡ Route i' m' p' n'
  route_once a arrival i m p n i' m' p' n' x o x' o' q q' f g =
      let incoming : i ≡ i' = f.entry ∙ sym g.entry in
      let same : x ≡ x' = known_once a i x x' f.known (ap a.known incoming ∙ g.known) in
      let moved : FairRoute ranking a arrival i' m' p' n' x o' q' = subst (λ z. FairRoute ranking a arrival i' m' p' n' z o' q') (sym same) g in
      let level_price : q.price ≡ q'.price = level (opposite x.side) q.price q'.price (moved.best m q f.quoted) (f.best m' q' moved.quoted) in
      let low = f.lowest m' q' moved.quoted (sym level_price) in
      let high = moved.lowest m q f.quoted level_price in
      let market : m ≡ m' = omega arith in
      let quote : q ≡ q' = some_is q q' (sym f.quoted ∙ ap (a.quotes (opposite x.side)) market ∙ moved.quoted) in
      let price : p ≡ p' = f.at_price ∙ level_price ∙ sym g.at_price in
      let shares : n ≡ n' = f.quantity ∙ ap (λ (z : Quote). min x.«open» z.shares) quote ∙ sym moved.quantity in
      λ k. Route (incoming k) (market k) (price k) (shares k)

  -- a fill goes past no quotation that a route would take
  not_both_rows : (a : Account) (arrival i r p n i' m p' n' : ℕ) (x o x' o' : Order) (q : Quote) → FairFill ranking a arrival i r p n x o → FairRoute ranking a arrival i' m p' n' x' o' q → ⊥
  not_both_rows a arrival i r p n i' m p' n' x o x' o' q f g =
      let same : x' ≡ x = known_once a i x' x (ap a.known (f.entry ∙ sym g.entry) ∙ g.known) f.known in
      let order : o' ≡ o = turn_once a x o' o (subst (λ z. InTurn ranking a z o') same g.in_turn) f.in_turn in
      let s : Side = opposite x'.side in
      let better : Better s q.price p = subst (λ z. Better s q.price z) (ap (λ (z : Order). z.price) order ∙ sym f.at_price) g.better in
      not_both s q.price p better (barred a.quotes p f.no_bid_above f.no_offer_below s m q g.quoted)

  row_once : (a : Account) (arrival : ℕ) (r s : Row) → FairRow ranking a arrival r → FairRow ranking a arrival s → r ≡ s
  row_once a arrival (Fill i r p n) (Fill i' r' p' n') f g = let (x, o, u) = f in let (x', o', v) = g in fill_once a arrival i r p n i' r' p' n' x o x' o' u v
  row_once a arrival (Fill i r p n) (Route i' m p' n') f g = let (x, o, u) = f in let (x', o', q, v) = g in absurd (not_both_rows a arrival i r p n i' m p' n' x o x' o' q u v)
  row_once a arrival (Route i' m p' n') (Fill i r p n) g f = let (x, o, u) = f in let (x', o', q, v) = g in absurd (not_both_rows a arrival i r p n i' m p' n' x o x' o' q u v)
  row_once a arrival (Route i m p n) (Route i' m' p' n') f g = let (x, o, q, u) = f in let (x', o', q', v) = g in route_once a arrival i m p n i' m' p' n' x o x' o' q q' u v

  -- where a sweep has ended there is no row, and where there is a row it has not ended
  not_ended : (a : Account) (arrival : ℕ) (r : Row) → Ended a arrival → FairRow ranking a arrival r → ⊥
  not_ended a arrival (Fill i r p n) e f =
      let (x, known, ends) = e in
      let (y, o, u) = f in
      let same : y ≡ x = known_once a i y x u.known (ap a.known u.entry ∙ known) in
      let left = ap (λ (z : Order). z.«open») same in
      let q = u.quantity in
      let some = u.some_shares in
      elim ends [ inl z ↦ omega arith | inr none ↦ none o (subst (λ z. MayTrade a z o) same u.in_turn.may_trade) ]
  not_ended a arrival (Route i m p n) e f =
      let (x, known, ends) = e in
      let (y, o, q, u) = f in
      let same : y ≡ x = known_once a i y x u.known (ap a.known u.entry ∙ known) in
      let left = ap (λ (z : Order). z.«open») same in
      let n_is = u.quantity in
      let some = u.some_shares in
      elim ends [ inl z ↦ omega arith | inr none ↦ none o (subst (λ z. MayTrade a z o) same u.in_turn.may_trade) ]

  sweep_once : (arrival : ℕ) (rs ss : List Row) (a : Account) → FairSweep ranking arrival a rs → FairSweep ranking arrival a ss → rs ≡ ss
  sweep_once arrival [] [] a f g = refl
  sweep_once arrival [] (s ∷ ss) a f g = absurd (not_ended a arrival s f g.0)
  sweep_once arrival (r ∷ rs) [] a f g = absurd (not_ended a arrival r g f.0)
  sweep_once arrival (r ∷ rs) (s ∷ ss) a f g =
      let row = row_once a arrival r s f.0 g.0 in
      let rest = sweep_once arrival rs ss (reckon_row r a) f.1 (subst (λ x. FairSweep ranking arrival (reckon_row x a) ss) (sym row) g.1) in
      ap₂ (λ (x : Row) (xs : List Row). x ∷ xs) row rest

  -- The answer is one.
  entry_rows_once : (a : Account) (i : Order) (w z : Accepted) (rs ss : List Row) → FairEntry ranking a i w rs → FairEntry ranking a i z ss → rs ≡ ss
  entry_rows_once a i w z rs ss f g =
      let (v, m) = f.measured in
      let (u, n) = g.measured in
      let same = volume_once (added i a) i v u m.volume_is n.volume_is in
      elim (cases_lt v (mtv_of i.kind)) [
        | inl l ↦ m.below l ∙ sym (n.below (omega arith))
        | inr l ↦ sweep_once i.arrival rs ss (added i a) (m.reached l) (n.reached (omega arith))
      ]

  entry_once : (a : Account) (i : Order) (w z : Accepted) (rs ss : List Row) → FairEntry ranking a i w rs → FairEntry ranking a i z ss → (w ≡ z) × (rs ≡ ss)
  entry_once a i w z rs ss f g =
      let rows = entry_rows_once a i w z rs ss f g in
      let left = ap (λ xs. remainder (reckon_rows xs (added i a)) i.arrival) rows in
      let count = f.count ∙ ap length rows ∙ sym g.count in
      elim (cases_Bool (cancels i.kind)) [
        | inl t ↦
            let p = f.cancelling t in
            let q = g.cancelling t in
            (same_answer w z (f.arrival ∙ sym g.arrival) (p.0 ∙ sym q.0) (p.1 ∙ left ∙ sym q.1) count, rows)
        | inr t ↦
            let p = f.resting t in
            let q = g.resting t in
            (same_answer w z (f.arrival ∙ sym g.arrival) (p.0 ∙ left ∙ sym q.0) (p.1 ∙ sym q.1) count, rows)
      ]

  cut_once : (a : Account) (k n : ℕ) (w z : Accepted) (o x : Order) → w.arrival ≡ z.arrival → w.rows ≡ z.rows → FairCut a k n w o → FairCut a k n z x → w ≡ z
  cut_once a k n w z o x arrival rows f g' =
      let g = subst (λ y. FairCut a k n z y) (known_once a k x o g'.known f.known) g' in
      elim (cases_Bool (leaves n o)) [
        | inl t ↦
            let l = (decides_leaves n o).0 t in
            let p = f.leaving l in
            let q = g.leaving l in
            same_answer w z arrival (p.0 ∙ sym q.0) (p.1 ∙ sym q.1) rows
        | inr t ↦
            let l = not_from_Decides (leaves n o) (decides_leaves n o) t in
            let p = f.staying l in
            let q = g.staying l in
            same_answer w z arrival (p.0 ∙ sym q.0) (p.1 ∙ sym q.1) rows
      ]

  call_once : (a : Account) (c : Call) (w z : Accepted) (rs ss : List Row) → FairCall ranking a c w rs → FairCall ranking a c z ss → (w ≡ z) × (rs ≡ ss)
  call_once a (call.Enter side price kind shares) w z rs ss f g = entry_once a (new_order (suc a.accepted) side price kind shares) w z rs ss f g
  call_once a (call.Cut arrival shares) w z rs ss f g =
      let (o, p) = f.3 in
      let (x, q) = g.3 in
      (cut_once a arrival shares w z o x (f.0 ∙ sym g.0) (f.1 ∙ sym g.1) p q, f.2 ∙ sym g.2)
  call_once a (call.Cancel arrival) w z rs ss f g = (same_answer w z (f.0 ∙ sym g.0) (f.3 ∙ sym g.3) (f.4 ∙ sym g.4) (f.1 ∙ sym g.1), f.2 ∙ sym g.2)
  call_once a (call.Post number side price shares) w z rs ss f g = (same_answer w z (f.0 ∙ sym g.0) (f.3 ∙ sym g.3) (f.4 ∙ sym g.4) (f.1 ∙ sym g.1), f.2 ∙ sym g.2)

  answer_once : (a : Account) (c : Call) (w z : Result Accepted Refusal) (rs ss : List Row) → refusal_of w ≡ refusal_of z → FairAnswer ranking a c w rs → FairAnswer ranking a c z ss → (w ≡ z) × (rs ≡ ss)
  answer_once a c (Ok w) (Ok z) rs ss e f g = let p = call_once a c w z rs ss f g in (ap Ok p.0, p.1)
  answer_once a c (Ok w) (Err z) rs ss e f g = absurd (none_some z e)
  answer_once a c (Err w) (Ok z) rs ss e f g = absurd (none_some w (sym e))
  answer_once a c (Err w) (Err z) rs ss e f g = (ap Err (some_is w z e), f ∙ sym g)

  lit_once : (a : Account) (x y : Bool) → (x ≡ true → ProgramRests a) → (x ≡ false → ProgramRests a → ⊥) → (y ≡ true → ProgramRests a) → (y ≡ false → ProgramRests a → ⊥) → x ≡ y
  lit_once a true true p q r s = refl
  lit_once a true false p q r s = absurd (s refl (p refl))
  lit_once a false true p q r s = absurd (q refl (r refl))
  lit_once a false false p q r s = refl

  judged_once : (a : Account) (e d : Entry) → e.call ≡ d.call → e.room ≡ d.room → Judged ranking a e → Judged ranking a d → SameEntry e d × (reckon e a ≡ reckon d a)
  judged_once a e d c room f g =
      let refusal = case_once (Cases a e.call e.room) (refusal_of e.answer) (refusal_of d.answer) f.refusal (subst (λ x. FirstCase (Cases a x e.room) (refusal_of d.answer)) (sym c) (subst (λ x. FirstCase (Cases a d.call x) (refusal_of d.answer)) (sym room) g.refusal)) in
      let both = answer_once a e.call e.answer d.answer e.rows d.rows refusal f.answer (subst (λ x. FairAnswer ranking a x d.answer d.rows) (sym c) g.answer) in
      let then : reckon e a ≡ reckon d a = λ k. reckon_answer (c k) (both.0 k) (both.1 k) a in (
        record {
          answer = both.0;
          rows = both.1;
          shown = λ n. f.shown n ∙ ap (λ x. remainder x n) then ∙ sym (g.shown n);
          light = lit_once (reckon e a) e.light d.light f.lit f.unlit (λ t. subst ProgramRests (sym then) (g.lit t)) (λ t p. g.unlit t (subst ProgramRests then p));
        },
        then,
      )

  pub tape_once : (es ds : List Entry) (a : Account) → SameCalls es ds → FairTape ranking a es → FairTape ranking a ds → SameTape es ds
  tape_once [] [] a s f g = tt
  tape_once [] (d ∷ ds) a s f g = s
  tape_once (e ∷ es) [] a s f g = s
  tape_once (e ∷ es) (d ∷ ds) a s f g =
      let here = judged_once a e d s.0 s.1 f.0 g.0 in
      (here.0, tape_once es ds (reckon e a) s.2 f.1 (subst (λ x. FairTape ranking x ds) (sym here.1) g.1))

pub one_verdict : OneVerdict
one_verdict ranking law a es ds s f g = tape_once ranking law es ds a s f g
