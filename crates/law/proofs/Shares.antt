-- Shares are kept by whatever passes the judge, and so by every call; rows and sides stay within their bounds.
-- Rests on the law of the tape.
use Rattle.std.proofs.Common.{◌≡◌, ℕ, suc, ◌+◌, ◌-◌, ◌≤◌, cond, eqb, List, [], ◌∷◌, length, Some, Ok, Err, Result, sym, refl, ap, ◌∙◌, subst, inl, inr, arith}
use Rattle.std.proofs.lemmas.Bool.Decides.{not_from_Decides}
use Rattle.std.proofs.lemmas.Bool.{cases_Bool, cases_eq, cases_lt, cond-true, cond-false, eq-eqb, ne_eqb}
use Rattle.market.specs.declared.types.Side.{Side}
use Rattle.market.specs.declared.types.Refusal.{Refusal}
use Rattle.rules.specs.declared.types.Order.{Order}
use Rattle.rules.specs.declared.types.Row.{Row}
use Rattle.rules.specs.declared.types.Row.TheVariants.{Fill, Route}
use Rattle.rules.specs.declared.types.Call.{Call}
use Rattle.rules.specs.declared.types.Call.TheVariants as call
use Rattle.rules.specs.declared.types.Accepted.{Accepted}
use Rattle.rules.specs.Orders.{mtv_of, cancels}
use Rattle.rules.specs.Rankings.{Ranking, Ranks}
use Rattle.rules.specs.Sweeps.{less}
use Rattle.rules.specs.Calls.{Market, Outcome, terms, fresh, of_side, new_order, apply, open_shares, leaves}
use Rattle.law.specs.Tape.{Account, empty_account, remainder_of, remainder, changed, change, added, reckon_row, reckon_rows, cut_by, reckon_answer, reckon}
use Rattle.law.specs.Judge.{FairFill, FairSweep, FairEntry, FairAnswer}
use Rattle.law.specs.Law.{after, entry}
use Rattle.law.specs.Keeping.{AtEveryCall, traded, filled_of, SharesAnswered, SharesKept, Named, FillsKept, RowsFit, SidesFit}
use Rattle.law.proofs.Markets.{Kept, Matches, remainder_is}
use Rattle.law.proofs.Refusals.{decides_leaves}
use Rattle.law.proofs.Tapes.{Good, call_good, reached, fresh_kept, fresh_matches}

-- what a row leaves of an order of which it takes no more than is there
lowered : (a : Account) (k n : ℕ) (o : Order) → a.known k ≡ Some o → n ≤ o.«open» → remainder a k ≡ remainder (change k (less n) a) k + n
lowered a k n o e l =
    let was : remainder a k ≡ o.«open» = ap remainder_of e in
    let is : remainder (change k (less n) a) k ≡ o.«open» - n = ap remainder_of (cond-true _ _ _ (eq-eqb k k refl) ∙ ap (changed (less n)) e) in
    omega arith

untouched : (a : Account) (k m : ℕ) (f : Order → Order) → (k ≡ m → ⊥) → remainder (change k f a) m ≡ remainder a m
untouched a k m f d = ap remainder_of (cond-false _ _ _ (ne_eqb k m d))

module _ (ranking : Ranking) (arrival : ℕ) where
  -- A fair sweep takes off its order what its rows say, and off each resting order what its fills say.
  fill_known : (a : Account) (incoming resting price shares : ℕ) (i o : Order) → FairFill ranking a arrival incoming resting price shares i o → (resting ≡ incoming → ⊥) × ((shares ≤ i.«open») × (shares ≤ o.«open»))
  fill_known a incoming resting price shares i o f =
      let q = f.quantity in
      let r = f.in_turn.may_trade.first_four.rests in (
        (λ e.
            let same : Some i ≡ Some o = sym f.known ∙ sym (ap a.known e) ∙ f.at_rest in
            let z : i ≡ o = cc in
            r.another (ap (λ (x : Order). x.arrival) z)),
        (omega arith, omega arith),
      )

  swept_own : (rows : List Row) (a : Account) → FairSweep ranking arrival a rows → remainder a arrival ≡ remainder (reckon_rows rows a) arrival + traded rows
  swept_own [] a f = omega arith
  swept_own (Fill incoming resting price shares ∷ rows) a f =
      let (i, o, w) = f.0 in
      let rest = swept_own rows (reckon_row (Fill incoming resting price shares) a) f.1 in
      let k = fill_known a incoming resting price shares i o w in
      let e = w.entry in
      let one : remainder a incoming ≡ remainder (change incoming (less shares) a) incoming + shares = lowered a incoming shares i w.known k.1.0 in
      let two : remainder (change resting (less shares) (change incoming (less shares) a)) incoming ≡ remainder (change incoming (less shares) a) incoming = untouched (change incoming (less shares) a) resting incoming (less shares) k.0 in
      let both : remainder a arrival ≡ remainder (change resting (less shares) (change incoming (less shares) a)) arrival + shares =
      subst (λ j. remainder a j ≡ remainder (change resting (less shares) (change incoming (less shares) a)) j + shares) e (omega arith) in
      omega arith
  swept_own (Route incoming market price shares ∷ rows) a f =
      let (i, o, q, w) = f.0 in
      let rest = swept_own rows (reckon_row (Route incoming market price shares) a) f.1 in
      let e = w.entry in
      let n = w.quantity in
      let one : remainder a arrival ≡ remainder (change incoming (less shares) a) arrival + shares =
      subst (λ j. remainder a j ≡ remainder (change incoming (less shares) a) j + shares) e (lowered a incoming shares i w.known (omega arith)) in
      omega arith

  swept_other : (n : ℕ) → (arrival ≡ n → ⊥) → (rows : List Row) (a : Account) → FairSweep ranking arrival a rows → remainder a n ≡ remainder (reckon_rows rows a) n + filled_of n rows
  swept_other n d [] a f = omega arith
  swept_other n d (Fill incoming resting price shares ∷ rows) a f =
      let (i, o, w) = f.0 in
      let rest = swept_other n d rows (reckon_row (Fill incoming resting price shares) a) f.1 in
      let k = fill_known a incoming resting price shares i o w in
      let e = w.entry in
      let b : Account = change incoming (less shares) a in
      let one : remainder b n ≡ remainder a n = untouched a incoming n (less shares) (λ g. d (sym e ∙ g)) in
      let two : remainder b n ≡ remainder (change resting (less shares) b) n + cond (eqb resting n) shares 0 = elim (cases_eq resting n) [
        | inl g ↦
            let at : b.known resting ≡ Some o = cond-false _ _ _ (ne_eqb incoming resting (λ z. k.0 (sym z))) ∙ w.at_rest in
            let here = lowered b resting shares o at k.1.1 in
            let counts : cond (eqb resting n) shares 0 ≡ shares = cond-true _ _ _ (eq-eqb resting n g) in
            let moved : remainder b n ≡ remainder (change resting (less shares) b) n + shares = subst (λ j. remainder b j ≡ remainder (change resting (less shares) b) j + shares) g here in
            omega arith
        | inr g ↦
            let here = untouched b resting n (less shares) g in
            let counts : cond (eqb resting n) shares 0 ≡ 0 = cond-false _ _ _ (ne_eqb resting n g) in
            omega arith
      ] in
      omega arith
  swept_other n d (Route incoming market price shares ∷ rows) a f =
      let (i, o, q, w) = f.0 in
      let rest = swept_other n d rows (reckon_row (Route incoming market price shares) a) f.1 in
      let e = w.entry in
      let one : remainder (change incoming (less shares) a) n ≡ remainder a n = untouched a incoming n (less shares) (λ g. d (sym e ∙ g)) in
      omega arith

  -- the same where an MTV may keep the entry from trading
  module _ (a : Account) (i : Order) (same : i.arrival ≡ arrival) (w : Accepted) (rows : List Row) (f : FairEntry ranking a i w rows) where
    entry_own : remainder (added i a) arrival ≡ remainder (reckon_rows rows (added i a)) arrival + traded rows
    entry_own = let (v, m) = f.measured in elim (cases_lt v (mtv_of i.kind)) [
      | inl l ↦ subst (λ rs. remainder (added i a) arrival ≡ remainder (reckon_rows rs (added i a)) arrival + traded rs) (sym (m.below l)) (omega arith)
      | inr l ↦ swept_own rows (added i a) (subst (λ j. FairSweep ranking j (added i a) rows) same (m.reached l))
    ]

    entry_other : (n : ℕ) → (arrival ≡ n → ⊥) → remainder (added i a) n ≡ remainder (reckon_rows rows (added i a)) n + filled_of n rows
    entry_other n d = let (v, m) = f.measured in elim (cases_lt v (mtv_of i.kind)) [
      | inl l ↦ subst (λ rs. remainder (added i a) n ≡ remainder (reckon_rows rs (added i a)) n + filled_of n rs) (sym (m.below l)) (omega arith)
      | inr l ↦ swept_other n d rows (added i a) (subst (λ j. FairSweep ranking j (added i a) rows) same (m.reached l))
    ]

module _ (ranking : Ranking) (m : Market) (a : Account) (h : Matches a m) where
  answered : (c : Call) (r : Result Accepted Refusal) (rows : List Row) → FairAnswer ranking a c r rows → SharesAnswered m c r rows
  answered c (Err e) rows f = tt
  answered (call.Enter side price kind shares) (Ok w) rows f =
      let i : Order = new_order (suc a.accepted) side price kind shares in
      let own = entry_own ranking (suc a.accepted) a i refl w rows f in
      let whole : remainder (added i a) (suc a.accepted) ≡ shares = ap remainder_of (cond-true _ _ _ (eq-eqb (suc a.accepted) (suc a.accepted) refl)) in
      elim (cases_Bool (cancels kind)) [
        | inl t ↦ let u = f.cancelling t in let p = u.0 in let q = u.1 in omega arith
        | inr t ↦ let u = f.resting t in let p = u.0 in let q = u.1 in omega arith
      ]
  answered (call.Cut arrival n) (Ok w) rows f =
      let (o, u) = f.3 in
      let was : remainder a arrival ≡ o.«open» = ap remainder_of u.known in
      let is = remainder_is a m h arrival in
      elim (cases_Bool (leaves n o)) [
        | inl t ↦ let v = u.leaving ((decides_leaves n o).0 t) in let p = v.0 in let q = v.1 in omega arith
        | inr t ↦
            let stays = not_from_Decides (leaves n o) (decides_leaves n o) t in
            let more : n ≤ o.«open» = elim (cases_lt o.«open» n) [ inl l ↦ absurd (stays (inl (omega arith))) | inr l ↦ l ] in
            let v = u.staying stays in
            let p = v.0 in
            let q = v.1 in
            omega arith
      ]
  answered (call.Cancel arrival) (Ok w) rows f = let is = remainder_is a m h arrival in let p = f.3 in let q = f.4 in omega arith
  answered (call.Post number side price shares) (Ok w) rows f = tt

  -- what the account has of every other order
  others : (c : Call) (r : Result Accepted Refusal) (rows : List Row) → FairAnswer ranking a c r rows → (n : ℕ) → (Named r n → ⊥) → remainder a n ≡ remainder (reckon_answer c r rows a) n + filled_of n rows
  others c (Err e) rows f n d = subst (λ rs. remainder a n ≡ remainder a n + filled_of n rs) (sym f) (omega arith)
  others (call.Enter side price kind shares) (Ok w) rows f n d =
      let i : Order = new_order (suc a.accepted) side price kind shares in
      let number : w.arrival ≡ suc a.accepted = f.arrival in
      let ne : suc a.accepted ≡ n → ⊥ = λ e. d (number ∙ e) in
      let other = entry_other ranking (suc a.accepted) a i refl w rows f n ne in
      let was : remainder (added i a) n ≡ remainder a n = ap remainder_of (cond-false _ _ _ (ne_eqb (suc a.accepted) n ne)) in
      let same : remainder (reckon_rows rows (added (new_order w.arrival side price kind shares) a)) n ≡ remainder (reckon_rows rows (added i a)) n = ap (λ j. remainder (reckon_rows rows (added (new_order j side price kind shares) a)) n) number in
      let off = untouched (reckon_rows rows (added (new_order w.arrival side price kind shares) a)) w.arrival n (less w.cancelled) d in
      omega arith
  others (call.Cut arrival k) (Ok w) rows f n d =
      let off = untouched a arrival n (cut_by k w.cancelled) (λ e. d (f.0 ∙ e)) in
      subst (λ rs. remainder a n ≡ remainder (change arrival (cut_by k w.cancelled) a) n + filled_of n rs) (sym f.2) (omega arith)
  others (call.Cancel arrival) (Ok w) rows f n d =
      let off = untouched a arrival n (less w.cancelled) (λ e. d (f.0 ∙ e)) in
      subst (λ rs. remainder a n ≡ remainder (change arrival (less w.cancelled) a) n + filled_of n rs) (sym f.2) (omega arith)
  others (call.Post number side price shares) (Ok w) rows f n d = subst (λ rs. remainder a n ≡ remainder a n + filled_of n rs) (sym f.2) (omega arith)

-- a statement that holds of every kept and matched market holds at every call
pub everywhere : (Holds : Market → Call → Outcome → Type 0)
    → ((ranking : Ranking) → Ranks ranking → (m : Market) (a : Account) → Kept ranking m → Matches a m → (c : Call) (room : ℕ) → Good ranking a c room (apply (terms ranking) m c room) → Holds m c (apply (terms ranking) m c room))
    → AtEveryCall Holds
everywhere Holds each ranking law b l cs c room =
    let m = after (terms ranking) (fresh b) cs in
    let (a, w) = reached ranking law cs (fresh b) (empty_account b) (fresh_kept ranking b l) (fresh_matches b) in
    each ranking law m a w.0 w.1 c room (call_good ranking law m a w.0 w.1 c room)

pub shares_kept : SharesKept
shares_kept = everywhere (λ m c o. SharesAnswered m c o.answer o.rows)
    (λ ranking law m a k h c room g. answered ranking m a h c (apply (terms ranking) m c room).answer (apply (terms ranking) m c room).rows g.judged.answer)

pub fills_kept : FillsKept
fills_kept = everywhere (λ m c o. (n : ℕ) → (Named o.answer n → ⊥) → open_shares m n ≡ open_shares o.market n + filled_of n o.rows)
    (λ ranking law m a k h c room g n d.
    let o = apply (terms ranking) m c room in
    let before = remainder_is a m h n in
    let then : open_shares o.market n ≡ remainder (reckon (entry c room o) a) n = remainder_is (reckon (entry c room o) a) o.market g.matches n in
    let other = others ranking m a h c o.answer o.rows g.judged.answer n d in
    before ∙ other ∙ ap (λ x. x + filled_of n o.rows) (sym then))

pub rows_fit : RowsFit
rows_fit = everywhere (λ m c o. length o.rows ≤ 144) (λ ranking law m a k h c room g. g.few)

pub sides_fit : SidesFit
sides_fit = everywhere (λ m c o. (side : Side) → length (of_side side o.market) ≤ 128) (λ ranking law m a k h c room g side. (g.kept.sides side).room)
