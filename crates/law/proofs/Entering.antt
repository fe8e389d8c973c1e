-- An entry that is accepted: its answer and rows pass the judge, and the market after it is kept and matched.
-- Rests on the lemmas on sweeps, volumes and markets.
use Rattle.std.proofs.Common.{◌≡◌, ℕ, suc, ◌+◌, ◌-◌, ◌<◌, ◌≤◌, true, false, cond, not, ◌&&◌, eqb, leb, List, [], ◌∷◌, length, Some, None, sym, refl, ap, ◌∙◌, subst, ap₂, inl, inr, arith}
use Rattle.std.specs.List.{AllByRecursion}
use Rattle.std.proofs.lemmas.Bool.Decides.{nat_tests}
use Rattle.std.proofs.lemmas.Bool.{cases_Bool, cases_eq, cond_both, cond-true, cond-false, eq-eqb, ne_eqb, eqb-true, leb-true, leb-false}
use Rattle.std.proofs.ByRecursion.{All-weaker}
use Rattle.market.specs.declared.types.Side.{Side}
use Rattle.market.specs.Words.{opposite}
use Rattle.shelf.specs.Standing.{put_in}
use Rattle.shelf.proofs.Sorting.{length_put_in}
use Rattle.rules.specs.declared.types.Order.{Order}
use Rattle.rules.specs.declared.types.Row.{Row}
use Rattle.rules.specs.declared.types.Row.TheVariants.{Fill, Route}
use Rattle.rules.specs.Orders.{mtv_of, cancels, too_small}
use Rattle.rules.specs.Rankings.{Ranking, Ranks, before}
use Rattle.rules.specs.Trading.{Stand, volume}
use Rattle.rules.specs.Sweeps.{Swept, with_open, less, standing, swept, sweep, measured_sweep}
use Rattle.rules.specs.Calls.{Market, terms, of_side, or_else, rests, own_after, entered, settled}
use Rattle.law.specs.Tape.{Account, remainder_of, remainder, changed, change, added, reckon_row, reckon_rows}
use Rattle.law.specs.Judge.{Sized, Measured, FairEntry}
use Rattle.law.specs.Holdings.{quoted, holdings}
use Rattle.law.proofs.Branches.{by_test}
use Rattle.law.proofs.Holding.{held_on, held_by_sides, resting_open}
use Rattle.law.proofs.Finding.{found, found_tag, all_found, absent, found_put_in}
use Rattle.law.proofs.Conditions.{arrival_of, OrderKept, SideKept, Apart, living}
use Rattle.law.proofs.Steps.{live, live_is, live_at_most, bulk}
use Rattle.law.proofs.Sweeping.{LeavesOff, untraded, weight_at_most, whole_sweep}
use Rattle.law.proofs.Volumes.{volume_is}
use Rattle.law.proofs.Markets.{or_none, found_in, Kept, Matches, found_made, kept_made, quotes_made, arrivals_made, side_put, side_later, stand_sound, stand_agrees}

rows_accepted : (rows : List Row) (a : Account) → (reckon_rows rows a).accepted ≡ a.accepted
rows_accepted [] a = refl
rows_accepted (Fill incoming resting price n ∷ rows) a = rows_accepted rows (reckon_row (Fill incoming resting price n) a)
rows_accepted (Route arrival market price n ∷ rows) a = rows_accepted rows (reckon_row (Route arrival market price n) a)

-- to take nothing off
less_none : (o : Order) → less 0 o ≡ o
less_none o = ap (λ q. with_open q o) (omega arith)

-- what the account has of an order after its cancelled shares are taken off is what rests of it
residue : (o : Order) → living (Some (less (cond (cancels o.kind) o.«open» 0) o)) ≡ cond (rests o) (Some o) None
residue o =
    by_test (cancels o.kind) (λ b. living (Some (less (cond b o.«open» 0) o)) ≡ cond (not (eqb o.«open» 0) && not b) (Some o) None)
    (λ _. by_test (eqb o.«open» 0) (λ b. living (Some (less o.«open» o)) ≡ cond (not b && false) (Some o) None) (λ _. gone) (λ _. gone))
    (λ _. ap (λ x. living (Some x)) (less_none o) ∙ by_test (eqb o.«open» 0) (λ b. cond b None (Some o) ≡ cond (not b && true) (Some o) None) (λ _. refl) (λ _. refl))
  where
    gone : living (Some (less o.«open» o)) ≡ None
    gone = cond-true _ _ _ (eq-eqb (o.«open» - o.«open») 0 (omega arith))

module _ (ranking : Ranking) (law : Ranks ranking) (m : Market) (a : Account) (k : Kept ranking m) (h : Matches a m) (i : Order) (new : i.arrival ≡ m.arrivals + 1) where
  abbrev start : Stand
  start = standing i (of_side i.side m) (of_side (opposite i.side) m) m.quotes

  abbrev pub done : Swept
  done = measured_sweep start

  abbrev end : Stand
  end = done.stand

  abbrev volume_before : ℕ
  volume_before = volume i (of_side (opposite i.side) m) m.quotes

  -- the account after the rows
  abbrev after_rows : Account
  after_rows = reckon_rows done.rows (added i a)

  pub swept_fairly : LeavesOff ranking m.arrivals start (added i a) done × Measured ranking a i done.rows volume_before
  unfolding measured_sweep
  swept_fairly =
      let ok = stand_sound ranking m a k h i new in
      let ag = stand_agrees ranking m a k h i new in
      let whole = whole_sweep ranking law m.arrivals start (added i a) ok ag in
      let n = h.accepted in
      let v = volume_is ranking m.arrivals start (added i a) ok ag (omega arith) in
      cond_both (leb (mtv_of i.kind) volume_before) (sweep 144 start) (swept [] start) (λ x. LeavesOff ranking m.arrivals start (added i a) x × Measured ranking a i x.rows volume_before)
      (λ t. let l = leb-true (mtv_of i.kind) volume_before t in (whole.leaves_off, record { volume_is = v; below = λ u. absurd (omega arith); reached = λ _. whole.fair }))
      (λ f. let l = leb-false (mtv_of i.kind) volume_before f in (untraded ranking m.arrivals start (added i a) ok ag, record { volume_is = v; below = λ _. refl; reached = λ u. absurd (omega arith) }))

  pub few_rows : length done.rows ≤ 144
  unfolding measured_sweep
  few_rows =
      let ok = stand_sound ranking m a k h i new in
      let whole = whole_sweep ranking law m.arrivals start (added i a) ok (stand_agrees ranking m a k h i new) in
      let w = weight_at_most ranking law m.arrivals start ok in
      let f = whole.few in
      cond_both (leb (mtv_of i.kind) volume_before) (sweep 144 start) (swept [] start) (λ x. length x.rows ≤ 144) (λ _. omega arith) (λ _. omega arith)

  -- the rows, and what is left to trade with, of what there was
  counted : (length done.rows + bulk end ≤ bulk start) × (quoted end.quotes i.side 16 ≡ quoted m.quotes i.side 16)
  unfolding measured_sweep
  counted =
      let whole = whole_sweep ranking law m.arrivals start (added i a) (stand_sound ranking m a k h i new) (stand_agrees ranking m a k h i new) in
      cond_both (leb (mtv_of i.kind) volume_before) (sweep 144 start) (swept [] start) (λ x. (length x.rows + bulk x.stand ≤ bulk start) × (quoted x.stand.quotes i.side 16 ≡ quoted m.quotes i.side 16))
      (λ _. (whole.uses_up, whole.own_quoted)) (λ _. (omega arith, refl))

  -- what the sweep left of the entry
  abbrev left : Order
  left = end.incoming

  off : LeavesOff ranking m.arrivals start (added i a) done
  off = swept_fairly.0

  pub same_arrival : left.arrival ≡ i.arrival
  same_arrival = ap (λ (o : Order). o.arrival) off.same

  same_kind : left.kind ≡ i.kind
  same_kind = ap (λ (o : Order). o.kind) off.same

  known_left : after_rows.known i.arrival ≡ Some left
  known_left = subst (λ n. after_rows.known n ≡ Some left) same_arrival off.agrees.incoming

  pub entered_fair : FairEntry ranking a i (entered left (length done.rows)) done.rows
  entered_fair =
      let rem : remainder after_rows i.arrival ≡ left.«open» = ap remainder_of known_left in
      record {
        arrival = same_arrival;
        count = refl;
        measured = (volume_before, swept_fairly.1);
        cancelling = λ t. let c = ap cancels same_kind ∙ t in (cond-true _ _ _ c, cond-true _ _ _ c ∙ sym rem);
        resting = λ f. let c = ap cancels same_kind ∙ f in (cond-false _ _ _ c ∙ sym rem, cond-false _ _ _ c);
      }

  -- The residue put on its side.
  new_among : (s : Side) (os : List Order) → AllByRecursion (OrderKept s m.arrivals) os → AllByRecursion (λ o. left.arrival ≡ o.arrival → ⊥) os
  new_among s os w = let n = off.sound.newer in All-weaker (OrderKept s m.arrivals) (λ o. left.arrival ≡ o.arrival → ⊥) (λ o u e. let v = u.numbered in omega arith) os w

  new_own : AllByRecursion (λ o. left.arrival ≡ o.arrival → ⊥) end.own
  new_own = new_among left.side end.own off.sound.own.each

  new_opp : AllByRecursion (λ o. left.arrival ≡ o.arrival → ⊥) end.opp
  new_opp = new_among (opposite left.side) end.opp off.sound.opp.each

  abbrev own_then : List Order
  own_then = own_after ranking left end.own

  found_own : (n : ℕ) → found arrival_of n own_then ≡ cond (eqb left.arrival n) (cond (rests left) (Some left) None) (found arrival_of n end.own)
  found_own n =
      by_test (rests left) (λ b. found arrival_of n (cond b (put_in (before ranking left.side) left end.own) end.own) ≡ cond (eqb left.arrival n) (cond b (Some left) None) (found arrival_of n end.own))
      (λ _. found_put_in arrival_of (before ranking left.side) left n end.own new_own)
      (λ _. by_test (eqb left.arrival n) (λ b. found arrival_of n end.own ≡ cond b None (found arrival_of n end.own))
      (λ t. subst (λ x. found arrival_of x end.own ≡ None) (eqb-true left.arrival n t) (absent arrival_of left.arrival end.own new_own))
      (λ _. refl))

  still_apart : Apart own_then end.opp
  still_apart n x y e f = elim (cases_eq left.arrival n) [
    | inl g ↦ all_found (λ o. left.arrival ≡ o.arrival → ⊥) arrival_of n end.opp y new_opp f (g ∙ sym (found_tag arrival_of n end.opp y f))
    | inr g ↦ off.sound.apart n x y (sym (found_own n ∙ cond-false _ _ _ (ne_eqb left.arrival n g)) ∙ e) f
  ]

  left_sized : Sized i → i.«open» ≤ i.size → Sized left
  left_sized z l = record {
    within = let f = off.falls in let s = ap (λ (o : Order). o.size) off.same in omega arith;
    allowed = subst (λ (o : Order). too_small o.kind o.price o.size ≡ false) (sym off.same) z.allowed;
  }

  own_kept : Sized i → (cancels i.kind ≡ false → length (of_side i.side m) < 128) → SideKept ranking left.side left.arrival own_then
  own_kept z room =
      let newer = off.sound.newer in
      let before_it = side_later ranking left.side m.arrivals left.arrival end.own (omega arith) off.sound.own in
      cond_both (rests left) (put_in (before ranking left.side) left end.own) end.own (SideKept ranking left.side left.arrival)
      (λ t.
      let o = ap length off.own in
      let stays : (0 < left.«open») × (cancels left.kind ≡ false) = by_rests left t in
      let l = room (sym (ap cancels same_kind) ∙ stays.1) in
      side_put ranking law left.side left.arrival left end.own before_it
      (record { side = refl; remains = stays.0; from_one = omega arith; numbered = omega arith; sized = left_sized z z.within }) new_own (omega arith))
      (λ _. before_it)
    where
      by_rests : (o : Order) → rests o ≡ true → (0 < o.«open») × (cancels o.kind ≡ false)
      by_rests o t = grind (arith, nat_tests, cases_Bool (cancels o.kind))

  abbrev pub market_then : Market
  market_then = (settled (terms ranking) done).market

  pub entered_kept : Sized i → (cancels i.kind ≡ false → length (of_side i.side m) < 128) → Kept ranking market_then
  entered_kept z room =
      let newer = off.sound.newer in
      kept_made own_then end.opp end.quotes left.arrival still_apart ranking left.side (own_kept z room)
      (side_later ranking (opposite left.side) m.arrivals left.arrival end.opp (omega arith) off.sound.opp) off.sound.quotes

  abbrev cancelled_then : ℕ
  cancelled_then = cond (cancels left.kind) left.«open» 0

  abbrev account_then : Account
  account_then = change i.arrival (less cancelled_then) after_rows

  resting_then : (n : ℕ) → living (account_then.known n) ≡ found_in n market_then
  resting_then n = elim (cases_eq i.arrival n) [
    | inl g ↦ subst (λ j. living (account_then.known j) ≡ found_in j market_then) g
        (ap living (cond-true _ _ _ (eq-eqb i.arrival i.arrival refl) ∙ ap (changed (less cancelled_then)) known_left)
        ∙ residue left
        ∙ sym (or_none (cond (rests left) (Some left) None))
        ∙ sym (found_made own_then end.opp end.quotes left.arrival still_apart left.side i.arrival
        ∙ ap₂ or_else (found_own i.arrival ∙ cond-true _ _ _ (eq-eqb left.arrival i.arrival same_arrival))
        (subst (λ x. found arrival_of x end.opp ≡ None) same_arrival (absent arrival_of left.arrival end.opp new_opp))))
    | inr g ↦
        (let d : left.arrival ≡ n → ⊥ = λ e. g (sym same_arrival ∙ e) in
        ap living (cond-false _ _ _ (ne_eqb i.arrival n g))
        ∙ off.agrees.resting n d
        ∙ sym (found_made own_then end.opp end.quotes left.arrival still_apart left.side n
        ∙ ap (λ r. or_else r (found arrival_of n end.opp)) (found_own n ∙ cond-false _ _ _ (ne_eqb left.arrival n d))))
  ]

  pub entered_matches : Matches account_then market_then
  entered_matches =
      let n = h.accepted in
      let p = rows_accepted done.rows (added i a) in
      let q = arrivals_made own_then end.opp end.quotes left.arrival still_apart left.side in
      let r = same_arrival in
      record {
        resting = resting_then;
        quotes = off.agrees.quotes ∙ sym (quotes_made own_then end.opp end.quotes left.arrival still_apart left.side);
        accepted = omega arith;
      }

  -- the rows of an entry, and what is held after it, are at most one more than what was held
  pub entered_counted : length done.rows + holdings (settled (terms ranking) done).market ≤ suc (holdings m)
  entered_counted =
      let side = ap (λ (o : Order). o.side) off.same in
      let own = ap length off.own in
      let held = held_by_sides left.side (own_after ranking left end.own) end.opp end.quotes left.arrival in
      let was = held_on i.side m in
      let across_same = ap (λ t. quoted end.quotes (opposite t) 16) side in
      let own_same = ap (λ t. quoted end.quotes t 16) side in
      let used = counted.0 in
      let kept = counted.1 in
      let one = live_at_most i in
      let longer : length (own_after ranking left end.own) ≤ length end.own + live left =
      cond_both (rests left) (put_in (before ranking left.side) left end.own) end.own (λ os. length os ≤ length end.own + live left)
      (λ t.
      let p = length_put_in (before ranking left.side) left end.own in
      let l = live_is left (resting_open left t) in
      omega arith)
      (λ _. omega arith) in
      omega arith
