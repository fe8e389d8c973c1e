-- A cancel takes one order off and a cut may move it; a post sets one quotation: what each keeps, and what the account has then.
-- Rests on the lemmas on markets and on lists by tag.
use Rattle.std.proofs.Common.{◌≡◌, ℕ, ◌-◌, ◌<◌, true, false, cond, eqb, List, Some, None, Option, sym, refl, ap, ◌∙◌, subst, inl, inr, arith}
use Rattle.std.specs.List.{remove, AllByRecursion}
use Rattle.std.proofs.lemmas.Bool.Decides.{nat_tests}
use Rattle.std.proofs.lemmas.Bool.{cases_Bool, cases_eq, cond-true, cond-false, eq-eqb, ne_eqb}
use Rattle.market.specs.declared.types.Side.{Side}
use Rattle.market.specs.declared.types.Side.TheVariants.{Buy, Sell}
use Rattle.market.specs.Words.{opposite}
use Rattle.shelf.specs.Standing.{nth, put_in}
use Rattle.shelf.proofs.Sorting.{all_removed, pairwise_removed}
use Rattle.rules.specs.declared.types.Order.{Order}
use Rattle.rules.specs.Orders.{too_small}
use Rattle.rules.specs.Rankings.{Ranking, Ranks, before}
use Rattle.rules.specs.Calls.{Market, of_side, with_side, by_sides, or_else, put_on, leaves, cut_down}
use Rattle.law.specs.Tape.{Account, changed, change}
use Rattle.law.proofs.Branches.{by_test, none_some, never_some}
use Rattle.law.proofs.Finding.{found, all_nth, none_tagged, found_edited, length_removed, found_put_in}
use Rattle.law.proofs.Conditions.{arrival_of, OrderKept, SideKept, Apart, living}
use Rattle.law.proofs.Markets.{or_none, found_in, Kept, Matches, sides_apart, found_by_sides, found_made, kept_made, quotes_made, arrivals_made, with_side_made, side_put}

-- One number of one side changed: r is what is found under it then.
module _ (ranking : Ranking) (m : Market) (a : Account) (k : Kept ranking m) (h : Matches a m) (s : Side) (o : Order) (os : List Order) (r : Option Order)
    (there : found arrival_of o.arrival (of_side s m) ≡ Some o) (side : SideKept ranking s m.arrivals os)
    (found-then : (n : ℕ) → found arrival_of n os ≡ cond (eqb o.arrival n) r (found arrival_of n (of_side s m))) where
  abbrev opp : List Order
  opp = of_side (opposite s) m

  elsewhere : (n : ℕ) → (o.arrival ≡ n → ⊥) → found arrival_of n os ≡ found arrival_of n (of_side s m)
  elsewhere n d = found-then n ∙ cond-false _ _ _ (ne_eqb o.arrival n d)

  not_opp : found arrival_of o.arrival opp ≡ None
  not_opp = never_some (found arrival_of o.arrival opp) (λ y g. sides_apart m k.apart s o.arrival o y there g)

  still_apart : Apart os opp
  still_apart n x y e f = elim (cases_eq o.arrival n) [
    | inl d ↦ none_some y (sym (subst (λ j. found arrival_of j opp ≡ None) d not_opp) ∙ f)
    | inr d ↦ sides_apart m k.apart s n x y (sym (elsewhere n d) ∙ e) f
  ]

  pub changed_kept : Kept ranking (with_side s os m)
  changed_kept = subst (Kept ranking) (sym (with_side_made s os m)) (kept_made os opp m.quotes m.arrivals still_apart ranking s side (k.sides (opposite s)) k.quotes)

  pub changed_matches : (f : Order → Order) → living (changed f (a.known o.arrival)) ≡ r → Matches (change o.arrival f a) (with_side s os m)
  changed_matches f e = subst (Matches (change o.arrival f a)) (sym (with_side_made s os m)) (record {
    resting = λ n. elim (cases_eq o.arrival n) [
      | inl d ↦ subst (λ j. living ((change o.arrival f a).known j) ≡ found_in j (by_sides s os opp m.quotes m.arrivals)) d
          (ap living (cond-true _ _ _ (eq-eqb o.arrival o.arrival refl)) ∙ e ∙ sym (or_none r)
          ∙ sym (found_made os opp m.quotes m.arrivals still_apart s o.arrival
          ∙ ap (or_else (found arrival_of o.arrival os)) not_opp
          ∙ ap (λ x. or_else x None) (found-then o.arrival ∙ cond-true _ _ _ (eq-eqb o.arrival o.arrival refl))))
      | inr d ↦ ap living (cond-false _ _ _ (ne_eqb o.arrival n d)) ∙ h.resting n ∙ found_by_sides m k.apart s n
          ∙ ap (λ x. or_else x (found arrival_of n opp)) (sym (elsewhere n d))
          ∙ sym (found_made os opp m.quotes m.arrivals still_apart s n)
    ];
    quotes = h.quotes ∙ sym (quotes_made os opp m.quotes m.arrivals still_apart s);
    accepted = h.accepted ∙ sym (arrivals_made os opp m.quotes m.arrivals still_apart s);
  })

-- The order at a place taken out of its side, or cut down and put where it then belongs.
module _ (ranking : Ranking) (law : Ranks ranking) (s : Side) (n : ℕ) (os : List Order) (w : SideKept ranking s n os) (p : ℕ) (o : Order) (e : nth p os ≡ Some o) where
  pub side_removed : SideKept ranking s n (remove os p)
  side_removed = record {
    sorted = pairwise_removed (λ x y. before ranking s x y ≡ true) os p w.sorted;
    distinct = pairwise_removed (λ x y. x.arrival ≡ y.arrival → ⊥) os p w.distinct;
    each = all_removed (OrderKept s n) os p w.each;
    room = let l = length_removed os p o e in let r = w.room in omega arith;
  }

  pub found_removed : (k : ℕ) → found arrival_of k (remove os p) ≡ cond (eqb o.arrival k) None (found arrival_of k os)
  found_removed k = found_edited arrival_of os p o None w.distinct e (λ y g. absurd (none_some y g)) k

  -- no other order of the side has its arrival
  alone : AllByRecursion (λ x. o.arrival ≡ x.arrival → ⊥) (remove os p)
  alone = none_tagged arrival_of o.arrival (remove os p) (found_removed o.arrival ∙ cond-true _ _ _ (eq-eqb o.arrival o.arrival refl))

  module _ (c : ℕ) (stays : leaves c o ≡ false) where
    cut_kept : OrderKept s n (cut_down c o)
    cut_kept =
        let was = all_nth (OrderKept s n) os p o w.each e in
        let z = was.sized.within in
        let left : (c < o.«open») × (too_small o.kind o.price (o.size - c) ≡ false) = grind (arith, nat_tests, cases_Bool (too_small o.kind o.price (o.size - c))) in
        let l = left.0 in
        record { side = was.side; remains = omega arith; from_one = was.from_one; numbered = was.numbered; sized = record { within = omega arith; allowed = left.1 } }

    pub side_moved : SideKept ranking s n (put_in (before ranking s) (cut_down c o) (remove os p))
    side_moved =
        let l = length_removed os p o e in
        let r = w.room in
        side_put ranking law s n (cut_down c o) (remove os p) side_removed cut_kept alone (omega arith)

    pub found_moved : (k : ℕ) → found arrival_of k (put_in (before ranking s) (cut_down c o) (remove os p)) ≡ cond (eqb o.arrival k) (Some (cut_down c o)) (found arrival_of k os)
    found_moved k =
        found_put_in arrival_of (before ranking s) (cut_down c o) k (remove os p) alone
        ∙ by_test (eqb o.arrival k) (λ b. eqb o.arrival k ≡ b → cond b (Some (cut_down c o)) (found arrival_of k (remove os p)) ≡ cond b (Some (cut_down c o)) (found arrival_of k os))
        (λ _ _. refl) (λ _ f. found_removed k ∙ cond-false _ _ _ f) refl

pub put_on_taken : (ranking : Ranking) (s : Side) (o : Order) (os : List Order) (m : Market) → put_on ranking s o (with_side s os m) ≡ with_side s (put_in (before ranking s) o os) m
put_on_taken ranking Buy o os m = refl
put_on_taken ranking Sell o os m = refl
