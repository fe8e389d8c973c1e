-- Where an account agrees with what stands, the test of who may trade says what the five conditions of the judge say.
-- Rests on the lemmas on quotations and on lists by tag.
use Rattle.std.proofs.Common.{◌≡◌, ℕ, ◌<◌, ◌≤◌, Bool, true, false, cond, not, ◌&&◌, ◌||◌, eqb, List, length, Some, None, Decides, Option, sym, refl, ap, ◌∙◌, subst, arith}
use Rattle.std.specs.List.{AllByRecursion}
use Rattle.std.proofs.lemmas.Bool.Decides.{nat_tests, Decides-and, Decides-like}
use Rattle.std.proofs.ByRecursion.{Decides-by_and, All-weaker}
use Rattle.std.proofs.lemmas.Bool.{and_parts, and_from, leb-true, le-leb, true≢false, false≢true}
use Rattle.market.specs.declared.types.Side.{Side}
use Rattle.market.specs.declared.types.Side.TheVariants.{Buy, Sell}
use Rattle.market.specs.Words.{opposite}
use Rattle.shelf.specs.Order.{Sorted, Distinct}
use Rattle.board.specs.Quotes.{Lawful, best_in}
use Rattle.rules.specs.declared.types.Order.{Order}
use Rattle.rules.specs.Orders.{mtv_of, displayed, program, type2}
use Rattle.rules.specs.Rankings.{Ranking, before}
use Rattle.rules.specs.Trading.{Stand, bests, no_better, worse_than, all_worse, first_four, passes, may_trade}
use Rattle.rules.specs.Calls.{or_else}
use Rattle.law.specs.Tape.{Account}
use Rattle.law.specs.Judge.{Better, NoneBetter, Rests, FirstFour, DisplayedWorse, MayTrade, Sized}
use Rattle.law.proofs.Branches.{by_option, none_some, never_some}
use Rattle.law.proofs.Finding.{found, found_tag, all_found, all_from_found}
use Rattle.law.proofs.Quotations.{decides_better, decides_not_better, decides_none_better}

abbrev pub arrival_of : Order → ℕ
arrival_of o = o.arrival

-- What a book keeps of each order on a side, where n entries were accepted, and of the side.
pub record OrderKept (s : Side) (n : ℕ) (o : Order) : Type 0 where
  pub side : o.side ≡ s
  pub remains : 0 < o.«open»
  pub from_one : 1 ≤ o.arrival
  pub numbered : o.arrival ≤ n
  pub sized : Sized o

pub record SideKept (ranking : Ranking) (s : Side) (n : ℕ) (os : List Order) : Type 0 where
  pub sorted : Sorted (before ranking s) os
  pub distinct : Distinct arrival_of os
  pub each : AllByRecursion (OrderKept s n) os
  pub room : length os ≤ 128

-- no arrival is found in both
abbrev pub Apart : List Order → List Order → Type 0
Apart xs ys = (n : ℕ) (x y : Order) → found arrival_of n xs ≡ Some x → found arrival_of n ys ≡ Some y → ⊥

-- What holds of what stands while an order comes in.
pub record Sound (ranking : Ranking) (n : ℕ) (s : Stand) : Type 0 where
  pub own : SideKept ranking s.incoming.side n s.own
  pub opp : SideKept ranking (opposite s.incoming.side) n s.opp
  pub apart : Apart s.own s.opp
  pub newer : n < s.incoming.arrival
  pub quotes : Lawful s.quotes

-- an order with nothing open does not rest
abbrev pub living : Option Order → Option Order
living None = None
living (Some o) = cond (eqb o.«open» 0) None (Some o)

-- The account is of what stands.
pub record Agrees (a : Account) (s : Stand) : Type 0 where
  pub incoming : a.known s.incoming.arrival ≡ Some s.incoming
  pub resting : (n : ℕ) → (s.incoming.arrival ≡ n → ⊥) → living (a.known n) ≡ or_else (found arrival_of n s.own) (found arrival_of n s.opp)
  pub quotes : a.quotes ≡ s.quotes

-- a test that counts only under a condition
pub decides_if : {P : Type 0} (c b : Bool) → Decides b P → Decides (not c || b) (c ≡ true → P)
decides_if true b d = ((λ h _. d.0 h), (λ k. d.1 (k refl)))
decides_if false b d = ((λ _ e. absurd (false≢true e)), (λ _. refl))

decides_unless : {P : Type 0} (c b : Bool) → Decides b P → Decides (c || b) (c ≡ false → P)
decides_unless true b d = ((λ _ e. absurd (true≢false e)), (λ _. refl))
decides_unless false b d = ((λ h _. d.0 h), (λ k. d.1 (k refl)))

pub sides_differ : (s : Side) → s ≡ opposite s → ⊥
sides_differ Buy e = let z : ◌≡◌ {A = ℕ} 0 1 = cc in omega arith
sides_differ Sell e = let z : ◌≡◌ {A = ℕ} 0 1 = cc in omega arith

pub living_open : (o : Order) → 0 < o.«open» → living (Some o) ≡ Some o
living_open o h = grind (arith, nat_tests)

pub living_is : (o : Option Order) (d : Order) → living o ≡ Some d → (o ≡ Some d) × (0 < d.«open»)
living_is None d e = absurd (none_some d e)
living_is (Some x) d e = grind (arith, nat_tests)

module _ (ranking : Ranking) (n : ℕ) (s : Stand) (a : Account) (ok : Sound ranking n s) (ag : Agrees a s) where
  -- what is found of a number on either side
  abbrev at_rest : ℕ → Option Order
  at_rest k = or_else (found arrival_of k s.own) (found arrival_of k s.opp)

  pub not_own : (k : ℕ) (o : Order) → found arrival_of k s.opp ≡ Some o → found arrival_of k s.own ≡ None
  not_own k o e = never_some (found arrival_of k s.own) (λ x g. ok.apart k x o g e)

  pub opp_at_rest : (k : ℕ) (o : Order) → found arrival_of k s.opp ≡ Some o → at_rest k ≡ Some o
  opp_at_rest k o e = ap (λ r. or_else r (found arrival_of k s.opp)) (not_own k o e) ∙ e

  own_at_rest : (k : ℕ) (o : Order) → found arrival_of k s.own ≡ Some o → at_rest k ≡ Some o
  own_at_rest k o e = ap (λ r. or_else r (found arrival_of k s.opp)) e

  -- what holds of all on either side, holds of what is at rest
  either : (P : Order → Type 0) → AllByRecursion P s.own → AllByRecursion P s.opp → (k : ℕ) (d : Order) → at_rest k ≡ Some d → P d
  either P p q k d e =
      by_option (found arrival_of k s.own) (λ r. found arrival_of k s.own ≡ r → or_else r (found arrival_of k s.opp) ≡ Some d → P d)
      (λ _ _ h. all_found P arrival_of k s.opp d q h) (λ x _ g h. all_found P arrival_of k s.own d p (g ∙ h)) refl e

  -- nothing at rest has the arrival of the incoming order
  pub older : (k : ℕ) (d : Order) → at_rest k ≡ Some d → s.incoming.arrival ≡ d.arrival → ⊥
  older k d e h =
      let l = ok.newer in
      let numbered : (t : Side) (os : List Order) → AllByRecursion (OrderKept t n) os → AllByRecursion (λ o. o.arrival ≤ n) os = λ t os. All-weaker (OrderKept t n) (λ o. o.arrival ≤ n) (λ o w. w.numbered) os in
      let m : d.arrival ≤ n = either (λ o. o.arrival ≤ n) (numbered s.incoming.side s.own ok.own.each) (numbered (opposite s.incoming.side) s.opp ok.opp.each) k d e in
      omega arith

  pub at_rest_tag : (k : ℕ) (d : Order) → at_rest k ≡ Some d → d.arrival ≡ k
  at_rest_tag k d e =
      by_option (found arrival_of k s.own) (λ r. found arrival_of k s.own ≡ r → or_else r (found arrival_of k s.opp) ≡ Some d → d.arrival ≡ k)
      (λ _ _ h. found_tag arrival_of k s.opp d h) (λ x _ g h. found_tag arrival_of k s.own d (g ∙ h)) refl e

  pub rests_from : (d : Order) → at_rest d.arrival ≡ Some d → Rests a s.incoming d
  rests_from d e =
      let ne = older d.arrival d e in
      let k = living_is (a.known d.arrival) d (ag.resting d.arrival ne ∙ e) in
      record { known = k.0; remains = k.1; another = ne }

  pub rests_at : (d : Order) → Rests a s.incoming d → at_rest d.arrival ≡ Some d
  rests_at d r = sym (ag.resting d.arrival r.another) ∙ ap living r.known ∙ living_open d r.remains

  -- what rests on the other side is found there
  pub rests_across : (o : Order) → Rests a s.incoming o → o.side ≡ opposite s.incoming.side → found arrival_of o.arrival s.opp ≡ Some o
  rests_across o r across =
      by_option (found arrival_of o.arrival s.own) (λ x. found arrival_of o.arrival s.own ≡ x → or_else x (found arrival_of o.arrival s.opp) ≡ Some o → found arrival_of o.arrival s.opp ≡ Some o)
      (λ _ _ h. h)
      (λ x _ g h. absurd (sides_differ s.incoming.side (sym (all_found (OrderKept s.incoming.side n) arrival_of o.arrival s.own o ok.own.each (g ∙ h)).side ∙ across)))
      refl (rests_at o r)

  decides_quotes : (t : Side) (p : ℕ) → Decides (no_better (best_in s.quotes t) t p) (NoneBetter a.quotes t p)
  decides_quotes t p = subst (λ b. Decides (no_better (best_in s.quotes t) t p) (NoneBetter b t p)) (sym ag.quotes) (decides_none_better s.quotes ok.quotes t p)

  abbrev Worse : ℕ → Order → Type 0
  Worse p o = displayed o.kind ≡ true → Better o.side p o.price

  decides_all_worse : (p : ℕ) (os : List Order) → Decides (all_worse p os) (AllByRecursion (Worse p) os)
  decides_all_worse p os = Decides-by_and (worse_than p) (Worse p) (all_worse p) (λ o. decides_if (displayed o.kind) _ (decides_better o.side p o.price)) refl (λ _ _. refl) os

  decides_displayed_worse : (p : ℕ) → Decides (all_worse p s.opp && all_worse p s.own) (DisplayedWorse a s.incoming p)
  decides_displayed_worse p =
      Decides-like (all_worse p s.opp && all_worse p s.own)
      (λ h d r. either (Worse p) h.1 h.0 d.arrival d (rests_at d r))
      (λ k. (
        all_from_found (Worse p) arrival_of s.opp ok.opp.distinct (λ d e. k d (rests_from d (opp_at_rest d.arrival d e))),
        all_from_found (Worse p) arrival_of s.own ok.own.distinct (λ d e. k d (rests_from d (own_at_rest d.arrival d e))),
      ))
      (Decides-and _ _ (decides_all_worse p s.opp) (decides_all_worse p s.own))

  pub decides_first_four : (o : Order) → found arrival_of o.arrival s.opp ≡ Some o → Decides (first_four s.incoming (bests s.quotes s.incoming.side) o) (FirstFour a s.incoming o)
  decides_first_four o e =
      let i : Order = s.incoming in
      Decides-like (first_four i (bests s.quotes i.side) o)
      (λ h. record {
        rests = rests_from o (opp_at_rest o.arrival o e);
        across = (all_found (OrderKept (opposite i.side) n) arrival_of o.arrival s.opp o ok.opp.each e).side;
        limit = h.0;
        kinds = h.1.0;
        reached = h.1.1.0;
        own_quotes = h.1.1.1.0;
        other_quotes = h.1.1.1.1;
      })
      (λ f. (f.limit, (f.kinds, (f.reached, (f.own_quotes, f.other_quotes)))))
      (Decides-and _ _ (decides_not_better i.side o.price i.price)
      (Decides-and _ _ ((λ h. h), (λ h. h))
      (Decides-and _ _ (leb-true (mtv_of o.kind) i.«open», le-leb (mtv_of o.kind) i.«open»)
      (Decides-and _ _ (decides_quotes i.side o.price)
      (decides_unless (type2 i.kind) _ (decides_quotes (opposite i.side) o.price))))))

  pub decides_may_trade : (o : Order) → found arrival_of o.arrival s.opp ≡ Some o → Decides (may_trade s o) (MayTrade a s.incoming o)
  unfolding passes
  decides_may_trade o e =
      let i : Order = s.incoming in
      Decides-like (first_four i (bests s.quotes i.side) o && (not (program i.kind && program o.kind) || (all_worse o.price s.opp && all_worse o.price s.own)))
      (λ h. record { first_four = h.0; behind_displayed = λ p q. h.1 (and_from _ _ p q) })
      (λ m. (m.first_four, (λ c. let k = and_parts _ _ c in m.behind_displayed k.0 k.1)))
      (Decides-and _ _ (decides_first_four o e) (decides_if (program i.kind && program o.kind) _ (decides_displayed_worse o.price)))
