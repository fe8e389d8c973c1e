-- One step of a sweep: its row is fair, what stands after it is sound, the account after its row agrees with that, and less
-- is left to trade with. Rests on the lemmas on conditions, quotations and lists by tag.
use Rattle.std.proofs.Common.{◌≡◌, ℕ, suc, ◌+◌, ◌-◌, ◌<◌, ◌≤◌, min, true, false, cond, not, ◌&&◌, eqb, leb, ◌⊎◌, List, length, set, Some, None, Option, sym, refl, ap, ◌∙◌, subst, inl, inr, arith}
use Rattle.std.specs.List.{remove}
use Rattle.std.proofs.lemmas.Bool.Decides.{nat_tests}
use Rattle.std.proofs.lemmas.Bool.{cases_eq, cond_both, cond-true, cond-false, eq-eqb, ne_eqb, eqb-true, eqb-false, le-leb, both_ways, and_parts}
use Rattle.market.specs.declared.types.Side.{Side}
use Rattle.market.specs.declared.types.Side.TheVariants.{Buy, Sell}
use Rattle.market.specs.Words.{opposite, better}
use Rattle.shelf.specs.declared.types.Placed.{Placed}
use Rattle.shelf.specs.Standing.{first, nth}
use Rattle.board.specs.declared.types.Quote.{Quote}
use Rattle.board.specs.declared.types.Best.{Best}
use Rattle.board.specs.Quotes.{Quotes, best_in}
use Rattle.rules.specs.declared.types.Order.{Order}
use Rattle.rules.specs.Orders.{type2, too_small}
use Rattle.rules.specs.Rankings.{Ranking, Ranks, before}
use Rattle.rules.specs.Trading.{Stand, may_trade}
use Rattle.rules.specs.Sweeps.{Step, with_open, less, taken, filled, routed_first, trade, fill, route, chosen, next}
use Rattle.rules.specs.Calls.{or_else}
use Rattle.law.specs.Tape.{Account, changed, routed, reckon_row}
use Rattle.law.specs.Judge.{NoneBetter, Rests, MayTrade, InTurn, FairRow, Ended}
use Rattle.rules.specs.Precedences.{orders_total}
use Rattle.law.proofs.Branches.{by_test, by_option, some_is, none_some, never_some}
use Rattle.law.proofs.Finding.{first_passes, first_none, first_nth, first_least, found, all_found, all_nth, nth_found, edited, found_edited, all_edited, pairwise_edited, length_removed, length_edited}
use Rattle.law.specs.Holdings.{quoted}
use Rattle.law.proofs.Quotations.{decides_better, best_is, best_unbeaten, best_lowest, none_quoted, quoted_shares, taken_lawful, quoted_taken, quoted_lowered, quoted_other}
use Rattle.law.proofs.Conditions.{arrival_of, OrderKept, SideKept, Sound, Agrees, living, rests_across, not_own, decides_may_trade}

-- the side that the incoming order trades with
abbrev across : Stand → Side
across s = opposite s.incoming.side

-- What a row comes from: some shares open, and the first that may trade.
record Choice (s : Stand) (t : Step) (c : Placed Order) : Type 0 where
  some_open : 0 < s.incoming.«open»
  first_is : first (may_trade s) s.opp 0 ≡ Some c
  step_is : trade s c (routed_first s.incoming (best_in s.quotes (across s)) c.item.price) ≡ t

next_choice : (s : Stand) (t : Step) → next s ≡ Some t → (c : Placed Order) × Choice s t c
unfolding next
next_choice s t e =
    cond_both (eqb s.incoming.«open» 0) None (chosen s (first (may_trade s) s.opp 0)) (λ x. x ≡ Some t → (c : Placed Order) × Choice s t c)
    (λ _ h. absurd (none_some t h))
    (λ f h. by_option (first (may_trade s) s.opp 0) (λ x. first (may_trade s) s.opp 0 ≡ x → chosen s x ≡ Some t → (c : Placed Order) × Choice s t c)
    (λ _ _ g. absurd (none_some t g))
    (λ c _ w g. (c, record { some_open = let k = eqb-false s.incoming.«open» 0 f in omega arith; first_is = w; step_is = some_is _ t g })) refl h) e

-- no step: nothing is open, or nothing may trade
next_none : (s : Stand) → next s ≡ None → (s.incoming.«open» ≡ 0) ⊎ (first (may_trade s) s.opp 0 ≡ None)
unfolding next
next_none s e =
    cond_both (eqb s.incoming.«open» 0) None (chosen s (first (may_trade s) s.opp 0)) (λ x. x ≡ None → (s.incoming.«open» ≡ 0) ⊎ (first (may_trade s) s.opp 0 ≡ None))
    (λ t _. inl (eqb-true s.incoming.«open» 0 t))
    (λ _ h. inr (by_option (first (may_trade s) s.opp 0) (λ x. chosen s x ≡ None → x ≡ None) (λ _ _. refl) (λ c _ g. absurd (none_some _ (sym g))) h)) e

-- What is left to trade with: nothing where q is 0, and else the orders and the quotations of the other side.
abbrev pub weight : Stand → ℕ
weight s = cond (eqb s.incoming.«open» 0) 0 (length s.opp + quoted s.quotes (across s) 16)

-- what a row uses up: the orders and quotations across, and what is left of the incoming order as one
abbrev pub live : Order → ℕ
live o = cond (eqb o.«open» 0) 0 1

abbrev pub bulk : Stand → ℕ
bulk s = (length s.opp + quoted s.quotes (across s) 16) + live s.incoming

pub live_is : (o : Order) → 0 < o.«open» → live o ≡ 1
live_is o h = cond-false _ _ _ (ne_eqb o.«open» 0 (λ e. omega arith))

pub live_at_most : (o : Order) → live o ≤ 1
live_at_most o = cond_both (eqb o.«open» 0) 0 1 (λ v. v ≤ 1) (λ _. omega arith) (λ _. omega arith)

weight_is : (s : Stand) → 0 < s.incoming.«open» → weight s ≡ length s.opp + quoted s.quotes (across s) 16
weight_is s h = cond-false _ _ _ (ne_eqb s.incoming.«open» 0 (λ e. omega arith))

pub weightless : (s : Stand) → weight s ≤ 0 → next s ≡ None
weightless s h = never_some (next s) (λ t e.
    let (c, w) = next_choice s t e in
    let some_open = w.some_open in
    let was = weight_is s some_open in
    let (j, k) = first_nth (may_trade s) s.opp 0 c w.first_is in
    let some = length_removed s.opp j c.item k.1 in
    omega arith)

-- What is left of an order after n shares are filled: the order but for its open shares, if it has some.
abbrev left : ℕ → Order → Option Order
left n o = cond (leb o.«open» n) None (Some (less n o))

left_is : (n : ℕ) (x y : Order) → left n x ≡ Some y → (y ≡ less n x) × (0 < y.«open»)
left_is n x y e =
    cond_both (leb x.«open» n) None (Some (less n x)) (λ r. r ≡ Some y → (y ≡ less n x) × (0 < y.«open»))
    (λ _ h. absurd (none_some y h))
    (λ f h. let z = some_is (less n x) y h in (sym z, subst (λ (o : Order). 0 < o.«open») z (grind (arith, nat_tests)))) e

left_of : (P : Order → Type 0) (n : ℕ) (x y : Order) → left n x ≡ Some y → P (less n x) → P y
left_of P n x y e h = subst P (sym (left_is n x y e).0) h

left_living : (n : ℕ) (o : Order) → living (Some (less n o)) ≡ left n o
left_living n o = grind (arith, nat_tests)

filled_is : (os : List Order) (c : Placed Order) (n : ℕ) → filled os c n ≡ edited os c.place (left n c.item)
filled_is os c n =
    by_test (leb c.item.«open» n) (λ b. cond b (remove os c.place) (set os c.place (less n c.item)) ≡ edited os c.place (cond b None (Some (less n c.item))))
    (λ _. refl) (λ _. refl)

-- A fill keeps a side: places, arrivals and ranking sizes stay, and what leaves has nothing open.
side_filled : (ranking : Ranking) (t : Side) (n : ℕ) (os : List Order) (c : Placed Order) (k : ℕ) → SideKept ranking t n os → nth c.place os ≡ Some c.item → SideKept ranking t n (filled os c k)
side_filled ranking t n os c k w e =
    let o : Order = c.item in
    let j : ℕ = c.place in
    let was = all_nth (OrderKept t n) os j o w.each e in
    subst (SideKept ranking t n) (sym (filled_is os c k)) (record {
      sorted = pairwise_edited (λ x y. before ranking t x y ≡ true) os j o (left k o) e
          (λ y z g. left_of (λ v. before ranking t v z ≡ true) k o y g)
          (λ y z g. left_of (λ v. before ranking t z v ≡ true) k o y g) w.sorted;
      distinct = pairwise_edited (λ x y. x.arrival ≡ y.arrival → ⊥) os j o (left k o) e
          (λ y z g. left_of (λ v. v.arrival ≡ z.arrival → ⊥) k o y g)
          (λ y z g. left_of (λ v. z.arrival ≡ v.arrival → ⊥) k o y g) w.distinct;
      each = all_edited (OrderKept t n) os j (left k o) (λ y g. record {
        side = left_of (λ v. v.side ≡ t) k o y g was.side;
        remains = (left_is k o y g).1;
        from_one = left_of (λ v. 1 ≤ v.arrival) k o y g was.from_one;
        numbered = left_of (λ v. v.arrival ≤ n) k o y g was.numbered;
        sized =
            let h = was.sized.within in
            record {
              within = left_of (λ v. v.«open» ≤ v.size) k o y g (omega arith);
              allowed = left_of (λ v. too_small v.kind v.price v.size ≡ false) k o y g was.sized.allowed;
            };
      }) w.each;
      room = let l = length_edited os j o (left k o) e in let r = w.room in omega arith;
    })

twice_opposite : (s : Side) → opposite (opposite s) ≡ s
twice_opposite Buy = refl
twice_opposite Sell = refl

both_sides : (P : Side → Type 0) (s : Side) → P s → P (opposite s) → (t : Side) → P t
both_sides P Buy p q Buy = p
both_sides P Buy p q Sell = q
both_sides P Sell p q Buy = q
both_sides P Sell p q Sell = p

-- What a step does.
pub record Stepped (ranking : Ranking) (n : ℕ) (s : Stand) (a : Account) (t : Step) : Type 0 where
  pub fair : FairRow ranking a s.incoming.arrival t.row
  pub sound : Sound ranking n t.stand
  pub agrees : Agrees (reckon_row t.row a) t.stand
  pub lighter : weight t.stand < weight s
  pub uses_up : suc (bulk t.stand) ≤ bulk s
  pub own_quoted : quoted t.stand.quotes s.incoming.side 16 ≡ quoted s.quotes s.incoming.side 16
  pub same : t.stand.incoming ≡ with_open t.stand.incoming.«open» s.incoming
  pub falls : t.stand.incoming.«open» ≤ s.incoming.«open»
  pub own : t.stand.own ≡ s.own

module _ (ranking : Ranking) (law : Ranks ranking) (n : ℕ) (s : Stand) (a : Account) (ok : Sound ranking n s) (ag : Agrees a s) where
  -- where there is no step the sweep has ended as it must
  pub none_ended : next s ≡ None → Ended a s.incoming.arrival
  none_ended e = (s.incoming, ag.incoming, ends)
    where
      ends : (s.incoming.«open» ≡ 0) ⊎ ((o : Order) → MayTrade a s.incoming o → ⊥)
      ends = elim (next_none s e) [
        | inl z ↦ inl z
        | inr none ↦ inr (λ o may.
            let f = may.first_four in
            let here = rests_across ranking n s a ok ag o f.rests f.across in
            both_ways (may_trade s o)
            (all_found (λ z. may_trade s z ≡ false) arrival_of o.arrival s.opp o (first_none (may_trade s) s.opp 0 none) here)
            ((decides_may_trade ranking n s a ok ag o here).1 may))
      ]

  module _ (c : Placed Order) (q : 0 < s.incoming.«open») (e : first (may_trade s) s.opp 0 ≡ Some c) where
    abbrev o : Order
    o = c.item

    -- the chosen order stands at its place, and is the one of its arrival
    placed : nth c.place s.opp ≡ Some o
    placed =
        let (j, w) = first_nth (may_trade s) s.opp 0 c e in
        let at : c.place ≡ j = let h = w.0 in omega arith in
        subst (λ k. nth k s.opp ≡ Some o) (sym at) w.1

    here : found arrival_of o.arrival s.opp ≡ Some o
    here = nth_found arrival_of s.opp c.place o ok.opp.distinct placed

    may : MayTrade a s.incoming o
    may = (decides_may_trade ranking n s a ok ag o here).0 (first_passes (may_trade s) s.opp 0 c e)

    rests : Rests a s.incoming o
    rests = may.first_four.rests

    -- the first that passes has its turn, since the side is sorted
    in_turn : InTurn ranking a s.incoming o
    in_turn = record {
      may_trade = may;
      foremost = λ x m.
          let f = m.first_four in
          let there = rests_across ranking n s a ok ag x f.rests f.across in
          let least = first_least (before ranking (across s)) (orders_total ranking law (across s)) (may_trade s) s.opp 0 c ok.opp.sorted e in
          subst (λ t. before ranking t x o ≡ false) (sym may.first_four.across)
          (all_found (λ z. may_trade s z ≡ true → before ranking (across s) z o ≡ false) arrival_of x.arrival s.opp x least there ((decides_may_trade ranking n s a ok ag x there).1 m));
    }

    -- nothing is routed first: no quotation of the other side is better
    unrouted : routed_first s.incoming (best_in s.quotes (across s)) o.price ≡ None → NoneBetter s.quotes (across s) o.price
    unrouted w =
        by_option (best_in s.quotes (across s)) (λ x. best_in s.quotes (across s) ≡ x → routed_first s.incoming x o.price ≡ None → NoneBetter s.quotes (across s) o.price)
        (λ _ g _. none_quoted s.quotes ok.quotes (across s) g o.price)
        (λ b _ g h.
        by_test (type2 s.incoming.kind) (λ x. type2 s.incoming.kind ≡ x → cond (x && better (across s) b.quote.price o.price) (Some b) None ≡ None → NoneBetter s.quotes (across s) o.price)
        (λ _ _ k. best_unbeaten s.quotes ok.quotes (across s) b g o.price
        (by_test (better (across s) b.quote.price o.price) (λ x. cond x (Some b) None ≡ None → not x ≡ true) (λ _ v. absurd (none_some b (sym v))) (λ _ _. refl) k))
        (λ _ f _. subst (λ x. NoneBetter x (across s) o.price) ag.quotes (may.first_four.other_quotes f)) refl h) refl w

    fill_stepped : routed_first s.incoming (best_in s.quotes (across s)) o.price ≡ None → Stepped ranking n s a (fill s c)
    fill_stepped w = record {
      fair = (
        s.incoming,
        o,
        record {
          entry = refl;
          known = ag.incoming;
          at_rest = rests.known;
          numbered = refl;
          in_turn = in_turn;
          no_bid_above = clear Buy;
          no_offer_below = clear Sell;
          behind_displayed = may.behind_displayed;
          at_price = refl;
          quantity = refl;
          some_shares = let r = rests.remains in omega arith;
        },
      );
      sound = record {
        own = ok.own;
        opp = side_filled ranking (across s) n s.opp c k ok.opp placed;
        apart = λ m x y f g. elim (cases_eq r m) [
          | inl d ↦ ok.apart m x o f (subst (λ v. found arrival_of v s.opp ≡ Some o) d here)
          | inr d ↦ ok.apart m x y f (sym (elsewhere m d) ∙ g)
        ];
        newer = ok.newer;
        quotes = ok.quotes;
      };
      agrees = record {
        incoming = cond-false _ _ _ (ne_eqb r i (λ h. rests.another (sym h))) ∙ cond-true _ _ _ (eq-eqb i i refl) ∙ ap (changed (less k)) ag.incoming;
        resting = λ m d. elim (cases_eq r m) [
          | inl g ↦ subst (λ v. living (after v) ≡ or_else (found arrival_of v s.own) (found arrival_of v (filled s.opp c k))) g
              (ap living (cond-true _ _ _ (eq-eqb r r refl) ∙ ap (changed (less k)) (cond-false _ _ _ (ne_eqb i r rests.another) ∙ rests.known))
              ∙ left_living k o
              ∙ sym (ap (λ v. or_else v (found arrival_of r (filled s.opp c k))) own_none ∙ there))
          | inr g ↦ ap living (cond-false _ _ _ (ne_eqb r m g) ∙ cond-false _ _ _ (ne_eqb i m d)) ∙ ag.resting m d
              ∙ ap (or_else (found arrival_of m s.own)) (sym (elsewhere m g))
        ];
        quotes = ag.quotes;
      };
      lighter = lighter;
      uses_up = uses_up;
      own_quoted = refl;
      same = refl;
      falls = omega arith;
      own = refl;
    }
      where
        k : ℕ
        k = min s.incoming.«open» o.«open»

        i : ℕ
        i = s.incoming.arrival

        r : ℕ
        r = o.arrival

        after : ℕ → Option Order
        after m = cond (eqb r m) (changed (less k) (cond (eqb i m) (changed (less k) (a.known m)) (a.known m))) (cond (eqb i m) (changed (less k) (a.known m)) (a.known m))

        clear : (t : Side) → NoneBetter a.quotes t o.price
        clear = both_sides (λ t. NoneBetter a.quotes t o.price) s.incoming.side may.first_four.own_quotes (subst (λ x. NoneBetter x (across s) o.price) (sym ag.quotes) (unrouted w))

        found_filled : (m : ℕ) → found arrival_of m (filled s.opp c k) ≡ cond (eqb r m) (left k o) (found arrival_of m s.opp)
        found_filled m = ap (found arrival_of m) (filled_is s.opp c k) ∙ found_edited arrival_of s.opp c.place o (left k o) ok.opp.distinct placed (λ y g. left_of (λ v. v.arrival ≡ r) k o y g refl) m

        elsewhere : (m : ℕ) → (r ≡ m → ⊥) → found arrival_of m (filled s.opp c k) ≡ found arrival_of m s.opp
        elsewhere m d = found_filled m ∙ cond-false _ _ _ (ne_eqb r m d)

        there : found arrival_of r (filled s.opp c k) ≡ left k o
        there = found_filled r ∙ cond-true _ _ _ (eq-eqb r r refl)

        own_none : found arrival_of r s.own ≡ None
        own_none = not_own ranking n s a ok ag r o here

        lighter : weight (fill s c).stand < weight s
        lighter =
            let was = weight_is s q in
            let shorter = length_removed s.opp c.place o placed in
            let remains = rests.remains in
            cond_both (eqb (s.incoming.«open» - k) 0) 0 (length (filled s.opp c k) + quoted s.quotes (across s) 16) (λ v. v < weight s)
            (λ _. omega arith)
            (λ f.
            let some = eqb-false (s.incoming.«open» - k) 0 f in
            let gone : filled s.opp c k ≡ remove s.opp c.place = cond-true _ _ _ (le-leb o.«open» k (omega arith)) in
            let l = ap length gone in
            omega arith)

        uses_up : suc (bulk (fill s c).stand) ≤ bulk s
        uses_up =
            let was = live_is s.incoming q in
            let shorter = length_removed s.opp c.place o placed in
            let edited : length (filled s.opp c k) ≤ length s.opp = subst (λ os. length os ≤ length s.opp) (sym (filled_is s.opp c k)) (length_edited s.opp c.place o (left k o) placed) in
            cond_both (eqb (s.incoming.«open» - k) 0) 0 1 (λ v. suc ((length (filled s.opp c k) + quoted s.quotes (across s) 16) + v) ≤ bulk s)
            (λ _. omega arith)
            (λ f.
            let some = eqb-false (s.incoming.«open» - k) 0 f in
            let gone : filled s.opp c k ≡ remove s.opp c.place = cond-true _ _ _ (le-leb o.«open» k (omega arith)) in
            let l = ap length gone in
            omega arith)

    -- a quotation is routed to first: the best, and strictly better
    record Routes (b : Best) : Type 0 where
      is_type2 : type2 s.incoming.kind ≡ true
      is_best : best_in s.quotes (across s) ≡ Some b
      strictly : better (across s) b.quote.price o.price ≡ true

    routes_first : (b : Best) → routed_first s.incoming (best_in s.quotes (across s)) o.price ≡ Some b → Routes b
    routes_first b w =
        by_option (best_in s.quotes (across s)) (λ x. best_in s.quotes (across s) ≡ x → routed_first s.incoming x o.price ≡ Some b → Routes b)
        (λ _ _ h. absurd (none_some b h))
        (λ d _ g h. cond_both (type2 s.incoming.kind && better (across s) d.quote.price o.price) (Some d) None (λ x. x ≡ Some b → Routes b)
        (λ t v.
        let z = some_is d b v in
        let p = and_parts (type2 s.incoming.kind) (better (across s) d.quote.price o.price) t in
        record { is_type2 = p.0; is_best = g ∙ v; strictly = subst (λ (y : Best). better (across s) y.quote.price o.price ≡ true) z p.1 })
        (λ _ v. absurd (none_some b v)) h) refl w

    route_stepped : (b : Best) → Routes b → Stepped ranking n s a (route s b)
    route_stepped b w = record {
      fair = (
        s.incoming,
        o,
        b.quote,
        record {
          entry = refl;
          known = ag.incoming;
          routes = w.is_type2;
          in_turn = in_turn;
          quoted = subst (λ (x : Quotes). x (across s) b.market ≡ Some b.quote) (sym ag.quotes) stands;
          better = (decides_better (across s) b.quote.price o.price).0 w.strictly;
          best = subst (λ x. NoneBetter x (across s) b.quote.price) (sym ag.quotes) (best_unbeaten s.quotes ok.quotes (across s) b w.is_best b.quote.price (not_itself (across s) b.quote.price));
          lowest = subst (λ (x : Quotes). (m : ℕ) (y : Quote) → x (across s) m ≡ Some y → y.price ≡ b.quote.price → b.market ≤ m) (sym ag.quotes) (best_lowest s.quotes ok.quotes (across s) b w.is_best);
          at_price = refl;
          quantity = refl;
          some_shares = let h = some in omega arith;
        },
      );
      sound = record { own = ok.own; opp = ok.opp; apart = ok.apart; newer = ok.newer; quotes = taken_lawful s.quotes ok.quotes (across s) b.market k };
      agrees = record {
        incoming = cond-true _ _ _ (eq-eqb i i refl) ∙ ap (changed (less k)) ag.incoming;
        resting = λ m d. ap living (cond-false _ _ _ (ne_eqb i m d)) ∙ ag.resting m d;
        quotes = ap (λ x. routed x a.quotes b.market k) ag.incoming ∙ ap (λ x. taken x (across s) b.market k) ag.quotes;
      };
      lighter = lighter;
      uses_up = uses_up;
      own_quoted = subst (λ t. quoted (taken s.quotes (across s) b.market k) t 16 ≡ quoted s.quotes t 16) (twice_opposite s.incoming.side) (quoted_other s.quotes (across s) b.market k);
      same = refl;
      falls = omega arith;
      own = refl;
    }
      where
        k : ℕ
        k = min s.incoming.«open» b.quote.shares

        i : ℕ
        i = s.incoming.arrival

        stands : s.quotes (across s) b.market ≡ Some b.quote
        stands = (best_is s.quotes ok.quotes (across s) b w.is_best).stands

        some : 1 ≤ b.quote.shares
        some = quoted_shares s.quotes ok.quotes (across s) b.market b.quote stands

        not_itself : (t : Side) (p : ℕ) → not (better t p p) ≡ true
        not_itself Buy p = grind (arith, nat_tests)
        not_itself Sell p = grind (arith, nat_tests)

        lighter : weight (route s b).stand < weight s
        lighter =
            let was = weight_is s q in
            let shorter = length_removed s.opp c.place o placed in
            let h = some in
            cond_both (eqb (s.incoming.«open» - k) 0) 0 (length s.opp + quoted (taken s.quotes (across s) b.market k) (across s) 16) (λ v. v < weight s)
            (λ _. omega arith)
            (λ f.
            let left_open = eqb-false (s.incoming.«open» - k) 0 f in
            let one = quoted_taken s.quotes ok.quotes (across s) b.market k b.quote stands (omega arith) (omega arith) in
            omega arith)

        uses_up : suc (bulk (route s b).stand) ≤ bulk s
        uses_up =
            let was = live_is s.incoming q in
            let h = some in
            let fewer = quoted_lowered s.quotes ok.quotes (across s) b.market k b.quote stands (omega arith) (omega arith) in
            cond_both (eqb (s.incoming.«open» - k) 0) 0 1 (λ v. suc ((length s.opp + quoted (taken s.quotes (across s) b.market k) (across s) 16) + v) ≤ bulk s)
            (λ _. omega arith)
            (λ f.
            let left_open = eqb-false (s.incoming.«open» - k) 0 f in
            let one = quoted_taken s.quotes ok.quotes (across s) b.market k b.quote stands (omega arith) (omega arith) in
            omega arith)

  pub step : (t : Step) → next s ≡ Some t → Stepped ranking n s a t
  step t e =
      let (c, w) = next_choice s t e in
      subst (Stepped ranking n s a) w.step_is
      (by_option (routed_first s.incoming (best_in s.quotes (across s)) c.item.price) (λ x. routed_first s.incoming (best_in s.quotes (across s)) c.item.price ≡ x → Stepped ranking n s a (trade s c x))
      (λ _ g. fill_stepped c w.some_open w.first_is g)
      (λ b _ g. route_stepped c w.some_open w.first_is b (routes_first c w.some_open w.first_is b g)) refl)
