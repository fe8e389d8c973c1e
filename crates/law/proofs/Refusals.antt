-- The refusal that the rules give is that of the first case that holds, reckoned from the account.
-- Rests on the lemmas on markets.
use Rattle.std.proofs.Common.{◌≡◌, ℕ, ◌*◌, ◌<◌, ◌≤◌, Bool, true, false, cond, not, ◌&&◌, ◌||◌, eqb, ltb, leb, ◌⊎◌, List, [], ◌∷◌, length, Some, None, Ok, Err, Decides, Option, sym, refl, ap, ◌∙◌, subst, inl, inr, arith}
use Rattle.std.proofs.lemmas.Bool.Decides.{nat_tests, Decides-and, Decides-or, Decides-ltb, Decides-eqb}
use Rattle.std.proofs.lemmas.Bool.{leb-true, le-leb, cond_both, both_ways}
use Rattle.market.specs.declared.types.Side.{Side}
use Rattle.market.specs.declared.types.Refusal.{Refusal}
use Rattle.market.specs.declared.types.Refusal.TheVariants.{Price, Shares, SmallOlo, SmallIlo, LargeMtv, SideFull, ArrivalsSpent, ShortReport, NotResting, CutShares, MarketNumber, Quotation}
use Rattle.market.specs.Words.{in_range}
use Rattle.board.specs.Quotes.{market_ok, removes, post_answer}
use Rattle.rules.specs.declared.types.Kind.{Kind}
use Rattle.rules.specs.declared.types.Kind.TheVariants.{Displayed, Dark, Olo, Ilo}
use Rattle.rules.specs.declared.types.Order.{Order}
use Rattle.rules.specs.declared.types.Located.{Located}
use Rattle.rules.specs.declared.types.Call.TheVariants as call
use Rattle.rules.specs.Orders.{mtv_of, is_olo, is_ilo, cancels, too_small}
use Rattle.rules.specs.Rankings.{Ranking}
use Rattle.rules.specs.Calls.{Market, of_side, at_rest, open_of, is_none, first_case, arriving, enter_refusal, cut_refusal, cancel_refusal, post_accepted}
use Rattle.law.specs.Tape.{Account, remainder}
use Rattle.law.specs.Judge.{FirstCase, Cases, Outside, TooSmall, Leaves, refusal_of}
use Rattle.rules.specs.Calls.{leaves}
use Rattle.law.proofs.Branches.{by_test, by_option}
use Rattle.law.proofs.Markets.{Kept, Matches, resting_is, remainder_is, order_of, order_at_rest, kept_found}

-- each test decides the case of its refusal
abbrev Deciding : List (Refusal × Bool) → List (Refusal × Type 0) → Type 0
Deciding [] [] = Unit {0}
Deciding [] (c ∷ cs) = ⊥
Deciding (b ∷ bs) [] = ⊥
Deciding (b ∷ bs) (c ∷ cs) = (b.0 ≡ c.0) × (Decides b.1 c.1 × Deciding bs cs)

first_case_is : (bs : List (Refusal × Bool)) (cs : List (Refusal × Type 0)) → Deciding bs cs → FirstCase cs (first_case bs)
first_case_is [] [] d = refl
first_case_is [] (c ∷ cs) d = absurd d
first_case_is (b ∷ bs) [] d = absurd d
first_case_is (b ∷ bs) (c ∷ cs) d =
    cond_both b.1 (Some b.0) (first_case bs) (FirstCase (c ∷ cs))
    (λ t. inl (d.1.0.0 t, ap Some d.0))
    (λ f. inr ((λ p. both_ways b.1 f (d.1.0.1 p)), first_case_is bs cs d.1.1))

decides_leb : (a b : ℕ) → Decides (leb a b) (a ≤ b)
decides_leb a b = (leb-true a b, le-leb a b)

decides_itself : (b : Bool) → Decides b (b ≡ true)
decides_itself b = ((λ h. h), (λ h. h))

decides_false : (b : Bool) → Decides (not b) (b ≡ false)
decides_false true = ((λ h. absurd (both_ways false refl h)), (λ h. absurd (both_ways true h refl)))
decides_false false = ((λ _. refl), (λ _. refl))

decides_outside : (x : ℕ) → Decides (not (in_range x)) (Outside 1000000 x)
decides_outside x = ((λ h. grind (arith, nat_tests)), (λ h. grind (arith, nat_tests)))

pub decides_too_small : (k : Kind) (p n : ℕ) → Decides (too_small k p n) (TooSmall k p n)
decides_too_small Displayed p n = Decides-ltb n 1
decides_too_small Dark p n = Decides-ltb n 1
decides_too_small Olo p n = Decides-ltb n 500
decides_too_small (Ilo routing mtv mark) p n = Decides-or _ _ (Decides-ltb n 5000) (Decides-ltb (p * n) 5000000)

pub decides_leaves : (n : ℕ) (o : Order) → Decides (leaves n o) (Leaves n o)
decides_leaves n o = Decides-or _ _ (decides_leb o.«open» n) (decides_too_small o.kind o.price _)

-- the tests of each call, in the order of its cases
abbrev enter_tests : Market → Side → ℕ → Kind → ℕ → ℕ → List (Refusal × Bool)
enter_tests m side price kind shares room =
    (ShortReport, ltb room 144)
    ∷ (Price, not (in_range price))
    ∷ (Shares, not (in_range shares))
    ∷ (SmallOlo, is_olo kind && too_small kind price shares)
    ∷ (SmallIlo, is_ilo kind && too_small kind price shares)
    ∷ (LargeMtv, ltb shares (mtv_of kind))
    ∷ (ArrivalsSpent, leb 1000000 m.arrivals)
    ∷ (SideFull, not (cancels kind) && leb 128 (length (of_side side m)))
    ∷ []

abbrev cut_tests : Option Located → ℕ → List (Refusal × Bool)
cut_tests l n = (NotResting, is_none l) ∷ (CutShares, eqb n 0 || ltb (open_of l) n) ∷ []

abbrev post_tests : ℕ → ℕ → ℕ → List (Refusal × Bool)
post_tests market price shares = (MarketNumber, not (market_ok market)) ∷ (Quotation, not (removes price shares || (in_range price && in_range shares))) ∷ []

module _ (ranking : Ranking) (m : Market) (a : Account) (k : Kept ranking m) (h : Matches a m) where
  pub enter_case : (side : Side) (price : ℕ) (kind : Kind) (shares room : ℕ) → FirstCase (Cases a (call.Enter side price kind shares) room) (enter_refusal (arriving m side price kind shares) m.arrivals (length (of_side side m)) room)
  unfolding enter_refusal
  enter_case side price kind shares room =
      first_case_is (enter_tests m side price kind shares room) (Cases a (call.Enter side price kind shares) room) (
        refl,
        (
          Decides-ltb room 144,
          (
            refl,
            (
              decides_outside price,
              (
                refl,
                (
                  decides_outside shares,
                  (
                    refl,
                    (
                      Decides-and _ _ (decides_itself _) (decides_too_small kind price shares),
                      (
                        refl,
                        (
                          Decides-and _ _ (decides_itself _) (decides_too_small kind price shares),
                          (
                            refl,
                            (
                              Decides-ltb shares (mtv_of kind),
                              (
                                refl,
                                (
                                  subst (λ x. Decides (leb 1000000 m.arrivals) (1000000 ≤ x)) (sym h.accepted) (decides_leb 1000000 m.arrivals),
                                  (
                                    refl,
                                    (
                                      Decides-and _ _ (decides_false (cancels kind)) (subst (λ x. Decides (leb 128 (length (of_side side m))) (128 ≤ x)) (sym (resting_is ranking m a k h side)) (decides_leb 128 (length (of_side side m)))),
                                      tt,
                                    ),
                                  ),
                                ),
                              ),
                            ),
                          ),
                        ),
                      ),
                    ),
                  ),
                ),
              ),
            ),
          ),
        ),
      )

  -- an order is not at rest exactly where its remainder is 0
  decides_none : (n : ℕ) → Decides (is_none (at_rest n m)) (remainder a n ≡ 0)
  decides_none n =
      by_option (at_rest n m) (λ x. at_rest n m ≡ x → Decides (is_none x) (remainder a n ≡ 0))
      (λ _ e. ((λ _. sym (remainder_is a m h n) ∙ ap open_of e), (λ _. refl)))
      (λ l _ e.
      let (s, w) = kept_found ranking m a k h n l.order (sym (order_at_rest n m) ∙ ap order_of e) in
      let r = w.remains in
      let q = remainder_is a m h n in
      let z = ap open_of e in
      ((λ f. absurd (both_ways false refl f)), (λ g. absurd (omega arith)))) refl

  pub cancel_case : (n room : ℕ) → FirstCase (Cases a (call.Cancel n) room) (cancel_refusal (at_rest n m))
  cancel_case n room = first_case_is ((NotResting, is_none (at_rest n m)) ∷ []) (Cases a (call.Cancel n) room) (refl, (decides_none n, tt))

  pub cut_case : (n shares room : ℕ) → FirstCase (Cases a (call.Cut n shares) room) (cut_refusal (at_rest n m) shares)
  cut_case n shares room =
      first_case_is (cut_tests (at_rest n m) shares) (Cases a (call.Cut n shares) room) (
        refl,
        (
          decides_none n,
          (
            refl,
            (
              Decides-or _ _ (Decides-eqb shares 0) (subst (λ r. Decides (ltb (open_of (at_rest n m)) shares) (r < shares)) (remainder_is a m h n) (Decides-ltb (open_of (at_rest n m)) shares)),
              tt,
            ),
          ),
        ),
      )

-- the board's own two cases
abbrev Misquoted : ℕ → ℕ → Type 0
Misquoted price shares = (1000000 < shares) ⊎ (((shares ≡ 0) × (price ≡ 0 → ⊥)) ⊎ ((shares ≡ 0 → ⊥) × Outside 1000000 price))

decides_misquoted : (price shares : ℕ) → Decides (not (removes price shares || (in_range price && in_range shares))) (Misquoted price shares)
decides_misquoted price shares = ((λ h. grind (arith, nat_tests)), (λ h. grind (arith, nat_tests)))

pub post_case : (a : Account) (market : ℕ) (side : Side) (price shares room : ℕ) → FirstCase (Cases a (call.Post market side price shares) room) (refusal_of (post_accepted (post_answer market price shares)))
post_case a market side price shares room =
    let inside : Decides (not (market_ok market)) (Outside 16 market) = ((λ h. grind (arith, nat_tests)), (λ h. grind (arith, nat_tests))) in
    let quoted = decides_misquoted price shares in
    subst (FirstCase (Cases a (call.Post market side price shares) room)) answers
    (first_case_is (post_tests market price shares) (Cases a (call.Post market side price shares) room) (refl, (inside, (refl, (quoted, tt)))))
  where
    answers : first_case (post_tests market price shares) ≡ refusal_of (post_accepted (post_answer market price shares))
    answers =
        by_test (market_ok market) (λ x. cond (not x) (Some MarketNumber) (cond (not (removes price shares || (in_range price && in_range shares))) (Some Quotation) None) ≡ refusal_of (post_accepted (cond x (cond (removes price shares || (in_range price && in_range shares)) (Ok tt) (Err Quotation)) (Err MarketNumber))))
        (λ _. by_test (removes price shares || (in_range price && in_range shares)) (λ y. cond (not y) (Some Quotation) None ≡ refusal_of (post_accepted (cond y (Ok tt) (Err Quotation)))) (λ _. refl) (λ _. refl))
        (λ _. refl)
