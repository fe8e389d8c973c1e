-- The tests on quotations say what the judge says of them, and a take or a post leaves them lawful.
-- Rests on what the best of the markets says of each.
use Rattle.std.proofs.Common.{◌≡◌, ℕ, suc, ◌≤◌, true, false, cond, not, ◌&&◌, eqb, ltb, leb, Some, None, Ok, Err, Decides, Option, Result, sym, refl, ap, ◌∙◌, subst, inl, inr, arith}
use Rattle.std.proofs.lemmas.Bool.Decides.{nat_tests, Decides-ltb}
use Rattle.std.proofs.lemmas.Bool.{cases_Bool, cond_both, cond-true, cond-false, and_from, and_parts, and_right, eq-eqb, ne_eqb, eqb-true, both_ways}
use Rattle.market.specs.declared.types.Side.{Side}
use Rattle.market.specs.declared.types.Side.TheVariants.{Buy, Sell}
use Rattle.market.specs.declared.types.Refusal.{Refusal}
use Rattle.market.specs.declared.types.Refusal.TheVariants.{MarketNumber, Take}
use Rattle.market.specs.Words.{same_side, better, opposite}
use Rattle.board.specs.declared.types.Quote.{Quote}
use Rattle.board.specs.declared.types.Best.{Best}
use Rattle.board.specs.Quotes.{Quotes, Lawful, market_ok, quote_ok, with_quote, lowered, shares_of, if_ok, take_answer, best_in}
use Rattle.board.specs.Bests.{IsBest, best_none, best_some}
use Rattle.rules.specs.Trading.{no_better}
use Rattle.rules.specs.Sweeps.{taken}
use Rattle.law.specs.Judge.{Better, NotBetter, NoneBetter}
use Rattle.law.specs.Holdings.{one_if, quoted}
use Rattle.law.proofs.Branches.{by_test, by_option, none_some}
use Rattle.law.proofs.Counting.{count_same, count_differs, count_at_most, count_one_more}

pub decides_better : (s : Side) (a b : ℕ) → Decides (better s a b) (Better s a b)
decides_better Buy a b = Decides-ltb b a
decides_better Sell a b = Decides-ltb a b

pub decides_not_better : (s : Side) (a b : ℕ) → Decides (not (better s a b)) (NotBetter s a b)
decides_not_better Buy a b = ((λ h. grind (arith, nat_tests)), (λ h. grind (arith, nat_tests)))
decides_not_better Sell a b = ((λ h. grind (arith, nat_tests)), (λ h. grind (arith, nat_tests)))

-- what is no better than m, where m is no better than p
through : (s : Side) (x m p : ℕ) → better s x m ≡ false → not (better s m p) ≡ true → NotBetter s x p
through Buy x m p f g = grind (arith, nat_tests)
through Sell x m p f g = grind (arith, nat_tests)

-- a lower market that is strictly worse has not the same price
apart : (s : Side) (x y : ℕ) → better s x y ≡ true → y ≡ x → ⊥
apart Buy x y h e = grind (arith, nat_tests)
apart Sell x y h e = grind (arith, nat_tests)

pub same_side_itself : (s : Side) → same_side s s ≡ true
same_side_itself Buy = refl
same_side_itself Sell = refl

module _ (b : Quotes) (l : Lawful b) where
  -- a quotation has a market of 1 to 16 and some shares
  pub quoted_market : (s : Side) (m : ℕ) (q : Quote) → b s m ≡ Some q → (1 ≤ m) × (m ≤ 16)
  quoted_market s m q e = elim (cases_Bool (market_ok m)) [
    | inl t ↦ grind (arith, nat_tests)
    | inr f ↦ absurd (none_some q (sym (l.none s m f) ∙ e))
  ]

  pub quoted_shares : (s : Side) (m : ℕ) (q : Quote) → b s m ≡ Some q → 1 ≤ q.shares
  quoted_shares s m q e = let ok : quote_ok (Some q) ≡ true = subst (λ r. quote_ok r ≡ true) e (l.ranged s m) in grind (arith, nat_tests)

  pub best_is : (s : Side) (x : Best) → best_in b s ≡ Some x → IsBest b s 16 x
  unfolding best_in
  best_is s x e = best_some b s 16 x e

  -- the best is as good as any, and of equals it has the lowest market
  pub best_unbeaten : (s : Side) (x : Best) → best_in b s ≡ Some x → (p : ℕ) → not (better s x.quote.price p) ≡ true → NoneBetter b s p
  best_unbeaten s x e p h m q f =
      let w = quoted_market s m q f in
      through s q.price x.quote.price p ((best_is s x e).none_better m q w.0 w.1 f) h

  pub best_lowest : (s : Side) (x : Best) → best_in b s ≡ Some x → (m : ℕ) (q : Quote) → b s m ≡ Some q → q.price ≡ x.quote.price → x.market ≤ m
  best_lowest s x e m q f g =
      let w = quoted_market s m q f in
      elim (cases_Bool (ltb m x.market)) [
        | inl t ↦ absurd (apart s x.quote.price q.price ((best_is s x e).lowest m q w.0 (grind (arith, nat_tests)) f) g)
        | inr k ↦ grind (arith, nat_tests)
      ]

  pub none_quoted : (s : Side) → best_in b s ≡ None → (p : ℕ) → NoneBetter b s p
  unfolding best_in
  none_quoted s e p m q f = let w = quoted_market s m q f in absurd (none_some q (sym (best_none b s 16 e m w.0 w.1) ∙ f))

  -- to ask the best of a side is to ask them all
  pub decides_none_better : (s : Side) (p : ℕ) → Decides (no_better (best_in b s) s p) (NoneBetter b s p)
  decides_none_better s p =
      by_option (best_in b s) (λ r. best_in b s ≡ r → Decides (no_better r s p) (NoneBetter b s p))
      (λ _ e. ((λ _. none_quoted s e p), (λ _. refl)))
      (λ x _ e. ((λ h. best_unbeaten s x e p h), (λ n. (decides_not_better s x.quote.price p).1 (n x.market x.quote (best_is s x e).stands)))) refl

  pub with_quote_lawful : (s : Side) (m : ℕ) (q : Option Quote) → market_ok m ≡ true → quote_ok q ≡ true → Lawful (with_quote b s m q)
  with_quote_lawful s m q inside ok = record {
    ranged = λ t k. cond_both (same_side s t && eqb m k) q (b t k) (λ r. quote_ok r ≡ true) (λ _. ok) (λ _. l.ranged t k);
    none = λ t k f. cond_both (same_side s t && eqb m k) q (b t k) (λ r. r ≡ None)
        (λ w. let z = eqb-true m k (and_parts (same_side s t) (eqb m k) w).1 in absurd (both_ways (market_ok m) (subst (λ j. market_ok j ≡ false) (sym z) f) inside))
        (λ _. l.none t k f);
  }

  lowered_ok : (q : Option Quote) (n : ℕ) → leb 1 n && leb n (shares_of q) ≡ true → quote_ok q ≡ true → quote_ok (lowered q n) ≡ true
  lowered_ok None n h ok = refl
  lowered_ok (Some q) n h ok = grind (arith, nat_tests)

  -- a take, refused or not, leaves quotations lawful
  pub taken_lawful : (s : Side) (m n : ℕ) → Lawful (taken b s m n)
  taken_lawful s m n =
      by_test (market_ok m) (λ x. market_ok m ≡ x → Lawful (if_ok (cond x (cond (leb 1 n && leb n (shares_of (b s m))) (Ok tt) (Err Take)) (Err MarketNumber)) (with_quote b s m (lowered (b s m) n)) b))
      (λ _ inside. by_test (leb 1 n && leb n (shares_of (b s m))) (λ y. (leb 1 n && leb n (shares_of (b s m))) ≡ y → Lawful (if_ok (cond y (Ok tt) (Err Take)) (with_quote b s m (lowered (b s m) n)) b))
      (λ _ h. with_quote_lawful s m (lowered (b s m) n) inside (lowered_ok (b s m) n h (l.ranged s m)))
      (λ _ _. l) refl)
      (λ _ _. l) refl

  -- a take of 1 share or more, and of no more than are there, is not refused
  pub taken_is : (s : Side) (m n : ℕ) (q : Quote) → b s m ≡ Some q → 1 ≤ n → n ≤ q.shares → taken b s m n ≡ with_quote b s m (lowered (b s m) n)
  taken_is s m n q e low high =
      let w = quoted_market s m q e in
      let inside : market_ok m ≡ true = let p = w.0 in let r = w.1 in grind (arith, nat_tests) in
      let enough : (leb 1 n && leb n (shares_of (b s m))) ≡ true = let z = ap shares_of e in grind (arith, nat_tests) in
      ap (λ x. if_ok (cond x (cond (leb 1 n && leb n (shares_of (b s m))) (Ok tt) (Err Take)) (Err MarketNumber)) (with_quote b s m (lowered (b s m) n)) b) inside
      ∙ ap (λ x. if_ok (cond x (Ok tt) (Err Take)) (with_quote b s m (lowered (b s m) n)) b) enough

-- How many quotations a side has.
pub one_at_most : (q : Option Quote) → one_if q ≤ 1
one_at_most None = omega arith
one_at_most (Some q) = omega arith

pub quoted_at_most : (b : Quotes) (s : Side) (n : ℕ) → quoted b s n ≤ n
unfolding quoted
quoted_at_most b s n = count_at_most (λ m. one_if (b s m)) n (λ k. one_at_most (b s k))

-- one fewer where all its shares are taken
pub quoted_taken : (b : Quotes) → Lawful b → (s : Side) (m n : ℕ) (q : Quote) → b s m ≡ Some q → 1 ≤ n → n ≡ q.shares → suc (quoted (taken b s m n) s 16) ≡ quoted b s 16
unfolding quoted
quoted_taken b l s m n q e low all =
    let w = quoted_market b l s m q e in
    let c : Quotes = with_quote b s m (lowered (b s m) n) in
    let all_taken : leb q.shares n ≡ true = grind (arith, nat_tests) in
    let gone : c s m ≡ None = cond-true _ _ _ (and_from _ _ (same_side_itself s) (eq-eqb m m refl)) ∙ ap (λ r. lowered r n) e ∙ cond-true _ _ _ all_taken in
    let zero_there = ap one_if gone in
    let one_there = ap one_if e in
    let differs = count_differs (λ k. one_if (c s k)) (λ k. one_if (b s k)) m 16 w.0 w.1 (λ j d. ap one_if (cond-false (same_side s s && eqb m j) (lowered (b s m) n) (b s j) (and_right (same_side s s) (eqb m j) (ne_eqb m j d)))) in
    subst (λ (x : Quotes). suc (quoted x s 16) ≡ quoted b s 16) (sym (taken_is b l s m n q e low (omega arith))) (omega arith)

-- a take adds none
pub quoted_lowered : (b : Quotes) → Lawful b → (s : Side) (m n : ℕ) (q : Quote) → b s m ≡ Some q → 1 ≤ n → n ≤ q.shares → quoted (taken b s m n) s 16 ≤ quoted b s 16
unfolding quoted
quoted_lowered b l s m n q e low high =
    let w = quoted_market b l s m q e in
    let c : Quotes = with_quote b s m (lowered (b s m) n) in
    let one_there = ap one_if e in
    let at_most = one_at_most (c s m) in
    let differs = count_differs (λ k. one_if (c s k)) (λ k. one_if (b s k)) m 16 w.0 w.1 (λ j d. ap one_if (cond-false (same_side s s && eqb m j) (lowered (b s m) n) (b s j) (and_right (same_side s s) (eqb m j) (ne_eqb m j d)))) in
    subst (λ (x : Quotes). quoted x s 16 ≤ quoted b s 16) (sym (taken_is b l s m n q e low high)) (omega arith)

-- a quotation that stands instead of another adds one at most
pub quoted_put : (b : Quotes) (s : Side) (m : ℕ) (x : Option Quote) → quoted (with_quote b s m x) s 16 ≤ suc (quoted b s 16)
unfolding quoted
quoted_put b s m x = count_one_more (λ k. one_if (with_quote b s m x s k)) (λ k. one_if (b s k)) m 16 (one_at_most (with_quote b s m x s m)) (λ j d. ap one_if (cond-false (same_side s s && eqb m j) x (b s j) (and_right (same_side s s) (eqb m j) (ne_eqb m j d))))

-- and leaves those of the other side
untouched : (b : Quotes) (s : Side) (m : ℕ) (x : Option Quote) (k : ℕ) → with_quote b s m x (opposite s) k ≡ b (opposite s) k
untouched b Buy m x k = refl
untouched b Sell m x k = refl

pub quoted_beside : (b : Quotes) (s : Side) (m : ℕ) (x : Option Quote) → quoted (with_quote b s m x) (opposite s) 16 ≡ quoted b (opposite s) 16
unfolding quoted
quoted_beside b s m x = count_same (λ k. one_if (with_quote b s m x (opposite s) k)) (λ k. one_if (b (opposite s) k)) 16 (λ k. ap one_if (untouched b s m x k))

pub quoted_other : (b : Quotes) (s : Side) (m n : ℕ) → quoted (taken b s m n) (opposite s) 16 ≡ quoted b (opposite s) 16
quoted_other b s m n = by_answer (take_answer m (b s m) n)
  where
    by_answer : (r : Result Unit Refusal) → quoted (if_ok r (with_quote b s m (lowered (b s m) n)) b) (opposite s) 16 ≡ quoted b (opposite s) 16
    by_answer (Ok u) = quoted_beside b s m (lowered (b s m) n)
    by_answer (Err e) = refl
