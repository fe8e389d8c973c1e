-- The volume that the rules measure over the lists is the one that the judge reckons from the account.
-- Rests on the lemmas on conditions and on sums over numbers.
use Rattle.std.proofs.Common.{◌≡◌, ℕ, zero, suc, ◌≤◌, Bool, true, false, cond, Some, None, Decides, Option, sym, refl, ap, ◌∙◌, subst, inl, inr, arith}
use Rattle.std.proofs.lemmas.Bool.Decides.{not_from_Decides}
use Rattle.std.proofs.lemmas.Bool.{cases_eq, cond_both, both_ways}
use Rattle.std.proofs.ByRecursion.{All-weaker}
use Rattle.market.specs.Words.{opposite}
use Rattle.board.specs.declared.types.Quote.{Quote}
use Rattle.board.specs.Quotes.{Quotes}
use Rattle.rules.specs.declared.types.Order.{Order}
use Rattle.rules.specs.Orders.{type2}
use Rattle.rules.specs.Rankings.{Ranking}
use Rattle.rules.specs.Trading.{Stand, Bests, bests, within_limit, first_four, worth, resting_volume, quote_worth, away_upto, away_volume, volume}
use Rattle.rules.specs.Calls.{or_else}
use Rattle.law.specs.Tape.{Account}
use Rattle.law.specs.Judge.{NotBetter, FirstFour, Counts, Sum, OrderCounts, QuoteCounts, Volume, count_upto}
use Rattle.law.proofs.Branches.{by_test, by_option, some_is, none_some}
use Rattle.law.proofs.Finding.{found}
use Rattle.law.proofs.Counting.{count_found, sum_is}
use Rattle.law.proofs.Quotations.{decides_not_better}
use Rattle.law.proofs.Conditions.{arrival_of, OrderKept, Sound, Agrees, living, living_open, living_is, opp_at_rest, older, at_rest_tag, rests_across, decides_first_four}

-- a figure under a test counts as the judge says
counts : {P : Type 0} (b : Bool) (n : ℕ) → Decides b P → Counts P n (cond b n 0)
counts b n d = cond_both b n 0 (Counts _ n) (λ t. inl (d.0 t, refl)) (λ f. inr (not_from_Decides b d f, refl))

-- The quotations of the other side.
abbrev figure : Order → Option Quote → ℕ
figure i q = cond (type2 i.kind) (quote_worth i q) 0

quote_counts : (i : Order) (q : Option Quote) → QuoteCounts i q (figure i q)
quote_counts i None = cond_both (type2 i.kind) 0 0 (λ n. n ≡ 0) (λ _. refl) (λ _. refl)
quote_counts i (Some q) =
    by_test (type2 i.kind) (λ b. Counts ((b ≡ true) × NotBetter i.side q.price i.price) q.shares (cond b (cond (within_limit i q.price) q.shares 0) 0))
    (λ _. counts (within_limit i q.price) q.shares (let d = decides_not_better i.side q.price i.price in ((λ t. (refl, d.0 t)), (λ p. d.1 p.1))))
    (λ _. inr ((λ p. both_ways false refl p.0), refl))

away_is : (i : Order) (b : Quotes) → count_upto (λ m. figure i (b (opposite i.side) m)) 16 ≡ away_volume i b
unfolding away_volume
away_is i b =
    by_test (type2 i.kind) (λ t. count_upto (λ m. cond t (quote_worth i (b (opposite i.side) m)) 0) 16 ≡ cond t (away_upto i b 16) 0)
    (λ _. all 16) (λ _. none 16)
  where
    all : (n : ℕ) → count_upto (λ m. quote_worth i (b (opposite i.side) m)) n ≡ away_upto i b n
    all zero = refl
    all (suc n) = let h = all n in omega arith

    none : (n : ℕ) → count_upto (λ m. 0) n ≡ 0
    none zero = refl
    none (suc n) = let h = none n in omega arith

module _ (ranking : Ranking) (n : ℕ) (s : Stand) (a : Account) (ok : Sound ranking n s) (ag : Agrees a s) where
  abbrev i : Order
  i = s.incoming

  abbrev asked : Bests
  asked = bests s.quotes i.side

  abbrev worth_of : Option Order → ℕ
  worth_of None = 0
  worth_of (Some o) = worth i asked o

  abbrev on_opp : ℕ → Option Order
  on_opp k = found arrival_of k s.opp

  abbrev at_rest : ℕ → Option Order
  at_rest k = or_else (found arrival_of k s.own) (on_opp k)

  -- of a number under which nothing is known, nothing is found
  unknown : (k : ℕ) → a.known k ≡ None → worth_of (on_opp k) ≡ 0
  unknown k e =
      by_option (on_opp k) (λ x. on_opp k ≡ x → worth_of x ≡ 0) (λ _ _. refl)
      (λ o _ g.
      let there = opp_at_rest ranking n s a ok ag k o g in
      let tag = at_rest_tag ranking n s a ok ag k o there in
      let other : i.arrival ≡ k → ⊥ = λ h. older ranking n s a ok ag k o there (h ∙ sym tag) in
      absurd (none_some o (ap living (sym e) ∙ ag.resting k other ∙ there))) refl

  -- of a number that the other side has, its order counts as the rules say
  here_counts : (k : ℕ) (o x : Order) → a.known k ≡ Some o → on_opp k ≡ Some x → Counts (FirstFour a i o) o.«open» (worth i asked x)
  here_counts k o x e g =
      let there = opp_at_rest ranking n s a ok ag k x g in
      let tag = at_rest_tag ranking n s a ok ag k x there in
      let other : i.arrival ≡ k → ⊥ = λ h. older ranking n s a ok ag k x there (h ∙ sym tag) in
      let alive = living_is (a.known k) x (ag.resting k other ∙ there) in
      let same : o ≡ x = some_is o x (sym e ∙ alive.0) in
      subst (λ (y : Order). Counts (FirstFour a i y) y.«open» (worth i asked x)) (sym same)
      (counts (first_four i asked x) x.«open» (decides_first_four ranking n s a ok ag x (subst (λ j. found arrival_of j s.opp ≡ Some x) (sym tag) g)))

  -- of any other, its order fails the first four
  elsewhere_fails : (k : ℕ) (o : Order) → a.known k ≡ Some o → on_opp k ≡ None → FirstFour a i o → ⊥
  elsewhere_fails k o e g f =
      let r = f.rests in
      elim (cases_eq i.arrival k) [
        | inl h ↦
            let known : a.known k ≡ Some i = subst (λ j. a.known j ≡ Some i) h ag.incoming in
            r.another (ap arrival_of (some_is i o (sym known ∙ e)))
        | inr d ↦
            let there : at_rest k ≡ Some o = sym (ag.resting k d) ∙ ap living e ∙ living_open o r.remains in
            let tag = at_rest_tag ranking n s a ok ag k o there in
            let found_there = rests_across ranking n s a ok ag o r f.across in
            none_some o (sym g ∙ subst (λ j. found arrival_of j s.opp ≡ Some o) tag found_there)
      ]

  order_counts : (k : ℕ) → OrderCounts a i (a.known k) (worth_of (on_opp k))
  order_counts k =
      by_option (a.known k) (λ x. a.known k ≡ x → OrderCounts a i x (worth_of (on_opp k)))
      (λ _ e. unknown k e)
      (λ o _ e. by_option (on_opp k) (λ x. on_opp k ≡ x → Counts (FirstFour a i o) o.«open» (worth_of x))
      (λ _ g. inr (elsewhere_fails k o e g, refl))
      (λ x _ g. here_counts k o x e g) refl) refl

  pub volume_is : n ≤ a.accepted → Volume a i (volume i s.opp s.quotes)
  volume_is l =
      let orders = count_found arrival_of worth_of (resting_volume i asked) refl refl (λ _ _. refl) a.accepted s.opp ok.opp.distinct
      (All-weaker (OrderKept (opposite i.side) n) (λ o. (1 ≤ o.arrival) × (o.arrival ≤ a.accepted)) (λ o h. let u = h.numbered in (h.from_one, omega arith)) s.opp ok.opp.each) in (
        resting_volume i asked s.opp,
        away_volume i s.quotes,
        subst (Sum (λ k. OrderCounts a i (a.known k)) a.accepted) orders (sum_is (λ k. OrderCounts a i (a.known k)) (λ k. worth_of (on_opp k)) order_counts a.accepted),
        subst (λ b. Sum (λ m. QuoteCounts i (b (opposite i.side) m)) 16 (away_volume i s.quotes)) (sym ag.quotes)
            (subst (Sum (λ m. QuoteCounts i (s.quotes (opposite i.side) m)) 16) (away_is i s.quotes) (sum_is (λ m. QuoteCounts i (s.quotes (opposite i.side) m)) (λ m. figure i (s.quotes (opposite i.side) m)) (λ m. quote_counts i (s.quotes (opposite i.side) m)) 16)),
        refl,
      )
