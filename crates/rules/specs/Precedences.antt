-- The order of a side is total by arrival, for both sides and every lawful ranking. Assumes nothing.
-- Lemmas, which nobody has to believe: they stand beside the definitions, since the law of an impl cites them.
use Rattle.std.specs.Prelude.{◌≡◌, ℕ, true, false, cond, not, ltb, ◌⊎◌, ◌≢◌, nat_lt}
use Rattle.std.proofs.Common.{sym, ap, ◌∙◌, inl, inr, ⊎_elim}
use Rattle.std.proofs.lemmas.Bool.{cases_eq, cases_Bool, eq-eqb, ne_eqb}
use Rattle.market.specs.declared.types.Side.{Side}
use Rattle.market.specs.declared.types.Side.TheVariants.{Buy, Sell}
use Rattle.market.specs.Words.{better}
use Rattle.shelf.specs.Order.{Total}
use Rattle.shelf.proofs.Lex.{Strict, TotalAt, lex_total, lex_total_at, strict_up, strict_down}
use Rattle.rules.specs.declared.types.Order.{Order}
use Rattle.rules.specs.declared.types.OrderKey.{OrderKey}
use Rattle.rules.specs.Rankings.{Ranking, Ranks, class_rank, within_class, key_ahead, key_of, before}

by_price : (s : Side) → Strict (better s)
by_price Buy = strict_down
by_price Sell = strict_up

module _ (r : Ranking) (l : Ranks r) where
  -- of two arrivals one is ahead
  apart : (s a t b : ℕ) → (a ≢ b) → (r s a t b ≡ true) ⊎ (r t b s a ≡ true)
  apart s a t b n =
      ⊎_elim (λ (h : r t b s a ≡ true). inr h) (λ (h : r t b s a ≡ false). inl (l.either s a t b n ∙ ap not h)) (cases_Bool (r t b s a))

  in_program : (a b : OrderKey) → class_rank a.class ≡ 1 → within_class r a b ≡ r a.size a.arrival b.size b.arrival
  in_program a b e = ap (λ v. cond v (r a.size a.arrival b.size b.arrival) (nat_lt a.arrival b.arrival)) (eq-eqb (class_rank a.class) 1 e)

  in_other : (a b : OrderKey) → (class_rank a.class ≢ 1) → within_class r a b ≡ nat_lt a.arrival b.arrival
  in_other a b e = ap (λ v. cond v (r a.size a.arrival b.size b.arrival) (nat_lt a.arrival b.arrival)) (ne_eqb (class_rank a.class) 1 e)

  within_total : TotalAt (λ k. k.arrival) (λ k. class_rank k.class) (within_class r)
  within_total = record {
    never = λ a. ⊎_elim
        (λ (p : class_rank a.class ≡ 1). in_program a a p ∙ l.never a.size a.arrival)
        (λ (p : class_rank a.class ≡ 1 → ⊥). in_other a a p ∙ strict_up.irr a.arrival)
        (cases_eq (class_rank a.class) 1);
    chain = λ a b c e f h k. ⊎_elim
        (λ (p : class_rank a.class ≡ 1). in_program a c p ∙ l.chain a.size a.arrival b.size b.arrival c.size c.arrival (sym (in_program a b p) ∙ h) (sym (in_program b c (sym e ∙ p)) ∙ k))
        (λ (p : class_rank a.class ≡ 1 → ⊥). in_other a c p ∙ strict_up.trans a.arrival b.arrival c.arrival (sym (in_other a b p) ∙ h) (sym (in_other b c (λ q. p (e ∙ q))) ∙ k))
        (cases_eq (class_rank a.class) 1);
    apart = λ a b e n. ⊎_elim
        (λ (p : class_rank a.class ≡ 1). ⊎_elim (λ (h : r a.size a.arrival b.size b.arrival ≡ true). inl (in_program a b p ∙ h)) (λ (h : r b.size b.arrival a.size a.arrival ≡ true). inr (in_program b a (sym e ∙ p) ∙ h)) (apart a.size a.arrival b.size b.arrival n))
        (λ (p : class_rank a.class ≡ 1 → ⊥). ⊎_elim (λ (h : ltb a.arrival b.arrival ≡ true). inl (in_other a b p ∙ h)) (λ (h : ltb b.arrival a.arrival ≡ true). inr (in_other b a (λ q. p (e ∙ q)) ∙ h)) (strict_up.tri a.arrival b.arrival n))
        (cases_eq (class_rank a.class) 1);
  }

  pub keys_total : (s : Side) → Total (λ k. k.arrival) (key_ahead s r)
  keys_total s = lex_total _ (λ k. k.price) _ _ (by_price s) (lex_total_at _ (λ k. class_rank k.class) _ _ strict_up within_total)

  pub orders_total : (s : Side) → Total (λ (o : Order). o.arrival) (before r s)
  orders_total s =
      let t = keys_total s in
      record { never = λ a. t.never (key_of a); chain = λ a b c. t.chain (key_of a) (key_of b) (key_of c); apart = λ a b. t.apart (key_of a) (key_of b) }
