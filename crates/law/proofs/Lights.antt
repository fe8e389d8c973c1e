-- The identifier is lit exactly while a Program order has a remainder above 0.
-- Rests on the lemmas on markets.
use Rattle.std.proofs.Common.{◌≡◌, Bool, true, false, ◌||◌, List, [], ◌∷◌, Some, sym, refl, ap, ◌∙◌, inl, inr}
use Rattle.std.specs.List.{AllByRecursion}
use Rattle.std.proofs.lemmas.Bool.{cond-true, cond-false, eq-eqb, ne_eqb, or_parts, or_cases, both_ways, false≢true}
use Rattle.market.specs.declared.types.Side.{Side}
use Rattle.market.specs.declared.types.Side.TheVariants.{Buy, Sell}
use Rattle.market.specs.Words.{opposite}
use Rattle.shelf.specs.Order.{Distinct}
use Rattle.rules.specs.declared.types.Order.{Order}
use Rattle.rules.specs.Orders.{program}
use Rattle.rules.specs.Rankings.{Ranking}
use Rattle.rules.specs.Calls.{Market, of_side, or_else, any_program, lit}
use Rattle.law.specs.Tape.{Account}
use Rattle.law.specs.Judge.{ProgramRests}
use Rattle.law.proofs.Branches.{by_test, by_option}
use Rattle.law.proofs.Finding.{found, all_found}
use Rattle.law.proofs.Conditions.{arrival_of, living, living_open, living_is}
use Rattle.law.proofs.Markets.{found_in, Kept, Matches, found_by_sides}

abbrev is_program : Order → Bool
is_program o = program o.kind

-- a side with a Program order has one under some arrival
some_program : (os : List Order) → Distinct arrival_of os → any_program os ≡ true → (o : Order) × ((found arrival_of o.arrival os ≡ Some o) × (is_program o ≡ true))
some_program [] d e = absurd (false≢true e)
some_program (o ∷ os) d e =
    by_test (is_program o) (λ b. is_program o ≡ b → (b || any_program os) ≡ true → (x : Order) × ((found arrival_of x.arrival (o ∷ os) ≡ Some x) × (is_program x ≡ true)))
    (λ _ p _. (o, (cond-true _ _ _ (eq-eqb o.arrival o.arrival refl), p)))
    (λ _ _ h.
    let (x, w) = some_program os d.1 h in
    (x, (cond-false _ _ _ (ne_eqb o.arrival x.arrival (all_found (λ z. o.arrival ≡ z.arrival → ⊥) arrival_of x.arrival os x d.0 w.0)) ∙ w.0, w.1))) refl e

no_program : (os : List Order) → any_program os ≡ false → AllByRecursion (λ o. is_program o ≡ false) os
no_program [] e = tt
no_program (o ∷ os) e = let k = or_parts _ _ e in (k.0, no_program os k.1)

module _ (ranking : Ranking) (m : Market) (a : Account) (k : Kept ranking m) (h : Matches a m) where
  side_lit : (s : Side) → any_program (of_side s m) ≡ true → ProgramRests a
  side_lit s t =
      let (o, w) = some_program (of_side s m) (k.sides s).distinct t in
      let there : found_in o.arrival m ≡ Some o = found_by_sides m k.apart s o.arrival ∙ ap (λ r. or_else r (found arrival_of o.arrival (of_side (opposite s) m))) w.0 in
      let alive = living_is (a.known o.arrival) o (h.resting o.arrival ∙ there) in
      (o.arrival, o, alive.0, alive.1, w.1)

  pub lit_right : lit m ≡ true → ProgramRests a
  lit_right t = elim (or_cases _ _ t) [ inl p ↦ side_lit Buy p | inr p ↦ side_lit Sell p ]

  pub unlit_right : lit m ≡ false → ProgramRests a → ⊥
  unlit_right f p =
      let w = or_parts _ _ f in
      let (n, o, e, r, t) = p in
      let there : found_in n m ≡ Some o = sym (h.resting n) ∙ ap living e ∙ living_open o r in
      by_option (found arrival_of n m.bids) (λ x. found arrival_of n m.bids ≡ x → or_else x (found arrival_of n m.offers) ≡ Some o → ⊥)
      (λ _ _ g. both_ways (is_program o) (all_found (λ z. is_program z ≡ false) arrival_of n m.offers o (no_program m.offers w.1) g) t)
      (λ x _ v g. both_ways (is_program o) (all_found (λ z. is_program z ≡ false) arrival_of n m.bids o (no_program m.bids w.0) (v ∙ g)) t) refl there
