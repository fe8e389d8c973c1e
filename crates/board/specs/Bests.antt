-- What the best of the markets says of each of them: none has one, or none has a better one. Assumes nothing.
-- Lemmas, which nobody has to believe: they stand beside the definitions, since the law of an impl cites them.
use Rattle.std.specs.Prelude.{◌≡◌, ℕ, zero, suc, ◌<◌, ◌≤◌, true, false, ◌⊎◌, Some, None, Option, ◌≢◌, refl}
use Rattle.std.proofs.Common.{sym, ap, ◌∙◌, inl, inr, ⊎_elim, arith}
use Rattle.std.proofs.lemmas.Bool.Decides.{nat_tests}
use Rattle.std.proofs.lemmas.Bool.{cases_eq, cases_order, cases_Bool, both_ways, cond-true, cond-false}
use Rattle.market.specs.declared.types.Side.{Side}
use Rattle.market.specs.declared.types.Side.TheVariants.{Buy, Sell}
use Rattle.board.specs.declared.types.Quote.{Quote}
use Rattle.board.specs.declared.types.Best.{Best}
use Rattle.market.specs.Words.{better}
use Rattle.board.specs.Quotes.{Quotes, better_of, best_upto}

some_none : {A : Type 0} {B : Type 0} (x : A) → Some x ≡ None → B
some_none x e = absurd (cc)

none_of : (s : Side) (k : ℕ) (r : Option Best) (q : Option Quote) → better_of s r k q ≡ None → (r ≡ None) × (q ≡ None)
none_of s k None None e = (refl, refl)
none_of s k (Some x) None e = (e, refl)
none_of s k None (Some q) e = some_none _ e
none_of s k (Some x) (Some q) e =
    ⊎_elim
    (λ (t : better s q.price x.quote.price ≡ true). some_none (record { market = k; quote = q }) (sym (cond-true _ _ _ t) ∙ e))
    (λ (t : better s q.price x.quote.price ≡ false). some_none x (sym (cond-false _ _ _ t) ∙ e))
    (cases_Bool (better s q.price x.quote.price))

module _ (b : Quotes) (s : Side) where
  pub best_none : (n : ℕ) → best_upto b s n ≡ None → (m : ℕ) → 1 ≤ m → m ≤ n → b s m ≡ None
  best_none zero e m h l = absurd (omega arith)
  best_none (suc n) e m h l =
      let p = none_of s (suc n) (best_upto b s n) (b s (suc n)) e in
      ⊎_elim
      (λ (t : m ≡ suc n). ap (b s) t ∙ p.1)
      (λ (t : m ≡ suc n → ⊥). best_none n p.0 m h (let g : (m ≢ suc n) = t in omega arith))
      (cases_eq m (suc n))

-- which of the two `better_of` keeps
abbrev Kept : Side → ℕ → Option Best → Option Quote → Best → Type 0
Kept s k r q x =
    ((r ≡ Some x) × ((y : Quote) → q ≡ Some y → better s y.price x.quote.price ≡ false))
    ⊎ ((q ≡ Some x.quote) × (x.market ≡ k) × ((z : Best) → r ≡ Some z → better s x.quote.price z.quote.price ≡ true))

kept : (s : Side) (k : ℕ) (r : Option Best) (q : Option Quote) (x : Best) → better_of s r k q ≡ Some x → Kept s k r q x
kept s k None None x e = some_none x (sym e)
kept s k (Some z) None x e = inl (e, λ y f. some_none y (sym f))
kept s k None (Some q) x e =
    let j : ◌≡◌ {A = Best} (record { market = k; quote = q }) x = cc in
    inr (ap (λ (w : Best). Some w.quote) j, sym (ap (λ (w : Best). w.market) j), λ z f. some_none z (sym f))
kept s k (Some z) (Some q) x e =
    ⊎_elim
    (λ (t : better s q.price z.quote.price ≡ true).
    let e' : ◌≡◌ {A = Option Best} (Some (record { market = k; quote = q })) (Some x) = sym (cond-true _ _ _ t) ∙ e in
    let j : ◌≡◌ {A = Best} (record { market = k; quote = q }) x = cc in
    inr (
      ap (λ (w : Best). Some w.quote) j,
      sym (ap (λ (w : Best). w.market) j),
      λ w f.
          let i : z ≡ w = cc in
          sym (ap (λ (v : Best). better s v.quote.price w.quote.price) j) ∙ sym (ap (λ (v : Best). better s q.price v.quote.price) i) ∙ t,
    ))
    (λ (t : better s q.price z.quote.price ≡ false).
    let e' : ◌≡◌ {A = Option Best} (Some z) (Some x) = sym (cond-false _ _ _ t) ∙ e in
    inl (
      e',
      λ y f.
          let i : z ≡ x = cc in
          let j : q ≡ y = cc in
          sym (ap (λ (v : Quote). better s v.price x.quote.price) j) ∙ sym (ap (λ (v : Best). better s q.price v.quote.price) i) ∙ t,
    ))
    (cases_Bool (better s q.price z.quote.price))

-- x over z, and y not over z: x over y
over : (s : Side) (x y z : ℕ) → better s x z ≡ true → better s y z ≡ false → better s x y ≡ true
over Buy x y z h k = grind (arith, nat_tests)
over Sell x y z h k = grind (arith, nat_tests)

not_back : (s : Side) (x y : ℕ) → better s x y ≡ true → better s y x ≡ false
not_back Buy x y h = grind (arith, nat_tests)
not_back Sell x y h = grind (arith, nat_tests)

pub not_self : (s : Side) (x : ℕ) → better s x x ≡ false
not_self Buy x = grind (arith, nat_tests)
not_self Sell x = grind (arith, nat_tests)

-- a quotation that stands, with none better, and better than each of a lower market
pub record IsBest (b : Quotes) (s : Side) (n : ℕ) (x : Best) : Type 0 where
  pub low : 1 ≤ x.market
  pub high : x.market ≤ n
  pub stands : b s x.market ≡ Some x.quote
  pub none_better : (m : ℕ) (y : Quote) → 1 ≤ m → m ≤ n → b s m ≡ Some y → better s y.price x.quote.price ≡ false
  pub lowest : (m : ℕ) (y : Quote) → 1 ≤ m → m < x.market → b s m ≡ Some y → better s x.quote.price y.price ≡ true

module _ (b : Quotes) (s : Side) where
  pub best_some : (n : ℕ) (x : Best) → best_upto b s n ≡ Some x → IsBest b s n x
  best_some zero x e = some_none x (sym e)
  best_some (suc n) x e =
      ⊎_elim
      (λ (p : (best_upto b s n ≡ Some x) × ((y : Quote) → b s (suc n) ≡ Some y → better s y.price x.quote.price ≡ false)).
      let i = best_some n x p.0 in
      record {
        low = i.low;
        high = let h = i.high in omega arith;
        stands = i.stands;
        none_better = λ m y h l f.
            ⊎_elim
            (λ (t : m ≡ suc n). p.1 y (sym (ap (b s) t) ∙ f))
            (λ (t : m ≡ suc n → ⊥). i.none_better m y h (omega arith) f)
            (cases_eq m (suc n));
        lowest = i.lowest;
      })
      (λ (p : (b s (suc n) ≡ Some x.quote) × (x.market ≡ suc n) × ((z : Best) → best_upto b s n ≡ Some z → better s x.quote.price z.quote.price ≡ true)).
      let before : (r : Option Best) → best_upto b s n ≡ r → (m : ℕ) (y : Quote) → 1 ≤ m → m ≤ n → b s m ≡ Some y → better s x.quote.price y.price ≡ true = λ r g m y h l f.
      (elim r as (λ v. best_upto b s n ≡ v → better s x.quote.price y.price ≡ true) [
        | None ↦ λ g. some_none y (sym f ∙ best_none b s n g m h l)
        | Some z ↦ λ g. over s x.quote.price y.price z.quote.price (p.2 z g) ((best_some n z g).none_better m y h l f)
      ]) g in
      record {
        low = let e = p.1 in omega arith;
        high = let e = p.1 in omega arith;
        stands = ap (b s) p.1 ∙ p.0;
        none_better = λ m y h l f.
            ⊎_elim
            (λ (t : m ≡ suc n).
            let same : ◌≡◌ {A = Option Quote} (Some y) (Some x.quote) = sym f ∙ ap (b s) t ∙ p.0 in
            let j : y ≡ x.quote = cc in
            ap (λ (v : Quote). better s v.price x.quote.price) j ∙ not_self s x.quote.price)
            (λ (t : m ≡ suc n → ⊥). not_back s x.quote.price y.price (before (best_upto b s n) refl m y h (omega arith) f))
            (cases_eq m (suc n));
        lowest = λ m y h l f. before (best_upto b s n) refl m y h (let e = p.1 in omega arith) f;
      })
      (kept s (suc n) (best_upto b s n) (b s (suc n)) x e)

  same_best : (x y : Best) → x.market ≡ y.market → x.quote ≡ y.quote → x ≡ y
  same_best x y p q = ap (λ m. record { market = m; quote = x.quote }) p ∙ ap (λ v. record { market = y.market; quote = v }) q

  -- two bests are one: so a board may find it in any way
  pub best_one : (n : ℕ) (x y : Best) → IsBest b s n x → IsBest b s n y → x ≡ y
  best_one n x y i j =
      ⊎_elim
      (λ (t : x.market ≡ y.market).
      let f : ◌≡◌ {A = Option Quote} (Some x.quote) (Some y.quote) = sym i.stands ∙ ap (b s) t ∙ j.stands in
      let q : x.quote ≡ y.quote = cc in
      same_best x y t q)
      (⊎_elim
      (λ (t : x.market < y.market).
      let h = j.lowest x.market x.quote i.low t i.stands in
      let k = i.none_better y.market y.quote j.low j.high j.stands in
      absurd (both_ways _ k h))
      (λ (t : y.market < x.market).
      let h = i.lowest y.market y.quote j.low t j.stands in
      let k = j.none_better x.market x.quote i.low i.high i.stands in
      absurd (both_ways _ k h)))
      (cases_order x.market y.market)
