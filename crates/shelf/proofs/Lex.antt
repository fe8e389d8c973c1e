-- An order by several figures is total. Assumes nothing.
use Rattle.std.proofs.Common.{◌≡◌, ℕ, ◌<◌, Bool, true, false, cond, ltb, ◌⊎◌, sym, refl, ap, ◌∙◌, inl, inr, ⊎_elim, arith}
use Rattle.std.proofs.lemmas.Bool.Decides.{nat_tests}
use Rattle.std.proofs.lemmas.Bool.{cases_eq, cases_order, eq-eqb, ne_eqb, both_ways, lt-ltb}
use Rattle.shelf.specs.Order.{Total, lex}

-- an order of numbers
pub record Strict (lt : ℕ → ℕ → Bool) : Type 0 where
  pub irr : (x : ℕ) → lt x x ≡ false
  pub trans : (x y z : ℕ) → lt x y ≡ true → lt y z ≡ true → lt x z ≡ true
  pub tri : (x y : ℕ) → (x ≡ y → ⊥) → (lt x y ≡ true) ⊎ (lt y x ≡ true)

pub strict_up : Strict (λ x y. ltb x y)
strict_up = record {
  irr = λ x. grind (arith, nat_tests);
  trans = λ x y z h k. grind (arith, nat_tests);
  tri = λ x y n. ⊎_elim (λ (e : x ≡ y). absurd (n e)) (⊎_elim (λ (h : x < y). inl (lt-ltb x y h)) (λ (h : y < x). inr (lt-ltb y x h))) (cases_order x y);
}

pub strict_down : Strict (λ x y. ltb y x)
strict_down = record {
  irr = λ x. strict_up.irr x;
  trans = λ x y z h k. strict_up.trans z y x k h;
  tri = λ x y n. strict_up.tri y x (λ e. n (sym e));
}

-- an order by the label alone
pub by_label : {K : Type 0} (label : K → ℕ) (lt : ℕ → ℕ → Bool) → Strict lt → Total label (λ a b. lt (label a) (label b))
by_label label lt l = record { never = λ a. l.irr (label a); chain = λ a b c. l.trans (label a) (label b) (label c); apart = λ a b. l.tri (label a) (label b) }

-- an order that is owed only among equals of a figure
pub record TotalAt {K : Type 0} (label f : K → ℕ) (next : K → K → Bool) : Type 0 where
  pub never : (a : K) → next a a ≡ false
  pub chain : (a b c : K) → f a ≡ f b → f b ≡ f c → next a b ≡ true → next b c ≡ true → next a c ≡ true
  pub apart : (a b : K) → f a ≡ f b → (label a ≡ label b → ⊥) → (next a b ≡ true) ⊎ (next b a ≡ true)

module _ {K : Type 0} (label : K → ℕ) (f : K → ℕ) (lt : ℕ → ℕ → Bool) (next : K → K → Bool) (l : Strict lt) (t : TotalAt label f next) where
  eq_at : (a b : K) → f a ≡ f b → lex f lt next a b ≡ next a b
  eq_at a b e = ap (λ v. cond v (next a b) (lt (f a) (f b))) (eq-eqb (f a) (f b) e)

  ne_at : (a b : K) → (f a ≡ f b → ⊥) → lex f lt next a b ≡ lt (f a) (f b)
  ne_at a b e = ap (λ v. cond v (next a b) (lt (f a) (f b))) (ne_eqb (f a) (f b) e)

  by_figure : (a b : K) → lt (f a) (f b) ≡ true → f a ≡ f b → ⊥
  by_figure a b h e = both_ways (lt (f a) (f a)) (l.irr (f a)) (ap (lt (f a)) e ∙ h)

  chain_at : (a b c : K) → lex f lt next a b ≡ true → lex f lt next b c ≡ true → lex f lt next a c ≡ true
  chain_at a b c h k =
      ⊎_elim
      (λ (e : f a ≡ f b). ⊎_elim
      (λ (g : f b ≡ f c). eq_at a c (e ∙ g) ∙ t.chain a b c e g (sym (eq_at a b e) ∙ h) (sym (eq_at b c g) ∙ k))
      (λ (g : f b ≡ f c → ⊥). ne_at a c (λ i. g (sym e ∙ i)) ∙ ap (λ x. lt x (f c)) e ∙ sym (ne_at b c g) ∙ k)
      (cases_eq (f b) (f c)))
      (λ (e : f a ≡ f b → ⊥). ⊎_elim
      (λ (g : f b ≡ f c). ne_at a c (λ i. e (i ∙ sym g)) ∙ sym (ap (lt (f a)) g) ∙ sym (ne_at a b e) ∙ h)
      (λ (g : f b ≡ f c → ⊥).
      let r = l.trans (f a) (f b) (f c) (sym (ne_at a b e) ∙ h) (sym (ne_at b c g) ∙ k) in
      ne_at a c (by_figure a c r) ∙ r)
      (cases_eq (f b) (f c)))
      (cases_eq (f a) (f b))

  pub lex_total_at : Total label (lex f lt next)
  lex_total_at = record {
    never = λ a. eq_at a a refl ∙ t.never a;
    chain = chain_at;
    apart = λ a b n. ⊎_elim
        (λ (e : f a ≡ f b). ⊎_elim (λ (h : next a b ≡ true). inl (eq_at a b e ∙ h)) (λ (h : next b a ≡ true). inr (eq_at b a (sym e) ∙ h)) (t.apart a b e n))
        (λ (e : f a ≡ f b → ⊥). ⊎_elim (λ (h : lt (f a) (f b) ≡ true). inl (ne_at a b e ∙ h)) (λ (h : lt (f b) (f a) ≡ true). inr (ne_at b a (λ i. e (sym i)) ∙ h)) (l.tri (f a) (f b) e))
        (cases_eq (f a) (f b));
  }

-- where the next order holds of all keys
pub lex_total : {K : Type 0} (label f : K → ℕ) (lt : ℕ → ℕ → Bool) (next : K → K → Bool) → Strict lt → Total label next → Total label (lex f lt next)
lex_total label f lt next l t =
    lex_total_at label f lt next l (record { never = t.never; chain = λ a b c e g. t.chain a b c; apart = λ a b e. t.apart a b })
