-- What a total order by a label is, and how one is made of several figures.
-- Rests on numbers and lists alone: nothing here knows of orders or quotations.
use Rattle.std.specs.Prelude.{◌≡◌, ℕ, Bool, true, false, cond, ◌⊎◌, List, [], ◌∷◌, ◌==◌, ◌≢◌}
use Rattle.std.specs.List.{AllByRecursion}

-- Nothing is ahead of itself; ahead is transitive; of two keys of different labels one is ahead.
-- Two keys of one label need not be comparable.
pub record Total {K : Type 0} (label : K → ℕ) (ahead : K → K → Bool) : Type 0 where
  pub never : (a : K) → ahead a a ≡ false
  pub chain : (a b c : K) → ahead a b ≡ true → ahead b c ≡ true → ahead a c ≡ true
  pub apart : (a b : K) → (label a ≢ label b) → (ahead a b ≡ true) ⊎ (ahead b a ≡ true)

-- by a figure first, and among equals by the next order
abbrev pub lex : {K : Type 0} → (K → ℕ) → (ℕ → ℕ → Bool) → (K → K → Bool) → K → K → Bool
lex f lt next a b = cond (f a == f b) (next a b) (lt (f a) (f b))

-- the relation holds from each thing to each that stands behind it
abbrev pub Pairwise : {A : Type 0} → (A → A → Type 0) → List A → Type 0
Pairwise R [] = Unit {0}
Pairwise R (x ∷ xs) = AllByRecursion (R x) xs × Pairwise R xs

-- each stands ahead of all behind it
abbrev pub Sorted : {A : Type 0} → (A → A → Bool) → List A → Type 0
Sorted before = Pairwise (λ x y. before x y ≡ true)

-- no two have one tag
abbrev pub Distinct : {A : Type 0} → (A → ℕ) → List A → Type 0
Distinct tag = Pairwise (λ x y. tag x ≢ tag y)
