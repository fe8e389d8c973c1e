-- Words that are parted by spaces read back as themselves, and a body is its words with spaces. Assumes nothing.
use Rattle.std.proofs.Common.{◌≡◌, ℕ, cond, eqb, List, [], ◌∷◌, ◌++◌, sym, refl, ap, ◌∙◌}
use Rattle.std.specs.List.{flat_map, AllByRecursion}
use Rattle.std.proofs.lemmas.Bool.{eqb-true, ne_eqb}
use Rattle.std.proofs.lemmas.List.{append-nil}
use Rattle.files.specs.Fields.{word, further, fields}
use Rattle.files.specs.Written.{spaced}
use Rattle.files.proofs.Words.{by_test}

-- no byte of a word is a space
abbrev pub Unspaced : List ℕ → Type 0
Unspaced w = AllByRecursion (λ c. c ≡ 32 → ⊥) w

pub spaced_fields : (xs : List ℕ) → spaced (fields xs) ≡ xs
spaced_fields [] = refl
spaced_fields (c ∷ cs) =
    by_test (eqb c 32)
    (λ b. cond b [] (c ∷ word 32 cs) ++ flat_map (λ v. 32 ∷ v) (cond b (word 32 cs ∷ further 32 cs) (further 32 cs)) ≡ c ∷ cs)
    (λ e. ap (λ ys. 32 ∷ ys) (spaced_fields cs) ∙ ap (λ d. d ∷ cs) (sym (eqb-true c 32 e)))
    (λ e. ap (λ ys. c ∷ ys) (spaced_fields cs))

word_all : (w : List ℕ) → Unspaced w → (word 32 w ≡ w) × (further 32 w ≡ [])
word_all [] u = (refl, refl)
word_all (c ∷ cs) u =
    let n = ne_eqb c 32 u.0 in
    let ih = word_all cs u.1 in
    (ap (λ b. cond b [] (c ∷ word 32 cs)) n ∙ ap (λ ys. c ∷ ys) ih.0, ap (λ b. cond b (word 32 cs ∷ further 32 cs) (further 32 cs)) n ∙ ih.1)

word_then : (w r : List ℕ) → Unspaced w → (word 32 (w ++ 32 ∷ r) ≡ w) × (further 32 (w ++ 32 ∷ r) ≡ fields r)
word_then [] r u = (refl, refl)
word_then (c ∷ cs) r u =
    let n = ne_eqb c 32 u.0 in
    let ih = word_then cs r u.1 in
    let s = cs ++ 32 ∷ r in
    (ap (λ b. cond b [] (c ∷ word 32 s)) n ∙ ap (λ ys. c ∷ ys) ih.0, ap (λ b. cond b (word 32 s ∷ further 32 s) (further 32 s)) n ∙ ih.1)

pub fields_spaced : (w : List ℕ) (ws : List (List ℕ)) → AllByRecursion Unspaced (w ∷ ws) → fields (spaced (w ∷ ws)) ≡ w ∷ ws
fields_spaced w [] u =
    let a = word_all w u.0 in
    ap fields (append-nil w) ∙ ap (λ v. v ∷ further 32 w) a.0 ∙ ap (λ vs. w ∷ vs) a.1
fields_spaced w (v ∷ vs) u =
    let r = spaced (v ∷ vs) in
    let a = word_then w r u.0 in
    ap (λ z. z ∷ further 32 (w ++ 32 ∷ r)) a.0 ∙ ap (λ zs. w ∷ zs) a.1 ∙ ap (λ zs. w ∷ zs) (fields_spaced v vs u.1)
