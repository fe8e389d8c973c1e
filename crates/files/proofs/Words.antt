-- Where the words of a list part: the first, and those behind it. Assumes nothing.
use Rattle.std.proofs.Common.{◌≡◌, ℕ, suc, ◌+◌, ◌<◌, ◌≤◌, Bool, true, false, cond, eqb, ltb, List, [], ◌∷◌, length, take, drop, Some, None, sym, refl, ap, arith}
use Rattle.std.specs.List.{position, position_or_len}
use Rattle.std.specs.Option.{unwrap_or}
use Rattle.std.proofs.lemmas.Bool.{ltb-false}
use Rattle.std.proofs.lemmas.List.Recursion.{is_position_or_len}
use Rattle.files.specs.Fields.{word, further}

pub by_test : (b : Bool) (P : Bool → Type 0) → (b ≡ true → P true) → (b ≡ false → P false) → P b
by_test true P t f = t refl
by_test false P t f = f refl

pub word_le : (m : ℕ) (xs : List ℕ) → length (word m xs) ≤ length xs
word_le m [] = omega arith
word_le m (c ∷ cs) = by_test (eqb c m) (λ b. length (cond b [] (c ∷ word m cs)) ≤ suc (length cs)) (λ e. omega arith) (λ e. let ih = word_le m cs in omega arith)

pub word_take : (m : ℕ) (xs : List ℕ) → take (length (word m xs)) xs ≡ word m xs
word_take m [] = refl
word_take m (c ∷ cs) = by_test (eqb c m) (λ b. take (length (cond b [] (c ∷ word m cs))) (c ∷ cs) ≡ cond b [] (c ∷ word m cs)) (λ e. refl) (λ e. ap (λ ys. c ∷ ys) (word_take m cs))

-- how long a word is, by the place of the mark
word_ends : (m : ℕ) (xs : List ℕ) → length (word m xs) ≡ position_or_len (λ c. eqb c m) xs
word_ends m xs = is_position_or_len (λ ys. length (word m ys)) (λ c. eqb c m) refl (λ c cs. by_test (eqb c m) (λ b. length (cond b [] (c ∷ word m cs)) ≡ cond b 0 (1 + length (word m cs))) (λ e. refl) (λ e. omega arith)) xs

pub word_len : (m : ℕ) (xs : List ℕ) → unwrap_or (position (λ c. eqb c m) xs) (length xs) ≡ length (word m xs)
word_len m xs =
    let w = word_ends m xs in
    let l = word_le m xs in
    by_test (ltb (position_or_len (λ c. eqb c m) xs) (length xs)) (λ b. unwrap_or (cond b (Some (position_or_len (λ c. eqb c m) xs)) None) (length xs) ≡ length (word m xs))
    (λ e. sym w) (λ e. let k = ltb-false (position_or_len (λ c. eqb c m) xs) (length xs) e in omega arith)

pub further_none : (m : ℕ) (xs : List ℕ) → length (word m xs) ≡ length xs → further m xs ≡ []
further_none m [] h = refl
further_none m (c ∷ cs) h =
    by_test (eqb c m) (λ b. length (cond b [] (c ∷ word m cs)) ≡ suc (length cs) → cond b (word m cs ∷ further m cs) (further m cs) ≡ [])
    (λ e k. absurd (omega arith)) (λ e k. further_none m cs (omega arith)) h

pub further_some : (m : ℕ) (xs : List ℕ) → length (word m xs) < length xs → further m xs ≡ word m (drop (suc (length (word m xs))) xs) ∷ further m (drop (suc (length (word m xs))) xs)
further_some m [] h = absurd (omega arith)
further_some m (c ∷ cs) h =
    by_test (eqb c m) (λ b. length (cond b [] (c ∷ word m cs)) < suc (length cs) → cond b (word m cs ∷ further m cs) (further m cs) ≡ word m (drop (length (cond b [] (c ∷ word m cs))) cs) ∷ further m (drop (length (cond b [] (c ∷ word m cs))) cs))
    (λ e k. refl) (λ e k. further_some m cs (omega arith)) h
