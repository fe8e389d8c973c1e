-- Writes into an output, one behind the other. Assumes nothing.
use Rattle.std.proofs.Common.{◌≡◌, ℕ, ◌+◌, List, ◌++◌, length, take, drop, sym, ap, ◌∙◌, arith}
use Rattle.shelf.proofs.Cells.{drop_later}
use Rattle.std.proofs.lemmas.List.{append_assoc}

-- what is written, and what is left to write, make the whole: a line more
module _ (out out' line : List ℕ) (n k : ℕ) (long : length line ≡ k) where
  pub stands_more : (later J whole : List ℕ) → take (n + length line) out' ≡ take n out ++ line → J ≡ line ++ later → take n out ++ J ≡ whole → take (n + k) out' ++ later ≡ whole
  stands_more later J whole s j w =
      ap (λ m. take (n + m) out' ++ later) (sym long) ∙ ap (λ ys. ys ++ later) s ∙ append_assoc (take n out) line later ∙ ap (λ ys. take n out ++ ys) (sym j) ∙ w

  pub stays_more : (old : List ℕ) → drop (n + length line) out' ≡ drop (n + length line) out → drop n out ≡ drop n old → drop (n + k) out' ≡ drop (n + k) old
  stays_more old b e = ap (λ m. drop (n + m) out') (sym long) ∙ b ∙ ap (λ m. drop (n + m) out) long ∙ drop_later out old n (n + k) (omega arith) e
