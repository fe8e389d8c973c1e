-- A session that ran or was refused, told from its answer and its listing. Assumes nothing.
use Rattle.std.proofs.Common.{◌≡◌, ℕ, ◌≤◌, Bool, true, false, cond, List, length, drop, nat_lt, Some, None, Ok, Err, Option, Result, refl, arith}
use Rattle.std.proofs.Math.Seq.{drop-append_seam}
use Rattle.std.proofs.lemmas.Bool.Decides.{nat_tests}
use Rattle.market.specs.declared.types.Refusal.{Refusal}
use Rattle.market.specs.declared.types.Refusal.TheVariants.{ShortListing}
use Rattle.board.specs.Quotes.{Quotes}
use Rattle.rules.specs.Rankings.{Ranking}
use Rattle.files.specs.Lines.{Line}
use Rattle.files.specs.Files.{read_file, refusal_of, refused, lines_from, count_of}
use Rattle.session.specs.Sessions.{session_text, session_lines, answer_of, listing_after, Short, Ran}

-- where o is why the session is refused
abbrev Ended : Option Refusal → List ℕ → List ℕ → Result ℕ Refusal → Type 0
Ended o old new (Ok n) = (o ≡ None) × (n ≤ 65536) × (n ≤ length old) × (drop n new ≡ drop n old)
Ended o old new (Err e) = (o ≡ Some e) × (new ≡ old)

module _ (ranking : Ranking) (b : Quotes) (lines : List Line) (old new : List ℕ) where
  ended :
      (short : Bool) (o : Option Refusal) (r : Result ℕ Refusal) → (short ≡ false → 65536 ≤ length old)
      → r ≡ answer_of ranking b (cond short (Err ShortListing) (refused lines o))
      → new ≡ listing_after ranking b (cond short (Err ShortListing) (refused lines o)) old
      → Short r → Ended (cond short (Some ShortListing) o) old new r
  ended true o (Ok n) room e l s = cc
  ended true o (Err f) room e l s = (cc, l)
  ended false None (Ok n) room e l s =
      let k : n ≡ length (session_text ranking b lines) = cc in
      let h = room refl in
      (refl, omega arith, omega arith, rw k (rw l (drop-append_seam (session_text ranking b lines) _)))
  ended false None (Err f) room e l s = cc
  ended false (Some x) (Ok n) room e l s = cc
  ended false (Some x) (Err f) room e l s = (cc, l)

pub has_ran :
    (ranking : Ranking) (b : Quotes) (file old new : List ℕ) (r : Result ℕ Refusal)
    → r ≡ answer_of ranking b (session_lines (length old) file)
    → new ≡ listing_after ranking b (session_lines (length old) file) old
    → Short r → Ran file old new r
unfolding read_file
has_ran ranking b file old new (Ok n) e l s =
    ended ranking b (lines_from file (count_of file) 0) old new (nat_lt (length old) 65536) (refusal_of file) (Ok n) (λ t. grind (arith, nat_tests)) e l s
has_ran ranking b file old new (Err f) e l s =
    ended ranking b (lines_from file (count_of file) 0) old new (nat_lt (length old) 65536) (refusal_of file) (Err f) (λ t. grind (arith, nat_tests)) e l s
