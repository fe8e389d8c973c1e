-- The loops over the entries and the bodies of a file, and over the fields of a body. Assumes nothing.
use Rattle.std.proofs.Common.{◌≡◌, ℕ, suc, ◌+◌, ◌-◌, ◌<◌, ◌≤◌, cond, eqb, ltb, List, [], ◌∷◌, length, Some, None, Ok, Err, Option, Result, sym, refl, ap, ◌∙◌, zero-le, add-one, arith}
use Rattle.std.proofs.lemmas.Bool.{eq-eqb, ne_eqb, ltb-true}
use Rattle.std.proofs.lemmas.Bool.Decides.{nat_tests}
use Rattle.market.specs.declared.types.Refusal.{Refusal}
use Rattle.market.specs.declared.types.Refusal.TheVariants.{Body}
use Rattle.files.specs.declared.types.Fault.{Fault}
use Rattle.files.specs.declared.types.Fault.TheVariants.{Missing}
use Rattle.files.specs.declared.types.Wanted.{Wanted}
use Rattle.files.specs.Fields.{Malformed, read_field, none, fault_from, fault_past, fault_of, is_end}
use Rattle.files.specs.declared.types.Wanted.TheVariants as want
use Rattle.files.specs.Lines.{ends_at, left}
use Rattle.files.proofs.Parting.{left_some, left_ends}
use Rattle.files.specs.Files.{wrong_entry, offset_of, length_of, wrong_body, body_in, refused}

module _ (file : List ℕ) (k i j next : ℕ) (step : k ≡ suc j) where
  pub entry_right : offset_of file i ≡ next → wrong_entry file k i next ≡ wrong_entry file j (i + 1) (next + length_of file i)
  entry_right e = rw (add-one i, step) (ap (λ b. cond b (wrong_entry file j (suc i) (next + length_of file i)) (Some i)) (eq-eqb (offset_of file i) next e))

  pub entry_wrong : (offset_of file i ≡ next → ⊥) → wrong_entry file k i next ≡ Some i
  entry_wrong e = rw step (ap (λ b. cond b (wrong_entry file j (suc i) (next + length_of file i)) (Some i)) (ne_eqb (offset_of file i) next e))

module _ (file : List ℕ) (k i j : ℕ) (step : k ≡ suc j) where
  pub body_right : fault_of (body_in file i) ≡ None → wrong_body file k i ≡ wrong_body file j (i + 1)
  body_right e = rw (add-one i, step) (ap (λ o. elim o [ None ↦ wrong_body file j (suc i) | Some m ↦ Some (Body i (offset_of file i + m.place)) ]) e)

  pub body_wrong : (m : Malformed) → fault_of (body_in file i) ≡ Some m → wrong_body file k i ≡ Some (Body i (offset_of file i + m.place))
  body_wrong m e = rw step (ap (λ o. elim o [ None ↦ wrong_body file j (suc i) | Some n ↦ Some (Body i (offset_of file i + n.place)) ]) e)

module _ (wanted : Wanted) (w : List ℕ) (ws : List (List ℕ)) (at : ℕ) where
  pub field_wrong : (f : Fault) → read_field wanted w (none ws) ≡ Err f → fault_from wanted (w ∷ ws) at ≡ Some (record { fault = f; place = at })
  field_wrong f e = ap (λ r. elim r [ Ok n ↦ fault_from n ws (at + length w + 1) | Err g ↦ Some (record { fault = g; place = at }) ]) e

-- the loop over the bodies stops at body i, with a malformed field, or goes on behind it
module _ (file : List ℕ) (count i : ℕ) (b : List ℕ) (in' : i < count) (inv : wrong_body file (count - i) i ≡ wrong_body file count 0) (is : b ≡ body_in file i) where
  pub stopped : (k o j q : ℕ) → k ≡ j → o ≡ offset_of file j → (m : Malformed) → fault_of b ≡ Some m → j ≡ i → q ≡ m.place → ◌≡◌ {A = Result ℕ Refusal} (Err (Body k (o + q))) (refused count (wrong_body file count 0))
  stopped k o j q e f m g d p =
      let w = body_wrong file (count - i) i (count - (i + 1)) (omega arith) m (ap fault_of (sym is) ∙ g) in
      let z : wrong_body file count 0 ≡ Some (Body i (offset_of file i + m.place)) = sym inv ∙ w in
      let h : o + q ≡ offset_of file i + m.place = ap (λ n. n + q) (f ∙ ap (offset_of file) d) ∙ ap (λ n. offset_of file i + n) p in
      ap (λ n. Err (Body n (o + q))) (e ∙ d) ∙ ap (λ n. Err (Body i n)) h ∙ sym (ap (refused count) z)

  pub passed : fault_of b ≡ None → wrong_body file (count - (i + 1)) (i + 1) ≡ wrong_body file count 0
  passed f = sym (body_right file (count - i) i (count - (i + 1)) (omega arith) (ap fault_of (sym is) ∙ f)) ∙ inv

-- what the fields from a place on say of a body
abbrev pub fault_left : Wanted → List ℕ → ℕ → Option Malformed
fault_left wanted body at = fault_from wanted (left at body) at

-- the field at a place, and those behind it
module _ (xs w : List ℕ) (at next : ℕ) (wanted : Wanted) (is : left at xs ≡ w ∷ left next xs) (n : at + length w + 1 ≡ next) (in' : next ≤ length xs + 1) where
  same_read : read_field wanted w (eqb (at + length w) (length xs)) ≡ read_field wanted w (none (left next xs))
  same_read = ap (read_field wanted w) (last ∙ left_ends xs next ∙ none_ends (left next xs))
    where
      last : eqb (at + length w) (length xs) ≡ ltb (length xs) next
      last = grind (arith, nat_tests)

      none_ends : (ws : List (List ℕ)) → ends_at 0 ws ≡ none ws
      none_ends [] = refl
      none_ends (v ∷ vs) = refl

  pub field_refused : (f : Fault) → read_field wanted w (eqb (at + length w) (length xs)) ≡ Err f → fault_left wanted xs at ≡ Some (record { fault = f; place = at })
  field_refused f r = ap (λ ws. fault_from wanted ws at) is ∙ field_wrong wanted w (left next xs) at f (sym same_read ∙ r)

-- no field is left
pub body_ends : (xs : List ℕ) (at : ℕ) (wanted : Wanted) → left at xs ≡ [] → at ≤ length xs + 1 → fault_left wanted xs at ≡ cond (is_end wanted) None (Some (record { fault = Missing; place = length xs }))
body_ends xs at wanted e h =
    let l = ltb-true (length xs) at (left_ends xs at ∙ ap (ends_at 0) e) in
    ap (λ ws. fault_from wanted ws at) e ∙ ap (λ n. cond (is_end wanted) None (Some (record { fault = Missing; place = n }))) (omega arith)

pub body_begins : (xs : List ℕ) → fault_left want.First xs 0 ≡ fault_of xs
unfolding fault_past
body_begins xs = ap (λ ws. fault_from want.First ws 0) (left_some xs 0 zero-le)
