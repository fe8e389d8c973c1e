-- A search for the first order that passes, by what a search for its place alone answers. Assumes nothing.
use Rattle.std.proofs.Common.{◌≡◌, ℕ, suc, ◌+◌, ◌<◌, ◌≤◌, Bool, List, [], ◌∷◌, length, get_or, Some, None, Option, refl, ap, ◌∙◌, arith}
use Rattle.std.specs.Prelude.{IfSome}
use Rattle.std.specs.List.{position, position_or_len}
use Rattle.std.proofs.lemmas.Bool.{cases_Bool}
use Rattle.std.proofs.lemmas.Bool.Decides.{nat_tests}
use Rattle.shelf.specs.declared.types.Placed.{Placed}
use Rattle.shelf.specs.Standing.{first}
use Rattle.market.specs.declared.types.Side.TheVariants.{Buy, Sell}
use Rattle.rules.specs.declared.types.Order.{Order}
use Rattle.rules.specs.Calls.{on_side, or_else}
use Rattle.book.specs.Counts.{side_of}

module _ {X : Type 0} (p : X → Bool) where
  -- a search that answers the place alone, and the thing that stands there
  first_at_place : (xs : List X) (n i : ℕ) (d : X) → i ≡ position_or_len p xs → i < length xs → first p xs n ≡ Some (record { place = n + i; item = get_or xs i d })
  first_at_place [] n i d e h = absurd (omega arith)
  first_at_place (x ∷ xs) n i d e h =
      let ih = first_at_place xs (suc n) (position_or_len p xs) d refl in
      grind (arith, nat_tests, cases_Bool (p x))

  first_nowhere : (xs : List X) (n : ℕ) → length xs ≤ position_or_len p xs → first p xs n ≡ None
  first_nowhere [] n h = refl
  first_nowhere (x ∷ xs) n h =
      let ih = first_nowhere xs (suc n) in
      grind (arith, nat_tests, cases_Bool (p x))

  -- r is what the library's search for the place answers
  pub first_by_place : (xs : List X) (d : X) (r : Option ℕ) → r ≡ position p xs → first p xs 0 ≡ elim r [ None ↦ None | Some i ↦ Some (record { place = i; item = get_or xs i d }) ]
  first_by_place xs d None e = first_nowhere xs 0 (grind (arith, nat_tests))
  first_by_place xs d (Some i) e =
      let h : (i ≡ position_or_len p xs) × (i < length xs) = grind (arith, nat_tests) in
      let z : 0 + i ≡ i = omega arith in
      first_at_place xs 0 i d h.0 h.1 ∙ ap (λ n. Some (record { place = n; item = get_or xs i d })) z

  within_from : (xs : List X) (n : ℕ) (c : Placed X) → first p xs n ≡ Some c → c.place < n + length xs
  within_from [] n c e = absurd (cc)
  within_from (x ∷ xs) n c e =
      let ih = within_from xs (suc n) c in
      grind (arith, nat_tests, cases_Bool (p x))

  -- what a search finds stands in the list
  pub first_within : (xs : List X) (c : Placed X) → first p xs 0 ≡ Some c → c.place < length xs
  first_within xs c e = omega (arith, within_from xs 0 c e)

-- the same of two sides, one searched after the other
pub either_within : (b o : Option (Placed Order)) (bids offers : List Order) → ((c : Placed Order) → b ≡ Some c → c.place < length bids) → ((c : Placed Order) → o ≡ Some c → c.place < length offers) → IfSome (or_else (on_side Buy b) (on_side Sell o)) (λ l. l.place < length (side_of l.side bids offers))
either_within (Some c) o bids offers h k = h c refl
either_within None (Some c) bids offers h k = k c refl
either_within None None bids offers h k = tt
