-- What is left of a side decides: one turn of each loop over orders or markets, and its end. Assumes nothing.
use Rattle.std.proofs.Common.{◌≡◌, ℕ, ◌+◌, ◌<◌, ◌≤◌, true, false, ◌&&◌, ◌||◌, List, [], ◌∷◌, ◌++◌, map, length, get_or, take, drop, set, sym, refl, ap, ◌∙◌, append_assoc, arith}
use Rattle.std.specs.List.{list_any}
use Rattle.std.proofs.lemmas.List.Recursion.{same_from_clauses}
use Rattle.std.proofs.lemmas.List.{drop_more, drop_all, take_more, take_more_set, map-append}
use Rattle.market.specs.declared.types.Side.{Side}
use Rattle.rules.specs.declared.types.Order.{Order}
use Rattle.rules.specs.declared.types.Standing.{Standing}
use Rattle.rules.specs.Orders.{program}
use Rattle.rules.specs.Calls.{any_program, standing_row}
use Rattle.rules.specs.Trading.{Bests, all_worse, worse_than, worth, resting_volume}

worse_is : (p : ℕ) (xs : List Order) (i : ℕ) (d : Order) → i < length xs → all_worse p (drop i xs) ≡ (worse_than p (get_or xs i d) && all_worse p (drop (i + 1) xs))
worse_is p xs i d h = ap (all_worse p) (drop_more xs i d h)

pub worse_more : (p : ℕ) (xs : List Order) (i : ℕ) (d : Order) → i < length xs → worse_than p (get_or xs i d) ≡ true → all_worse p (drop i xs) ≡ all_worse p (drop (i + 1) xs)
worse_more p xs i d h e = worse_is p xs i d h ∙ ap (λ b. b && all_worse p (drop (i + 1) xs)) e

pub worse_stop : (p : ℕ) (xs : List Order) (i : ℕ) (d : Order) → i < length xs → worse_than p (get_or xs i d) ≡ false → all_worse p (drop i xs) ≡ false
worse_stop p xs i d h e = worse_is p xs i d h ∙ ap (λ b. b && all_worse p (drop (i + 1) xs)) e

pub worse_all : (p : ℕ) (xs : List Order) (i : ℕ) → length xs ≤ i → all_worse p (drop i xs) ≡ true
worse_all p xs i h = ap (all_worse p) (drop_all i xs h)

-- what the library's test of any of a list says
pub program_in_any : (xs : List Order) → any_program xs ≡ list_any (λ o. program o.kind) xs
program_in_any = same_from_clauses any_program (list_any (λ o. program o.kind)) (λ o b. program o.kind || b) refl (λ _ _. refl) (λ _ _. refl)

-- n is what the code added; its equation tells the default d
pub volume_more : (i : Order) (x : Bests) (xs : List Order) (k : ℕ) (d : Order) (s n w : ℕ) → k < length xs → n ≡ worth i x (get_or xs k d) → s + resting_volume i x (drop k xs) ≡ w → (s + n) + resting_volume i x (drop (k + 1) xs) ≡ w
volume_more i x xs k d s n w h e inv =
    let m : resting_volume i x (drop k xs) ≡ worth i x (get_or xs k d) + resting_volume i x (drop (k + 1) xs) = ap (resting_volume i x) (drop_more xs k d h) in
    omega (arith, m, e, inv)

-- one more row of a list that is written from a place on
pub rows_more : (side : Side) (xs : List Order) (old rows : List Standing) (at i : ℕ) (d : Order) (x : Standing) → x ≡ standing_row side (get_or xs i d) → i < length xs → at + i < length rows → take (at + i) rows ≡ take at old ++ map (standing_row side) (take i xs) → take (at + (i + 1)) (set rows (at + i) x) ≡ take at old ++ map (standing_row side) (take (i + 1) xs)
rows_more side xs old rows at i d x v h k e =
    let a : at + (i + 1) ≡ (at + i) + 1 = omega arith in
    ap (λ n. take n (set rows (at + i) x)) a ∙ take_more_set rows (at + i) x k ∙ ap (λ ys. ys ++ (x ∷ [])) e
    ∙ append_assoc (take at old) (map (standing_row side) (take i xs)) (x ∷ [])
    ∙ ap (λ y. take at old ++ (map (standing_row side) (take i xs) ++ (y ∷ []))) v
    ∙ ap (λ ys. take at old ++ ys) (sym (map-append (standing_row side) (take i xs) (get_or xs i d ∷ [])) ∙ ap (map (standing_row side)) (sym (take_more xs i d h)))
