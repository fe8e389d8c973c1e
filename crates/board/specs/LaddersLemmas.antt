-- What a ladder's sides keep, that there is always room, and that the first level is the best. Assumes nothing.
-- Lemmas, which nobody has to believe: they stand beside the definitions, since the law of an impl cites them.
use Rattle.std.specs.Prelude.{◌≡◌, ℕ, zero, suc, ◌<◌, ◌≤◌, true, false, not, ◌&&◌, List, [], ◌∷◌, length, Some, None, Option, ◌==◌, ◌≢◌, refl}
use Rattle.std.proofs.Common.{sym, ap, ◌∙◌, subst, inl, inr, ⊎_elim, arith}
use Rattle.std.proofs.Math.Path.{fun_ext}
use Rattle.std.specs.List.{AllByRecursion, list_all, remove}
use Rattle.std.specs.Option.{option_map}
use Rattle.std.proofs.ByRecursion.{All-weaker}
use Rattle.std.proofs.lemmas.Bool.{cases_eq, eq-eqb, ne_eqb, eqb-true, eqb-false, cond-true, cond-false, cond_both, and_parts, and_from, both_ways}
use Rattle.std.proofs.lemmas.Bool.Decides.{nat_tests}
use Rattle.market.specs.declared.types.Side.{Side}
use Rattle.market.specs.declared.types.Side.TheVariants.{Buy, Sell}
use Rattle.market.specs.Words.{better}
use Rattle.shelf.specs.declared.types.Placed.{Placed}
use Rattle.shelf.specs.Order.{Total, Sorted, Distinct}
use Rattle.shelf.specs.Standing.{first, first_at, put_in}
use Rattle.shelf.proofs.Lex.{strict_up, strict_down, Strict, by_label, lex_total}
use Rattle.shelf.proofs.Searches.{found_place}
use Rattle.shelf.proofs.Sorting.{all_put_in, distinct_put, all_removed, pairwise_removed, put_sorted}
use Rattle.board.specs.declared.types.Quote.{Quote}
use Rattle.board.specs.declared.types.Best.{Best}
use Rattle.board.specs.declared.types.Rung.{Rung}
use Rattle.board.specs.Quotes.{Quotes, best_in, best_upto, market_ok, quote_ok}
use Rattle.board.specs.Sides.{with_level, side_best, LawfulSide}
use Rattle.board.specs.Ladders.{rung_of, level_of, over, before, of_market, rail_quote, rail_best, without, level_ok, leads, rail_ok}
use Rattle.board.specs.Bests.{IsBest, best_none, best_some, best_one, not_self}

-- what the test of a side says
pub record Sound (s : Side) (xs : List Best) : Type 0 where
  pub levels : AllByRecursion (λ x. level_ok x ≡ true) xs
  pub sorted : Sorted (before s) xs
  pub distinct : Distinct (λ (x : Best). x.market) xs

leads_says : (s : Side) (x : Best) (ys : List Best) → list_all (leads s x) ys ≡ true → AllByRecursion (λ y. before s x y ≡ true) ys × AllByRecursion (λ (y : Best). x.market ≢ y.market) ys
leads_says s x [] h = (tt, tt)
leads_says s x (y ∷ ys) h =
    let p = and_parts (leads s x y) (list_all (leads s x) ys) h in
    let q = and_parts (before s x y) (not (x.market == y.market)) p.0 in
    let i = leads_says s x ys p.1 in
    let e = q.1 in
    ((q.0, i.0), ((λ d. absurd (grind (arith, nat_tests))), i.1))

says_leads : (s : Side) (x : Best) (ys : List Best) → AllByRecursion (λ y. before s x y ≡ true) ys → AllByRecursion (λ (y : Best). x.market ≢ y.market) ys → list_all (leads s x) ys ≡ true
says_leads s x [] a d = refl
says_leads s x (y ∷ ys) a d =
    and_from _ _ (and_from (before s x y) (not (x.market == y.market)) a.0 (ap not (ne_eqb _ _ d.0))) (says_leads s x ys a.1 d.1)

pub rail_says : (s : Side) (xs : List Best) → rail_ok s xs ≡ true → Sound s xs
rail_says s [] h = record { levels = tt; sorted = tt; distinct = tt }
rail_says s (x ∷ xs) h =
    let p = and_parts (level_ok x) (list_all (leads s x) xs && rail_ok s xs) h in
    let q = and_parts (list_all (leads s x) xs) (rail_ok s xs) p.1 in
    let l = leads_says s x xs q.0 in
    let i = rail_says s xs q.1 in
    record { levels = (p.0, i.levels); sorted = (l.0, i.sorted); distinct = (l.1, i.distinct) }

pub says_rail : (s : Side) (xs : List Best) → Sound s xs → rail_ok s xs ≡ true
says_rail s [] k = refl
says_rail s (x ∷ xs) k =
    and_from _ _ k.levels.0
    (and_from _ _ (says_leads s x xs k.sorted.0 k.distinct.0) (says_rail s xs (record { levels = k.levels.1; sorted = k.sorted.1; distinct = k.distinct.1 })))

-- the order by price, then market, is total
strict_better : (s : Side) → Strict (better s)
strict_better Buy = strict_down
strict_better Sell = strict_up

over_total : (s : Side) → Total (λ (k : Rung). k.market) (over s)
over_total s = lex_total _ (λ (k : Rung). k.price) _ _ (strict_better s) (by_label (λ (k : Rung). k.market) _ strict_up)

-- what a search for a market tells of its quotation
pub first_quote : (m : ℕ) (xs : List Best) (n : ℕ) → option_map (λ (w : Placed Best). w.item.quote) (first (of_market m) xs n) ≡ rail_quote xs m
first_quote m [] n = refl
first_quote m (x ∷ xs) n = let ih = first_quote m xs (suc n) in grind (arith, nat_tests)

pub lost_without : (m : ℕ) (xs : List Best) (n : ℕ) → first (of_market m) xs n ≡ None → xs ≡ without m xs
lost_without m [] n e = refl
lost_without m (x ∷ xs) n e = let ih = lost_without m xs (suc n) in grind (arith, nat_tests)

-- what all levels have, the quotation of each market has
pub all_quoted : (P : Best → Type 0) (xs : List Best) (m : ℕ) (y : Quote) → AllByRecursion P xs → rail_quote xs m ≡ Some y → P (level_of m y)
all_quoted P [] m y a e = absurd (cc)
all_quoted P (x ∷ xs) m y a e =
    cond_both (of_market m x) (Some x.quote) (rail_quote xs m) (λ r. r ≡ Some y → P (level_of m y))
    (λ t h.
    let i : x.market ≡ m = eqb-true _ _ t in
    let j : x.quote ≡ y = cc in
    subst P (ap (λ n. level_of n x.quote) i ∙ ap (level_of m) j) a.0)
    (λ _ h. all_quoted P xs m y a.1 h) e

-- a market with no quotation has no level
unquoted : (m : ℕ) (xs : List Best) → rail_quote xs m ≡ None → AllByRecursion (λ (y : Best). m ≢ y.market) xs
unquoted m [] e = tt
unquoted m (x ∷ xs) e =
    cond_both (of_market m x) (Some x.quote) (rail_quote xs m) (λ r. r ≡ None → AllByRecursion (λ (y : Best). m ≢ y.market) (x ∷ xs))
    (λ _ h. absurd (cc))
    (λ f h. ((λ i. eqb-false _ _ f (sym i)), unquoted m xs h)) e

none_of_market : (m : ℕ) (xs : List Best) → AllByRecursion (λ (y : Best). m ≢ y.market) xs → rail_quote xs m ≡ None
none_of_market m [] a = refl
none_of_market m (x ∷ xs) a = cond-false (of_market m x) _ _ (ne_eqb _ _ (λ i. a.0 (sym i))) ∙ none_of_market m xs a.1

-- without its level, a market has no quotation, and the others keep theirs
without_quote : (m : ℕ) (xs : List Best) → Distinct (λ (x : Best). x.market) xs → (n : ℕ) → rail_quote (without m xs) n ≡ with_level (rail_quote xs) m None n
without_quote m [] d n = grind (arith, nat_tests)
without_quote m (x ∷ xs) d n =
    cond_both (of_market m x) zero (suc (first_at (of_market m) xs)) (λ k. rail_quote (remove (x ∷ xs) k) n ≡ with_level (rail_quote (x ∷ xs)) m None n)
    (λ t.
    let i : x.market ≡ m = eqb-true _ _ t in
    let l = rw i at (none_of_market x.market xs d.0) in
    elim (cases_eq m n) [ inl j ↦ (let k = rw j at l in grind (arith, nat_tests)) | inr j ↦ grind (arith, nat_tests) ])
    (λ f. let ih = without_quote m xs d.1 n in grind (arith, nat_tests))

-- a level put in where its market has none
put_quote : (s : Side) (m : ℕ) (q : Quote) (xs : List Best) → rail_quote xs m ≡ None → (n : ℕ) → rail_quote (put_in (before s) (level_of m q) xs) n ≡ with_level (rail_quote xs) m (Some q) n
put_quote s m q [] e n = refl
put_quote s m q (x ∷ xs) e n =
    let u = unquoted m (x ∷ xs) e in
    let ne = u.0 in
    let ih = put_quote s m q xs (none_of_market m xs u.1) n in
    cond_both (before s (level_of m q) x) (level_of m q ∷ x ∷ xs) (x ∷ put_in (before s) (level_of m q) xs) (λ zs. rail_quote zs n ≡ with_level (rail_quote (x ∷ xs)) m (Some q) n)
    (λ _. refl)
    (λ _. grind (arith, nat_tests))

sound_without : (s : Side) (m : ℕ) (xs : List Best) → Sound s xs → Sound s (without m xs)
sound_without s m xs k = record {
  levels = all_removed _ xs _ k.levels;
  sorted = pairwise_removed _ xs _ k.sorted;
  distinct = pairwise_removed _ xs _ k.distinct;
}

sound_put : (s : Side) (m : ℕ) (q : Quote) (xs : List Best) → market_ok m ≡ true → quote_ok (Some q) ≡ true → rail_quote xs m ≡ None → Sound s xs → Sound s (put_in (before s) (level_of m q) xs)
sound_put s m q xs hm hq e k =
    let a = unquoted m xs e in
    record {
      levels = all_put_in (λ x. level_ok x ≡ true) (before s) (level_of m q) xs (and_from _ _ hm hq) k.levels;
      sorted = put_sorted (λ (r : Rung). r.market) (over s) rung_of (over_total s) (level_of m q) xs a k.sorted;
      distinct = distinct_put (λ (x : Best). x.market) (before s) (level_of m q) xs a k.distinct;
    }

-- levels of different markets 1 to n are n at most: without that of market n, they are of the markets below
few : (n : ℕ) (xs : List Best) → AllByRecursion (λ (x : Best). (1 ≤ x.market) × (x.market ≤ n)) xs → Distinct (λ (x : Best). x.market) xs → length xs ≤ n
few zero [] a d = omega arith
few zero (x ∷ xs) a d = let l = a.0.0 in let h = a.0.1 in absurd (omega arith)
few (suc n) xs a d =
    let ys = without (suc n) xs in
    let b = all_removed (λ (x : Best). (1 ≤ x.market) × (x.market ≤ suc n)) xs (first_at (of_market (suc n)) xs) a in
    let u = unquoted (suc n) ys (without_quote (suc n) xs d (suc n) ∙ cond-true _ _ _ (eq-eqb (suc n) (suc n) refl)) in
    let i = few n ys (lower ys b u) (pairwise_removed _ xs _ d) in
    let l = length_without (suc n) xs in
    omega arith
  where
    lower : (ys : List Best) → AllByRecursion (λ (x : Best). (1 ≤ x.market) × (x.market ≤ suc n)) ys → AllByRecursion (λ (y : Best). suc n ≢ y.market) ys → AllByRecursion (λ (x : Best). (1 ≤ x.market) × (x.market ≤ n)) ys
    lower [] b u = tt
    lower (y ∷ ys) b u = let l = b.0.0 in let h = b.0.1 in let e = u.0 in ((l, omega arith), lower ys b.1 u.1)

    length_without : (m : ℕ) (ys : List Best) → length ys ≤ suc (length (without m ys))
    length_without m [] = omega arith
    length_without m (y ∷ ys) = let ih = length_without m ys in grind (arith, nat_tests)

-- so there is room for a market that has none
pub room : (s : Side) (m : ℕ) (q : Quote) (xs : List Best) → market_ok m ≡ true → rail_quote xs m ≡ None → Sound s xs → length xs < 16
room s m q xs hm e k =
    let i = few 16 (level_of m q ∷ xs) ((grind (arith, nat_tests), grind (arith, nat_tests)), All-weaker (λ x. level_ok x ≡ true) (λ (x : Best). (1 ≤ x.market) × (x.market ≤ 16)) (λ x h. (grind (arith, nat_tests), grind (arith, nat_tests))) xs k.levels) (unquoted m xs e, k.distinct) in
    omega arith

-- one write of a side, as its quotations have it
pub set_none : (s : Side) (m : ℕ) (xs ys : List Best) → rail_ok s xs ≡ true → ys ≡ without m xs → rail_quote ys ≡ with_level (rail_quote xs) m None
set_none s m xs ys k e = fun_ext (λ n. ap (λ zs. rail_quote zs n) e ∙ without_quote m xs (rail_says s xs k).distinct n)

pub set_some : (s t : Side) (m : ℕ) (q : Quote) (xs ys zs : List Best) → rail_ok s xs ≡ true → ys ≡ without m xs → zs ≡ put_in (before t) (level_of m q) ys → rail_quote zs ≡ with_level (rail_quote xs) m (Some q)
set_some s t m q xs ys zs k e f = fun_ext at where
  gone : (n : ℕ) → rail_quote ys n ≡ with_level (rail_quote xs) m None n
  gone n = ap (λ ws. rail_quote ws n) e ∙ without_quote m xs (rail_says s xs k).distinct n

  at : (n : ℕ) → rail_quote zs n ≡ with_level (rail_quote xs) m (Some q) n
  at n =
      let none = gone m ∙ cond-true (m == m) None (rail_quote xs m) (eq-eqb m m refl) in
      let p = put_quote t m q ys none n in
      let g = gone n in
      ap (λ ws. rail_quote ws n) f ∙ grind (arith, nat_tests)

pub gone_quote : (s : Side) (m : ℕ) (xs ys : List Best) → rail_ok s xs ≡ true → ys ≡ without m xs → rail_quote ys m ≡ None
gone_quote s m xs ys k e = ap (λ f. f m) (set_none s m xs ys k e) ∙ cond-true (m == m) None (rail_quote xs m) (eq-eqb m m refl)

pub ok_without : (s : Side) (m : ℕ) (xs ys : List Best) → rail_ok s xs ≡ true → ys ≡ without m xs → rail_ok s ys ≡ true
ok_without s m xs ys k e = ap (rail_ok s) e ∙ says_rail s (without m xs) (sound_without s m xs (rail_says s xs k))

pub ok_put : (s : Side) (m : ℕ) (q : Quote) (xs ys : List Best) → market_ok m ≡ true → quote_ok (Some q) ≡ true → rail_quote xs m ≡ None → rail_ok s xs ≡ true → ys ≡ put_in (before s) (level_of m q) xs → rail_ok s ys ≡ true
ok_put s m q xs ys hm hq n k e = ap (rail_ok s) e ∙ says_rail s (put_in (before s) (level_of m q) xs) (sound_put s m q xs hm hq n (rail_says s xs k))

pub taken_out : (m : ℕ) (xs ys zs : List Best) (w : Placed Best) → Some w ≡ first (of_market m) ys 0 → ys ≡ xs → zs ≡ remove xs w.place → zs ≡ without m xs
taken_out m xs ys zs w f e h =
    let p = found_place (of_market m) ys 0 w (sym f) in
    let k : w.place ≡ first_at (of_market m) ys = let z = p.0 in omega arith in
    h ∙ ap (remove xs) (k ∙ ap (first_at (of_market m)) e)

-- a rail is lawful
rail_ranged : (s : Side) (xs : List Best) → Sound s xs → (m : ℕ) → quote_ok (rail_quote xs m) ≡ true
rail_ranged s xs k m = at (rail_quote xs m) refl where
  at : (r : Option Quote) → rail_quote xs m ≡ r → quote_ok r ≡ true
  at None e = refl
  at (Some y) e = (and_parts (market_ok m) (quote_ok (Some y)) (all_quoted (λ x. level_ok x ≡ true) xs m y k.levels e)).1

rail_none : (s : Side) (xs : List Best) → Sound s xs → (m : ℕ) → market_ok m ≡ false → rail_quote xs m ≡ None
rail_none s xs k m h = at (rail_quote xs m) refl where
  at : (r : Option Quote) → rail_quote xs m ≡ r → r ≡ None
  at None e = refl
  at (Some y) e = absurd (both_ways (market_ok m) h (and_parts (market_ok m) (quote_ok (Some y)) (all_quoted (λ x. level_ok x ≡ true) xs m y k.levels e)).0)

pub rail_lawful : (s : Side) (xs : List Best) → rail_ok s xs ≡ true → LawfulSide (rail_quote xs)
rail_lawful s xs h = let k = rail_says s xs h in record { ranged = rail_ranged s xs k; none = rail_none s xs k }

-- the first level is the best
over_none : (s : Side) (a b m n : ℕ) → over s (record { price = a; market = m }) (record { price = b; market = n }) ≡ true → better s b a ≡ false
over_none Buy a b m n h = grind (arith, nat_tests)
over_none Sell a b m n h = grind (arith, nat_tests)

over_lowest : (s : Side) (a b m n : ℕ) → n < m → over s (record { price = a; market = m }) (record { price = b; market = n }) ≡ true → better s a b ≡ true
over_lowest Buy a b m n l h = grind (arith, nat_tests)
over_lowest Sell a b m n l h = grind (arith, nat_tests)

none_upto : (s : Side) (n : ℕ) → best_upto (λ _. rail_quote []) s n ≡ None
none_upto s zero = refl
none_upto s (suc n) = none_upto s n

module _ (s : Side) (x : Best) (xs : List Best) (k : Sound s (x ∷ xs)) where
  abbrev quotes : Quotes
  quotes _ = rail_quote (x ∷ xs)

  stands : quotes s x.market ≡ Some x.quote
  stands = cond-true (of_market x.market x) _ _ (eq-eqb _ _ refl)

  -- what another market has stands behind
  behind : (m : ℕ) (y : Quote) → (x.market ≢ m) → quotes s m ≡ Some y → over s (rung_of x) (record { price = y.price; market = m }) ≡ true
  behind m y d f =
      all_quoted (λ z. before s x z ≡ true) xs m y k.sorted.0 (sym (cond-false (of_market m x) (Some x.quote) (rail_quote xs m) (ne_eqb _ _ d)) ∙ f)

  is_first : (n : ℕ) → x.market ≤ n → IsBest quotes s n x
  is_first n h = record {
    low = let l = k.levels.0 in grind (arith, nat_tests);
    high = h;
    stands = stands;
    none_better = λ m y _ _ f. ⊎_elim
        (λ (i : x.market ≡ m).
        let g : ◌≡◌ {A = Option Quote} (Some x.quote) (Some y) = sym stands ∙ ap (quotes s) i ∙ f in
        let j : x.quote ≡ y = cc in
        ap (λ (v : Quote). better s v.price x.quote.price) (sym j) ∙ not_self s x.quote.price)
        (λ (d : x.market ≡ m → ⊥). over_none s x.quote.price y.price x.market m (behind m y d f))
        (cases_eq x.market m);
    lowest = λ m y _ l f. over_lowest s x.quote.price y.price x.market m l (behind m y (λ i. omega arith) f);
  }

  first_upto : (n : ℕ) → x.market ≤ n → rail_best (x ∷ xs) ≡ best_upto quotes s n
  first_upto n h = at (best_upto quotes s n) refl where
    at : (r : Option Best) → best_upto quotes s n ≡ r → rail_best (x ∷ xs) ≡ r
    at None g =
        let l = k.levels.0 in
        let z : ◌≡◌ {A = Option Quote} (Some x.quote) None = sym stands ∙ best_none quotes s n g x.market (grind (arith, nat_tests)) h in
        absurd (cc)
    at (Some z) g = ap Some (best_one quotes s n _ z (is_first n h) (best_some quotes s n z g))

pub first_best : (s : Side) (xs : List Best) → rail_ok s xs ≡ true → rail_best xs ≡ side_best s (rail_quote xs)
unfolding best_in
first_best s [] h = sym (none_upto s 16)
first_best s (x ∷ xs) h =
    let k = rail_says s (x ∷ xs) h in
    first_upto s x xs k 16 (let l = k.levels.0 in grind (arith, nat_tests))
