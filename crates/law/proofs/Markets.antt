-- What a market keeps between calls, when an account is of it, and what follows for the order that comes in next.
-- Rests on the lemmas on conditions, lists by tag and sums over numbers.
use Rattle.std.proofs.Common.{◌≡◌, ℕ, ◌+◌, ◌<◌, ◌≤◌, false, cond, ◌&&◌, eqb, ltb, List, length, Some, None, Option, sym, refl, ap, ◌∙◌, subst, arith}
use Rattle.std.specs.List.{AllByRecursion}
use Rattle.std.proofs.lemmas.Bool.Decides.{nat_tests}
use Rattle.std.proofs.lemmas.Bool.{cond-true, cond-false, eq-eqb, ne_eqb, eqb-true}
use Rattle.std.proofs.ByRecursion.{All-weaker}
use Rattle.market.specs.declared.types.Side.{Side}
use Rattle.market.specs.declared.types.Side.TheVariants.{Buy, Sell}
use Rattle.market.specs.Words.{opposite, same_side}
use Rattle.shelf.specs.declared.types.Placed.{Placed}
use Rattle.shelf.specs.Standing.{nth, put_in}
use Rattle.shelf.proofs.Sorting.{all_put_in, length_put_in, put_sorted}
use Rattle.board.specs.Quotes.{Quotes, Lawful}
use Rattle.rules.specs.declared.types.Order.{Order}
use Rattle.rules.specs.declared.types.Located.{Located}
use Rattle.rules.specs.Rankings.{Ranking, Ranks, before}
use Rattle.rules.specs.Trading.{Stand}
use Rattle.rules.specs.Sweeps.{standing}
use Rattle.rules.specs.Calls.{Market, of_side, with_side, by_sides, or_else, on_side, of_arrival, at_rest, open_of}
use Rattle.law.specs.Tape.{Account, remainder_of, remainder, added}
use Rattle.law.specs.Judge.{one_if_resting, resting_on}
use Rattle.rules.specs.Precedences.{orders_total}
use Rattle.law.proofs.Branches.{by_test, by_option, some_is, none_some}
use Rattle.law.proofs.Finding.{first_nth, item_of, found, found_first, found_tag, all_found, put_in_distinct}
use Rattle.law.proofs.Counting.{count_same, count_found}
use Rattle.law.proofs.Quotations.{same_side_itself}
use Rattle.law.proofs.Conditions.{arrival_of, OrderKept, SideKept, Apart, Sound, Agrees, living}

-- the order found under a number, on either side
abbrev pub found_in : ℕ → Market → Option Order
found_in n m = or_else (found arrival_of n m.bids) (found arrival_of n m.offers)

pub record Kept (ranking : Ranking) (m : Market) : Type 0 where
  pub sides : (s : Side) → SideKept ranking s m.arrivals (of_side s m)
  pub apart : Apart m.bids m.offers
  pub quotes : Lawful m.quotes

-- The account is of the market.
pub record Matches (a : Account) (m : Market) : Type 0 where
  pub resting : (n : ℕ) → living (a.known n) ≡ found_in n m
  pub quotes : a.quotes ≡ m.quotes
  pub accepted : a.accepted ≡ m.arrivals

pub found_in_tag : (n : ℕ) (m : Market) (o : Order) → found_in n m ≡ Some o → o.arrival ≡ n
found_in_tag n m o e =
    by_option (found arrival_of n m.bids) (λ x. found arrival_of n m.bids ≡ x → or_else x (found arrival_of n m.offers) ≡ Some o → o.arrival ≡ n)
    (λ _ _ g. found_tag arrival_of n m.offers o g) (λ x _ w g. found_tag arrival_of n m.bids o (w ∙ g)) refl e

-- Both sides of a market, from the one that a call looks at.
pub or_none : (x : Option Order) → or_else x None ≡ x
or_none None = refl
or_none (Some o) = refl

or_else_swap : (x y : Option Order) → ((a b : Order) → x ≡ Some a → y ≡ Some b → ⊥) → or_else x y ≡ or_else y x
or_else_swap None None h = refl
or_else_swap None (Some b) h = refl
or_else_swap (Some a) None h = refl
or_else_swap (Some a) (Some b) h = absurd (h a b refl refl)

pub sides_apart : (m : Market) → Apart m.bids m.offers → (s : Side) → Apart (of_side s m) (of_side (opposite s) m)
sides_apart m h Buy = h
sides_apart m h Sell = λ n x y e f. h n y x f e

pub found_by_sides : (m : Market) → Apart m.bids m.offers → (s : Side) (n : ℕ) → found_in n m ≡ or_else (found arrival_of n (of_side s m)) (found arrival_of n (of_side (opposite s) m))
found_by_sides m h Buy n = refl
found_by_sides m h Sell n = or_else_swap (found arrival_of n m.bids) (found arrival_of n m.offers) (h n)

module _ (own opp : List Order) (b : Quotes) (n : ℕ) (h : Apart own opp) where
  pub found_made : (s : Side) (k : ℕ) → found_in k (by_sides s own opp b n) ≡ or_else (found arrival_of k own) (found arrival_of k opp)
  found_made Buy k = refl
  found_made Sell k = or_else_swap (found arrival_of k opp) (found arrival_of k own) (λ x y p q. h k y x q p)

  sides_made : (ranking : Ranking) (s : Side) → SideKept ranking s n own → SideKept ranking (opposite s) n opp → (t : Side) → SideKept ranking t n (of_side t (by_sides s own opp b n))
  sides_made ranking Buy p q Buy = p
  sides_made ranking Buy p q Sell = q
  sides_made ranking Sell p q Buy = q
  sides_made ranking Sell p q Sell = p

  pub kept_made : (ranking : Ranking) (s : Side) → SideKept ranking s n own → SideKept ranking (opposite s) n opp → Lawful b → Kept ranking (by_sides s own opp b n)
  kept_made ranking Buy p q l = record { sides = sides_made ranking Buy p q; apart = h; quotes = l }
  kept_made ranking Sell p q l = record { sides = sides_made ranking Sell p q; apart = λ k x y f g. h k y x g f; quotes = l }

  pub quotes_made : (s : Side) → (by_sides s own opp b n).quotes ≡ b
  quotes_made Buy = refl
  quotes_made Sell = refl

  pub arrivals_made : (s : Side) → (by_sides s own opp b n).arrivals ≡ n
  arrivals_made Buy = refl
  arrivals_made Sell = refl

pub with_side_made : (s : Side) (os : List Order) (m : Market) → with_side s os m ≡ by_sides s os (of_side (opposite s) m) m.quotes m.arrivals
with_side_made Buy os m = refl
with_side_made Sell os m = refl

-- A side with one order more, and the same side after later entries.
pub side_put : (ranking : Ranking) → Ranks ranking → (s : Side) (n : ℕ) (o : Order) (os : List Order) → SideKept ranking s n os → OrderKept s n o → AllByRecursion (λ x. o.arrival ≡ x.arrival → ⊥) os → length os < 128 → SideKept ranking s n (put_in (before ranking s) o os)
side_put ranking law s n o os w k new room = record {
  sorted = put_sorted arrival_of (before ranking s) (λ x. x) (orders_total ranking law s) o os new w.sorted;
  distinct = put_in_distinct arrival_of (before ranking s) o os new w.distinct;
  each = all_put_in (OrderKept s n) (before ranking s) o os k w.each;
  room = let l = length_put_in (before ranking s) o os in omega arith;
}

pub side_later : (ranking : Ranking) (s : Side) (n k : ℕ) (os : List Order) → n ≤ k → SideKept ranking s n os → SideKept ranking s k os
side_later ranking s n k os l w = record {
  sorted = w.sorted;
  distinct = w.distinct;
  each = All-weaker (OrderKept s n) (OrderKept s k) (λ o h. let u = h.numbered in record { side = h.side; remains = h.remains; from_one = h.from_one; numbered = omega arith; sized = h.sized }) os w.each;
  room = w.room;
}

-- The rules find an order with its side and its place: it is the one found under its arrival.
abbrev pub order_of : Option Located → Option Order
order_of None = None
order_of (Some l) = Some l.order

order_on : (s : Side) (p : Option (Placed Order)) → order_of (on_side s p) ≡ item_of p
order_on s None = refl
order_on s (Some c) = refl

order_or : (x y : Option Located) → order_of (or_else x y) ≡ or_else (order_of x) (order_of y)
order_or None y = refl
order_or (Some l) y = refl

pub order_at_rest : (k : ℕ) (m : Market) → order_of (at_rest k m) ≡ found_in k m
order_at_rest k m =
    order_or (on_side Buy (of_arrival k m.bids)) (on_side Sell (of_arrival k m.offers))
    ∙ ap (λ x. or_else x (order_of (on_side Sell (of_arrival k m.offers)))) (order_on Buy (of_arrival k m.bids) ∙ found_first arrival_of k m.bids 0)
    ∙ ap (or_else (found arrival_of k m.bids)) (order_on Sell (of_arrival k m.offers) ∙ found_first arrival_of k m.offers 0)

pub open_at_rest : (k : ℕ) (m : Market) → open_of (at_rest k m) ≡ remainder_of (found_in k m)
open_at_rest k m = same (at_rest k m) ∙ ap remainder_of (order_at_rest k m)
  where
    same : (l : Option Located) → open_of l ≡ remainder_of (order_of l)
    same None = refl
    same (Some l) = refl

pub located_there : (k : ℕ) (m : Market) (l : Located) → at_rest k m ≡ Some l → nth l.place (of_side l.side m) ≡ Some l.order
located_there k m l e =
    by_option (of_arrival k m.bids) (λ x. of_arrival k m.bids ≡ x → or_else (on_side Buy x) (on_side Sell (of_arrival k m.offers)) ≡ Some l → There l)
    (λ _ _ h. by_option (of_arrival k m.offers) (λ x. of_arrival k m.offers ≡ x → on_side Sell x ≡ Some l → There l)
    (λ _ _ g. absurd (none_some l g))
    (λ c _ w g. subst There (some_is _ l g) (placed m.offers c w)) refl h)
    (λ c _ w h. subst There (some_is _ l h) (placed m.bids c w)) refl e
  where
    There : Located → Type 0
    There x = nth x.place (of_side x.side m) ≡ Some x.order

    placed : (os : List Order) (c : Placed Order) → of_arrival k os ≡ Some c → nth c.place os ≡ Some c.item
    placed os c w =
        let (j, h) = first_nth (λ o. eqb o.arrival k) os 0 c w in
        let at : c.place ≡ j = let g = h.0 in omega arith in
        subst (λ p. nth p os ≡ Some c.item) (sym at) h.1

-- what open answers is the remainder
pub living_remainder : (o : Option Order) → remainder_of (living o) ≡ remainder_of o
living_remainder None = refl
living_remainder (Some o) = by_test (eqb o.«open» 0) (λ b. remainder_of (cond b None (Some o)) ≡ o.«open») (λ t. sym (eqb-true o.«open» 0 t)) (λ _. refl)

pub remainder_is : (a : Account) (m : Market) → Matches a m → (n : ℕ) → open_of (at_rest n m) ≡ remainder a n
remainder_is a m h n = open_at_rest n m ∙ sym (ap remainder_of (h.resting n)) ∙ living_remainder (a.known n)

module _ (ranking : Ranking) (m : Market) (a : Account) (k : Kept ranking m) (h : Matches a m) where
  pub kept_found : (n : ℕ) (o : Order) → found_in n m ≡ Some o → (s : Side) × OrderKept s m.arrivals o
  kept_found n o e =
      by_option (found arrival_of n m.bids) (λ x. found arrival_of n m.bids ≡ x → or_else x (found arrival_of n m.offers) ≡ Some o → (s : Side) × OrderKept s m.arrivals o)
      (λ _ _ g. (Sell, all_found (OrderKept Sell m.arrivals) arrival_of n m.offers o (k.sides Sell).each g))
      (λ x _ w g. (Buy, all_found (OrderKept Buy m.arrivals) arrival_of n m.bids o (k.sides Buy).each (w ∙ g))) refl e

  -- What stands when an order of the next arrival comes in.
  module _ (i : Order) (new : i.arrival ≡ m.arrivals + 1) where
    abbrev pub stand : Stand
    stand = standing i (of_side i.side m) (of_side (opposite i.side) m) m.quotes

    pub stand_sound : Sound ranking m.arrivals stand
    stand_sound = record {
      own = k.sides i.side;
      opp = k.sides (opposite i.side);
      apart = sides_apart m k.apart i.side;
      newer = omega arith;
      quotes = k.quotes;
    }

    pub stand_agrees : Agrees (added i a) stand
    stand_agrees = record {
      incoming = cond-true _ _ _ (eq-eqb i.arrival i.arrival refl);
      resting = λ n d. ap living (cond-false _ _ _ (ne_eqb i.arrival n d)) ∙ h.resting n ∙ found_by_sides m k.apart i.side n;
      quotes = h.quotes;
    }

  -- The count over the arrivals is the length of the side.
  pub resting_is : (s : Side) → resting_on a s ≡ length (of_side s m)
  resting_is s =
      count_same (λ n. one_if_resting s (a.known n)) (λ n. one (found arrival_of n (of_side s m))) a.accepted
      (λ n. alive (a.known n) ∙ ap (one_if_resting s) (h.resting n ∙ found_by_sides m k.apart s n)
      ∙ by_side (found arrival_of n (of_side s m)) (found arrival_of n (of_side (opposite s) m))
      (λ o e. all_found (OrderKept s m.arrivals) arrival_of n (of_side s m) o (k.sides s).each e)
      (λ o e. all_found (OrderKept (opposite s) m.arrivals) arrival_of n (of_side (opposite s) m) o (k.sides (opposite s)).each e))
      ∙ count_found arrival_of one length refl refl (λ o os. omega arith) a.accepted (of_side s m) (k.sides s).distinct
      (let n = h.accepted in All-weaker (OrderKept s m.arrivals) (λ o. (1 ≤ o.arrival) × (o.arrival ≤ a.accepted)) (λ o w. let u = w.numbered in (w.from_one, omega arith)) (of_side s m) (k.sides s).each)
    where
      one : Option Order → ℕ
      one None = 0
      one (Some o) = 1

      alive : (o : Option Order) → one_if_resting s o ≡ one_if_resting s (living o)
      alive None = refl
      alive (Some o) =
          by_test (eqb o.«open» 0) (λ b. one_if_resting s (Some o) ≡ one_if_resting s (cond b None (Some o)))
          (λ t. let z = eqb-true o.«open» 0 t in by_test (same_side s o.side) (λ b. ◌≡◌ {A = ℕ} (cond (b && ltb 0 o.«open») 1 0) 0) (λ _. cond-false _ 1 0 (grind (arith, nat_tests))) (λ _. refl))
          (λ _. refl)

      other_side : (t : Side) → same_side t (opposite t) ≡ false
      other_side Buy = refl
      other_side Sell = refl

      by_side : (x y : Option Order) → ((o : Order) → x ≡ Some o → OrderKept s m.arrivals o) → ((o : Order) → y ≡ Some o → OrderKept (opposite s) m.arrivals o) → one_if_resting s (or_else x y) ≡ one x
      by_side None None p q = refl
      by_side None (Some o) p q = ap (λ b. cond (b && ltb 0 o.«open») 1 0) (ap (same_side s) (q o refl).side ∙ other_side s)
      by_side (Some o) y p q =
          let r = (p o refl).remains in
          ap (λ b. cond (b && ltb 0 o.«open») 1 0) (ap (same_side s) (p o refl).side ∙ same_side_itself s) ∙ cond-true _ 1 0 (grind (arith, nat_tests))
