-- The rows of every call, and what is held after it, are at most one more than what was held.
-- Rests on the sweep of an entry, and on the markets that calls on a fresh book leave.
use Rattle.std.proofs.Common.{◌≡◌, ℕ, suc, ◌+◌, ◌≤◌, List, [], ◌∷◌, ◌++◌, length, Some, None, Ok, Err, Option, Result, sym, refl, subst, arith}
use Rattle.std.specs.List.{remove}
use Rattle.std.proofs.lemmas.Bool.{cond_both}
use Rattle.market.specs.declared.types.Side.{Side}
use Rattle.market.specs.declared.types.Side.TheVariants.{Buy, Sell}
use Rattle.market.specs.declared.types.Refusal.{Refusal}
use Rattle.market.specs.Words.{opposite}
use Rattle.shelf.specs.Standing.{put_in}
use Rattle.shelf.proofs.Sorting.{length_put_in}
use Rattle.board.specs.declared.types.Quote.{Quote}
use Rattle.board.specs.Quotes.{Quotes, Lawful, with_quote, posted, post_answer, if_ok}
use Rattle.rules.specs.declared.types.Kind.{Kind}
use Rattle.rules.specs.declared.types.Order.{Order}
use Rattle.rules.specs.declared.types.Located.{Located}
use Rattle.rules.specs.declared.types.Call.{Call}
use Rattle.rules.specs.declared.types.Call.TheVariants as call
use Rattle.rules.specs.Rankings.{Ranking, Ranks, before}
use Rattle.rules.specs.Sweeps.{standing, measured_sweep}
use Rattle.rules.specs.Calls.{Market, Outcome, terms, fresh, of_side, with_side, market, outcome, arriving, decided, settled, enter, enter_refusal, at_rest, cancel, cancel_refusal, cancelled, cut, cut_refusal, cut_to, cut_stayed, cut_down, leaves, post, post_accepted, apply}
use Rattle.law.specs.Tape.{Account}
use Rattle.law.specs.Law.{after, tape}
use Rattle.law.specs.Holdings.{holdings, rows_in, RowsCounted, TapeCounted}
use Rattle.law.proofs.Branches.{by_option}
use Rattle.law.proofs.Finding.{length_removed}
use Rattle.law.proofs.Quotations.{quoted_put, quoted_beside}
use Rattle.law.proofs.Holding.{held_with_side}
use Rattle.law.proofs.Markets.{Kept, Matches, located_there}
use Rattle.law.proofs.Entering.{entered_counted}
use Rattle.law.proofs.Tapes.{tape_goes_on}
use Rattle.law.proofs.Shares.{everywhere}

abbrev Counted : Market → Outcome → Type 0
Counted m o = length o.rows + holdings o.market ≤ suc (holdings m)

decided_counted : (m : Market) (r : Option Refusal) (o : Outcome) → Counted m o → Counted m (decided r m o)
decided_counted m None o h = h
decided_counted m (Some e) o h = omega arith

module _ (ranking : Ranking) (law : Ranks ranking) (m : Market) (a : Account) (k : Kept ranking m) (h : Matches a m) where
  enter_counted : (side : Side) (price : ℕ) (kind : Kind) (shares room : ℕ) → Counted m (enter (terms ranking) m side price kind shares room)
  unfolding enter
  enter_counted side price kind shares room =
      let i : Order = arriving m side price kind shares in
      decided_counted m (enter_refusal i m.arrivals (length (of_side side m)) room) (settled (terms ranking) (measured_sweep (standing i (of_side side m) (of_side (opposite side) m) m.quotes)))
      (entered_counted ranking law m a k h i refl)

  -- an order taken off leaves one fewer
  shorter : (j : ℕ) (l : Located) → at_rest j m ≡ Some l → suc (length (remove (of_side l.side m) l.place)) ≡ length (of_side l.side m)
  shorter j l e = length_removed (of_side l.side m) l.place l.order (located_there j m l e)

  cancelled_counted : (j : ℕ) (l : Located) → at_rest j m ≡ Some l → Counted m (cancelled m (Some l))
  cancelled_counted j l e =
      let s = shorter j l e in
      let w = held_with_side l.side (remove (of_side l.side m) l.place) m (omega arith) in
      omega arith

  cancel_counted : (j : ℕ) → Counted m (cancel m j)
  unfolding cancel
  cancel_counted j =
      decided_counted m (cancel_refusal (at_rest j m)) (cancelled m (at_rest j m))
      (by_option (at_rest j m) (λ x. at_rest j m ≡ x → Counted m (cancelled m x)) (λ _ _. omega arith) (λ l _ e. cancelled_counted j l e) refl)

  put_back : (s : Side) (os : List Order) (o : Order) → suc (length os) ≡ length (of_side s m) → holdings (with_side s (put_in (before ranking s) o os) m) ≤ holdings m
  put_back s os o e = held_with_side s (put_in (before ranking s) o os) m (let p = length_put_in (before ranking s) o os in omega arith)

  moved_is : (s : Side) (os : List Order) (o : Order) → with_side s (put_in (before ranking s) o (of_side s (with_side s os m))) (with_side s os m) ≡ with_side s (put_in (before ranking s) o os) m
  moved_is Buy os o = refl
  moved_is Sell os o = refl

  cut_counted : (j n : ℕ) → Counted m (cut (terms ranking) m j n)
  unfolding cut
  cut_counted j n =
      decided_counted m (cut_refusal (at_rest j m) n) (cut_to (terms ranking) m (at_rest j m) n)
      (by_option (at_rest j m) (λ x. at_rest j m ≡ x → Counted m (cut_to (terms ranking) m x n)) (λ _ _. omega arith)
      (λ l _ e.
      let os = remove (of_side l.side m) l.place in
      let back = subst (λ x. holdings x ≤ holdings m) (sym (moved_is l.side os (cut_down n l.order))) (put_back l.side os (cut_down n l.order) (shorter j l e)) in
      cond_both (leaves n l.order) (cancelled m (Some l)) (cut_stayed (terms ranking) m l n) (Counted m) (λ _. cancelled_counted j l e) (λ _. omega arith)) refl)

  post_counted : (number : ℕ) (side : Side) (price shares : ℕ) → Counted m (post m number side price shares)
  unfolding post
  post_counted number side price shares = by_answer (post_answer number price shares)
    where
      by_side : (s : Side) (x : Option Quote) → holdings (market m.bids m.offers (with_quote m.quotes s number x) m.arrivals) ≤ suc (holdings m)
      by_side Buy x = let one = quoted_put m.quotes Buy number x in let same = quoted_beside m.quotes Buy number x in omega arith
      by_side Sell x = let one = quoted_put m.quotes Sell number x in let same = quoted_beside m.quotes Sell number x in omega arith

      by_answer : (r : Result Unit Refusal) → Counted m (outcome (post_accepted r) [] (market m.bids m.offers (if_ok r (with_quote m.quotes side number (posted price shares)) m.quotes) m.arrivals))
      by_answer (Ok u) = let one = by_side side (posted price shares) in omega arith
      by_answer (Err e) = omega arith

  call_counted : (c : Call) (room : ℕ) → Counted m (apply (terms ranking) m c room)
  call_counted (call.Enter side price kind shares) room = enter_counted side price kind shares room
  call_counted (call.Cut arrival shares) room = cut_counted arrival shares
  call_counted (call.Cancel arrival) room = cancel_counted arrival
  call_counted (call.Post number side price shares) room = post_counted number side price shares

pub rows_counted : RowsCounted
rows_counted = everywhere (λ m c o. Counted m o) (λ ranking law m a k h c room g. call_counted ranking law m a k h c room)

-- summed over the calls that follow some others
module _ (ranking : Ranking) (law : Ranks ranking) (b : Quotes) (l : Lawful b) where
  abbrev InAll : Market → List (Call × ℕ) → Type 0
  InAll m cs = rows_in (tape (terms ranking) m cs) + holdings (after (terms ranking) m cs) ≤ length cs + holdings m

  in_all : (done cs : List (Call × ℕ)) → InAll (after (terms ranking) (fresh b) done) cs
  in_all done [] = omega arith
  in_all done (c ∷ cs) =
      let one = rows_counted ranking law b l done c.0 c.1 in
      let rest = subst (λ m. InAll m cs) (tape_goes_on (terms ranking) (fresh b) done c.0 c.1).after_is (in_all (done ++ c ∷ []) cs) in
      omega arith

pub tape_counted : TapeCounted
tape_counted ranking law b l cs = in_all ranking law b l [] cs
