-- A side with one order taken off or put on, as what it makes of the market. Assumes nothing.
use Rattle.std.proofs.Common.{◌≡◌, ℕ, ◌≤◌, max, true, false, cond, ◌||◌, eqb, ltb, List, [], Some, None, Err, Option, Result, sym, refl, ap, ◌∙◌, arith}
use Rattle.std.specs.Option.{option_or}
use Rattle.market.specs.declared.types.Side.{Side}
use Rattle.market.specs.declared.types.Refusal.{Refusal}
use Rattle.market.specs.declared.types.Refusal.TheVariants.{NotResting, CutShares}
use Rattle.board.specs.Quotes.{Quotes, post_answer, posted, with_quote, if_ok}
use Rattle.shelf.specs.declared.Shelf.{Shelf}
use Rattle.rules.specs.declared.types.Order.{Order}
use Rattle.rules.specs.declared.types.Located.{Located}
use Rattle.rules.specs.Calls.{Market, Terms, Outcome, at_rest, outcome, decided, cancel_refusal, cancelled, cancel, cut_refusal, cut_to, cut_stayed, cut, leaves, market, post_accepted, post}
use Rattle.book.specs.Held.{SameBehind, Shortened}
use Rattle.shelf.proofs.Cells.{drop_later}

-- cells that two changes left behind what stood and stands; the first made no more stand
pub behind_twice : (xs ys zs : List Order) (a b c : ℕ) → b ≤ a → SameBehind a b xs ys → SameBehind b c ys zs → SameBehind a c xs zs
behind_twice xs ys zs a b c h e f =
    drop_later zs ys (max b c) (max a c) (omega arith) f ∙ drop_later ys xs (max a b) (max a c) (omega arith) e

pub shortened_twice : (r s t : Shelf Order) → Shortened r s → Shortened s t → Shortened r t
shortened_twice r s t e f = (omega (arith, e.0, f.0), drop_later t.cells.now s.cells.now s.count r.count e.0 f.1 ∙ e.1)

-- sent back for the cells, or since the order does not rest; f is what the call gives by the order found
sent_back : (m : Market) (f : Option Located → Outcome) (r : Option Refusal) (l : Option Located) (e : Refusal) → f None ≡ outcome (Err NotResting) [] m → Some e ≡ option_or r (cancel_refusal l) → outcome (Err e) [] m ≡ decided r m (f l)
sent_back m f None None e h s = let k : e ≡ NotResting = cc in ap (λ x. outcome (Err x) [] m) k ∙ sym h
sent_back m f None (Some l) e h s = absurd (cc)
sent_back m f (Some d) l e h s = let k : e ≡ d = cc in ap (λ x. outcome (Err x) [] m) k

module _ (m : Market) (k : ℕ) where
  pub cancel_back : (r : Option Refusal) (e : Refusal) → Some e ≡ option_or r (cancel_refusal (at_rest k m)) → outcome (Err e) [] m ≡ decided r m (cancel m k)
  unfolding cancel
  cancel_back r e h = sent_back m (λ l. decided (cancel_refusal l) m (cancelled m l)) r (at_rest k m) e refl h

  pub cancel_done : (l : Located) → Some l ≡ at_rest k m → cancelled m (Some l) ≡ cancel m k
  unfolding cancel
  cancel_done l e = ap (λ x. decided (cancel_refusal x) m (cancelled m x)) e

module _ (t : Terms) (m : Market) (k n : ℕ) where
  -- a cut by what it found under the arrival
  cut_by : Option Located → Outcome
  cut_by l = decided (cut_refusal l n) m (cut_to t m l n)

  pub cut_back : (r : Option Refusal) (e : Refusal) → Some e ≡ option_or r (cancel_refusal (at_rest k m)) → outcome (Err e) [] m ≡ decided r m (cut t m k n)
  unfolding cut cut_by
  cut_back r e h = sent_back m cut_by r (at_rest k m) e refl h

  pub cut_refused : (l : Located) → Some l ≡ at_rest k m → (eqb n 0 || ltb l.order.«open» n) ≡ true → outcome (Err CutShares) [] m ≡ cut t m k n
  unfolding cut cut_by
  cut_refused l e r = sym (ap (λ b. decided (cond b (Some CutShares) None) m (cut_to t m (Some l) n)) r) ∙ ap cut_by e

  cut_passes : (l : Located) → Some l ≡ at_rest k m → (eqb n 0 || ltb l.order.«open» n) ≡ false → cut_to t m (Some l) n ≡ cut t m k n
  unfolding cut cut_by
  cut_passes l e r = sym (ap (λ b. decided (cond b (Some CutShares) None) m (cut_to t m (Some l) n)) r) ∙ ap cut_by e

  pub cut_leaves : (l : Located) → Some l ≡ at_rest k m → (eqb n 0 || ltb l.order.«open» n) ≡ false → true ≡ leaves n l.order → cancelled m (Some l) ≡ cut t m k n
  cut_leaves l e r f = ap (λ b. cond b (cancelled m (Some l)) (cut_stayed t m l n)) f ∙ cut_passes l e r

  pub cut_stays : (l : Located) → Some l ≡ at_rest k m → (eqb n 0 || ltb l.order.«open» n) ≡ false → false ≡ leaves n l.order → cut_stayed t m l n ≡ cut t m k n
  cut_stays l e r f = ap (λ b. cond b (cancelled m (Some l)) (cut_stayed t m l n)) f ∙ cut_passes l e r

-- a post by what the board answered and left
pub post_by : (m : Market) (k : ℕ) (side : Side) (price shares : ℕ) (r : Result Unit Refusal) (b : Quotes) → r ≡ post_answer k price shares → b ≡ if_ok r (with_quote m.quotes side k (posted price shares)) m.quotes → outcome (post_accepted r) [] (market m.bids m.offers b m.arrivals) ≡ post m k side price shares
unfolding post
post_by m k side price shares r b e f =
    ap (λ x. outcome (post_accepted r) [] (market m.bids m.offers x m.arrivals)) f
    ∙ ap (λ x. outcome (post_accepted x) [] (market m.bids m.offers (if_ok x (with_quote m.quotes side k (posted price shares)) m.quotes) m.arrivals)) e
