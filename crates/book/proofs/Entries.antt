-- An entry, refused and accepted, by what the code found and left. Assumes nothing.
use Rattle.std.proofs.Common.{◌≡◌, ℕ, ◌+◌, ◌≤◌, List, [], length, take, Some, None, Ok, Err, sym, refl, ap, ◌∙◌}
use Rattle.std.proofs.lemmas.List.{length-take-le}
use Rattle.market.specs.declared.types.Side.{Side}
use Rattle.market.specs.declared.types.Side.TheVariants.{Buy, Sell}
use Rattle.market.specs.declared.types.Refusal.{Refusal}
use Rattle.market.specs.Words.{opposite}
use Rattle.board.specs.Quotes.{Quotes}
use Rattle.shelf.specs.declared.Shelf.{Shelf}
use Rattle.rules.specs.declared.types.Kind.{Kind}
use Rattle.rules.specs.declared.types.Order.{Order}
use Rattle.rules.specs.declared.types.Row.{Row}
use Rattle.rules.specs.Sweeps.{Swept, standing, swept, with_open, measured_sweep}
use Rattle.rules.specs.Calls.{Market, Terms, Outcome, market, of_side, by_sides, outcome, arriving, enter_refusal, cells_refusal, decided, settled, entered, own_after, enter}
use Rattle.book.specs.Counts.{count_of}
use Rattle.book.specs.Held.{HasCells, SameBehind, orders}

-- what stands of a side is as long as its count
pub own_count : (side : Side) (b o n : ℕ) (bids offers : List Order) (q : Quotes) → b ≤ length bids → o ≤ length offers → length (of_side side (market (take b bids) (take o offers) q n)) ≡ count_of side b o
own_count Buy b o n bids offers q h k = length-take-le b bids h
own_count Sell b o n bids offers q h k = length-take-le o offers k

-- with 128 cells on each side a call is decided by its own cases
pub cells_pass : (bids offers : List Order) (m : Market) (o : Outcome) → HasCells bids offers → o ≡ decided (cells_refusal (length bids) (length offers)) m o
cells_pass bids offers m o h = rw (h.0, h.1) refl

-- the market by the counts and cells that were kept of the shelves of both sides
pub market_left : (bids offers : List Order) (s t : Shelf Order) (m n k : ℕ) (b : Quotes) → m ≡ s.count → n ≡ t.count → bids ≡ s.cells.now → offers ≡ t.cells.now → market (take m bids) (take n offers) b k ≡ market (orders s) (orders t) b k
market_left bids offers s t m n k b e f g h = rw (e, f, g, h) refl

-- the cells that were kept of a shelf, behind what stood and stands
pub behind_left : (old new : List Order) (s : Shelf Order) (n m : ℕ) → m ≡ s.count → new ≡ s.cells.now → SameBehind n s.count old s.cells.now → SameBehind n m old new
behind_left old new s n m e f h = rw (e, f) h

module _ (t : Terms) (m : Market) (side : Side) (price : ℕ) (kind : Kind) (shares room : ℕ) where
  abbrev i : Order
  i = arriving m side price kind shares

  abbrev stands : List Order → List Order → Swept
  stands own opp = measured_sweep (standing i own opp m.quotes)

  abbrev went : Swept
  went = stands (of_side side m) (of_side (opposite side) m)

  pub enter_refused : (n : ℕ) (e : Refusal) → length (of_side side m) ≡ n → Some e ≡ enter_refusal i m.arrivals n room → enter t m side price kind shares room ≡ outcome (Err e) [] m
  unfolding enter
  enter_refused n e h r =
      ap (λ x. decided (enter_refusal i m.arrivals x room) m (settled t went)) h ∙ ap (λ x. decided x m (settled t went)) (sym r)

  enter_accepted : (n : ℕ) (w : Swept) → length (of_side side m) ≡ n → None ≡ enter_refusal i m.arrivals n room → w ≡ went → enter t m side price kind shares room ≡ settled t w
  unfolding enter
  enter_accepted n w h r e =
      ap (λ x. decided (enter_refusal i m.arrivals x room) m (settled t went)) h ∙ ap (λ x. decided x m (settled t went)) (sym r) ∙ ap (settled t) (sym e)

  -- own and opp are what the code had for the two sides, the primed ones what it left
  pub enter_left : (n k q : ℕ) (rows : List Row) (own opp own' opp' : List Order) (b : Quotes) (m' : Market) → own ≡ of_side side m → opp ≡ of_side (opposite side) m → m' ≡ by_sides side own' opp' b (m.arrivals + 1) → length (of_side side m) ≡ n → None ≡ enter_refusal i m.arrivals n room → length rows ≡ k → swept rows (standing (with_open q i) own opp' b) ≡ stands own opp → own' ≡ own_after t.ranking (with_open q i) own → outcome (Ok (entered (with_open q i) k)) rows m' ≡ enter t m side price kind shares room
  enter_left n k q rows own opp own' opp' b m' eo ep em h r l w o =
      let w' : swept rows (standing (with_open q i) (of_side side m) opp' b) ≡ went = ap (λ x. swept rows (standing (with_open q i) x opp' b)) (sym eo) ∙ w ∙ ap (λ x. stands x opp) eo ∙ ap (stands (of_side side m)) ep in
      let o' = o ∙ ap (own_after t.ranking (with_open q i)) eo in
      ap (outcome (Ok (entered (with_open q i) k)) rows) (em ∙ ap (λ x. by_sides side x opp' b (m.arrivals + 1)) o')
      ∙ ap (λ x. outcome (Ok (entered (with_open q i) x)) rows (by_sides side (own_after t.ranking (with_open q i) (of_side side m)) opp' b (m.arrivals + 1))) (sym l)
      ∙ sym (enter_accepted n (swept rows (standing (with_open q i) (of_side side m) opp' b)) h r w')
