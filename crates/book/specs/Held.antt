-- The market that a book holds in the cells of its two sides and in a board, and what a call leaves
-- of the cells. Rests on the calls of the rules.
use Rattle.std.specs.Prelude.{◌≡◌, ℕ, ◌≤◌, max, List, length, take, drop, Some, None, Ok, Err, Option, Result}
use Rattle.market.specs.declared.types.Refusal.{Refusal}
use Rattle.board.specs.Quotes.{Quotes}
use Rattle.shelf.specs.declared.Shelf.{Shelf}
use Rattle.rules.specs.declared.types.Order.{Order}
use Rattle.rules.specs.Calls.{Market, market}
use Rattle.book.specs.declared.book.Book.{Book}

abbrev pub held : {R : Type 0} → Book R → List Order → List Order → Quotes → Market
held k bids offers b = market (take k.bids bids) (take k.offers offers) b k.arrivals

-- the orders that stand on a shelf, first to last
abbrev pub orders : Shelf Order → List Order
orders s = take s.count s.cells.now

-- each side has its 128 cells
abbrev pub HasCells : List Order → List Order → Type 0
HasCells bids offers = (length bids ≡ 128) × (length offers ≡ 128)

-- from a place on, cells or rows keep what they had
abbrev pub KeptFrom : {A : Type 0} → ℕ → List A → List A → Type 0
KeptFrom n old new = drop n new ≡ drop n old

-- no more orders stand on a shelf than stood there, and the cells behind those keep what they had
abbrev pub Shortened : Shelf Order → Shelf Order → Type 0
Shortened old new = (new.count ≤ old.count) × KeptFrom old.count old.cells.now new.cells.now

-- the cells behind those where orders stood or stand keep what they had
abbrev pub SameBehind : ℕ → ℕ → List Order → List Order → Type 0
SameBehind n m old new = KeptFrom (max n m) old new

-- a refused call leaves the book and the cells of both sides as they were; an accepted one leaves
-- the ranking and the cells behind
abbrev pub CellsKept : {A R : Type 0} → Result A Refusal → Book R → Book R → List Order → List Order → List Order → List Order → Type 0
CellsKept (Ok a) k k' bids bids' offers offers' =
    (k'.ranking ≡ k.ranking) × SameBehind k.bids k'.bids bids bids' × SameBehind k.offers k'.offers offers offers'
CellsKept (Err e) k k' bids bids' offers offers' = (k' ≡ k) × (bids' ≡ bids) × (offers' ≡ offers)

-- a question answers its figure, unless it is refused
abbrev pub asked_for : {A : Type 0} → Option Refusal → A → Result A Refusal
asked_for None a = Ok a
asked_for (Some e) a = Err e
