-- What the writers of a shelf keep: its order, and what stands on it. For every kind of thing, key, label and total order.
-- Rests on Order and Standing.
use Rattle.std.specs.Prelude.{◌≡◌, ℕ, ◌+◌, Bool, cond, List, [], ◌∷◌, ◌++◌, Some, None, Option, ◌≢◌, slice_set}
use Rattle.std.specs.List.{AllByRecursion, remove}
use Rattle.shelf.specs.Order.{Total, Sorted}
use Rattle.shelf.specs.Standing.{put_in, nth}

-- One write: a thing put in, the thing at a place taken out, the thing at a place replaced by another.
pub data Write (A : Type 0) : Type 0 where
  Put : A → Write A
  TakeOut : ℕ → Write A
  Replace : ℕ → A → Write A

-- what stands after it; where nothing stands at the place, what stood before
abbrev pub after : {A : Type 0} → (A → A → Bool) → Write A → List A → List A
after before (Put x) xs = put_in before x xs
after before (TakeOut at) xs = remove xs at
after before (Replace at x) xs = slice_set xs at x

-- what left the shelf, and what came onto it
abbrev pub listed : {A : Type 0} → Option A → List A
listed None = []
listed (Some x) = x ∷ []

abbrev pub left : {A : Type 0} → Write A → List A → List A
left (Put x) xs = []
left (TakeOut at) xs = listed (nth at xs)
left (Replace at x) xs = listed (nth at xs)

abbrev pub came : {A : Type 0} → Write A → List A → List A
came (Put x) xs = x ∷ []
came (TakeOut at) xs = []
came (Replace at x) xs = elim (nth at xs) [ None ↦ [] | Some y ↦ x ∷ [] ]

-- a run of writes, in their order: what stands at its end, all that left and all that came
abbrev pub after_all : {A : Type 0} → (A → A → Bool) → List (Write A) → List A → List A
after_all before [] xs = xs
after_all before (w ∷ ws) xs = after_all before ws (after before w xs)

abbrev pub left_all : {A : Type 0} → (A → A → Bool) → List (Write A) → List A → List A
left_all before [] xs = []
left_all before (w ∷ ws) xs = left w xs ++ left_all before ws (after before w xs)

abbrev pub came_all : {A : Type 0} → (A → A → Bool) → List (Write A) → List A → List A
came_all before [] xs = []
came_all before (w ∷ ws) xs = came w xs ++ came_all before ws (after before w xs)

-- how many pass a test
abbrev pub tally : {A : Type 0} → (A → Bool) → List A → ℕ
tally p [] = 0
tally p (x ∷ xs) = cond (p x) 1 0 + tally p xs

-- how a shelf of A stands, by an order of its keys
abbrev pub by : {A K : Type 0} → (K → K → Bool) → (A → K) → A → A → Bool
by ahead key x y = ahead (key x) (key y)

-- A put keeps a sorted shelf sorted, where nothing that stands has the label of what comes.
abbrev pub PutKeepsOrder : Type 0 → Type 0 → Type 0
PutKeepsOrder A K =
    (label : K → ℕ) (ahead : K → K → Bool) (key : A → K) → Total label ahead → (x : A) (xs : List A)
    → AllByRecursion (λ y. label (key x) ≢ label (key y)) xs → Sorted (by ahead key) xs → Sorted (by ahead key) (put_in (by ahead key) x xs)

-- A take-out keeps a sorted shelf sorted.
abbrev pub TakeOutKeepsOrder : Type 0 → Type 0 → Type 0
TakeOutKeepsOrder A K =
    (ahead : K → K → Bool) (key : A → K) (at : ℕ) (xs : List A) → Sorted (by ahead key) xs → Sorted (by ahead key) (remove xs at)

-- A thing that is replaced by one of the same key leaves a sorted shelf sorted.
abbrev pub ReplaceKeepsOrder : Type 0 → Type 0 → Type 0
ReplaceKeepsOrder A K =
    (ahead : K → K → Bool) (key : A → K) (at : ℕ) (x y : A) (xs : List A)
    → nth at xs ≡ Some x → key y ≡ key x → Sorted (by ahead key) xs → Sorted (by ahead key) (slice_set xs at y)

-- what a write asks so that the order stays: a thing put in has a label of its own, a thing that replaces another its key
abbrev pub Fits : {A K : Type 0} → (K → ℕ) → (A → K) → Write A → List A → Type 0
Fits label key (Put x) xs = AllByRecursion (λ y. label (key x) ≢ label (key y)) xs
Fits label key (TakeOut at) xs = Unit {0}
Fits {A} label key (Replace at y) xs = (x : A) → nth at xs ≡ Some x → key y ≡ key x

abbrev pub FitsAll : {A K : Type 0} → (K → ℕ) → (K → K → Bool) → (A → K) → List (Write A) → List A → Type 0
FitsAll label ahead key [] xs = Unit {0}
FitsAll label ahead key (w ∷ ws) xs = Fits label key w xs × FitsAll label ahead key ws (after (by ahead key) w xs)

-- So any run of such writes keeps a sorted shelf sorted.
abbrev pub RunKeepsOrder : Type 0 → Type 0 → Type 0
RunKeepsOrder A K =
    (label : K → ℕ) (ahead : K → K → Bool) (key : A → K) → Total label ahead → (ws : List (Write A)) (xs : List A)
    → FitsAll label ahead key ws xs → Sorted (by ahead key) xs → Sorted (by ahead key) (after_all (by ahead key) ws xs)

-- What stood at the start or came later, and did not leave, is what stands at the end of a run, each once:
-- whatever is counted, those that stand and those that left are as many as those that stood and those that came.
abbrev pub RunKeepsCount : Type 0 → Type 0
RunKeepsCount A =
    (before : A → A → Bool) (p : A → Bool) (ws : List (Write A)) (xs : List A)
    → tally p (after_all before ws xs) + tally p (left_all before ws xs) ≡ tally p xs + tally p (came_all before ws xs)
