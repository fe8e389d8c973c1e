-- The judge of a tape: what each row, each sweep's end and each answer must be, said of the tape and the account alone.
-- Rests on the reckoner, and on the words for kinds, prices and rankings; no step of a sweep stands here.
use Rattle.std.specs.Prelude.{◌≡◌, ℕ, zero, suc, ◌+◌, ◌-◌, ◌*◌, ◌<◌, ◌≤◌, min, true, false, cond, ◌&&◌, ◌⊎◌, List, [], ◌∷◌, length, Some, None, Ok, Err, Option, Result, ◌≢◌, nat_lt}
use Rattle.market.specs.declared.types.Side.{Side}
use Rattle.market.specs.declared.types.Side.TheVariants.{Buy, Sell}
use Rattle.market.specs.declared.types.Refusal.{Refusal}
use Rattle.market.specs.declared.types.Refusal.TheVariants.{Price, Shares, SmallOlo, SmallIlo, LargeMtv, SideFull, ArrivalsSpent, ShortReport, NotResting, CutShares, MarketNumber, Quotation}
use Rattle.market.specs.Words.{opposite, same_side}
use Rattle.board.specs.declared.types.Quote.{Quote}
use Rattle.board.specs.Quotes.{Quotes}
use Rattle.rules.specs.declared.types.Kind.{Kind}
use Rattle.rules.specs.declared.types.Kind.TheVariants.{Displayed, Dark, Olo, Ilo}
use Rattle.rules.specs.declared.types.Order.{Order}
use Rattle.rules.specs.declared.types.Row.{Row}
use Rattle.rules.specs.declared.types.Row.TheVariants.{Fill, Route}
use Rattle.rules.specs.declared.types.Call.{Call}
use Rattle.rules.specs.declared.types.Call.TheVariants as call
use Rattle.rules.specs.declared.types.Accepted.{Accepted}
use Rattle.rules.specs.Orders.{mtv_of, displayed, program, is_olo, is_ilo, type2, cancels, meets, too_small}
use Rattle.rules.specs.Rankings.{Ranking, before}
use Rattle.rules.specs.Calls.{new_order}
use Rattle.law.specs.Tape.{Entry, Account, remainder, added, reckon_row, reckon_rows, reckon}

-- Prices: a is strictly better than b, or no better, for a side: the higher bid, the lower offer.
abbrev pub Better : Side → ℕ → ℕ → Type 0
Better Buy a b = b < a
Better Sell a b = a < b

abbrev pub NotBetter : Side → ℕ → ℕ → Type 0
NotBetter Buy a b = a ≤ b
NotBetter Sell a b = b ≤ a

-- no protected quotation of a side is better than p: no bid above it, or no offer below it
abbrev pub NoneBetter : Quotes → Side → ℕ → Type 0
NoneBetter b s p = (market : ℕ) (q : Quote) → b s market ≡ Some q → NotBetter s q.price p

-- While i comes in, every other order with a remainder above 0 rests.
pub record Rests (a : Account) (i o : Order) : Type 0 where
  pub known : a.known o.arrival ≡ Some o
  pub remains : 0 < o.«open»
  pub another : i.arrival ≡ o.arrival → ⊥

-- Conditions 1 to 4 for i, coming in, and o at rest on the other side: a buyer pays no more and a
-- seller gets no less than his limit; the kinds meet; what is open of i reaches o's MTV; and no
-- protected bid is above o's price and no protected offer below it, where for a Type 2 only the
-- quotations of its own side count.
pub record FirstFour (a : Account) (i o : Order) : Type 0 where
  pub rests : Rests a i o
  pub across : o.side ≡ opposite i.side
  pub limit : NotBetter i.side o.price i.price
  pub kinds : meets i.kind o.kind ≡ true
  pub reached : mtv_of o.kind ≤ i.«open»
  pub own_quotes : NoneBetter a.quotes i.side o.price
  pub other_quotes : type2 i.kind ≡ false → NoneBetter a.quotes (opposite i.side) o.price

-- every displayed order at rest, of either side, is worse than p
abbrev pub DisplayedWorse : Account → Order → ℕ → Type 0
DisplayedWorse a i p = (d : Order) → Rests a i d → displayed d.kind ≡ true → Better d.side p d.price

-- All five: between two Program orders every displayed order at rest is worse.
pub record MayTrade (a : Account) (i o : Order) : Type 0 where
  pub first_four : FirstFour a i o
  pub behind_displayed : program i.kind ≡ true → program o.kind ≡ true → DisplayedWorse a i o.price

-- o may trade, and of all that may trade with i nothing stands before it
pub record InTurn (ranking : Ranking) (a : Account) (i o : Order) : Type 0 where
  pub may_trade : MayTrade a i o
  pub foremost : (x : Order) → MayTrade a i x → before ranking o.side x o ≡ false

-- A fill just before its row: of the entry with this arrival, which is i, and of o at rest.
pub record FairFill (ranking : Ranking) (a : Account) (arrival incoming resting price shares : ℕ) (i o : Order) : Type 0 where
  pub entry : incoming ≡ arrival
  pub known : a.known incoming ≡ Some i
  pub at_rest : a.known resting ≡ Some o
  pub numbered : resting ≡ o.arrival
  pub in_turn : InTurn ranking a i o
  pub no_bid_above : NoneBetter a.quotes Buy price
  pub no_offer_below : NoneBetter a.quotes Sell price
  pub behind_displayed : program i.kind ≡ true → program o.kind ≡ true → DisplayedWorse a i price
  pub at_price : price ≡ o.price
  pub quantity : shares ≡ min i.«open» o.«open»
  pub some_shares : 0 < shares

-- A route just before its row: i is a Type 2, o the order whose turn it is, and q, strictly better
-- than o's price, the best quotation of i's other side, of the lowest market among equals.
pub record FairRoute (ranking : Ranking) (a : Account) (arrival incoming market price shares : ℕ) (i o : Order) (q : Quote) : Type 0 where
  pub entry : incoming ≡ arrival
  pub known : a.known incoming ≡ Some i
  pub routes : type2 i.kind ≡ true
  pub in_turn : InTurn ranking a i o
  pub quoted : a.quotes (opposite i.side) market ≡ Some q
  pub better : Better (opposite i.side) q.price o.price
  pub best : NoneBetter a.quotes (opposite i.side) q.price
  pub lowest : (m : ℕ) (r : Quote) → a.quotes (opposite i.side) m ≡ Some r → r.price ≡ q.price → market ≤ m
  pub at_price : price ≡ q.price
  pub quantity : shares ≡ min i.«open» q.shares
  pub some_shares : 0 < shares

abbrev pub FairRow : Ranking → Account → ℕ → Row → Type 0
FairRow ranking a arrival (Fill incoming resting price shares) = (i : Order) × (o : Order) × FairFill ranking a arrival incoming resting price shares i o
FairRow ranking a arrival (Route incoming market price shares) = (i : Order) × (o : Order) × (q : Quote) × FairRoute ranking a arrival incoming market price shares i o q

-- A sweep ends where nothing is left of its order, or nothing may trade with it.
abbrev pub Ended : Account → ℕ → Type 0
Ended a arrival = (i : Order) × (a.known arrival ≡ Some i) × ((i.«open» ≡ 0) ⊎ ((o : Order) → MayTrade a i o → ⊥))

-- each row is fair just before it, and the end just after the rows
abbrev pub FairSweep : Ranking → ℕ → Account → List Row → Type 0
FairSweep ranking arrival a [] = Ended a arrival
FairSweep ranking arrival a (r ∷ rs) = FairRow ranking a arrival r × FairSweep ranking arrival (reckon_row r a) rs

-- The volume that an MTV is measured by: a figure counts where its condition holds, and else 0.
abbrev pub Counts : Type 0 → ℕ → ℕ → Type 0
Counts P n v = (P × (v ≡ n)) ⊎ ((P → ⊥) × (v ≡ 0))

-- v is the sum of the figures that belong to the numbers 1 to n
abbrev pub Sum : (ℕ → ℕ → Type 0) → ℕ → ℕ → Type 0
Sum Figure zero v = v ≡ 0
Sum Figure (suc n) v = (x : ℕ) × (y : ℕ) × Figure (suc n) x × Sum Figure n y × (v ≡ x + y)

-- the open shares of an order that passes conditions 1 to 4
abbrev pub OrderCounts : Account → Order → Option Order → ℕ → Type 0
OrderCounts a i None v = v ≡ 0
OrderCounts a i (Some o) v = Counts (FirstFour a i o) o.«open» v

-- for a Type 2, the shares of a quotation of the other side at the limit or better
abbrev pub QuoteCounts : Order → Option Quote → ℕ → Type 0
QuoteCounts i None v = v ≡ 0
QuoteCounts i (Some q) v = Counts ((type2 i.kind ≡ true) × NotBetter i.side q.price i.price) q.shares v

abbrev pub Volume : Account → Order → ℕ → Type 0
Volume a i v =
    (x : ℕ) × (y : ℕ) × Sum (λ n. OrderCounts a i (a.known n)) a.accepted x
    × Sum (λ market. QuoteCounts i (a.quotes (opposite i.side) market)) 16 y × (v ≡ x + y)

-- measured first: with a volume below the MTV nothing trades
pub record Measured (ranking : Ranking) (a : Account) (i : Order) (rows : List Row) (volume : ℕ) : Type 0 where
  pub volume_is : Volume (added i a) i volume
  pub below : volume < mtv_of i.kind → rows ≡ []
  pub reached : mtv_of i.kind ≤ volume → FairSweep ranking i.arrival (added i a) rows

-- The refusal is that of the first case that holds, in the order in which they are looked at; where
-- none holds the call is accepted.
abbrev pub FirstCase : List (Refusal × Type 0) → Option Refusal → Type 0
FirstCase [] r = r ≡ None
FirstCase (c ∷ cs) r = (c.1 × (r ≡ Some c.0)) ⊎ ((c.1 → ⊥) × FirstCase cs r)

-- outside 1 to n
abbrev pub Outside : ℕ → ℕ → Type 0
Outside n x = (x < 1) ⊎ (n < x)

-- a ranking size that the kind does not allow at this price
abbrev pub TooSmall : Kind → ℕ → ℕ → Type 0
TooSmall Displayed price size = size < 1
TooSmall Dark price size = size < 1
TooSmall Olo price size = size < 500
TooSmall (Ilo routing mtv mark) price size = (size < 5000) ⊎ (price * size < 5000000)

-- how many orders of a side have a remainder above 0
abbrev pub one_if_resting : Side → Option Order → ℕ
one_if_resting s None = 0
one_if_resting s (Some o) = cond (same_side s o.side && nat_lt 0 o.«open») 1 0

abbrev pub count_upto : (ℕ → ℕ) → ℕ → ℕ
count_upto figure zero = 0
count_upto figure (suc n) = figure (suc n) + count_upto figure n

abbrev pub resting_on : Account → Side → ℕ
resting_on a s = count_upto (λ n. one_if_resting s (a.known n)) a.accepted

abbrev pub Cases : Account → Call → ℕ → List (Refusal × Type 0)
Cases a (call.Enter side price kind shares) room =
    (ShortReport, room < 144)
    ∷ (Price, Outside 1000000 price)
    ∷ (Shares, Outside 1000000 shares)
    ∷ (SmallOlo, (is_olo kind ≡ true) × TooSmall kind price shares)
    ∷ (SmallIlo, (is_ilo kind ≡ true) × TooSmall kind price shares)
    ∷ (LargeMtv, shares < mtv_of kind)
    ∷ (ArrivalsSpent, 1000000 ≤ a.accepted)
    ∷ (SideFull, (cancels kind ≡ false) × (128 ≤ resting_on a side))
    ∷ []
Cases a (call.Cut arrival shares) room =
    (NotResting, remainder a arrival ≡ 0)
    ∷ (CutShares, (shares ≡ 0) ⊎ (remainder a arrival < shares))
    ∷ []
Cases a (call.Cancel arrival) room = (NotResting, remainder a arrival ≡ 0) ∷ []
Cases a (call.Post market side price shares) room =
    (MarketNumber, Outside 16 market)
    ∷ (Quotation, (1000000 < shares) ⊎ (((shares ≡ 0) × (price ≢ 0)) ⊎ ((shares ≢ 0) × Outside 1000000 price)))
    ∷ []

-- An accepted entry: the next arrival, its rows and their count, and its residue, which is cancelled
-- or rests.
pub record FairEntry (ranking : Ranking) (a : Account) (i : Order) (w : Accepted) (rows : List Row) : Type 0 where
  pub arrival : w.arrival ≡ i.arrival
  pub count : w.rows ≡ length rows
  pub measured : (volume : ℕ) × Measured ranking a i rows volume
  pub cancelling : cancels i.kind ≡ true → (w.«open» ≡ 0) × (w.cancelled ≡ remainder (reckon_rows rows (added i a)) i.arrival)
  pub resting : cancels i.kind ≡ false → (w.«open» ≡ remainder (reckon_rows rows (added i a)) i.arrival) × (w.cancelled ≡ 0)

-- an order leaves by a cut that leaves nothing open, or too small a ranking size
abbrev pub Leaves : ℕ → Order → Type 0
Leaves n o = (o.«open» ≤ n) ⊎ TooSmall o.kind o.price (o.size - n)

pub record FairCut (a : Account) (arrival n : ℕ) (w : Accepted) (o : Order) : Type 0 where
  pub known : a.known arrival ≡ Some o
  pub leaving : Leaves n o → (w.«open» ≡ 0) × (w.cancelled ≡ o.«open»)
  pub staying : (Leaves n o → ⊥) → (w.«open» ≡ o.«open» - n) × (w.cancelled ≡ n)

abbrev pub FairCall : Ranking → Account → Call → Accepted → List Row → Type 0
FairCall ranking a (call.Enter side price kind shares) w rows = FairEntry ranking a (new_order (suc a.accepted) side price kind shares) w rows
FairCall ranking a (call.Cut arrival shares) w rows = (w.arrival ≡ arrival) × (w.rows ≡ 0) × (rows ≡ []) × ((o : Order) × FairCut a arrival shares w o)
FairCall ranking a (call.Cancel arrival) w rows = (w.arrival ≡ arrival) × (w.rows ≡ 0) × (rows ≡ []) × (w.«open» ≡ 0) × (w.cancelled ≡ remainder a arrival)
FairCall ranking a (call.Post market side price shares) w rows = (w.arrival ≡ 0) × (w.rows ≡ 0) × (rows ≡ []) × (w.«open» ≡ 0) × (w.cancelled ≡ 0)

abbrev pub FairAnswer : Ranking → Account → Call → Result Accepted Refusal → List Row → Type 0
FairAnswer ranking a c (Ok w) rows = FairCall ranking a c w rows
FairAnswer ranking a c (Err e) rows = rows ≡ []

abbrev pub refusal_of : Result Accepted Refusal → Option Refusal
refusal_of (Ok w) = None
refusal_of (Err e) = Some e

-- a Program order has a remainder above 0
abbrev pub ProgramRests : Account → Type 0
ProgramRests a = (n : ℕ) × (o : Order) × (a.known n ≡ Some o) × (0 < o.«open») × (program o.kind ≡ true)

-- at most its ranking size is open, and its kind allows that size
pub record Sized (o : Order) : Type 0 where
  pub within : o.«open» ≤ o.size
  pub allowed : too_small o.kind o.price o.size ≡ false

-- An entry of the tape, where a is the account just before it.
pub record Judged (ranking : Ranking) (a : Account) (e : Entry) : Type 0 where
  pub refusal : FirstCase (Cases a e.call e.room) (refusal_of e.answer)
  pub answer : FairAnswer ranking a e.call e.answer e.rows
  pub shown : (n : ℕ) → e.shown n ≡ remainder (reckon e a) n
  pub lit : e.light ≡ true → ProgramRests (reckon e a)
  pub unlit : e.light ≡ false → ProgramRests (reckon e a) → ⊥
  pub sized : (n : ℕ) (o : Order) → (reckon e a).known n ≡ Some o → 0 < o.«open» → Sized o
