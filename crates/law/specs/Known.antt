-- Sweeps whose fills are known, worked out by hand, as one computed test over the calls.
-- Rests on the tape of calls, with the ranking size-time and, at the start, no quotation.
use Rattle.std.specs.Prelude.{ℕ, Bool, true, false, ◌&&◌, List, [], ◌∷◌, ◌++◌, None, ◌==◌}
use Rattle.market.specs.declared.types.Side.TheVariants.{Buy, Sell}
use Rattle.rules.specs.declared.types.Routing.TheVariants.{Type1, Type2}
use Rattle.rules.specs.declared.types.Mark.TheVariants.{Rest, Cancel}
use Rattle.rules.specs.declared.types.Kind.TheVariants.{Displayed, Dark, Olo, Ilo}
use Rattle.rules.specs.declared.types.Order.{Order}
use Rattle.rules.specs.declared.types.Row.{Row}
use Rattle.rules.specs.declared.types.Row.TheVariants.{Fill, Route}
use Rattle.rules.specs.declared.types.Call.{Call}
use Rattle.rules.specs.declared.types.Call.TheVariants.{Enter, Cut, Post}
use Rattle.rules.specs.Rankings.{size_time}
use Rattle.rules.specs.Calls.{Market, Figures, terms, fresh, figures, apply}
use Rattle.law.specs.Tape.{Entry}
use Rattle.law.specs.Law.{after, tape}

-- a fresh book over a board with no quotation
abbrev pub nothing_yet : Market
nothing_yet = fresh (λ side market. None)

-- calls, each with a report of 144 rows
abbrev with_reports : List Call → List (Call × ℕ)
with_reports [] = []
with_reports (c ∷ cs) = (c, 144) ∷ with_reports cs

-- the rows of their tape, first to last, and the market that they leave
abbrev rows_on : List Entry → List Row
rows_on [] = []
rows_on (e ∷ es) = e.rows ++ rows_on es

abbrev rows_of : List Call → List Row
rows_of cs = rows_on (tape (terms size_time) nothing_yet (with_reports cs))

abbrev left_by : List Call → Market
left_by cs = after (terms size_time) nothing_yet (with_reports cs)

abbrev same_row : Row → Row → Bool
same_row (Fill i r p n) (Fill j s q k) = i == j && (r == s && (p == q && n == k))
same_row (Fill i r p n) (Route j s q k) = false
same_row (Route i r p n) (Fill j s q k) = false
same_row (Route i r p n) (Route j s q k) = i == j && (r == s && (p == q && n == k))

abbrev same_rows : List Row → List Row → Bool
same_rows [] [] = true
same_rows [] (y ∷ ys) = false
same_rows (x ∷ xs) [] = false
same_rows (x ∷ xs) (y ∷ ys) = same_row x y && same_rows xs ys

-- an order left at rest: its arrival, its price and what is open of it
pub record Left : Type 0 where
  pub arrival : ℕ
  pub price : ℕ
  pub «open» : ℕ

abbrev left : ℕ → ℕ → ℕ → Left
left arrival price shares = record { arrival = arrival; price = price; «open» = shares }

abbrev same_left : List Order → List Left → Bool
same_left [] [] = true
same_left [] (y ∷ ys) = false
same_left (o ∷ os) [] = false
same_left (o ∷ os) (y ∷ ys) = o.arrival == y.arrival && (o.price == y.price && (o.«open» == y.«open» && same_left os ys))

-- calls on a fresh book give exactly these rows, and leave these bids and offers, first to last
abbrev gives : List Call → List Row → List Left → List Left → Bool
gives cs rows bids offers =
    same_rows (rows_of cs) rows && (same_left (left_by cs).bids bids && same_left (left_by cs).offers offers)

-- entries of an OLO bid, and of an ILO sale of Type 1 whose residue is cancelled
abbrev olo_bid : ℕ → ℕ → Call
olo_bid price shares = Enter Buy price Olo shares

abbrev sale_with_mtv : ℕ → ℕ → ℕ → Call
sale_with_mtv price shares mtv = Enter Sell price (Ilo Type1 mtv Cancel) shares

abbrev sale : ℕ → ℕ → Call
sale price shares = sale_with_mtv price shares 0

-- three OLO bids at 1000: 5,000, 5,000 and 4,000
abbrev three_bids : List Call
three_bids = olo_bid 1000 5000 ∷ olo_bid 1000 5000 ∷ olo_bid 1000 4000 ∷ []

-- equal sizes fill by arrival
abbrev sweep1 : Bool
sweep1 = gives (three_bids ++ sale 1000 10000 ∷ []) (Fill 4 1 1000 5000 ∷ Fill 4 2 1000 5000 ∷ []) (left 3 1000 4000 ∷ []) []

-- an MTV is met by several orders together, and an OLO filled below its least size still trades
abbrev sweep2 : Bool
sweep2 = gives (three_bids ++ sale_with_mtv 1000 13800 10000 ∷ sale 1000 5000 ∷ [])
    (Fill 4 1 1000 5000 ∷ Fill 4 2 1000 5000 ∷ Fill 4 3 1000 3800 ∷ Fill 5 3 1000 200 ∷ []) [] []

-- an MTV one share above the volume, and one that is just met
abbrev sweep3 : Bool
sweep3 = gives (three_bids ++ sale_with_mtv 1000 20000 14001 ∷ []) [] (left 1 1000 5000 ∷ left 2 1000 5000 ∷ left 3 1000 4000 ∷ []) []
    && gives (three_bids ++ sale_with_mtv 1000 20000 14000 ∷ []) (Fill 4 1 1000 5000 ∷ Fill 4 2 1000 5000 ∷ Fill 4 3 1000 4000 ∷ []) [] []

-- the larger ranking size goes before the earlier arrival
abbrev sweep4 : Bool
sweep4 = gives (olo_bid 1000 5000 ∷ olo_bid 1000 2000 ∷ olo_bid 1000 4000 ∷ sale 1000 10000 ∷ [])
    (Fill 4 1 1000 5000 ∷ Fill 4 3 1000 4000 ∷ Fill 4 2 1000 1000 ∷ []) (left 2 1000 1000 ∷ []) []

-- the better price first; and a partly filled order keeps its ranking size and its place
abbrev four_bids : List Call
four_bids = olo_bid 1000 5000 ∷ olo_bid 1000 5000 ∷ olo_bid 1001 4000 ∷ olo_bid 1000 4000 ∷ sale 1000 11000 ∷ []

abbrev sweep5 : Bool
sweep5 = gives (four_bids ++ sale 1000 5000 ∷ [])
    (Fill 5 3 1001 4000 ∷ Fill 5 1 1000 5000 ∷ Fill 5 2 1000 2000 ∷ Fill 6 2 1000 3000 ∷ Fill 6 4 1000 2000 ∷ []) (left 4 1000 2000 ∷ []) []

-- a cut lowers the ranking size, so the order loses its place
abbrev sweep6 : Bool
sweep6 = gives (four_bids ++ Cut 2 2000 ∷ sale 1000 5000 ∷ [])
    (Fill 5 3 1001 4000 ∷ Fill 5 1 1000 5000 ∷ Fill 5 2 1000 2000 ∷ Fill 6 4 1000 4000 ∷ Fill 6 2 1000 1000 ∷ []) [] []

-- a resting ILO whose MTV the sale reaches fills first, by its size
abbrev sweep7 : Bool
sweep7 = gives (three_bids ++ Enter Buy 1000 (Ilo Type1 5000 Rest) 10000 ∷ sale 1000 15000 ∷ [])
    (Fill 5 4 1000 10000 ∷ Fill 5 1 1000 5000 ∷ []) (left 2 1000 5000 ∷ left 3 1000 4000 ∷ []) []

-- a better price goes before a displayed order
abbrev sweep8 : Bool
sweep8 = gives (Enter Buy 1000 Displayed 1000 ∷ olo_bid 1001 5000 ∷ sale 1000 6000 ∷ []) (Fill 3 2 1001 5000 ∷ Fill 3 1 1000 1000 ∷ []) [] []

-- displayed, Program, dark at each price; a Type 2 routes only when it goes to a worse price
abbrev five_bids : List Call
five_bids =
    Enter Buy 1000 Displayed 1000 ∷ Enter Buy 1000 Dark 4000 ∷ olo_bid 1000 4000 ∷ Enter Buy 999 Displayed 2000 ∷ olo_bid 999 4000
    ∷ Post 7 Buy 1000 100 ∷ []

abbrev sweep9 : Bool
sweep9 = gives (five_bids ++ Enter Sell 999 (Ilo Type2 0 Cancel) 12000 ∷ [])
    (Fill 6 1 1000 1000 ∷ Fill 6 3 1000 4000 ∷ Fill 6 2 1000 4000 ∷ Route 6 7 1000 100 ∷ Fill 6 4 999 2000 ∷ Fill 6 5 999 900 ∷ [])
    (left 5 999 3100 ∷ []) []

-- the away bid bars a Type 1 from the worse price
abbrev sweep10 : Bool
sweep10 = gives (five_bids ++ sale 999 12000 ∷ []) (Fill 6 1 1000 1000 ∷ Fill 6 3 1000 4000 ∷ Fill 6 2 1000 4000 ∷ []) (left 4 999 2000 ∷ left 5 999 4000 ∷ []) []

-- an away offer below the price bars the trade, and one at the price does not
abbrev sweep11 : Bool
sweep11 = gives (olo_bid 1006 5000 ∷ Post 7 Sell 1005 100 ∷ sale 1000 5000 ∷ []) [] (left 1 1006 5000 ∷ []) []
    && gives (olo_bid 1006 5000 ∷ Post 7 Sell 1006 100 ∷ sale 1000 5000 ∷ []) (Fill 2 1 1006 5000 ∷ []) [] []

-- a displayed bid at the price bars an OLO from an ILO, though it cannot trade with the OLO itself
abbrev sweep12 : Bool
sweep12 = gives (Enter Buy 1000 (Ilo Type1 0 Rest) 5000 ∷ Enter Buy 1000 Displayed 100 ∷ Enter Sell 1000 Olo 500 ∷ [])
    [] (left 2 1000 100 ∷ left 1 1000 5000 ∷ []) (left 3 1000 500 ∷ [])

-- an OLO of 700 cut by 200 stays, and cut by 201 leaves, with all 700 cancelled
abbrev cut_of_700 : ℕ → Figures
cut_of_700 n = figures (apply (terms size_time) (left_by (olo_bid 1000 700 ∷ [])) (Cut 1 n) 144).answer

abbrev cuts : Bool
cuts = gives (olo_bid 1000 700 ∷ Cut 1 200 ∷ []) [] (left 1 1000 500 ∷ []) []
    && (gives (olo_bid 1000 700 ∷ Cut 1 201 ∷ []) [] [] []
    && (((cut_of_700 200).«open» == 500 && (cut_of_700 200).cancelled == 200)
    && ((cut_of_700 201).«open» == 0 && (cut_of_700 201).cancelled == 700)))

abbrev pub Known : Bool
Known = sweep1 && (sweep2 && (sweep3 && (sweep4 && (sweep5 && (sweep6 && (sweep7 && (sweep8 && (sweep9 && (sweep10 && (sweep11 && (sweep12 && cuts)))))))))))
