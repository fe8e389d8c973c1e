-- What a market holds, orders and quotations, bounds the rows of the calls: a row takes an order or a
-- quotation off, or ends its sweep with nothing left to rest, and a call adds at most one.
-- Rests on the rules of the calls and on the tape.
use Rattle.std.specs.Prelude.{ℕ, suc, ◌+◌, ◌≤◌, List, [], ◌∷◌, length, Some, None, Option}
use Rattle.market.specs.declared.types.Side.{Side}
use Rattle.market.specs.declared.types.Side.TheVariants.{Buy, Sell}
use Rattle.board.specs.declared.types.Quote.{Quote}
use Rattle.board.specs.Quotes.{Quotes, Lawful}
use Rattle.rules.specs.declared.types.Call.{Call}
use Rattle.rules.specs.Rankings.{Ranking, Ranks}
use Rattle.rules.specs.Calls.{Market, terms, fresh}
use Rattle.law.specs.Tape.{Entry}
use Rattle.law.specs.Judge.{count_upto}
use Rattle.law.specs.Law.{after, tape}
use Rattle.law.specs.Keeping.{AtEveryCall}

abbrev pub one_if : Option Quote → ℕ
one_if None = 0
one_if (Some q) = 1

-- the quotations of a side at the markets 1 to n
unfoldable pub quoted : Quotes → Side → ℕ → ℕ
quoted b s = count_upto (λ m. one_if (b s m))

abbrev pub holdings : Market → ℕ
holdings m = (length m.bids + length m.offers) + (quoted m.quotes Buy 16 + quoted m.quotes Sell 16)

-- a call's rows, and what is held after it, are together at most one more than what was held
abbrev pub RowsCounted : Type 0
RowsCounted = AtEveryCall (λ m c o. length o.rows + holdings o.market ≤ suc (holdings m))

abbrev pub rows_in : List Entry → ℕ
rows_in [] = 0
rows_in (e ∷ es) = length e.rows + rows_in es

-- So a whole tape has at most a row for each call and one for each quotation of the start.
abbrev pub TapeCounted : Type 0
TapeCounted =
    (ranking : Ranking) → Ranks ranking → (b : Quotes) → Lawful b → (cs : List (Call × ℕ))
    → rows_in (tape (terms ranking) (fresh b) cs) + holdings (after (terms ranking) (fresh b) cs) ≤ length cs + holdings (fresh b)
