-- What stands on a ladder: the order of its levels, the quotation of each market, the best, and what holds of every side.
-- Rests on Quotes and Sides, and on the orders and searches of a shelf.
use Rattle.std.specs.Prelude.{ℕ, Bool, true, cond, not, ◌&&◌, List, [], ◌∷◌, Some, None, Option, ◌==◌, nat_lt, slice_get}
use Rattle.std.specs.List.{list_all, remove}
use Rattle.market.specs.declared.types.Side.{Side}
use Rattle.market.specs.Words.{better}
use Rattle.shelf.specs.Order.{lex}
use Rattle.shelf.specs.Standing.{first_at}
use Rattle.board.specs.declared.types.Quote.{Quote}
use Rattle.board.specs.declared.types.Best.{Best}
use Rattle.board.specs.declared.types.Rung.{Rung}
use Rattle.board.specs.Quotes.{market_ok, quote_ok}

abbrev pub rung_of : Best → Rung
rung_of x = record { price = x.quote.price; market = x.market }

abbrev pub level_of : ℕ → Quote → Best
level_of m q = record { market = m; quote = q }

-- the better price first, then the lower market
abbrev pub over : Side → Rung → Rung → Bool
over s = lex (λ k. k.price) (better s) (λ a b. nat_lt a.market b.market)

abbrev pub before : Side → Best → Best → Bool
before s x y = over s (rung_of x) (rung_of y)

abbrev pub of_market : ℕ → Best → Bool
of_market m x = x.market == m

-- the quotation of a market: that of its first level
abbrev pub rail_quote : List Best → ℕ → Option Quote
rail_quote [] m = None
rail_quote (x ∷ xs) m = cond (of_market m x) (Some x.quote) (rail_quote xs m)

-- the best of a side stands first
abbrev pub rail_best : List Best → Option Best
rail_best xs = slice_get xs 0

-- the levels but the first of a market
abbrev pub without : ℕ → List Best → List Best
without m xs = remove xs (first_at (of_market m) xs)

-- each level lies in its ranges
abbrev pub level_ok : Best → Bool
level_ok x = market_ok x.market && quote_ok (Some x.quote)

-- x stands ahead of y, and is of another market
abbrev pub leads : Side → Best → Best → Bool
leads s x y = before s x y && not (x.market == y.market)

-- the levels of a side: in their ranges, in order, one at most for each market
abbrev pub rail_ok : Side → List Best → Bool
rail_ok s [] = true
rail_ok s (x ∷ xs) = level_ok x && (list_all (leads s x) xs && rail_ok s xs)
