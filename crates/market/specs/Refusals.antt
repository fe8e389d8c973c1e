-- The number, the index and the place that belong to each refusal.
-- Rests on the type of a refusal alone.
use Rattle.std.specs.Prelude.{ℕ}
use Rattle.market.specs.declared.types.Refusal.{Refusal}
use Rattle.market.specs.declared.types.Refusal.TheVariants.{Price, Shares, SmallOlo, SmallIlo, LargeMtv, SideFull, ArrivalsSpent, ShortReport, NotResting, CutShares, MarketNumber, Quotation, SideCells, FileSize, Contents, Body, ShortListing, Take}

abbrev pub number_of : Refusal → ℕ
number_of Price = 1
number_of Shares = 2
number_of SmallOlo = 3
number_of SmallIlo = 4
number_of LargeMtv = 5
number_of SideFull = 6
number_of ArrivalsSpent = 7
number_of ShortReport = 8
number_of NotResting = 9
number_of CutShares = 10
number_of MarketNumber = 11
number_of Quotation = 12
number_of SideCells = 13
number_of FileSize = 14
number_of (Contents index place) = 15
number_of (Body index place) = 16
number_of ShortListing = 17
number_of Take = 18

-- which entry of the contents, or which body, is at fault
abbrev pub index_of : Refusal → ℕ
index_of Price = 0
index_of Shares = 0
index_of SmallOlo = 0
index_of SmallIlo = 0
index_of LargeMtv = 0
index_of SideFull = 0
index_of ArrivalsSpent = 0
index_of ShortReport = 0
index_of NotResting = 0
index_of CutShares = 0
index_of MarketNumber = 0
index_of Quotation = 0
index_of SideCells = 0
index_of FileSize = 0
index_of (Contents index place) = index
index_of (Body index place) = index
index_of ShortListing = 0
index_of Take = 0

-- and where in the file
abbrev pub place_of : Refusal → ℕ
place_of Price = 0
place_of Shares = 0
place_of SmallOlo = 0
place_of SmallIlo = 0
place_of LargeMtv = 0
place_of SideFull = 0
place_of ArrivalsSpent = 0
place_of ShortReport = 0
place_of NotResting = 0
place_of CutShares = 0
place_of MarketNumber = 0
place_of Quotation = 0
place_of SideCells = 0
place_of FileSize = 0
place_of (Contents index place) = place
place_of (Body index place) = place
place_of ShortListing = 0
place_of Take = 0
