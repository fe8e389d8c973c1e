-- The two best quotations that the code asked a board for, as the rules speak of them.
-- Rests on who may trade.
use Rattle.rules.specs.Trading.{Bests as BestsOf}
use Rattle.book.specs.declared.types.Bests.{Bests}

abbrev pub asked : Bests → BestsOf
asked x = record { own = x.own; other = x.other }
