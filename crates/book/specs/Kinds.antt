-- The row of a kind in the table of which kinds meet.
-- Rests on the kinds of order alone.
use Rattle.std.specs.Prelude.{ℕ}
use Rattle.rules.specs.declared.types.Kind.{Kind}
use Rattle.rules.specs.declared.types.Kind.TheVariants.{Displayed, Dark, Olo, Ilo}

abbrev pub kind_row : Kind → ℕ
kind_row Displayed = 0
kind_row Dark = 1
kind_row Olo = 2
kind_row (Ilo routing mtv mark) = 3
