-- The kinds of order: what each carries, which of them meet, and the least ranking size of each.
-- Rests on the types of an order alone.
use Rattle.std.specs.Prelude.{ℕ, ◌*◌, Bool, true, false, ◌||◌, nat_lt}
use Rattle.rules.specs.declared.types.Routing.TheVariants.{Type1, Type2}
use Rattle.rules.specs.declared.types.Mark.TheVariants.{Rest, Cancel}
use Rattle.rules.specs.declared.types.Kind.{Kind}
use Rattle.rules.specs.declared.types.Kind.TheVariants.{Displayed, Dark, Olo, Ilo}

-- the Minimum Triggering Volume, 0 for none
abbrev pub mtv_of : Kind → ℕ
mtv_of Displayed = 0
mtv_of Dark = 0
mtv_of Olo = 0
mtv_of (Ilo routing mtv mark) = mtv

abbrev pub displayed : Kind → Bool
displayed Displayed = true
displayed Dark = false
displayed Olo = false
displayed (Ilo routing mtv mark) = false

abbrev pub is_olo : Kind → Bool
is_olo Displayed = false
is_olo Dark = false
is_olo Olo = true
is_olo (Ilo routing mtv mark) = false

abbrev pub is_ilo : Kind → Bool
is_ilo Displayed = false
is_ilo Dark = false
is_ilo Olo = false
is_ilo (Ilo routing mtv mark) = true

-- OLOs and ILOs are Program orders
abbrev pub program : Kind → Bool
program k = is_olo k || is_ilo k

abbrev pub type2 : Kind → Bool
type2 Displayed = false
type2 Dark = false
type2 Olo = false
type2 (Ilo Type1 mtv mark) = false
type2 (Ilo Type2 mtv mark) = true

-- the residue is cancelled, and else it rests
abbrev pub cancels : Kind → Bool
cancels Displayed = false
cancels Dark = false
cancels Olo = false
cancels (Ilo routing mtv Rest) = false
cancels (Ilo routing mtv Cancel) = true

-- which kinds trade with which, the incoming order's first
abbrev pub meets : Kind → Kind → Bool
meets Displayed Displayed = true
meets Displayed Dark = true
meets Displayed Olo = false
meets Displayed (Ilo routing mtv mark) = true
meets Dark Displayed = true
meets Dark Dark = true
meets Dark Olo = false
meets Dark (Ilo routing mtv mark) = true
meets Olo Displayed = false
meets Olo Dark = false
meets Olo Olo = false
meets Olo (Ilo routing mtv mark) = true
meets (Ilo routing mtv mark) Displayed = true
meets (Ilo routing mtv mark) Dark = true
meets (Ilo routing mtv mark) Olo = true
meets (Ilo routing mtv mark) (Ilo routing' mtv' mark') = true

-- a ranking size that the kind does not allow at this price
abbrev pub too_small : Kind → ℕ → ℕ → Bool
too_small Displayed price size = nat_lt size 1
too_small Dark price size = nat_lt size 1
too_small Olo price size = nat_lt size 500
too_small (Ilo routing mtv mark) price size = nat_lt size 5000 || nat_lt (price * size) 5000000
