use Rattle.market.specs.declared.types.Side.TheVariants.{Buy, Sell}
use Rattle.std.proofs.Common.{◌≡◌, None}
use Rattle.board.specs.Sides.{both_sides}
use Rattle.board.proofs.two_sided.TwoSided.new.Goals as goal

pub returns : goal.returns
returns g c = λ s m.
    elim s as (λ t. both_sides (g.S.BoardSide.quoted c.new.result) (g.S.BoardSide.quoted c.new-2.result) t m ≡ None) [ Buy ↦ c.new.ensures.none m | Sell ↦ c.new-2.ensures.none m ]
