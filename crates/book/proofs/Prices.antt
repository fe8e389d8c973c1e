-- Conditions 1 and 4 by a lowest and a highest price. Assumes nothing.
use Rattle.std.proofs.Common.{◌≡◌, ◌^◌, ◌<◌, Bool, true, false, cond, ◌&&◌, List, refl, ap, ◌∙◌}
use Rattle.rules.specs.declared.types.Order.{Order}
use Rattle.rules.specs.Orders.{meets}
use Rattle.rules.specs.Trading.{Bests, within_limit, unbarred, reaches_mtv, first_four, behind_displayed, worth, passes}
use Rattle.book.specs.declared.types.Prices.{Prices}
use Rattle.book.specs.Prices.{Bounds, four_between, worth_between, passes_between}

regrouped : (w u m r : Bool) → ((w && u) && (m && r)) ≡ (w && (m && (r && u)))
regrouped true true true true = refl
regrouped true true true false = refl
regrouped true true false r = refl
regrouped true false true true = refl
regrouped true false true false = refl
regrouped true false false r = refl
regrouped false u m r = refl

module _ (i : Order) (x : Bests) (r : Prices) (o : Order) (b : Bounds i x r) (h : o.price < 2 ^ 32) where
  four_is : four_between r i o ≡ first_four i x o
  four_is =
      ap (λ t. t && (meets i.kind o.kind && reaches_mtv i o)) (b o.price h)
      ∙ regrouped (within_limit i o.price) (unbarred i x o.price) (meets i.kind o.kind) (reaches_mtv i o)

  pub worth_is : worth_between r i o ≡ worth i x o
  unfolding worth_between
  worth_is = ap (λ t. cond t o.«open» 0) four_is

  pub passes_is : (own opp : List Order) → passes_between r i own opp o ≡ passes i x own opp o
  unfolding passes passes_between
  passes_is own opp = ap (λ t. t && behind_displayed i own opp o) four_is
