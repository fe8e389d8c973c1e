-- The order in which orders stand on a side: by price, then class, then within the class.
-- Rests on the total orders of a shelf and on the kinds of order.
use Rattle.std.specs.Prelude.{◌≡◌, ℕ, Bool, true, false, cond, not, ltb, ◌==◌, ◌≢◌, nat_lt}
use Rattle.market.specs.declared.types.Side.{Side}
use Rattle.market.specs.Words.{better}
use Rattle.shelf.specs.Order.{lex}
use Rattle.rules.specs.declared.types.Class.{Class}
use Rattle.rules.specs.declared.types.Class.TheVariants as class
use Rattle.rules.specs.declared.types.Kind.{Kind}
use Rattle.rules.specs.declared.types.Kind.TheVariants.{Displayed, Dark, Olo, Ilo}
use Rattle.rules.specs.declared.types.Order.{Order}
use Rattle.rules.specs.declared.types.OrderKey.{OrderKey}

-- told the ranking size and the arrival of two Program orders, whether the first is ahead; being a
-- function of these four figures, it gives equal answers for equal figures
abbrev pub Ranking : Type 0
Ranking = ℕ → ℕ → ℕ → ℕ → Bool

-- what a lawful ranking shows, for all figures
pub record Ranks (ahead : Ranking) : Type 0 where
  pub never : (s a : ℕ) → ahead s a s a ≡ false
  pub either : (s a t b : ℕ) → (a ≢ b) → ahead s a t b ≡ not (ahead t b s a)
  pub chain : (s a t b u c : ℕ) → ahead s a t b ≡ true → ahead t b u c ≡ true → ahead s a u c ≡ true

-- Rule 107D's own: the larger ranking size, then the lower arrival
abbrev pub size_time : Ranking
size_time s a t b = cond (s == t) (nat_lt a b) (nat_lt t s)

abbrev pub time_only : Ranking
time_only s a t b = nat_lt a b

abbrev pub class_of : Kind → Class
class_of Displayed = class.Displayed
class_of Dark = class.Dark
class_of Olo = class.Program
class_of (Ilo routing mtv mark) = class.Program

-- displayed before Program before dark
abbrev pub class_rank : Class → ℕ
class_rank class.Displayed = 0
class_rank class.Program = 1
class_rank class.Dark = 2

abbrev pub key_of : Order → OrderKey
key_of o = record { price = o.price; class = class_of o.kind; size = o.size; arrival = o.arrival }

-- within a class: Program orders by the ranking, the others by arrival
abbrev pub within_class : Ranking → OrderKey → OrderKey → Bool
within_class ranking a b =
    cond (class_rank a.class == 1) (ranking a.size a.arrival b.size b.arrival) (nat_lt a.arrival b.arrival)

-- highest bid or lowest offer first, then the class, then within the class
abbrev pub key_ahead : Side → Ranking → OrderKey → OrderKey → Bool
key_ahead side ranking =
    lex (λ k. k.price) (better side) (lex (λ k. class_rank k.class) (λ x y. ltb x y) (within_class ranking))

-- the first order stands before the second on this side
abbrev pub before : Ranking → Side → Order → Order → Bool
before ranking side x y = key_ahead side ranking (key_of x) (key_of y)
