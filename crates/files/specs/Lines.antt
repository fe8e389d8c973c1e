-- What a body says: the call that it makes, and the label of a new order.
-- Rests on the fields of a body.
use Rattle.std.specs.Prelude.{◌≡◌, ℕ, zero, suc, Bool, true, false, cond, List, [], ◌∷◌, length, drop, Some, None, Ok, Err, Option, Result, nat_le}
use Rattle.market.specs.declared.types.Side.{Side}
use Rattle.rules.specs.declared.types.Kind.{Kind}
use Rattle.rules.specs.declared.types.Kind.TheVariants.{Displayed, Dark, Olo, Ilo}
use Rattle.shelf.specs.Standing.{nth}
use Rattle.files.specs.declared.types.Body.{Body}
use Rattle.files.specs.declared.types.Body.TheVariants as body
use Rattle.files.specs.declared.types.Fault.{Fault}
use Rattle.files.specs.declared.types.KindLetter.{KindLetter}
use Rattle.files.specs.declared.types.KindLetter.TheVariants as kind
use Rattle.files.specs.declared.types.Letter.{Letter}
use Rattle.files.specs.declared.types.Letter.TheVariants as letter
use Rattle.files.specs.Fields.{number, is_label, first_letter, kind_letter, side_letter, routing_digit, mark_letter, fields}

pub data Line : Type 0 where
  New : List ℕ → Side → ℕ → Kind → ℕ → Line
  Cut : ℕ → ℕ → Line
  Cancel : ℕ → Line
  Post : ℕ → Side → ℕ → ℕ → Line

-- the line that a body of the code stands for: its label is that part of the file
abbrev pub line_of : Body → Line
line_of (body.New label side price kind shares) = New label.now side price kind shares
line_of (body.Cut arrival shares) = Cut arrival shares
line_of (body.Cancel arrival) = Cancel arrival
line_of (body.Post market side price shares) = Post market side price shares

abbrev pub line_in : Option Body → Option Line
line_in None = None
line_in (Some b) = Some (line_of b)

abbrev pub and_then : {A B : Type 0} → Option A → (A → Option B) → Option B
and_then None f = None
and_then (Some a) f = f a

abbrev pub read_by : {A : Type 0} → (List ℕ → Result A Fault) → Option (List ℕ) → Option A
read_by f None = None
read_by f (Some w) = elim (f w) [ Ok a ↦ Some a | Err e ↦ None ]

-- what a field says, by its number
abbrev pub said : {A : Type 0} → (List ℕ → Result A Fault) → ℕ → List (List ℕ) → Option A
said f n ws = read_by f (nth n ws)

-- there is no field of that number
abbrev pub ends_at : ℕ → List (List ℕ) → Bool
ends_at n ws = elim (nth n ws) [ None ↦ true | Some w ↦ false ]

abbrev pub only_at : {A : Type 0} → ℕ → List (List ℕ) → A → Option A
only_at n ws x = cond (ends_at n ws) (Some x) None

abbrev pub label_in : Option (List ℕ) → Option (List ℕ)
label_in None = None
label_in (Some w) = cond (is_label w) (Some w) None

abbrev pub ilo_of : List (List ℕ) → Option Kind
ilo_of ws =
    and_then (said routing_digit 6 ws) (λ r.
    and_then (said number 7 ws) (λ m.
    and_then (said mark_letter 8 ws) (λ k. only_at 9 ws (Ilo r m k))))

abbrev pub kind_from : List (List ℕ) → KindLetter → Option Kind
kind_from ws kind.Displayed = only_at 6 ws Displayed
kind_from ws kind.Dark = only_at 6 ws Dark
kind_from ws kind.Olo = only_at 6 ws Olo
kind_from ws kind.Ilo = ilo_of ws

abbrev pub new_of : List (List ℕ) → Option Line
new_of ws =
    and_then (label_in (nth 1 ws)) (λ l.
    and_then (and_then (said kind_letter 2 ws) (kind_from ws)) (λ k.
    and_then (said side_letter 3 ws) (λ s.
    and_then (said number 4 ws) (λ p.
    and_then (said number 5 ws) (λ n. Some (New l s p k n))))))

abbrev pub cut_of : List (List ℕ) → Option Line
cut_of ws = and_then (said number 1 ws) (λ a. and_then (said number 2 ws) (λ n. only_at 3 ws (Cut a n)))

abbrev pub cancel_of : List (List ℕ) → Option Line
cancel_of ws = and_then (said number 1 ws) (λ a. only_at 2 ws (Cancel a))

abbrev pub post_of : List (List ℕ) → Option Line
post_of ws =
    and_then (said number 1 ws) (λ m.
    and_then (said side_letter 2 ws) (λ s.
    and_then (said number 3 ws) (λ p.
    and_then (said number 4 ws) (λ n. only_at 5 ws (Post m s p n)))))

abbrev pub line_from : List (List ℕ) → Letter → Option Line
line_from ws letter.New = new_of ws
line_from ws letter.Cut = cut_of ws
line_from ws letter.Cancel = cancel_of ws
line_from ws letter.Post = post_of ws

-- what the fields of a body say, if they say anything
abbrev pub read_words : List (List ℕ) → Option Line
read_words ws = and_then (said first_letter 0 ws) (line_from ws)

unfoldable pub read_line : List ℕ → Option Line
read_line body = read_words (fields body)

-- the fields of a body from a place on: none from a place past its end
unfoldable pub left : ℕ → List ℕ → List (List ℕ)
left at bytes = cond (nat_le at (length bytes)) (fields (drop at bytes)) []

-- fields with others before them, whatever those say
abbrev pub past : ℕ → List (List ℕ) → List (List ℕ)
past zero ws = ws
past (suc n) ws = [] ∷ past n ws

-- the first of some fields says a value, and the others stand behind it
abbrev pub Says : {A : Type 0} → (List ℕ → Result A Fault) → List (List ℕ) → A → List (List ℕ) → Type 0
Says f ws a others = (w : List ℕ) × (ws ≡ w ∷ others) × (f w ≡ Ok a)
