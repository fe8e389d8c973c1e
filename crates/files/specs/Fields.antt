-- The fields of a body: where they part, what each may be, and the first that is malformed.
-- Rests on bytes as numbers, and on the enums that a field may stand for.
use Rattle.std.specs.Prelude.{ℕ, ◌+◌, ◌-◌, ◌*◌, Bool, true, false, cond, ◌&&◌, ◌||◌, List, [], ◌∷◌, length, drop, Some, None, Ok, Err, Option, Result, ◌==◌, nat_le, nat_lt, slice_index}
use Rattle.std.specs.List.{fold, list_all}
use Rattle.market.specs.declared.types.Side.{Side}
use Rattle.market.specs.declared.types.Side.TheVariants.{Buy, Sell}
use Rattle.rules.specs.declared.types.Routing.{Routing}
use Rattle.rules.specs.declared.types.Routing.TheVariants.{Type1, Type2}
use Rattle.rules.specs.declared.types.Mark.{Mark}
use Rattle.rules.specs.declared.types.Mark.TheVariants as mark
use Rattle.files.specs.declared.types.Fault.{Fault}
use Rattle.files.specs.declared.types.Fault.TheVariants.{Missing, Surplus, TooLong, NotANumber, UnknownLetter, BadLabel}
use Rattle.files.specs.declared.types.Letter.{Letter}
use Rattle.files.specs.declared.types.Letter.TheVariants as letter
use Rattle.files.specs.declared.types.KindLetter.{KindLetter}
use Rattle.files.specs.declared.types.KindLetter.TheVariants as kind
use Rattle.files.specs.declared.types.Wanted.{Wanted}
use Rattle.files.specs.declared.types.Wanted.TheVariants as want

-- the bytes up to the next mark, which parts them from what follows, or to the end
abbrev pub word : ℕ → List ℕ → List ℕ
word m [] = []
word m (c ∷ cs) = cond (c == m) [] (c ∷ word m cs)

-- the words behind the first
abbrev pub further : ℕ → List ℕ → List (List ℕ)
further m [] = []
further m (c ∷ cs) = cond (c == m) (word m cs ∷ further m cs) (further m cs)

-- only a space parts fields; an empty body has one field, an empty one
abbrev pub fields : List ℕ → List (List ℕ)
fields body = word 32 body ∷ further 32 body

-- the bytes that numbers and labels are made of
pub data Alphabet : Type 0 where
  Digits : Alphabet
  LabelLetters : Alphabet

abbrev pub belongs : Alphabet → ℕ → Bool
belongs Digits c = nat_le 48 c && nat_le c 57
belongs LabelLetters c = (nat_le 65 c && nat_le c 90) || (nat_le 48 c && nat_le c 57)

abbrev pub every : (ℕ → Bool) → List ℕ → Bool
every p w = list_all p w

-- the number that digits write, after n before them
abbrev pub figure : ℕ → List ℕ → ℕ
figure n w = fold (λ m c. m * 10 + (c - 48)) n w

-- 1 to 7 digits, no needless leading zero
abbrev pub number : List ℕ → Result ℕ Fault
number w =
    cond (nat_lt 0 (length w) && every (belongs Digits) w)
    (cond (nat_lt 7 (length w)) (Err TooLong) (cond (nat_lt 1 (length w) && slice_index w 0 == 48) (Err NotANumber) (Ok (figure 0 w))))
    (Err NotANumber)

-- 1 to 12 capital letters and digits
abbrev pub is_label : List ℕ → Bool
is_label w = nat_lt 0 (length w) && nat_le (length w) 12 && every (belongs LabelLetters) w

-- the byte of a field of exactly one
abbrev pub sole : List ℕ → Option ℕ
sole [] = None
sole (c ∷ []) = Some c
sole (c ∷ d ∷ cs) = None

-- N, U, X and Q
abbrev pub first_letter : List ℕ → Result Letter Fault
first_letter w = elim (sole w) [
  | None ↦ Err UnknownLetter
  | Some c ↦ cond (c == 78) (Ok letter.New) (cond (c == 85) (Ok letter.Cut) (cond (c == 88) (Ok letter.Cancel) (cond (c == 81) (Ok letter.Post) (Err UnknownLetter))))
]

-- L, D, O and I
abbrev pub kind_letter : List ℕ → Result KindLetter Fault
kind_letter w = elim (sole w) [
  | None ↦ Err UnknownLetter
  | Some c ↦ cond (c == 76) (Ok kind.Displayed) (cond (c == 68) (Ok kind.Dark) (cond (c == 79) (Ok kind.Olo) (cond (c == 73) (Ok kind.Ilo) (Err UnknownLetter))))
]

-- B and S
abbrev pub side_letter : List ℕ → Result Side Fault
side_letter w = elim (sole w) [ None ↦ Err UnknownLetter | Some c ↦ cond (c == 66) (Ok Buy) (cond (c == 83) (Ok Sell) (Err UnknownLetter)) ]

-- 1 and 2
abbrev pub routing_digit : List ℕ → Result Routing Fault
routing_digit w = elim (sole w) [ None ↦ Err UnknownLetter | Some c ↦ cond (c == 49) (Ok Type1) (cond (c == 50) (Ok Type2) (Err UnknownLetter)) ]

-- R and C
abbrev pub mark_letter : List ℕ → Result Mark Fault
mark_letter w = elim (sole w) [ None ↦ Err UnknownLetter | Some c ↦ cond (c == 82) (Ok mark.Rest) (cond (c == 67) (Ok mark.Cancel) (Err UnknownLetter)) ]

abbrev pub begun : Letter → Wanted
begun letter.New = want.Label
begun letter.Cut = want.CutArrival
begun letter.Cancel = want.CancelArrival
begun letter.Post = want.Market

-- the fields of an ILO behind its kind are the others' and three more
abbrev pub sided : KindLetter → Wanted
sided kind.Displayed = want.Side
sided kind.Dark = want.Side
sided kind.Olo = want.Side
sided kind.Ilo = want.IloSide

abbrev pub then_wanted : {A : Type 0} → Result A Fault → (A → Wanted) → Result Wanted Fault
then_wanted (Ok a) next = Ok (next a)
then_wanted (Err e) next = Err e

-- what is wanted behind a field
abbrev pub after : Wanted → List ℕ → Result Wanted Fault
after want.First w = then_wanted (first_letter w) begun
after want.Label w = cond (is_label w) (Ok want.Kind) (Err BadLabel)
after want.Kind w = then_wanted (kind_letter w) sided
after want.Side w = then_wanted (side_letter w) (λ _. want.Price)
after want.Price w = then_wanted (number w) (λ _. want.Shares)
after want.Shares w = then_wanted (number w) (λ _. want.End)
after want.IloSide w = then_wanted (side_letter w) (λ _. want.IloPrice)
after want.IloPrice w = then_wanted (number w) (λ _. want.IloShares)
after want.IloShares w = then_wanted (number w) (λ _. want.Routing)
after want.Routing w = then_wanted (routing_digit w) (λ _. want.Mtv)
after want.Mtv w = then_wanted (number w) (λ _. want.Mark)
after want.Mark w = then_wanted (mark_letter w) (λ _. want.End)
after want.CutArrival w = then_wanted (number w) (λ _. want.Shares)
after want.CancelArrival w = then_wanted (number w) (λ _. want.End)
after want.Market w = then_wanted (number w) (λ _. want.Side)
after want.End w = Err Surplus

abbrev pub is_end : Wanted → Bool
is_end want.First = false
is_end want.Label = false
is_end want.Kind = false
is_end want.Side = false
is_end want.Price = false
is_end want.Shares = false
is_end want.IloSide = false
is_end want.IloPrice = false
is_end want.IloShares = false
is_end want.Routing = false
is_end want.Mtv = false
is_end want.Mark = false
is_end want.CutArrival = false
is_end want.CancelArrival = false
is_end want.Market = false
is_end want.End = true

-- an empty field at the body's end is missing, unless none is wanted
abbrev pub read_field : Wanted → List ℕ → Bool → Result Wanted Fault
read_field wanted w last = cond (last && length w == 0) (cond (is_end wanted) (Err Surplus) (Err Missing)) (after wanted w)

-- a malformed field: why, and the place of its first byte
pub record Malformed : Type 0 where
  pub fault : Fault
  pub place : ℕ

abbrev pub none : List (List ℕ) → Bool
none [] = true
none (w ∷ ws) = false

-- the first malformed field of those from a place on; a field that is missing has the body's end for its place
abbrev pub fault_from : Wanted → List (List ℕ) → ℕ → Option Malformed
fault_from wanted [] at = cond (is_end wanted) None (Some (record { fault = Missing; place = at - 1 }))
fault_from wanted (w ∷ ws) at = elim (read_field wanted w (none ws)) [
  | Ok next ↦ fault_from next ws (at + length w + 1)
  | Err e ↦ Some (record { fault = e; place = at })
]

-- the same of the fields of a body from a place on
unfoldable pub fault_past : Wanted → List ℕ → ℕ → Option Malformed
fault_past wanted body at = fault_from wanted (fields (drop at body)) at

abbrev pub fault_of : List ℕ → Option Malformed
fault_of body = fault_past want.First body 0
