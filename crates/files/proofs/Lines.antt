-- The words of a lawful line have no fault and say that line; and words without a fault are those of a lawful line. Assumes nothing.
use Rattle.std.proofs.Common.{◌≡◌, ℕ, ◌+◌, ◌-◌, ◌<◌, Bool, true, false, cond, ◌&&◌, eqb, ltb, leb, List, [], ◌∷◌, length, Some, None, Ok, Err, decimal, Option, Result, sym, refl, ap, ◌∙◌, subst, arith, lit<}
use Rattle.std.specs.List.{AllByRecursion}
use Rattle.std.proofs.lemmas.Bool.{and_parts, ltb-true, cond-true}
use Rattle.std.proofs.lemmas.Bool.Decides.{nat_tests}
use Rattle.market.specs.declared.types.Side.{Side}
use Rattle.market.specs.declared.types.Side.TheVariants.{Buy, Sell}
use Rattle.rules.specs.declared.types.Kind.{Kind}
use Rattle.rules.specs.declared.types.Kind.TheVariants.{Displayed, Dark, Olo, Ilo}
use Rattle.rules.specs.declared.types.Routing.{Routing}
use Rattle.rules.specs.declared.types.Routing.TheVariants.{Type1, Type2}
use Rattle.rules.specs.declared.types.Mark.{Mark}
use Rattle.rules.specs.declared.types.Mark.TheVariants as mark
use Rattle.shelf.specs.Standing.{nth}
use Rattle.files.specs.declared.types.Fault.{Fault}
use Rattle.files.specs.declared.types.Fault.TheVariants.{Missing, Surplus, BadLabel}
use Rattle.files.specs.declared.types.Letter.{Letter}
use Rattle.files.specs.declared.types.Letter.TheVariants as letter
use Rattle.files.specs.declared.types.KindLetter.{KindLetter}
use Rattle.files.specs.declared.types.KindLetter.TheVariants as kind
use Rattle.files.specs.declared.types.Wanted.{Wanted}
use Rattle.files.specs.declared.types.Wanted.TheVariants as want
use Rattle.files.specs.Fields.{Malformed, none, is_label, number, first_letter, kind_letter, side_letter, routing_digit, mark_letter, begun, sided, then_wanted, after, is_end, read_field, fault_from, fault_past, fault_of, fields}
use Rattle.files.specs.Lines.{Line, New, Cut, Cancel, Post, and_then, said, read_words, read_line, label_in, kind_from}
use Rattle.files.specs.Written.{side_bytes, routing_bytes, mark_bytes, kind_bytes, ilo_words, words, spaced, body_bytes, Small, LawfulKind, LawfulLine}
use Rattle.files.proofs.Words.{by_test}
use Rattle.files.proofs.Spacing.{Unspaced, spaced_fields, fields_spaced}
use Rattle.files.proofs.Values.{number_decimal, number_is, side_is, routing_is, mark_is, letter_bytes, letter_is, kind_letter_bytes, kind_letter_is, side_reads, routing_reads, mark_reads, decimal_unspaced, label_unspaced, side_unspaced, routing_unspaced, mark_unspaced, decimal_long}

-- From lines to words.

-- the words pass, wherever they begin
pub record Pass (wanted : Wanted) (ws : List (List ℕ)) : Type 0 where
  pub clean : (at : ℕ) → fault_from wanted ws at ≡ None

pub pass_more : (wanted : Wanted) (w : List ℕ) (ws : List (List ℕ)) (next : Wanted) → after wanted w ≡ Ok next → 0 < length w → Pass next ws → Pass wanted (w ∷ ws)
pass_more wanted w ws next e h p =
    let r : read_field wanted w (none ws) ≡ Ok next = not_missing (none ws) (length w) h ∙ e in
    record { clean = λ at. ap (λ x. elim x [ Ok n ↦ fault_from n ws (at + length w + 1) | Err f ↦ Some (record { fault = f; place = at }) ]) r ∙ p.clean (at + length w + 1) }
  where
    not_missing : (b : Bool) (l : ℕ) → 0 < l → cond (b && eqb l 0) (cond (is_end wanted) (Err Surplus) (Err Missing)) (after wanted w) ≡ after wanted w
    not_missing true l k = grind (arith, nat_tests)
    not_missing false l k = refl

pub pass_end : Pass want.End []
pass_end = record { clean = λ at. refl }

pub pass_number : (wanted next : Wanted) (n : ℕ) (ws : List (List ℕ)) → ((w : List ℕ) → after wanted w ≡ then_wanted (number w) (λ _. next)) → Small n → Pass next ws → Pass wanted (decimal n ∷ ws)
pass_number wanted next n ws is h p = pass_more wanted (decimal n) ws next (is (decimal n) ∙ ap (λ r. then_wanted r (λ _. next)) (number_decimal n h)) (decimal_long n h) p

pub pass_two : (p n : ℕ) → Small p → Small n → Pass want.Price (decimal p ∷ decimal n ∷ [])
pass_two p n h k = pass_number want.Price want.Shares p _ (λ w. refl) h (pass_number want.Shares want.End n [] (λ w. refl) k pass_end)

pub pass_side : (s : Side) (p n : ℕ) → Small p → Small n → Pass want.Side (side_bytes s ∷ decimal p ∷ decimal n ∷ [])
pass_side Buy p n h k = pass_more want.Side _ _ want.Price refl (lit< tt) (pass_two p n h k)
pass_side Sell p n h k = pass_more want.Side _ _ want.Price refl (lit< tt) (pass_two p n h k)

pub pass_mark : (m : Mark) → Pass want.Mark (mark_bytes m ∷ [])
pass_mark mark.Rest = pass_more want.Mark _ [] want.End refl (lit< tt) pass_end
pass_mark mark.Cancel = pass_more want.Mark _ [] want.End refl (lit< tt) pass_end

pub pass_routing : (r : Routing) (v : ℕ) (m : Mark) → Small v → Pass want.Routing (routing_bytes r ∷ decimal v ∷ mark_bytes m ∷ [])
pass_routing Type1 v m h = pass_more want.Routing _ _ want.Mtv refl (lit< tt) (pass_number want.Mtv want.Mark v _ (λ w. refl) h (pass_mark m))
pass_routing Type2 v m h = pass_more want.Routing _ _ want.Mtv refl (lit< tt) (pass_number want.Mtv want.Mark v _ (λ w. refl) h (pass_mark m))

pub pass_ilo_side : (s : Side) (p n : ℕ) (r : Routing) (v : ℕ) (m : Mark) → Small p → Small n → Small v → Pass want.IloSide (side_bytes s ∷ decimal p ∷ decimal n ∷ routing_bytes r ∷ decimal v ∷ mark_bytes m ∷ [])
pass_ilo_side s p n r v m h k l =
    let q = pass_number want.IloPrice want.IloShares p _ (λ w. refl) h (pass_number want.IloShares want.Routing n _ (λ w. refl) k (pass_routing r v m l)) in
    pass_more want.IloSide (side_bytes s) _ want.IloPrice (ap (λ x. then_wanted x (λ _. want.IloPrice)) (side_reads s)) (long s) q
  where
    long : (t : Side) → 0 < length (side_bytes t)
    long Buy = lit< tt
    long Sell = lit< tt

pub pass_kind : (k : Kind) (s : Side) (p n : ℕ) → LawfulKind k → Small p → Small n → Pass want.Kind (kind_bytes k ∷ side_bytes s ∷ decimal p ∷ decimal n ∷ ilo_words k)
pass_kind Displayed s p n l h k = pass_more want.Kind _ _ want.Side refl (lit< tt) (pass_side s p n h k)
pass_kind Dark s p n l h k = pass_more want.Kind _ _ want.Side refl (lit< tt) (pass_side s p n h k)
pass_kind Olo s p n l h k = pass_more want.Kind _ _ want.Side refl (lit< tt) (pass_side s p n h k)
pass_kind (Ilo r v m) s p n l h k = pass_more want.Kind _ _ want.IloSide refl (lit< tt) (pass_ilo_side s p n r v m h k l)

label_long : (w : List ℕ) → is_label w ≡ true → 0 < length w
label_long w e = ltb-true 0 (length w) (and_parts (ltb 0 (length w)) (leb (length w) 12) (and_parts (ltb 0 (length w) && leb (length w) 12) _ e).0).0

pub pass_words : (line : Line) → LawfulLine line → Pass want.First (words line)
pass_words (New l s p k n) h =
    pass_more want.First _ _ want.Label refl (lit< tt) (pass_more want.Label l _ want.Kind (cond-true (is_label l) _ _ h.0) (label_long l h.0) (pass_kind k s p n h.2 h.1 h.3))
pass_words (Cut a n) h =
    pass_more want.First _ _ want.CutArrival refl (lit< tt) (pass_number want.CutArrival want.Shares a _ (λ w. refl) h.0 (pass_number want.Shares want.End n [] (λ w. refl) h.1 pass_end))
pass_words (Cancel a) h =
    pass_more want.First _ _ want.CancelArrival refl (lit< tt) (pass_number want.CancelArrival want.End a [] (λ w. refl) h pass_end)
pass_words (Post m s p n) h =
    pass_more want.First _ _ want.Market refl (lit< tt) (pass_number want.Market want.Side m _ (λ w. refl) h.0 (pass_side s p n h.1 h.2))

-- what is read of them

and_then_some : {A B : Type 0} (o : Option A) (a : A) (f : A → Option B) → o ≡ Some a → and_then o f ≡ f a
and_then_some o a f e = ap (λ x. and_then x f) e

said_ok : {A : Type 0} (r : Result A Fault) (a : A) → r ≡ Ok a → (elim r [ Ok x ↦ Some x | Err _ ↦ None ]) ≡ Some a
said_ok r a e = ap (λ z. elim z [ Ok x ↦ Some x | Err _ ↦ None ]) e

pub read_words_back : (line : Line) → LawfulLine line → read_words (words line) ≡ Some line
read_words_back (New l s p k n) h =
    let w = words (New l s p k n) in
    let a : label_in (nth 1 w) ≡ Some l = cond-true (is_label l) _ _ h.0 in
    let b : and_then (said kind_letter 2 w) (kind_from w) ≡ Some k = kind_back k h.2 in
    let c : said side_letter 3 w ≡ Some s = said_ok _ _ (side_reads s) in
    let d : said number 4 w ≡ Some p = said_ok _ _ (number_decimal p h.1) in
    let e : said number 5 w ≡ Some n = said_ok _ _ (number_decimal n h.3) in
    and_then_some (label_in (nth 1 w)) l _ a
    ∙ and_then_some (and_then (said kind_letter 2 w) (kind_from w)) k _ b
    ∙ and_then_some (said side_letter 3 w) s _ c
    ∙ and_then_some (said number 4 w) p _ d
    ∙ and_then_some (said number 5 w) n _ e
  where
    kind_back : (j : Kind) → LawfulKind j → and_then (said kind_letter 2 (words (New l s p j n))) (kind_from (words (New l s p j n))) ≡ Some j
    kind_back Displayed g = refl
    kind_back Dark g = refl
    kind_back Olo g = refl
    kind_back (Ilo r v m) g =
        let w = words (New l s p (Ilo r v m) n) in
        and_then_some (said routing_digit 6 w) r _ (said_ok _ _ (routing_reads r))
        ∙ and_then_some (said number 7 w) v _ (said_ok _ _ (number_decimal v g))
        ∙ and_then_some (said mark_letter 8 w) m _ (said_ok _ _ (mark_reads m))
read_words_back (Cut a n) h =
    let w = words (Cut a n) in
    and_then_some (said number 1 w) a _ (said_ok _ _ (number_decimal a h.0))
    ∙ and_then_some (said number 2 w) n _ (said_ok _ _ (number_decimal n h.1))
read_words_back (Cancel a) h =
    and_then_some (said number 1 (words (Cancel a))) a _ (said_ok _ _ (number_decimal a h))
read_words_back (Post m s p n) h =
    let w = words (Post m s p n) in
    and_then_some (said number 1 w) m _ (said_ok _ _ (number_decimal m h.0))
    ∙ and_then_some (said side_letter 2 w) s _ (said_ok _ _ (side_reads s))
    ∙ and_then_some (said number 3 w) p _ (said_ok _ _ (number_decimal p h.1))
    ∙ and_then_some (said number 4 w) n _ (said_ok _ _ (number_decimal n h.2))

ilo_unspaced : (k : Kind) → LawfulKind k → AllByRecursion Unspaced (ilo_words k)
ilo_unspaced Displayed h = tt
ilo_unspaced Dark h = tt
ilo_unspaced Olo h = tt
ilo_unspaced (Ilo r v m) h = (routing_unspaced r, (decimal_unspaced v h, (mark_unspaced m, tt)))

kind_unspaced : (k : Kind) → Unspaced (kind_bytes k)
kind_unspaced Displayed = ((λ e. omega arith), tt)
kind_unspaced Dark = ((λ e. omega arith), tt)
kind_unspaced Olo = ((λ e. omega arith), tt)
kind_unspaced (Ilo r v m) = ((λ e. omega arith), tt)

fields_body : (line : Line) → LawfulLine line → fields (spaced (words line)) ≡ words line
fields_body (New l s p k n) h =
    fields_spaced _ _ (((λ e. omega arith), tt), (label_unspaced l h.0, (kind_unspaced k, (side_unspaced s, (decimal_unspaced p h.1, (decimal_unspaced n h.3, ilo_unspaced k h.2))))))
fields_body (Cut a n) h = fields_spaced _ _ (((λ e. omega arith), tt), (decimal_unspaced a h.0, (decimal_unspaced n h.1, tt)))
fields_body (Cancel a) h = fields_spaced _ _ (((λ e. omega arith), tt), (decimal_unspaced a h, tt))
fields_body (Post m s p n) h =
    fields_spaced _ _ (((λ e. omega arith), tt), (decimal_unspaced m h.0, (side_unspaced s, (decimal_unspaced p h.1, (decimal_unspaced n h.2, tt)))))

-- a lawful line, written, has no fault
pub body_clean : (line : Line) → LawfulLine line → fault_of (body_bytes line) ≡ None
unfolding body_bytes fault_past
body_clean line h = ap (λ ws. fault_from want.First ws 0) (fields_body line h) ∙ (pass_words line h).clean 0

-- and reads back
pub body_reads : (line : Line) → LawfulLine line → read_line (body_bytes line) ≡ Some line
unfolding body_bytes read_line
body_reads line h = ap read_words (fields_body line h) ∙ read_words_back line h

-- From words to lines.

-- the words pass from some place on
pub record Passed (wanted : Wanted) (ws : List (List ℕ)) : Type 0 where
  pub at : ℕ
  pub clean : fault_from wanted ws at ≡ None

-- a first word that says a value, and the words behind it
pub record Began {A : Type 0} (write : A → List ℕ) (Good : A → Type 0) (next : A → Wanted) (ws : List (List ℕ)) : Type 0 where
  pub value : A
  pub rest : List (List ℕ)
  pub good : Good value
  pub is : ws ≡ write value ∷ rest
  pub passed : Passed (next value) rest

pub read_after : (wanted : Wanted) (w : List ℕ) (last : Bool) (next : Wanted) → read_field wanted w last ≡ Ok next → after wanted w ≡ Ok next
read_after wanted w last next e =
    by_test (last && eqb (length w) 0) (λ b. cond b (cond (is_end wanted) (Err Surplus) (Err Missing)) (after wanted w) ≡ Ok next → after wanted w ≡ Ok next)
    (λ t h. absurd (never (is_end wanted) h)) (λ t h. h) e
  where
    never : (b : Bool) → ◌≡◌ {A = Result Wanted Fault} (cond b (Err Surplus) (Err Missing)) (Ok next) → ⊥
    never true h = let z : ◌≡◌ {A = ℕ} 0 1 = cc in omega arith
    never false h = let z : ◌≡◌ {A = ℕ} 0 1 = cc in omega arith

-- the first word of those that pass was read, and the others pass behind it
pub record Stepped (wanted : Wanted) (w : List ℕ) (ws : List (List ℕ)) : Type 0 where
  pub next : Wanted
  pub reads : after wanted w ≡ Ok next
  pub passed : Passed next ws

pub stepped : (wanted : Wanted) (w : List ℕ) (ws : List (List ℕ)) → Passed wanted (w ∷ ws) → Stepped wanted w ws
stepped wanted w ws p = by_read (read_field wanted w (none ws)) refl p.clean
  where
    by_read : (r : Result Wanted Fault) → read_field wanted w (none ws) ≡ r → ◌≡◌ {A = Option Malformed} (elim r [ Ok n ↦ fault_from n ws (p.at + length w + 1) | Err f ↦ Some (record { fault = f; place = p.at }) ]) None → Stepped wanted w ws
    by_read (Ok n) e h = record { next = n; reads = read_after wanted w (none ws) n e; passed = record { at = p.at + length w + 1; clean = h } }
    by_read (Err f) e h = absurd (let z : ◌≡◌ {A = ℕ} 0 1 = cc in omega arith)

pub missing : (b : Bool) (m : Malformed) → b ≡ false → ◌≡◌ {A = Option Malformed} (cond b None (Some m)) None → ⊥
missing true m e h = let z : ◌≡◌ {A = ℕ} 0 1 = cc in omega arith
missing false m e h = let z : ◌≡◌ {A = ℕ} 0 1 = cc in omega arith

-- one field, whatever it says
module _ {A : Type 0} (read : List ℕ → Result A Fault) (write : A → List ℕ) (Good : A → Type 0) (is : (w : List ℕ) (a : A) → read w ≡ Ok a → Good a × (w ≡ write a))
    (wanted : Wanted) (next : A → Wanted) (more : is_end wanted ≡ false) (how : (w : List ℕ) → after wanted w ≡ then_wanted (read w) next) where
  began : (ws : List (List ℕ)) → Passed wanted ws → Began write Good next ws
  began [] p = absurd (missing (is_end wanted) (record { fault = Missing; place = p.at - 1 }) more p.clean)
  began (w ∷ ws) p =
      let s = stepped wanted w ws p in
      by_value (read w) refl (sym (how w) ∙ s.reads) s.passed
    where
      by_value : {n : Wanted} (r : Result A Fault) → read w ≡ r → then_wanted r next ≡ Ok n → Passed n ws → Began write Good next (w ∷ ws)
      by_value {n} (Ok a) e h q =
          let j : next a ≡ n = cc in
          record { value = a; rest = ws; good = (is w a e).0; is = ap (λ v. v ∷ ws) (is w a e).1; passed = subst (λ m. Passed m ws) (sym j) q }
      by_value (Err f) e h q = absurd (let z : ◌≡◌ {A = ℕ} 0 1 = cc in omega arith)

ended : (ws : List (List ℕ)) → Passed want.End ws → ws ≡ []
ended [] p = refl
ended (w ∷ ws) p = absurd (let s = (stepped want.End w ws p).reads in let z : ◌≡◌ {A = ℕ} 0 1 = cc in omega arith)

-- The fields behind each state, from the last one back.

abbrev Any : {A : Type 0} → A → Type 0
Any a = Unit {0}

number_began : (wanted next : Wanted) → is_end wanted ≡ false → ((w : List ℕ) → after wanted w ≡ then_wanted (number w) (λ _. next)) → (ws : List (List ℕ)) → Passed wanted ws → Began decimal Small (λ _. next) ws
number_began wanted next m h = began number decimal Small number_is wanted (λ _. next) m h

side_began : (wanted next : Wanted) → is_end wanted ≡ false → ((w : List ℕ) → after wanted w ≡ then_wanted (side_letter w) (λ _. next)) → (ws : List (List ℕ)) → Passed wanted ws → Began side_bytes Any (λ _. next) ws
side_began wanted next m h = began side_letter side_bytes Any (λ w s e. (tt, side_is w s e)) wanted (λ _. next) m h

-- the last word
last_number : (wanted : Wanted) → is_end wanted ≡ false → ((w : List ℕ) → after wanted w ≡ then_wanted (number w) (λ _. want.End)) → (ws : List (List ℕ)) → Passed wanted ws → (n : ℕ) × Small n × (ws ≡ decimal n ∷ [])
last_number wanted m h ws p =
    let a = number_began wanted want.End m h ws p in
    (a.value, a.good, a.is ∙ ap (λ r. decimal a.value ∷ r) (ended a.rest a.passed))

two_numbers : (wanted : Wanted) → is_end wanted ≡ false → ((w : List ℕ) → after wanted w ≡ then_wanted (number w) (λ _. want.Shares)) → (ws : List (List ℕ)) → Passed wanted ws → (m n : ℕ) × Small m × Small n × (ws ≡ decimal m ∷ decimal n ∷ [])
two_numbers wanted m h ws p =
    let a = number_began wanted want.Shares m h ws p in
    let b = last_number want.Shares refl (λ w. refl) a.rest a.passed in
    (a.value, b.0, a.good, b.1, a.is ∙ ap (λ r. decimal a.value ∷ r) b.2)

sided_numbers : (ws : List (List ℕ)) → Passed want.Side ws → (s : Side) × (m n : ℕ) × Small m × Small n × (ws ≡ side_bytes s ∷ decimal m ∷ decimal n ∷ [])
sided_numbers ws p =
    let a = side_began want.Side want.Price refl (λ w. refl) ws p in
    let b = two_numbers want.Price refl (λ w. refl) a.rest a.passed in
    (a.value, b.0, b.1, b.2, b.3, a.is ∙ ap (λ r. side_bytes a.value ∷ r) b.4)

ilo_end : (ws : List (List ℕ)) → Passed want.Routing ws → (r : Routing) × (v : ℕ) × (m : Mark) × Small v × (ws ≡ ilo_words (Ilo r v m))
ilo_end ws p =
    let a = began routing_digit routing_bytes Any (λ w r e. (tt, routing_is w r e)) want.Routing (λ _. want.Mtv) refl (λ w. refl) ws p in
    let b = number_began want.Mtv want.Mark refl (λ w. refl) a.rest a.passed in
    let c = began mark_letter mark_bytes Any (λ w m e. (tt, mark_is w m e)) want.Mark (λ _. want.End) refl (λ w. refl) b.rest b.passed in
    (a.value, b.value, c.value, b.good, a.is ∙ ap (λ r. routing_bytes a.value ∷ r) (b.is ∙ ap (λ r. decimal b.value ∷ r) (c.is ∙ ap (λ r. mark_bytes c.value ∷ r) (ended c.rest c.passed))))

-- the words from the side of a new order on
abbrev Ordered : Kind → List (List ℕ) → Type 0
Ordered k ws = (s : Side) × (p n : ℕ) × Small p × Small n × (ws ≡ side_bytes s ∷ decimal p ∷ decimal n ∷ ilo_words k)

ilo_ordered : (ws : List (List ℕ)) → Passed want.IloSide ws → (k : Kind) × LawfulKind k × (kind_bytes k ≡ kind_letter_bytes kind.Ilo) × Ordered k ws
ilo_ordered ws p =
    let a = side_began want.IloSide want.IloPrice refl (λ w. refl) ws p in
    let b = number_began want.IloPrice want.IloShares refl (λ w. refl) a.rest a.passed in
    let c = number_began want.IloShares want.Routing refl (λ w. refl) b.rest b.passed in
    let d = ilo_end c.rest c.passed in
    (Ilo d.0 d.1 d.2, d.3, refl, (a.value, b.value, c.value, b.good, c.good, a.is ∙ ap (λ r. side_bytes a.value ∷ r) (b.is ∙ ap (λ r. decimal b.value ∷ r) (c.is ∙ ap (λ r. decimal c.value ∷ r) d.4))))

ordered : (l : KindLetter) (ws : List (List ℕ)) → Passed (sided l) ws → (k : Kind) × LawfulKind k × (kind_bytes k ≡ kind_letter_bytes l) × Ordered k ws
ordered kind.Displayed ws p = (Displayed, tt, refl, sided_numbers ws p)
ordered kind.Dark ws p = (Dark, tt, refl, sided_numbers ws p)
ordered kind.Olo ws p = (Olo, tt, refl, sided_numbers ws p)
ordered kind.Ilo ws p = ilo_ordered ws p

-- the words behind the first letter of a call
abbrev Called : Letter → List (List ℕ) → Type 0
Called l ws = (line : Line) × LawfulLine line × (letter_bytes l ∷ ws ≡ words line)

new_called : (ws : List (List ℕ)) → Passed want.Label ws → Called letter.New ws
new_called ws p =
    let a = began labelled (λ w. w) (λ w. is_label w ≡ true) labelled_is want.Label (λ _. want.Kind) refl how ws p in
    let b = began kind_letter kind_letter_bytes Any (λ w k e. (tt, kind_letter_is w k e)) want.Kind sided refl (λ w. refl) a.rest a.passed in
    let (k, l, e, o) = ordered b.value b.rest b.passed in
    let (s, q, n, h, i, f) = o in
    let g : b.rest ≡ side_bytes s ∷ decimal q ∷ decimal n ∷ ilo_words k = f in (
      New a.value s q k n,
      (a.good, h, l, i),
      ap (λ r. letter_bytes letter.New ∷ r) (a.is ∙ ap (λ r. a.value ∷ r) (b.is ∙ ap (λ r. kind_letter_bytes b.value ∷ r) g ∙ ap (λ w. w ∷ side_bytes s ∷ decimal q ∷ decimal n ∷ ilo_words k) (sym e))),
    )
  where
    labelled : List ℕ → Result (List ℕ) Fault
    labelled w = cond (is_label w) (Ok w) (Err BadLabel)

    labelled_is : (w a : List ℕ) → labelled w ≡ Ok a → (is_label a ≡ true) × (w ≡ a)
    labelled_is w a e =
        by_test (is_label w) (λ b. ◌≡◌ {A = Result (List ℕ) Fault} (cond b (Ok w) (Err BadLabel)) (Ok a) → (is_label a ≡ true) × (w ≡ a))
        (λ t h. let j : w ≡ a = cc in (ap is_label (sym j) ∙ t, j))
        (λ t h. absurd (let z : ◌≡◌ {A = ℕ} 0 1 = cc in omega arith))
        e

    how : (w : List ℕ) → after want.Label w ≡ then_wanted (labelled w) (λ _. want.Kind)
    how w = by_test (is_label w) (λ b. ◌≡◌ {A = Result Wanted Fault} (cond b (Ok want.Kind) (Err BadLabel)) (then_wanted {A = List ℕ} (cond b (Ok w) (Err BadLabel)) (λ _. want.Kind))) (λ t. refl) (λ t. refl)

called : (l : Letter) (ws : List (List ℕ)) → Passed (begun l) ws → Called l ws
called letter.New ws p = new_called ws p
called letter.Cut ws p =
    let a = two_numbers want.CutArrival refl (λ w. refl) ws p in
    (Cut a.0 a.1, (a.2, a.3), ap (λ r. letter_bytes letter.Cut ∷ r) a.4)
called letter.Cancel ws p =
    let a = last_number want.CancelArrival refl (λ w. refl) ws p in
    (Cancel a.0, a.1, ap (λ r. letter_bytes letter.Cancel ∷ r) a.2)
called letter.Post ws p =
    let a = number_began want.Market want.Side refl (λ w. refl) ws p in
    let b = sided_numbers a.rest a.passed in
    (Post a.value b.0 b.1 b.2, (a.good, b.3, b.4), ap (λ r. letter_bytes letter.Post ∷ r) (a.is ∙ ap (λ r. decimal a.value ∷ r) b.5))

-- words that pass are those of a lawful line
pub words_lawful : (ws : List (List ℕ)) → Passed want.First ws → (line : Line) × LawfulLine line × (ws ≡ words line)
words_lawful ws p =
    let a = began first_letter letter_bytes Any (λ w l f. (tt, letter_is w l f)) want.First begun refl (λ w. refl) ws p in
    let c = called a.value a.rest a.passed in
    (c.0, c.1, a.is ∙ c.2)

-- a body without a fault is a lawful line, written
pub body_lawful : (b : List ℕ) → fault_of b ≡ None → (line : Line) × LawfulLine line × (b ≡ body_bytes line)
unfolding body_bytes fault_past
body_lawful b e =
    let l = words_lawful (fields b) (record { at = 0; clean = e }) in
    (l.0, l.1, sym (spaced_fields b) ∙ ap spaced l.2)
