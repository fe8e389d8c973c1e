-- The first malformed field of a body: up to it the body begins as some lawful line, with it as none. Assumes nothing.
use Rattle.std.proofs.Common.{◌≡◌, ℕ, zero, suc, ◌+◌, ◌-◌, ◌<◌, ◌≤◌, Bool, true, false, cond, ◌⊎◌, List, [], ◌∷◌, ◌++◌, length, take, Some, None, Ok, Err, codes, Option, Result, sym, refl, ap, ◌∙◌, subst, inl, inr, ⊎_elim, arith, lit<}
use Rattle.std.proofs.lemmas.List.{take_at, length-append}
use Rattle.std.proofs.lemmas.Bool.{ne_eqb}
use Rattle.market.specs.declared.types.Side.TheVariants.{Buy}
use Rattle.rules.specs.declared.types.Kind.TheVariants.{Displayed}
use Rattle.rules.specs.declared.types.Routing.TheVariants.{Type1}
use Rattle.rules.specs.declared.types.Mark.TheVariants as mark
use Rattle.files.specs.declared.types.Fault.{Fault}
use Rattle.files.specs.declared.types.Fault.TheVariants.{Missing, Surplus}
use Rattle.files.specs.declared.types.Wanted.{Wanted}
use Rattle.files.specs.declared.types.Wanted.TheVariants as want
use Rattle.files.specs.Fields.{Malformed, none, after, is_end, read_field, fault_from, fault_past, fields}
use Rattle.files.specs.Lines.{Cancel}
use Rattle.files.specs.Written.{words, spaced}
use Rattle.files.specs.Faults.{begins, RefusedFirst}
use Rattle.files.proofs.Words.{by_test}
use Rattle.files.proofs.Spacing.{spaced_fields}
use Rattle.files.proofs.Lines.{Pass, Passed, pass_more, pass_end, pass_number, pass_two, pass_side, pass_mark, pass_routing, pass_ilo_side, pass_kind, pass_words, stepped, missing, read_after, words_lawful}

-- an empty field is never what is wanted
after_empty : (wanted next : Wanted) → after wanted [] ≡ Ok next → ⊥
after_empty want.First n e = let z : ◌≡◌ {A = ℕ} 0 1 = cc in omega arith
after_empty want.Label n e = let z : ◌≡◌ {A = ℕ} 0 1 = cc in omega arith
after_empty want.Kind n e = let z : ◌≡◌ {A = ℕ} 0 1 = cc in omega arith
after_empty want.Side n e = let z : ◌≡◌ {A = ℕ} 0 1 = cc in omega arith
after_empty want.Price n e = let z : ◌≡◌ {A = ℕ} 0 1 = cc in omega arith
after_empty want.Shares n e = let z : ◌≡◌ {A = ℕ} 0 1 = cc in omega arith
after_empty want.IloSide n e = let z : ◌≡◌ {A = ℕ} 0 1 = cc in omega arith
after_empty want.IloPrice n e = let z : ◌≡◌ {A = ℕ} 0 1 = cc in omega arith
after_empty want.IloShares n e = let z : ◌≡◌ {A = ℕ} 0 1 = cc in omega arith
after_empty want.Routing n e = let z : ◌≡◌ {A = ℕ} 0 1 = cc in omega arith
after_empty want.Mtv n e = let z : ◌≡◌ {A = ℕ} 0 1 = cc in omega arith
after_empty want.Mark n e = let z : ◌≡◌ {A = ℕ} 0 1 = cc in omega arith
after_empty want.CutArrival n e = let z : ◌≡◌ {A = ℕ} 0 1 = cc in omega arith
after_empty want.CancelArrival n e = let z : ◌≡◌ {A = ℕ} 0 1 = cc in omega arith
after_empty want.Market n e = let z : ◌≡◌ {A = ℕ} 0 1 = cc in omega arith
after_empty want.End n e = let z : ◌≡◌ {A = ℕ} 0 1 = cc in omega arith

after_long : (wanted next : Wanted) (w : List ℕ) → after wanted w ≡ Ok next → 0 < length w
after_long wanted next [] e = absurd (after_empty wanted next e)
after_long wanted next (c ∷ cs) e = omega arith

read_long : (wanted : Wanted) (w : List ℕ) (b : Bool) → 0 < length w → read_field wanted w b ≡ after wanted w
read_long wanted [] b h = absurd (omega arith)
read_long wanted (c ∷ cs) true h = ap (λ b. cond b (cond (is_end wanted) (Err Surplus) (Err Missing)) (after wanted (c ∷ cs))) (ne_eqb (suc (length cs)) 0 (λ e. omega arith))
read_long wanted (c ∷ cs) false h = refl

-- every state can be brought to an end
completes : (wanted : Wanted) → (vs : List (List ℕ)) × Pass wanted vs
completes want.First = (words (Cancel 1), pass_words (Cancel 1) (omega arith))
completes want.Label = (_, pass_more want.Label (codes "A") _ want.Kind refl (lit< tt) (pass_kind Displayed Buy 1 1 tt (omega arith) (omega arith)))
completes want.Kind = (_, pass_kind Displayed Buy 1 1 tt (omega arith) (omega arith))
completes want.Side = (_, pass_side Buy 1 1 (omega arith) (omega arith))
completes want.Price = (_, pass_two 1 1 (omega arith) (omega arith))
completes want.Shares = (_, pass_number want.Shares want.End 1 [] (λ w. refl) (omega arith) pass_end)
completes want.IloSide = (_, pass_ilo_side Buy 1 1 Type1 1 mark.Rest (omega arith) (omega arith) (omega arith))
completes want.IloPrice = (_, pass_number want.IloPrice want.IloShares 1 _ (λ w. refl) (omega arith) (pass_number want.IloShares want.Routing 1 _ (λ w. refl) (omega arith) (pass_routing Type1 1 mark.Rest (omega arith))))
completes want.IloShares = (_, pass_number want.IloShares want.Routing 1 _ (λ w. refl) (omega arith) (pass_routing Type1 1 mark.Rest (omega arith)))
completes want.Routing = (_, pass_routing Type1 1 mark.Rest (omega arith))
completes want.Mtv = (_, pass_number want.Mtv want.Mark 1 _ (λ w. refl) (omega arith) (pass_mark mark.Rest))
completes want.Mark = (_, pass_mark mark.Rest)
completes want.CutArrival = (_, pass_number want.CutArrival want.Shares 1 _ (λ w. refl) (omega arith) (pass_number want.Shares want.End 1 [] (λ w. refl) (omega arith) pass_end))
completes want.CancelArrival = (_, pass_number want.CancelArrival want.End 1 [] (λ w. refl) (omega arith) pass_end)
completes want.Market = (_, pass_number want.Market want.Side 1 _ (λ w. refl) (omega arith) (pass_side Buy 1 1 (omega arith) (omega arith)))
completes want.End = ([], pass_end)

-- where reading stops: before field k it could go on, with field k it cannot
record Stops (wanted : Wanted) (ws : List (List ℕ)) (at place : ℕ) : Type 0 where
  k : ℕ
  next : Wanted
  goes_on : (vs : List (List ℕ)) → Pass next vs → Pass wanted (take k ws ++ vs)
  stuck : (vs : List (List ℕ)) → take (suc k) vs ≡ take (suc k) ws → Passed wanted vs → ⊥
  is_at : ((k < length ws) × (place ≡ at + begins k ws)) ⊎ ((k ≡ length ws) × (place ≡ at + begins k ws - 1))

stops_none : (wanted : Wanted) (at : ℕ) (m : Malformed) → fault_from wanted [] at ≡ Some m → Stops wanted [] at m.place
stops_none wanted at m e =
    by_test (is_end wanted) (λ b. is_end wanted ≡ b → ◌≡◌ {A = Option Malformed} (cond b None (Some (record { fault = Missing; place = at - 1 }))) (Some m) → Stops wanted [] at m.place)
    (λ t _ h. absurd (let z : ◌≡◌ {A = ℕ} 0 1 = cc in omega arith))
    (λ t u h.
    let p : m.place ≡ at - 1 = ap (λ (o : Option Malformed). elim o [ None ↦ 0 | Some x ↦ x.place ]) (sym h) in
    record { k = 0; next = wanted; goes_on = λ vs q. q; stuck = no_more t; is_at = inr (refl, omega arith) })
    refl e
  where
    no_more : is_end wanted ≡ false → (vs : List (List ℕ)) → take 1 vs ≡ [] → Passed wanted vs → ⊥
    no_more t [] d q = missing (is_end wanted) (record { fault = Missing; place = q.at - 1 }) t q.clean
    no_more t (v ∷ vs) d q = let z : ◌≡◌ {A = ℕ} 0 1 = cc in omega arith

stops_here : (wanted : Wanted) (w : List ℕ) (ws : List (List ℕ)) (at : ℕ) (m : Malformed) (f : Fault) → read_field wanted w (none ws) ≡ Err f → ◌≡◌ {A = Option Malformed} (Some (record { fault = f; place = at })) (Some m) → Stops wanted (w ∷ ws) at m.place
stops_here wanted w ws at m f r h =
    let p : m.place ≡ at = ap (λ (o : Option Malformed). elim o [ None ↦ 0 | Some x ↦ x.place ]) (sym h) in
    record { k = 0; next = wanted; goes_on = λ vs q. q; stuck = faulty; is_at = inl (omega arith, omega arith) }
  where
    never : (n : Wanted) → after wanted w ≡ Ok n → ⊥
    never n e =
        let a = read_long wanted w (none ws) (after_long wanted n w e) in
        let z : ◌≡◌ {A = ℕ} 0 1 = cc in omega arith

    faulty : (vs : List (List ℕ)) → take 1 vs ≡ w ∷ [] → Passed wanted vs → ⊥
    faulty [] d q = let z : ◌≡◌ {A = ℕ} 0 1 = cc in omega arith
    faulty (v ∷ vs) d q =
        let s = stepped wanted v vs q in
        let j : v ≡ w = cc in
        never s.next (ap (after wanted) (sym j) ∙ s.reads)

stops_behind : (wanted n : Wanted) (w : List ℕ) (ws : List (List ℕ)) (at place : ℕ) → read_field wanted w (none ws) ≡ Ok n → Stops n ws (at + length w + 1) place → Stops wanted (w ∷ ws) at place
stops_behind wanted n w ws at place r ih =
    let a = read_after wanted w (none ws) n r in
    record {
      k = suc ih.k;
      next = ih.next;
      goes_on = λ vs q. pass_more wanted w (take ih.k ws ++ vs) n a (after_long wanted n w a) (ih.goes_on vs q);
      stuck = later a;
      is_at = ⊎_elim (λ (h : (ih.k < length ws) × (place ≡ at + length w + 1 + begins ih.k ws)). inl (omega arith, omega arith)) (λ (h : (ih.k ≡ length ws) × (place ≡ at + length w + 1 + begins ih.k ws - 1)). inr (omega arith, omega arith)) ih.is_at;
    }
  where
    later : after wanted w ≡ Ok n → (vs : List (List ℕ)) → take (suc (suc ih.k)) vs ≡ w ∷ take (suc ih.k) ws → Passed wanted vs → ⊥
    later a [] d q = let z : ◌≡◌ {A = ℕ} 0 1 = cc in omega arith
    later a (v ∷ vs) d q =
        let s = stepped wanted v vs q in
        let j : v ≡ w = cc in
        let t : take (suc ih.k) vs ≡ take (suc ih.k) ws = cc in
        let b : after wanted w ≡ Ok s.next = ap (after wanted) (sym j) ∙ s.reads in
        let c : s.next ≡ n = cc in
        ih.stuck vs t (subst (λ x. Passed x vs) c s.passed)

stops : (ws : List (List ℕ)) (wanted : Wanted) (at : ℕ) (m : Malformed) → fault_from wanted ws at ≡ Some m → Stops wanted ws at m.place
stops [] wanted at m e = stops_none wanted at m e
stops (w ∷ ws) wanted at m e = by_read (λ n h. stops ws n (at + length w + 1) m h) (read_field wanted w (none ws)) refl e
  where
    by_read : ((n : Wanted) → fault_from n ws (at + length w + 1) ≡ Some m → Stops n ws (at + length w + 1) m.place) → (r : Result Wanted Fault) → read_field wanted w (none ws) ≡ r → ◌≡◌ {A = Option Malformed} (elim r [ Ok n ↦ fault_from n ws (at + length w + 1) | Err f ↦ Some (record { fault = f; place = at }) ]) (Some m) → Stops wanted (w ∷ ws) at m.place
    by_read ih (Ok n) r h = stops_behind wanted n w ws at m.place r (ih n h)
    by_read ih (Err f) r h = stops_here wanted w ws at m f r h

-- places: the words and a space behind each are one longer than the body
begins_all : (w : List ℕ) (ws : List (List ℕ)) → begins (length (w ∷ ws)) (w ∷ ws) ≡ length (spaced (w ∷ ws)) + 1
begins_all w [] = let a = length-append w [] in omega arith
begins_all w (v ∷ vs) = let ih = begins_all v vs in let a = length-append w (32 ∷ spaced (v ∷ vs)) in omega arith

begins_below : (ws : List (List ℕ)) (k : ℕ) → k < length ws → begins k ws + 1 ≤ begins (length ws) ws
begins_below [] k h = absurd (omega arith)
begins_below (w ∷ ws) zero h = omega arith
begins_below (w ∷ ws) (suc k) h = let ih = begins_below ws k (omega arith) in omega arith

pub refused_first : RefusedFirst
unfolding fault_past
refused_first body m e =
    let ws = fields body in
    let s = stops ws want.First 0 m e in
    let c = completes s.next in
    let p = s.goes_on c.0 c.1 in
    let l = words_lawful (take s.k ws ++ c.0) (record { at = 0; clean = p.clean 0 }) in
    let n : begins (length ws) ws ≡ length body + 1 = begins_all _ _ ∙ ap (λ b. length b + 1) (spaced_fields body) in (
      s.k,
      record {
        before = (l.0, l.1, ap (take (length (take s.k ws))) (sym l.2) ∙ take_at (take s.k ws) c.0 (length (take s.k ws)) refl);
        not_with = λ line h t. s.stuck (words line) t (record { at = 0; clean = (pass_words line h).clean 0 });
        at = ⊎_elim
            (λ (h : (s.k < length ws) × (m.place ≡ 0 + begins s.k ws)). let b = begins_below ws s.k h.0 in omega arith)
            (λ (h : (s.k ≡ length ws) × (m.place ≡ 0 + begins s.k ws - 1)). let b = ap (λ j. begins j ws) h.0 in omega arith)
            s.is_at;
      },
    )
