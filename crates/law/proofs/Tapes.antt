-- The law of the tape: each call passes the judge and leaves a kept and matched market, and so does every list of calls.
-- Rests on the lemmas on refusals, entries, changes and the identifier.
use Rattle.std.proofs.Common.{◌≡◌, ℕ, suc, ◌+◌, ◌-◌, ◌<◌, ◌≤◌, Bool, true, false, cond, ◌&&◌, ◌||◌, eqb, ◌⊎◌, List, [], ◌∷◌, ◌++◌, length, Some, None, Ok, Err, Option, Result, sym, refl, ap, ◌∙◌, subst, inl, inr, arith}
use Rattle.std.specs.List.{remove}
use Rattle.std.proofs.lemmas.Bool.Decides.{nat_tests, not_from_Decides}
use Rattle.std.proofs.lemmas.Bool.{cases_Bool, cases_lt, cond_both, cond-true, eq-eqb}
use Rattle.market.specs.declared.types.Side.{Side}
use Rattle.market.specs.declared.types.Side.TheVariants.{Buy, Sell}
use Rattle.market.specs.declared.types.Refusal.{Refusal}
use Rattle.market.specs.declared.types.Refusal.TheVariants.{Price, Shares, SmallOlo, SmallIlo, LargeMtv, SideFull, ArrivalsSpent, ShortReport, NotResting, MarketNumber, Quotation}
use Rattle.market.specs.Words.{in_range, opposite}
use Rattle.shelf.specs.Standing.{nth, put_in}
use Rattle.board.specs.Quotes.{Quotes, Lawful, market_ok, quote_ok, removes, posted, with_quote, if_ok}
use Rattle.rules.specs.declared.types.Kind.{Kind}
use Rattle.rules.specs.declared.types.Kind.TheVariants.{Displayed, Dark, Olo, Ilo}
use Rattle.rules.specs.declared.types.Order.{Order}
use Rattle.rules.specs.declared.types.Located.{Located}
use Rattle.rules.specs.declared.types.Row.{Row}
use Rattle.rules.specs.declared.types.Call.{Call}
use Rattle.rules.specs.declared.types.Call.TheVariants as call
use Rattle.rules.specs.declared.types.Accepted.{Accepted}
use Rattle.rules.specs.Orders.{is_olo, is_ilo, cancels, too_small}
use Rattle.rules.specs.Rankings.{Ranking, Ranks, before}
use Rattle.rules.specs.Sweeps.{less, standing, measured_sweep}
use Rattle.rules.specs.Calls.{Market, market, fresh, terms, of_side, with_side, Outcome, outcome, accepted, decided, new_order, arriving, enter_refusal, entered, settled, enter, at_rest, open_of, cancel_refusal, cut_refusal, leaves, cut_down, taken_off, moved, cancelled, cut_stayed, cut_to, cancel, cut, post_accepted, post, apply}
use Rattle.law.specs.Tape.{Account, empty_account, remainder_of, changed, change, added, reckon_rows, cut_by, reckon_call, reckon}
use Rattle.law.specs.Judge.{FirstCase, Cases, Outside, TooSmall, resting_on, refusal_of, Sized, FairEntry, FairCall, Judged}
use Rattle.law.specs.Law.{entry, after, tape, FairTape, TapeLaw, TapeGoesOn, Upholds}
use Rattle.law.proofs.Branches.{by_test, by_option, none_some}
use Rattle.law.proofs.Finding.{found, nth_found}
use Rattle.law.proofs.Quotations.{with_quote_lawful}
use Rattle.law.proofs.Conditions.{arrival_of, SideKept, living, living_open, living_is}
use Rattle.law.proofs.Markets.{found_in, found_in_tag, Kept, Matches, order_of, order_at_rest, located_there, remainder_is, kept_found, resting_is}
use Rattle.law.proofs.Refusals.{decides_too_small, decides_leaves, enter_case, cancel_case, cut_case, post_case}
use Rattle.law.proofs.Entering.{few_rows, same_arrival, entered_fair, entered_kept, entered_matches}
use Rattle.law.proofs.Changing.{changed_kept, changed_matches, side_removed, found_removed, side_moved, found_moved, put_on_taken}
use Rattle.law.proofs.Lights.{lit_right, unlit_right}

-- What a call does to an account and a market.
pub record Good (ranking : Ranking) (a : Account) (c : Call) (room : ℕ) (o : Outcome) : Type 0 where
  pub judged : Judged ranking a (entry c room o)
  pub few : length o.rows ≤ 144
  pub kept : Kept ranking o.market
  pub matches : Matches (reckon (entry c room o) a) o.market

-- every order with a remainder has a size that its kind allows
sized_right : (ranking : Ranking) (m : Market) (a : Account) → Kept ranking m → Matches a m → (n : ℕ) (o : Order) → a.known n ≡ Some o → 0 < o.«open» → Sized o
sized_right ranking m a k h n o e r = let (s, w) = kept_found ranking m a k h n o (sym (h.resting n) ∙ ap living e ∙ living_open o r) in w.sized

-- where a call is accepted, a case did not hold
passed : (r : Refusal) {P Q : Type 0} → (P × (None ≡ Some r)) ⊎ ((P → ⊥) × Q) → (P → ⊥) × Q
passed r f = elim f [ inl h ↦ absurd (none_some r h.1) | inr h ↦ h ]

-- an entry that no case of size refuses has a size that its kind allows
allowed : (kind : Kind) (price shares : ℕ) → (Outside 1000000 shares → ⊥) → ((is_olo kind ≡ true) × TooSmall kind price shares → ⊥) → ((is_ilo kind ≡ true) × TooSmall kind price shares → ⊥) → too_small kind price shares ≡ false
allowed kind price shares some olo ilo = elim (cases_Bool (too_small kind price shares)) [
  | inl t ↦ absurd (never kind ((decides_too_small kind price shares).0 t) some olo ilo)
  | inr f ↦ f
]
  where
    never : (kind : Kind) → TooSmall kind price shares → (Outside 1000000 shares → ⊥) → ((is_olo kind ≡ true) × TooSmall kind price shares → ⊥) → ((is_ilo kind ≡ true) × TooSmall kind price shares → ⊥) → ⊥
    never Displayed t s o i = s (inl t)
    never Dark t s o i = s (inl t)
    never Olo t s o i = o (refl, t)
    never (Ilo routing mtv mark) t s o i = i (refl, t)

module _ (ranking : Ranking) (law : Ranks ranking) (m : Market) (a : Account) (k : Kept ranking m) (h : Matches a m) where
  accepted_good : (c : Call) (room : ℕ) (w : Accepted) (rows : List Row) (then : Market) → length rows ≤ 144 → FirstCase (Cases a c room) None → FairCall ranking a c w rows → Kept ranking then → Matches (reckon_call c w rows a) then → Good ranking a c room (outcome (Ok w) rows then)
  accepted_good c room w rows then few f fair kept match = record {
    judged = record {
      refusal = f;
      answer = fair;
      shown = λ n. remainder_is (reckon_call c w rows a) then match n;
      lit = lit_right ranking then (reckon_call c w rows a) kept match;
      unlit = unlit_right ranking then (reckon_call c w rows a) kept match;
      sized = sized_right ranking then (reckon_call c w rows a) kept match;
    };
    few = few;
    kept = kept;
    matches = match;
  }

  refused_good : (c : Call) (room : ℕ) (e : Refusal) → FirstCase (Cases a c room) (Some e) → Good ranking a c room (outcome (Err e) [] m)
  refused_good c room e f = record {
    judged = record {
      refusal = f;
      answer = refl;
      shown = λ n. remainder_is a m h n;
      lit = lit_right ranking m a k h;
      unlit = unlit_right ranking m a k h;
      sized = sized_right ranking m a k h;
    };
    few = omega arith;
    kept = k;
    matches = h;
  }

  decided_good : (c : Call) (room : ℕ) (r : Option Refusal) (o : Outcome) → FirstCase (Cases a c room) r → (FirstCase (Cases a c room) None → Good ranking a c room o) → Good ranking a c room (decided r m o)
  decided_good c room None o f g = g f
  decided_good c room (Some e) o f g = refused_good c room e f

  enter_good : (side : Side) (price : ℕ) (kind : Kind) (shares room : ℕ) → Good ranking a (call.Enter side price kind shares) room (enter (terms ranking) m side price kind shares room)
  unfolding enter
  enter_good side price kind shares room =
      decided_good (call.Enter side price kind shares) room (enter_refusal i m.arrivals (length (of_side side m)) room)
      (settled (terms ranking) (measured_sweep (standing i (of_side side m) (of_side (opposite side) m) m.quotes)))
      (enter_case ranking m a k h side price kind shares room) taken
    where
      i : Order
      i = arriving m side price kind shares

      taken : FirstCase (Cases a (call.Enter side price kind shares) room) None → Good ranking a (call.Enter side price kind shares) room (settled (terms ranking) (measured_sweep (standing i (of_side side m) (of_side (opposite side) m) m.quotes)))
      taken f =
          let past_report = passed ShortReport f in
          let past_price = passed Price past_report.1 in
          let past_shares = passed Shares past_price.1 in
          let past_olo = passed SmallOlo past_shares.1 in
          let past_ilo = passed SmallIlo past_olo.1 in
          let past_mtv = passed LargeMtv past_ilo.1 in
          let past_arrivals = passed ArrivalsSpent past_mtv.1 in
          let past_side : (((cancels kind ≡ false) × (128 ≤ resting_on a side)) → ⊥) × FirstCase [] None = passed SideFull past_arrivals.1 in
          let room_left : cancels kind ≡ false → length (of_side side m) < 128 = λ g. elim (cases_lt (length (of_side side m)) 128) [ inl l ↦ l | inr l ↦ absurd (past_side.0 (g, subst (λ x. 128 ≤ x) (sym (resting_is ranking m a k h side)) l)) ] in
          let sized : Sized i = record { within = omega arith; allowed = allowed kind price shares past_shares.0 past_olo.0 past_ilo.0 } in
          let next_arrival : m.arrivals + 1 ≡ suc a.accepted = let n = h.accepted in omega arith in
          let done = measured_sweep (standing i (of_side side m) (of_side (opposite side) m) m.quotes) in
          let w = entered done.stand.incoming (length done.rows) in
          accepted_good (call.Enter side price kind shares) room w done.rows (settled (terms ranking) done).market (few_rows ranking law m a k h i refl) f
          (subst (λ j. FairEntry ranking a (new_order j side price kind shares) w done.rows) next_arrival (entered_fair ranking law m a k h i refl))
          (entered_kept ranking law m a k h i refl sized room_left)
          (subst (λ j. Matches (change j (less w.cancelled) (reckon_rows done.rows (added (new_order j side price kind shares) a))) (settled (terms ranking) done).market) (sym (same_arrival ranking law m a k h i refl)) (entered_matches ranking law m a k h i refl))

  -- An order found at rest, where its number has a remainder.
  record Hand (j : ℕ) (l : Located) : Type 0 where
    there : at_rest j m ≡ Some l
    tag : l.order.arrival ≡ j
    placed : nth l.place (of_side l.side m) ≡ Some l.order
    found_there : found arrival_of l.order.arrival (of_side l.side m) ≡ Some l.order
    known : a.known j ≡ Some l.order
    remains : 0 < l.order.«open»

  in_hand : (j : ℕ) (l : Located) → at_rest j m ≡ Some l → Hand j l
  in_hand j l e =
      let there : found_in j m ≡ Some l.order = sym (order_at_rest j m) ∙ ap order_of e in
      let alive = living_is (a.known j) l.order (h.resting j ∙ there) in
      let at = located_there j m l e in
      record {
        there = e;
        tag = found_in_tag j m l.order there;
        placed = at;
        found_there = nth_found arrival_of (of_side l.side m) l.place l.order (k.sides l.side).distinct at;
        known = alive.0;
        remains = alive.1;
      }

  taken_kept : (j : ℕ) (l : Located) → Hand j l → Kept ranking (taken_off m l)
  taken_kept j l w = changed_kept ranking m a k h l.side l.order (remove (of_side l.side m) l.place) None w.found_there
      (side_removed ranking law l.side m.arrivals (of_side l.side m) (k.sides l.side) l.place l.order w.placed)
      (found_removed ranking law l.side m.arrivals (of_side l.side m) (k.sides l.side) l.place l.order w.placed)

  taken_matches : (j : ℕ) (l : Located) → Hand j l → (f : Order → Order) → living (Some (f l.order)) ≡ None → Matches (change j f a) (taken_off m l)
  taken_matches j l w f z =
      subst (λ x. Matches (change x f a) (taken_off m l)) w.tag
      (changed_matches ranking m a k h l.side l.order (remove (of_side l.side m) l.place) None w.found_there
      (side_removed ranking law l.side m.arrivals (of_side l.side m) (k.sides l.side) l.place l.order w.placed)
      (found_removed ranking law l.side m.arrivals (of_side l.side m) (k.sides l.side) l.place l.order w.placed)
      f (subst (λ x. living (changed f (a.known x)) ≡ None) (sym w.tag) (ap (λ x. living (changed f x)) w.known ∙ z)))

  cancel_good : (j room : ℕ) → Good ranking a (call.Cancel j) room (cancel m j)
  unfolding cancel
  cancel_good j room =
      decided_good (call.Cancel j) room (cancel_refusal (at_rest j m)) (cancelled m (at_rest j m)) (cancel_case ranking m a k h j room)
      (λ f. by_option (at_rest j m) (λ x. at_rest j m ≡ x → Good ranking a (call.Cancel j) room (cancelled m x))
      (λ _ e. absurd ((passed NotResting f).0 (sym (remainder_is a m h j) ∙ ap open_of e)))
      (λ l _ e.
      let w = in_hand j l e in
      accepted_good (call.Cancel j) room (accepted l.order.arrival 0 l.order.«open» 0) [] (taken_off m l) (omega arith) f
      (w.tag, refl, refl, refl, sym (ap remainder_of w.known))
      (taken_kept j l w)
      (taken_matches j l w (less l.order.«open») (cond-true _ _ _ (eq-eqb (l.order.«open» - l.order.«open») 0 (omega arith))))) refl)

  cut_to_good : (j n room : ℕ) (l : Located) → Hand j l → FirstCase (Cases a (call.Cut j n) room) None → Good ranking a (call.Cut j n) room (cut_to (terms ranking) m (Some l) n)
  cut_to_good j n room l w f =
      let o : Order = l.order in
      cond_both (leaves n o) (cancelled m (Some l)) (cut_stayed (terms ranking) m l n) (Good ranking a (call.Cut j n) room)
      (λ t.
      let leaving = (decides_leaves n o).0 t in
      accepted_good (call.Cut j n) room (accepted o.arrival 0 o.«open» 0) [] (taken_off m l) (omega arith) f
      (w.tag, refl, refl, (o, record { known = w.known; leaving = λ _. (refl, refl); staying = λ s. absurd (s leaving) }))
      (taken_kept j l w)
      (taken_matches j l w (cut_by n o.«open») (cond-true _ _ _ (eq-eqb (o.«open» - o.«open») 0 (omega arith)))))
      (λ s.
      let stays = not_from_Decides (leaves n o) (decides_leaves n o) s in
      let os = of_side l.side m in
      let ranked = put_in (before ranking l.side) (cut_down n o) (remove os l.place) in
      let market_is : with_side l.side ranked m ≡ moved (terms ranking) m l n = sym (put_on_taken ranking l.side (cut_down n o) (remove os l.place) m) in
      let still = side_moved ranking law l.side m.arrivals os (k.sides l.side) l.place o w.placed n s in
      let finds = found_moved ranking law l.side m.arrivals os (k.sides l.side) l.place o w.placed n s in
      let alive : living (Some (cut_down n o)) ≡ Some (cut_down n o) = living_open (cut_down n o) (elim (cases_lt n o.«open») [ inl g ↦ omega arith | inr g ↦ absurd (stays (inl g)) ]) in
      accepted_good (call.Cut j n) room (accepted o.arrival (o.«open» - n) n 0) [] (moved (terms ranking) m l n) (omega arith) f
      (w.tag, refl, refl, (o, record { known = w.known; leaving = λ g. absurd (stays g); staying = λ _. (refl, refl) }))
      (subst (Kept ranking) market_is (changed_kept ranking m a k h l.side o ranked (Some (cut_down n o)) w.found_there still finds))
      (subst (λ x. Matches (change j (cut_by n n) a) x) market_is
      (subst (λ x. Matches (change x (cut_by n n) a) (with_side l.side ranked m)) w.tag
      (changed_matches ranking m a k h l.side o ranked (Some (cut_down n o)) w.found_there still finds (cut_by n n)
      (subst (λ x. living (changed (cut_by n n) (a.known x)) ≡ Some (cut_down n o)) (sym w.tag) (ap (λ x. living (changed (cut_by n n) x)) w.known ∙ alive))))))

  cut_good : (j n room : ℕ) → Good ranking a (call.Cut j n) room (cut (terms ranking) m j n)
  unfolding cut
  cut_good j n room =
      decided_good (call.Cut j n) room (cut_refusal (at_rest j m) n) (cut_to (terms ranking) m (at_rest j m) n) (cut_case ranking m a k h j n room)
      (λ f. by_option (at_rest j m) (λ x. at_rest j m ≡ x → Good ranking a (call.Cut j n) room (cut_to (terms ranking) m x n))
      (λ _ e. absurd ((passed NotResting f).0 (sym (remainder_is a m h j) ∙ ap open_of e)))
      (λ l _ e. cut_to_good j n room l (in_hand j l e) f) refl)

  posted_ok : (price shares : ℕ) → (removes price shares || (in_range price && in_range shares)) ≡ true → quote_ok (posted price shares) ≡ true
  posted_ok price shares t =
      cond_both (eqb shares 0) None (Some (record { price = price; shares = shares })) (λ q. quote_ok q ≡ true)
      (λ _. refl) (λ f. grind (arith, nat_tests))

  post_good : (number : ℕ) (side : Side) (price shares room : ℕ) → Good ranking a (call.Post number side price shares) room (post m number side price shares)
  unfolding post
  post_good number side price shares room =
      let c : Call = call.Post number side price shares in
      let new : Quotes = with_quote m.quotes side number (posted price shares) in
      by_test (market_ok number) (λ x. market_ok number ≡ x → FirstCase (Cases a c room) (refusal_of (post_accepted (answer x (fits price shares)))) → Good ranking a c room (posting new (answer x (fits price shares))))
      (λ _ inside. by_test (fits price shares) (λ y. fits price shares ≡ y → FirstCase (Cases a c room) (refusal_of (post_accepted (answer true y))) → Good ranking a c room (posting new (answer true y)))
      (λ _ t f. accepted_good c room (accepted 0 0 0 0) [] (market m.bids m.offers new m.arrivals) (omega arith) f (refl, refl, refl, refl, refl)
      (record { sides = λ s. sides_kept s new; apart = k.apart; quotes = with_quote_lawful m.quotes k.quotes side number (posted price shares) inside (posted_ok price shares t) })
      (record { resting = h.resting; quotes = ap (λ b. with_quote b side number (posted price shares)) h.quotes; accepted = h.accepted }))
      (λ _ _ f. refused_good c room Quotation f) refl)
      (λ _ _ f. refused_good c room MarketNumber f) refl (post_case a number side price shares room)
    where
      fits : ℕ → ℕ → Bool
      fits price shares = removes price shares || (in_range price && in_range shares)

      answer : Bool → Bool → Result Unit Refusal
      answer x y = cond x (cond y (Ok tt) (Err Quotation)) (Err MarketNumber)

      posting : Quotes → Result Unit Refusal → Outcome
      posting new r = outcome (post_accepted r) [] (market m.bids m.offers (if_ok r new m.quotes) m.arrivals)

      sides_kept : (s : Side) (b : Quotes) → SideKept ranking s m.arrivals (of_side s (market m.bids m.offers b m.arrivals))
      sides_kept Buy b = k.sides Buy
      sides_kept Sell b = k.sides Sell

  pub call_good : (c : Call) (room : ℕ) → Good ranking a c room (apply (terms ranking) m c room)
  call_good (call.Enter side price kind shares) room = enter_good side price kind shares room
  call_good (call.Cut arrival shares) room = cut_good arrival shares room
  call_good (call.Cancel arrival) room = cancel_good arrival room
  call_good (call.Post number side price shares) room = post_good number side price shares room

-- What calls leave is kept, and of some account.
pub reached : (ranking : Ranking) → Ranks ranking → (cs : List (Call × ℕ)) (m : Market) (a : Account) → Kept ranking m → Matches a m → (x : Account) × (Kept ranking (after (terms ranking) m cs) × Matches x (after (terms ranking) m cs))
reached ranking law [] m a k h = (a, (k, h))
reached ranking law (c ∷ cs) m a k h =
    let o = apply (terms ranking) m c.0 c.1 in
    let g = call_good ranking law m a k h c.0 c.1 in
    reached ranking law cs o.market (reckon (entry c.0 c.1 o) a) g.kept g.matches

-- The whole tape, call by call.
tape_fair : (ranking : Ranking) → Ranks ranking → (cs : List (Call × ℕ)) (m : Market) (a : Account) → Kept ranking m → Matches a m → FairTape ranking a (tape (terms ranking) m cs)
tape_fair ranking law [] m a k h = tt
tape_fair ranking law (c ∷ cs) m a k h =
    let o = apply (terms ranking) m c.0 c.1 in
    let g = call_good ranking law m a k h c.0 c.1 in
    (g.judged, tape_fair ranking law cs o.market (reckon (entry c.0 c.1 o) a) g.kept g.matches)

pub fresh_kept : (ranking : Ranking) (b : Quotes) → Lawful b → Kept ranking (fresh b)
fresh_kept ranking b l = record { sides = none; apart = λ n x y e. absurd (none_some x e); quotes = l }
  where
    none : (s : Side) → SideKept ranking s 0 (of_side s (fresh b))
    none Buy = record { sorted = tt; distinct = tt; each = tt; room = omega arith }
    none Sell = record { sorted = tt; distinct = tt; each = tt; room = omega arith }

pub fresh_matches : (b : Quotes) → Matches (empty_account b) (fresh b)
fresh_matches b = record { resting = λ n. refl; quotes = refl; accepted = refl }

pub tape_law : TapeLaw
tape_law ranking law b l cs = tape_fair ranking law cs (fresh b) (empty_account b) (fresh_kept ranking b l) (fresh_matches b)

pub tape_goes_on : TapeGoesOn
tape_goes_on t m [] c room = record { tape_is = refl; after_is = refl }
tape_goes_on t m (d ∷ cs) c room =
    let o = apply t m d.0 d.1 in
    let rest = tape_goes_on t o.market cs c room in
    record { tape_is = ap (λ es. entry d.0 d.1 o ∷ es) rest.tape_is; after_is = rest.after_is }

-- the law at one call, for the contract of whatever makes it
pub upholds : (ranking : Ranking) → Ranks ranking → (m : Market) (c : Call) (room : ℕ) → Upholds ranking m c room (apply (terms ranking) m c room)
upholds ranking law m c room b l cs e =
    subst (λ x. FairTape ranking (empty_account b) (tape (terms ranking) (fresh b) cs ++ entry c room (apply (terms ranking) x c room) ∷ [])) e
    (subst (FairTape ranking (empty_account b)) (tape_goes_on (terms ranking) (fresh b) cs c room).tape_is (tape_law ranking law b l (cs ++ (c, room) ∷ [])))
