-- The lines of a session played one by one: what is written, and the text of those that are left, make the whole. Assumes nothing.
use Rattle.std.proofs.Common.{◌≡◌, ℕ, zero, suc, ◌+◌, ◌<◌, ◌≤◌, true, List, [], ◌∷◌, ◌++◌, length, drop, is_some, Some, None, Ok, Err, Option, Result, sym, refl, ap, ◌∙◌, subst, append_assoc, append-nil, arith, length-append, length-take}
use Rattle.std.proofs.lemmas.Bool.{cond_both}
use Rattle.std.proofs.lemmas.List.{drop_all}
use Rattle.market.specs.declared.types.Refusal.{Refusal}
use Rattle.market.specs.declared.types.Refusal.TheVariants.{NotResting}
use Rattle.market.specs.Words.{opposite}
use Rattle.shelf.specs.Standing.{nth}
use Rattle.board.specs.Quotes.{post_answer}
use Rattle.rules.specs.declared.types.Accepted.{Accepted}
use Rattle.rules.specs.declared.types.Located.{Located}
use Rattle.rules.specs.declared.types.Row.{Row}
use Rattle.rules.specs.declared.types.Call.{Call}
use Rattle.rules.specs.declared.types.Call.TheVariants as call
use Rattle.rules.specs.Calls.{Market, Outcome, Terms, terms, of_side, outcome, decided, rows_in, arriving, enter_refusal, settled, enter, at_rest, leaves, cut, cut_to, cut_stayed, cut_refusal, cancel, cancel_refusal, cancelled, post, post_accepted, apply, lit}
use Rattle.rules.specs.Rankings.{Ranking}
use Rattle.rules.specs.Sweeps.{standing, measured_sweep}
use Rattle.law.specs.Law.{entry, after, tape}
use Rattle.files.specs.declared.types.Body.{Body}
use Rattle.files.specs.Lines.{Line, line_in}
use Rattle.files.specs.Calls.{call_of}
use Rattle.session.specs.Listing.{answer_text, rows_text, label_text, entry_text, light_after}
use Rattle.session.specs.declared.listing.Page.{Page}
use Rattle.session.specs.Pages.{HasRoom, Wrote}
use Rattle.session.specs.Markets.{outcome_of, played_text, text_from}
use Rattle.session.specs.Sessions.{rows_count, calls}
use Rattle.session.proofs.Writing.{wrote_then}

-- the identifier after the last entry is that of the market after the last call
pub light_right : (t : Terms) (m : Market) (cs : List (Call × ℕ)) → light_after (lit m) (tape t m cs) ≡ lit (after t m cs)
light_right t m [] = refl
light_right t m (c ∷ cs) = light_right t (apply t m c.0 c.1).market cs

drop_nth : {X : Type 0} (xs : List X) (i : ℕ) (x : X) → nth i xs ≡ Some x → drop i xs ≡ x ∷ drop (i + 1) xs
drop_nth [] i x e = cc
drop_nth (y ∷ ys) zero x e = let j : y ≡ x = cc in ap (λ z. z ∷ ys) j
drop_nth (y ∷ ys) (suc i) x e =
    let k : suc (i + 1) ≡ suc i + 1 = omega arith in
    drop_nth ys i x e ∙ ap (λ n. x ∷ drop n (y ∷ ys)) k

-- i lines are played, from the market `start` to m, and their text is written
pub record Played (ranking : Ranking) (start m : Market) (lines : List Line) (i : ℕ) (old new : Page) : Type 0 where
  pub text : List ℕ
  pub wrote : Wrote old new text
  pub whole : text ++ text_from ranking m (drop i lines) ≡ text_from ranking start lines
  pub market : after (terms ranking) m (calls (drop i lines)) ≡ after (terms ranking) start (calls lines)

module _ {ranking : Ranking} {start m : Market} {lines : List Line} {i : ℕ} {old page : Page} (p : Played ranking start m lines i old page) where
  -- what is left of the text, where a line is played next
  text_left : (line : Line) → nth i lines ≡ Some line → p.text ++ (played_text ranking m line ++ text_from ranking (outcome_of ranking m line).market (drop (i + 1) lines)) ≡ text_from ranking start lines
  text_left line here = ap (λ ls. p.text ++ text_from ranking m ls) (sym (drop_nth lines i line here)) ∙ p.whole

  pub room_left : (line : Line) → nth i lines ≡ Some line → HasRoom old (text_from ranking start lines) → HasRoom page (played_text ranking m line)
  room_left line here room =
      let w = p.wrote in
      let text = played_text ranking m line in
      let rest = text_from ranking (outcome_of ranking m line).market (drop (i + 1) lines) in
      omega (arith, ap length (text_left line here), length-append p.text (text ++ rest), length-append text rest, w.end, w.same_length)

  pub played_more : {n : Market} {new : Page} (line : Line) → nth i lines ≡ Some line → Wrote page new (played_text ranking m line) → n ≡ (outcome_of ranking m line).market → Played ranking start n lines (i + 1) old new
  played_more line here w after_is =
      let text = played_text ranking m line in
      record {
        text = p.text ++ text;
        wrote = wrote_then p.wrote w;
        whole = rw after_is (append_assoc p.text text _ ∙ text_left line here);
        market = rw after_is (ap (λ ls. after (terms ranking) m (calls ls)) (sym (drop_nth lines i line here)) ∙ p.market);
      }

  -- what is written is no longer than the whole
  pub played_short : page.written ≤ old.written + length (text_from ranking start lines)
  played_short = omega (arith, p.wrote.end, ap length p.whole, length-append p.text (text_from ranking m (drop i lines)))

  -- when no line is left, the whole is written, and m is where all calls lead
  pub played_all : length lines ≤ i → Wrote old page (text_from ranking start lines) × (m ≡ after (terms ranking) start (calls lines))
  played_all h =
      let none : drop i lines ≡ [] = drop_all i lines h in
      let whole : p.text ≡ text_from ranking start lines = sym (append-nil p.text) ∙ ap (λ ls. p.text ++ text_from ranking m ls) (sym none) ∙ p.whole in
      (subst (Wrote old page) whole p.wrote, ap (λ ls. after (terms ranking) m (calls ls)) (sym none) ∙ p.market)

-- An accepted call answers how many rows it wrote.
abbrev Tallied : Result Accepted Refusal → List Row → Type 0
Tallied r rows = (a : Accepted) → r ≡ Ok a → a.rows ≡ length rows

refused_tallied : (e : Refusal) (rows : List Row) → Tallied (Err e) rows
refused_tallied e rows a f = cc

accepted_tallied : (w : Accepted) (rows : List Row) → w.rows ≡ length rows → Tallied (Ok w) rows
accepted_tallied w rows h a f = let j : w ≡ a = cc in ap (λ (x : Accepted). x.rows) (sym j) ∙ h

decided_tallied : (r : Option Refusal) (m : Market) (o : Outcome) → Tallied o.answer o.rows → Tallied (decided r m o).answer (decided r m o).rows
decided_tallied None m o h = h
decided_tallied (Some e) m o h = refused_tallied e []

cancelled_tallied : (m : Market) (l : Option Located) → Tallied (cancelled m l).answer (cancelled m l).rows
cancelled_tallied m None = refused_tallied NotResting []
cancelled_tallied m (Some l) = accepted_tallied _ [] refl

cut_tallied : (t : Terms) (m : Market) (l : Option Located) (n : ℕ) → Tallied (cut_to t m l n).answer (cut_to t m l n).rows
cut_tallied t m None n = refused_tallied NotResting []
cut_tallied t m (Some l) n =
    cond_both (leaves n l.order) (cancelled m (Some l)) (cut_stayed t m l n) (λ o. Tallied o.answer o.rows)
    (λ _. cancelled_tallied m (Some l)) (λ _. accepted_tallied _ [] refl)

post_tallied : (r : Result Unit Refusal) → Tallied (post_accepted r) []
post_tallied (Ok u) = accepted_tallied _ [] refl
post_tallied (Err e) = refused_tallied e []

pub tallied : (t : Terms) (m : Market) (c : Call) (room : ℕ) → Tallied (apply t m c room).answer (apply t m c room).rows
unfolding enter cut cancel post
tallied t m (call.Enter side price kind shares) room =
    let i = arriving m side price kind shares in
    decided_tallied (enter_refusal i m.arrivals (length (of_side side m)) room) m
    (settled t (measured_sweep (standing i (of_side side m) (of_side (opposite side) m) m.quotes))) (accepted_tallied _ _ refl)
tallied t m (call.Cut arrival shares) room = decided_tallied (cut_refusal (at_rest arrival m) shares) m (cut_to t m (at_rest arrival m) shares) (cut_tallied t m (at_rest arrival m) shares)
tallied t m (call.Cancel arrival) room = decided_tallied (cancel_refusal (at_rest arrival m)) m (cancelled m (at_rest arrival m)) (cancelled_tallied m (at_rest arrival m))
tallied t m (call.Post k side price shares) room = post_tallied (post_answer k price shares)

-- an answer speaks of no more rows than the report has
pub rows_there : (t : Terms) (m n : Market) (c : Call) (r : Result Accepted Refusal) (report : List Row) → outcome r (rows_in r report) n ≡ apply t m c 144 → rows_count r ≤ length report
rows_there t m n c (Ok a) report e =
    let is = ap (λ (o : Outcome). o.answer) (sym e) in
    let same = ap (λ (o : Outcome). length o.rows) e in
    omega (arith, tallied t m c 144 a is, same, length-take a.rows report)
rows_there t m n c (Err f) report e = omega arith

-- what is written of a call is the text of its entry
pub entry_is : (line : Line) {o : Outcome} {label : List ℕ} {r : Result Accepted Refusal} {rows listed : List Row} {m : Market} → label ≡ label_text line → listed ≡ rows → outcome r rows m ≡ o → answer_text label r ++ rows_text listed ≡ entry_text line (entry (call_of line) 144 o)
entry_is line {r = r} {listed = listed} is_label is_rows is_outcome =
    ap (λ l. answer_text l r ++ rows_text listed) is_label ∙ ap (λ rs. answer_text (label_text line) r ++ rows_text rs) is_rows ∙ ap (λ (x : Outcome). entry_text line (entry (call_of line) 144 x)) is_outcome

-- The body of an index is that of its line.
pub body_there : (o : Option Body) (lines : List Line) (i : ℕ) → i < length lines → line_in o ≡ nth i lines → is_some o ≡ true
body_there (Some b) lines i h e = refl
body_there None lines i h e = absurd (never lines i h e)
  where
    never : (lines : List Line) (i : ℕ) → i < length lines → ◌≡◌ {A = Option Line} None (nth i lines) → ⊥
    never [] i h e = omega arith
    never (line ∷ lines) zero h e = cc
    never (line ∷ lines) (suc i) h e = never lines i (omega arith) e
