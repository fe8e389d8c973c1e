-- One step of a sweep, case by case, and a sweep by its first step. Assumes nothing.
use Rattle.std.proofs.Common.{◌≡◌, ℕ, zero, suc, ◌+◌, ◌<◌, ◌≤◌, Bool, true, false, cond, not, leb, List, [], ◌∷◌, ◌++◌, length, take, drop, set, Some, None, Option, sym, refl, ap, ◌∙◌, append_assoc, append-nil, arith}
use Rattle.std.proofs.lemmas.List.{take_more_set, take-append-drop, drop-append-le, length-take-le}
use Rattle.std.proofs.lemmas.Bool.{eq-eqb, ne_eqb}
use Rattle.market.specs.Words.{opposite}
use Rattle.shelf.specs.declared.types.Placed.{Placed}
use Rattle.shelf.specs.Standing.{first}
use Rattle.board.specs.declared.types.Best.{Best}
use Rattle.board.specs.Quotes.{best_in}
use Rattle.rules.specs.declared.types.Order.{Order}
use Rattle.rules.specs.declared.types.Row.{Row}
use Rattle.rules.specs.Orders.{mtv_of}
use Rattle.rules.specs.Trading.{Stand, may_trade, volume}
use Rattle.rules.specs.Sweeps.{Step, Swept, next, chosen, trade, routed_first, sweep, swept, rows_before, stepped, measured_sweep}
use Rattle.book.specs.Held.{KeptFrom}

pub next_zero : (s : Stand) → s.incoming.«open» ≡ 0 → next s ≡ None
unfolding next
next_zero s e = ap (λ b. cond b None (chosen s (first (may_trade s) s.opp 0))) (eq-eqb s.incoming.«open» 0 e)

pub next_is : (s : Stand) (c : Option (Placed Order)) → (s.incoming.«open» ≡ 0 → ⊥) → c ≡ first (may_trade s) s.opp 0 → next s ≡ chosen s c
unfolding next
next_is s c z e =
    ap (λ b. cond b None (chosen s (first (may_trade s) s.opp 0))) (ne_eqb s.incoming.«open» 0 z) ∙ ap (chosen s) (sym e)

pub chosen_is : (s : Stand) (c : Placed Order) (r : Option Best) → r ≡ routed_first s.incoming (best_in s.quotes (opposite s.incoming.side)) c.item.price → chosen s (Some c) ≡ Some (trade s c r)
chosen_is s c r e = ap (λ b. Some (trade s c b)) (sym e)

sweep_none : (n : ℕ) (s : Stand) → next s ≡ None → sweep n s ≡ swept [] s
unfolding sweep
sweep_none zero s e = refl
sweep_none (suc n) s e = ap (λ o. elim o [ None ↦ swept [] s | Some t ↦ rows_before (t.row ∷ []) (sweep n t.stand) ]) e

sweep_some : (n : ℕ) (s : Stand) (t : Step) → next s ≡ Some t → sweep (suc n) s ≡ rows_before (t.row ∷ []) (sweep n t.stand)
unfolding sweep
sweep_some n s t e = ap (λ o. elim o [ None ↦ swept [] s | Some t ↦ rows_before (t.row ∷ []) (sweep n t.stand) ]) e

-- one more row
pub sweep_more : (rep : List Row) (n m k : ℕ) (s s' : Stand) (row : Row) (w : Swept) → n < length rep → m ≡ suc k → next s ≡ Some (stepped row s') → rows_before (take n rep) (sweep m s) ≡ w → rows_before (take (n + 1) (set rep n row)) (sweep k s') ≡ w
sweep_more rep n m k s s' row w h f e inv =
    let a : rows_before (take n rep) (sweep m s) ≡ rows_before (take n rep) (rows_before (row ∷ []) (sweep k s')) =
    ap (λ x. rows_before (take n rep) (sweep x s)) f ∙ ap (rows_before (take n rep)) (sweep_some k s (stepped row s') e) in
    let b : take (n + 1) (set rep n row) ++ (sweep k s').rows ≡ take n rep ++ (row ∷ (sweep k s').rows) =
    ap (λ x. x ++ (sweep k s').rows) (take_more_set rep n row h) ∙ append_assoc (take n rep) (row ∷ []) (sweep k s').rows in
    ap (λ x. swept x (sweep k s').stand) b ∙ sym a ∙ inv

-- nothing may trade any more
pub sweep_ends : (rs : List Row) (m : ℕ) (s : Stand) (w : Swept) → next s ≡ None → rows_before rs (sweep m s) ≡ w → swept rs s ≡ w
sweep_ends rs m s w e inv = ap (λ x. swept x s) (sym (append-nil rs)) ∙ sym (ap (rows_before rs) (sweep_none m s e)) ∙ inv

-- the steps are used up
pub sweep_full : (rs : List Row) (m : ℕ) (s : Stand) (w : Swept) → m ≡ 0 → rows_before rs (sweep m s) ≡ w → swept rs s ≡ w
unfolding sweep
sweep_full rs m s w e inv = ap (λ x. swept x s) (sym (append-nil rs)) ∙ sym (ap (λ x. rows_before rs (sweep x s)) e) ∙ inv

-- rows written in the first 144 of a report leave those behind them as they were
pub kept_behind : (n : ℕ) (old front : List Row) → n ≤ 144 → 144 ≤ length old → length front ≡ 144 → KeptFrom n (take 144 old) front → KeptFrom n old (front ++ drop 144 old)
kept_behind n old front h k e f =
    drop-append-le n front (drop 144 old) (omega arith) ∙ ap (λ xs. xs ++ drop 144 old) f
    ∙ sym (drop-append-le n (take 144 old) (drop 144 old) (omega (arith, length-take-le 144 old k))) ∙ ap (drop n) (take-append-drop 144 old)

-- with enough volume an entry sweeps, and else it does not
pub measured_enough : (s : Stand) → leb (mtv_of s.incoming.kind) (volume s.incoming s.opp s.quotes) ≡ true → measured_sweep s ≡ sweep 144 s
unfolding measured_sweep
measured_enough s e = ap (λ b. cond b (sweep 144 s) (swept [] s)) e

pub measured_short : (s : Stand) → leb (mtv_of s.incoming.kind) (volume s.incoming s.opp s.quotes) ≡ false → measured_sweep s ≡ swept [] s
unfolding measured_sweep
measured_short s e = ap (λ b. cond b (sweep 144 s) (swept [] s)) e

pub not_back : (b c : Bool) → not b ≡ not c → b ≡ c
not_back true true e = refl
not_back true false e = sym e
not_back false true e = sym e
not_back false false e = refl
