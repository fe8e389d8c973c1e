-- A whole sweep passes the judge, row by row and at its end; what it leaves is sound, and the account after its rows agrees with it.
-- Rests on the lemmas on one step.
use Rattle.std.proofs.Common.{◌≡◌, ℕ, zero, suc, ◌+◌, ◌≤◌, Bool, true, false, cond, eqb, [], ◌∷◌, length, Some, None, refl, ap, ◌∙◌, subst, arith}
use Rattle.market.specs.Words.{opposite}
use Rattle.rules.specs.declared.types.Order.{Order}
use Rattle.rules.specs.Rankings.{Ranking, Ranks}
use Rattle.rules.specs.Trading.{Stand}
use Rattle.rules.specs.Sweeps.{Swept, with_open, swept, rows_before, next, sweep}
use Rattle.law.specs.Tape.{Account, reckon_row, reckon_rows}
use Rattle.law.specs.Judge.{FairSweep}
use Rattle.law.proofs.Branches.{by_option}
use Rattle.law.specs.Holdings.{quoted}
use Rattle.law.proofs.Quotations.{quoted_at_most}
use Rattle.law.proofs.Conditions.{Sound, Agrees}
use Rattle.law.proofs.Steps.{weight, bulk, weightless, none_ended, step}

-- What a sweep leaves: the incoming order but for its open shares, which have not grown, and its own side as it was.
pub record LeavesOff (ranking : Ranking) (n : ℕ) (s : Stand) (a : Account) (w : Swept) : Type 0 where
  pub sound : Sound ranking n w.stand
  pub agrees : Agrees (reckon_rows w.rows a) w.stand
  pub same : w.stand.incoming ≡ with_open w.stand.incoming.«open» s.incoming
  pub falls : w.stand.incoming.«open» ≤ s.incoming.«open»
  pub own : w.stand.own ≡ s.own

pub untraded : (ranking : Ranking) (n : ℕ) (s : Stand) (a : Account) → Sound ranking n s → Agrees a s → LeavesOff ranking n s a (swept [] s)
untraded ranking n s a ok ag = record { sound = ok; agrees = ag; same = refl; falls = omega arith; own = refl }

pub record FairlySwept (ranking : Ranking) (n : ℕ) (s : Stand) (a : Account) (w : Swept) : Type 0 where
  pub fair : FairSweep ranking s.incoming.arrival a w.rows
  pub leaves_off : LeavesOff ranking n s a w
  pub few : length w.rows ≤ weight s
  pub uses_up : length w.rows + bulk w.stand ≤ bulk s
  pub own_quoted : quoted w.stand.quotes s.incoming.side 16 ≡ quoted s.quotes s.incoming.side 16

module _ (ranking : Ranking) (law : Ranks ranking) (n : ℕ) where
  -- as many steps as there is left to trade with bring a sweep to its end
  sweep_fair : (k : ℕ) (s : Stand) (a : Account) → Sound ranking n s → Agrees a s → weight s ≤ k → FairlySwept ranking n s a (sweep k s)
  unfolding sweep
  sweep_fair zero s a ok ag h = record {
    fair = none_ended ranking law n s a ok ag (weightless s h);
    leaves_off = untraded ranking n s a ok ag;
    few = omega arith;
    uses_up = omega arith;
    own_quoted = refl;
  }
  sweep_fair (suc k) s a ok ag h =
      by_option (next s) (λ x. next s ≡ x → FairlySwept ranking n s a (elim x [ None ↦ swept [] s | Some t ↦ rows_before (t.row ∷ []) (sweep k t.stand) ]))
      (λ _ e. record { fair = none_ended ranking law n s a ok ag e; leaves_off = untraded ranking n s a ok ag; few = omega arith; uses_up = omega arith; own_quoted = refl })
      (λ t _ e.
      let st = step ranking law n s a ok ag t e in
      let lighter = st.lighter in
      let rest = sweep_fair k t.stand (reckon_row t.row a) st.sound st.agrees (omega arith) in
      let off = rest.leaves_off in
      let p = st.falls in
      let q = off.falls in
      let few = rest.few in
      record {
        fair = (st.fair, subst (λ j. FairSweep ranking j (reckon_row t.row a) (sweep k t.stand).rows) (ap (λ (o : Order). o.arrival) st.same) rest.fair);
        leaves_off = record {
          sound = off.sound;
          agrees = off.agrees;
          same = off.same ∙ ap (with_open (sweep k t.stand).stand.incoming.«open») st.same;
          falls = omega arith;
          own = off.own ∙ st.own;
        };
        few = omega arith;
        uses_up = let u = st.uses_up in let v = rest.uses_up in omega arith;
        own_quoted = subst (λ x. quoted (sweep k t.stand).stand.quotes x 16 ≡ quoted t.stand.quotes x 16) (ap (λ (o : Order). o.side) st.same) rest.own_quoted ∙ st.own_quoted;
      }) refl

  -- 128 orders and 16 quotations are used up in 144 steps
  pub weight_at_most : (s : Stand) → Sound ranking n s → weight s ≤ 144
  weight_at_most s ok = small (eqb s.incoming.«open» 0)
    where
      small : (b : Bool) → cond b 0 (length s.opp + quoted s.quotes (opposite s.incoming.side) 16) ≤ 144
      small true = omega arith
      small false = let k = quoted_at_most s.quotes (opposite s.incoming.side) 16 in let r = ok.opp.room in omega arith

  pub whole_sweep : (s : Stand) (a : Account) → Sound ranking n s → Agrees a s → FairlySwept ranking n s a (sweep 144 s)
  whole_sweep s a ok ag = sweep_fair 144 s a ok ag (weight_at_most s ok)
