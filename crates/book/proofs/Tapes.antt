-- A call that gives what the rules say keeps the tape fair. Assumes nothing.
use Rattle.std.proofs.Common.{◌≡◌, ℕ, true, cond, Some, None, sym, ap, ◌∙◌, subst}
use Rattle.market.specs.declared.types.Refusal.TheVariants.{SideCells}
use Rattle.rules.specs.declared.types.Call.{Call}
use Rattle.rules.specs.Rankings.{Ranking, Ranks}
use Rattle.rules.specs.Calls.{Market, Outcome, terms, fresh, apply, decided, cells_ok, cells_refusal}
use Rattle.law.specs.Law.{Upholds}
use Rattle.law.proofs.Tapes.{upholds, tape_goes_on}
use Rattle.book.specs.Tapes.{GoesOnFairly}

pub goes_on_fairly : (ranking : Ranking) → Ranks ranking → (a b : ℕ) (m : Market) (c : Call) (room : ℕ) (o : Outcome) → o ≡ decided (cells_refusal a b) m (apply (terms ranking) m c room) → cells_ok a b ≡ true → GoesOnFairly ranking m c room o
goes_on_fairly ranking l a b m c room o given cells =
    let e : o ≡ apply (terms ranking) m c room = given ∙ ap (λ k. decided (cond k None (Some SideCells)) m (apply (terms ranking) m c room)) cells in
    record {
      fair = subst (λ (x : Outcome). Upholds ranking m c room x) (sym e) (upholds ranking l m c room);
      leaves = λ start calls leads.
          ap (λ (x : Outcome). x.market) e ∙ ap (λ x. (apply (terms ranking) x c room).market) (sym leads)
          ∙ sym (tape_goes_on (terms ranking) (fresh start) calls c room).after_is;
    }
