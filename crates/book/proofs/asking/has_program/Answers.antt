use Rattle.std.proofs.Common.{sym, ◌∙◌, rules}
use Rattle.std.proofs.lemmas.Iterator.{YieldsList-from_slice}
use Rattle.std.proofs.lemmas.Iterator.Search.{any_from_yields_List}
use Rattle.rules.specs.Orders.{program}
use Rattle.book.proofs.Loops.{program_in_any}
use Rattle.book.proofs.asking.has_program.Goals as goal

pub returns : goal.returns
returns c =
    any_from_yields_List (λ o. program o.kind) _ _ _ c.any.ensures.ran (YieldsList-from_slice c.args.orders.now c.iter.ensures.rest) (λ x b q k. search rules)
    ∙ sym (program_in_any c.args.orders.now)
