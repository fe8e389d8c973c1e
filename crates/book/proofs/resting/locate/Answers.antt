use Rattle.std.proofs.Common.{◌≡◌, rules}
use Rattle.rules.specs.Calls.{located, of_arrival}
use Rattle.book.proofs.Searches.{first_within, either_within}
use Rattle.book.proofs.resting.locate.Goals as goal

pub returns-clause-within : goal.returns-clause-within
returns-clause-within c =
    let k = c.args.arrival in
    let e : c.or_else.result ≡ located k c.args.bids.now c.args.offers.now = search rules in
    rw e (either_within (of_arrival k c.args.bids.now) (of_arrival k c.args.offers.now) c.args.bids.now c.args.offers.now (first_within _ c.args.bids.now) (first_within _ c.args.offers.now))
