use Rattle.std.proofs.Common.{refl}
use Rattle.board.specs.Quotes.{best_in}
use Rattle.rules.specs.Trading.{passes, away_volume}
use Rattle.rules.specs.Sweeps.{next, sweep, measured_sweep}
use Rattle.rules.specs.Calls.{enter_refusal, enter, cut, post}
use Rattle.law.proofs.known_sweeps.Goals as goal

pub returns : goal.returns
unfolding best_in passes away_volume next sweep measured_sweep enter_refusal enter cut post
returns c = refl
