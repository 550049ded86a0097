use Rattle.pan_base.proofs.TookLemmas.{Took-none, Took-more, TookFront-on}
use Rattle.pan_base.proofs.laws.sinks_go_on.Goals as goal

pub returns : goal.returns
returns c = record { nothing = Took-none; more = Took-more; front = TookFront-on }
