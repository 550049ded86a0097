use Rattle.known_meanings.proofs.Pinned.{diamond_is, tail_call_is, caught_is}
use Rattle.known_meanings.proofs.laws.known_meanings.Goals as goal

pub returns-clause-diamond : goal.returns-clause-diamond
returns-clause-diamond c = diamond_is

pub returns-clause-tail_call : goal.returns-clause-tail_call
returns-clause-tail_call c = tail_call_is

pub returns-clause-caught : goal.returns-clause-caught
returns-clause-caught c = caught_is
