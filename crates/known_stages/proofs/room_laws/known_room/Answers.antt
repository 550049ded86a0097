use Rattle.known_stages.proofs.RoomFacts as fact
use Rattle.known_stages.proofs.room_laws.known_room.Goals as goal

pub returns-clause-caught : goal.returns-clause-caught
returns-clause-caught c = fact.caught_fits

pub returns-clause-tail : goal.returns-clause-tail
returns-clause-tail c = fact.tail_fits

pub returns-clause-no_cost_48 : goal.returns-clause-no_cost_48
returns-clause-no_cost_48 c = fact.no_cost_48

pub returns-clause-no_cost_250 : goal.returns-clause-no_cost_250
returns-clause-no_cost_250 c = fact.no_cost_250

pub returns-clause-passes_one : goal.returns-clause-passes_one
returns-clause-passes_one c = fact.passes_one_fails

pub returns-clause-takes_two : goal.returns-clause-takes_two
returns-clause-takes_two c = fact.takes_two_fails

pub returns-clause-reads_unwritten : goal.returns-clause-reads_unwritten
returns-clause-reads_unwritten c = fact.unwritten_fails

pub returns-clause-fits : goal.returns-clause-fits
returns-clause-fits c = fact.variable_fits

pub returns-clause-wide : goal.returns-clause-wide
returns-clause-wide c = fact.wide_fails

pub returns-clause-long : goal.returns-clause-long
returns-clause-long c = fact.long_fails
