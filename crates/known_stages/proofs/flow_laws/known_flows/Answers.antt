use Rattle.known_stages.proofs.FlowFacts as fact
use Rattle.known_stages.proofs.flow_laws.known_flows.Goals as goal

pub returns-clause-one_side : goal.returns-clause-one_side
returns-clause-one_side c = fact.one_side_is

pub returns-clause-both_sides : goal.returns-clause-both_sides
returns-clause-both_sides c = fact.both_sides_is

pub returns-clause-in_turns : goal.returns-clause-in_turns
returns-clause-in_turns c = fact.in_turns_is

pub returns-clause-before_tests : goal.returns-clause-before_tests
returns-clause-before_tests c = fact.before_tests_is

pub returns-clause-next_turn : goal.returns-clause-next_turn
returns-clause-next_turn c = fact.next_turn_is

pub returns-clause-behind_return : goal.returns-clause-behind_return
returns-clause-behind_return c = fact.behind_return_is

pub returns-clause-past_call : goal.returns-clause-past_call
returns-clause-past_call c = fact.past_call_is

pub returns-clause-from_call : goal.returns-clause-from_call
returns-clause-from_call c = fact.from_call_is

pub returns-clause-in_handler : goal.returns-clause-in_handler
returns-clause-in_handler c = fact.in_handler_is

pub returns-clause-result : goal.returns-clause-result
returns-clause-result c = fact.result_is

pub returns-clause-own_of_handler : goal.returns-clause-own_of_handler
returns-clause-own_of_handler c = fact.own_of_handler_is

pub returns-clause-round_loop : goal.returns-clause-round_loop
returns-clause-round_loop c = fact.round_loop_is

pub returns-clause-not_round : goal.returns-clause-not_round
returns-clause-not_round c = fact.not_round_is

pub returns-clause-past_foreign : goal.returns-clause-past_foreign
returns-clause-past_foreign c = fact.past_foreign_is

pub returns-clause-operand : goal.returns-clause-operand
returns-clause-operand c = fact.operand_is

pub returns-clause-tail_call : goal.returns-clause-tail_call
returns-clause-tail_call c = fact.tail_call_is

pub returns-clause-one_dead : goal.returns-clause-one_dead
returns-clause-one_dead c = fact.one_dead_is

pub returns-clause-other_dead : goal.returns-clause-other_dead
returns-clause-other_dead c = fact.other_dead_is

pub returns-clause-both_dead : goal.returns-clause-both_dead
returns-clause-both_dead c = fact.both_dead_is

pub returns-clause-read_behind : goal.returns-clause-read_behind
returns-clause-read_behind c = fact.read_behind_is

pub returns-clause-not_behind : goal.returns-clause-not_behind
returns-clause-not_behind c = fact.not_behind_is

pub returns-clause-next_behind : goal.returns-clause-next_behind
returns-clause-next_behind c = fact.next_behind_is

pub returns-clause-unwritten : goal.returns-clause-unwritten
returns-clause-unwritten c = fact.unwritten_is

pub returns-clause-parameter : goal.returns-clause-parameter
returns-clause-parameter c = fact.parameter_is

pub returns-clause-one_way : goal.returns-clause-one_way
returns-clause-one_way c = fact.one_way_is

pub returns-clause-each_way : goal.returns-clause-each_way
returns-clause-each_way c = fact.each_way_is
