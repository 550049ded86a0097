-- What is live, across and meets in the small flows, decided.
use Rattle.std.proofs.Common.{[], ◌∷◌, refl}
use Rattle.pan_flow.specs.Flow.{AtBreak, AtContinue, Live, ways, behind, Across, Meet}
use Rattle.pan_flow.specs.Functions.{leaves, IsWritten}
use Rattle.known_stages.specs.Flows.{function, one_side, both_sides, in_turns, before_tests, next_turn, behind_return, past_call, from_call, in_handler, own_of_handler, round_loop, not_round, past_foreign, tail_call, two_results, ends_turn}
use Rattle.known_stages.proofs.Decided.{live_yes, live_no, across_yes, across_no, meet_yes, meet_no, written_yes, written_no}

pub one_side_is : Live (ways one_side behind) 0
one_side_is = live_yes one_side 0 refl

pub both_sides_is : ¬ Live (ways both_sides behind) 0
both_sides_is = live_no both_sides 0 refl

pub in_turns_is : Live (ways in_turns behind) 0
in_turns_is = live_yes in_turns 0 refl

pub before_tests_is : ¬ Live (ways before_tests behind) 0
before_tests_is = live_no before_tests 0 refl

pub next_turn_is : Live (ways next_turn behind) 0
next_turn_is = live_yes next_turn 0 refl

pub behind_return_is : ¬ Live (ways behind_return behind) 0
behind_return_is = live_no behind_return 0 refl

pub past_call_is : Across past_call 0
past_call_is = across_yes past_call 0 refl

pub from_call_is : ¬ Across from_call 0
from_call_is = across_no from_call 0 refl

pub in_handler_is : Across in_handler 0
in_handler_is = across_yes in_handler 0 refl

pub result_is : ¬ Across in_handler 1
result_is = across_no in_handler 1 refl

pub own_of_handler_is : ¬ Across own_of_handler 2
own_of_handler_is = across_no own_of_handler 2 refl

pub round_loop_is : Across round_loop 0
round_loop_is = across_yes round_loop 0 refl

pub not_round_is : ¬ Across not_round 0
not_round_is = across_no not_round 0 refl

pub past_foreign_is : Across past_foreign 0
past_foreign_is = across_yes past_foreign 0 refl

pub operand_is : ¬ Across past_foreign 1
operand_is = across_no past_foreign 1 refl

pub tail_call_is : ¬ Across tail_call 0
tail_call_is = across_no tail_call 0 refl

pub one_dead_is : Meet (two_results (0 ∷ [])) 0 1
one_dead_is = meet_yes (two_results (0 ∷ [])) 0 1 (λ e. absurd cc) refl

pub other_dead_is : Meet (two_results (1 ∷ [])) 0 1
other_dead_is = meet_yes (two_results (1 ∷ [])) 0 1 (λ e. absurd cc) refl

pub both_dead_is : ¬ Meet (two_results (2 ∷ [])) 0 1
both_dead_is = meet_no (two_results (2 ∷ [])) 0 1 refl

pub read_behind_is : Meet (ends_turn AtBreak (0 ∷ [])) 0 1
read_behind_is = meet_yes (ends_turn AtBreak (0 ∷ [])) 0 1 (λ e. absurd cc) refl

pub not_behind_is : ¬ Meet (ends_turn AtBreak (2 ∷ [])) 0 1
not_behind_is = meet_no (ends_turn AtBreak (2 ∷ [])) 0 1 refl

pub next_behind_is : Meet (ends_turn AtContinue (0 ∷ [])) 0 1
next_behind_is = meet_yes (ends_turn AtContinue (0 ∷ [])) 0 1 (λ e. absurd cc) refl

pub unwritten_is : ¬ IsWritten (function [] (leaves (0 ∷ []) ∷ []))
unwritten_is = written_no (function [] (leaves (0 ∷ []) ∷ [])) 0 refl

pub parameter_is : IsWritten (function (0 ∷ []) (leaves (0 ∷ []) ∷ []))
parameter_is = written_yes (function (0 ∷ []) (leaves (0 ∷ []) ∷ [])) refl

pub one_way_is : ¬ IsWritten one_side
one_way_is = written_no one_side 0 refl

pub each_way_is : IsWritten both_sides
each_way_is = written_yes both_sides refl
