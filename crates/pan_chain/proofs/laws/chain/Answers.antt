use Rattle.std.proofs.Common.{subst, sym}
use Rattle.pan_stage.specs.Room.{HasRoom}
use Rattle.pan_stage.proofs.Chain.{keeps_then, room_kept, over_stack_then, steps_then}
use Rattle.pan_tree.specs.Meaning.{source}
use Rattle.pan_chain.specs.Whole.{most_instructions, source_stage, machine_of}
use Rattle.pan_chain.proofs.InTime.{within_time}
use Rattle.pan_chain.proofs.laws.chain.Goals as goal

pub returns-clause-passes : goal.returns-clause-passes
returns-clause-passes c = keeps_then

pub returns-clause-frames : goal.returns-clause-frames
returns-clause-frames c = over_stack_then

pub returns-clause-room : goal.returns-clause-room
returns-clause-room c = λ a b k h. room_kept (b.face).costs a.needs b.needs k.needs (subst (λ f. HasRoom f.costs a.needs) (sym k.face) h)

pub returns-clause-lines : goal.returns-clause-lines
returns-clause-lines c = steps_then

pub returns-clause-within : goal.returns-clause-within
returns-clause-within c = within_time

pub returns-clause-faithful : goal.returns-clause-faithful
returns-clause-faithful c = λ program image parts face sites a b l f g h e is. record {
  layout = is;
  agree = λ memory stack replies lawful size.
      let first = source program memory replies in
      let runs = machine_of parts stack memory replies in
      (c.both_ways).ensures.agree stack first runs ((c.machine_goes_on).ensures parts memory stack replies) ((c.source_meets_no_limit).ensures program memory replies)
      ((c.both_ways).ensures.in_time stack (most_instructions first) first runs
      (within_time face sites (source program) (machine_of parts) (steps_then (source_stage face sites (source program)) b l (machine_of parts) (over_stack_then (source_stage face sites (source program)) a b f g) h e) stack memory replies size lawful));
}
