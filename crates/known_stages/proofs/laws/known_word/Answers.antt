use Rattle.known_stages.proofs.WordMeanings.{loops_is, spent_is, caught_is, tail_is, stopped_is, asks_is, done_is, passes_on_is, breaks_before_is, data_memory_is, lwu_is, lw_is, lhu_is, lb_is, ld_is}
use Rattle.known_stages.proofs.laws.known_word.Goals as goal

pub returns-clause-loops : goal.returns-clause-loops
returns-clause-loops c = loops_is

pub returns-clause-spent : goal.returns-clause-spent
returns-clause-spent c = spent_is

pub returns-clause-caught : goal.returns-clause-caught
returns-clause-caught c = caught_is

pub returns-clause-tail : goal.returns-clause-tail
returns-clause-tail c = tail_is

pub returns-clause-stopped : goal.returns-clause-stopped
returns-clause-stopped c = stopped_is

pub returns-clause-asks : goal.returns-clause-asks
returns-clause-asks c = asks_is

pub returns-clause-done : goal.returns-clause-done
returns-clause-done c = done_is

pub returns-clause-lwu : goal.returns-clause-lwu
returns-clause-lwu c = lwu_is

pub returns-clause-lw : goal.returns-clause-lw
returns-clause-lw c = lw_is

pub returns-clause-lhu : goal.returns-clause-lhu
returns-clause-lhu c = lhu_is

pub returns-clause-lb : goal.returns-clause-lb
returns-clause-lb c = lb_is

pub returns-clause-ld : goal.returns-clause-ld
returns-clause-ld c = ld_is

pub returns-clause-passes_on : goal.returns-clause-passes_on
returns-clause-passes_on c = passes_on_is

pub returns-clause-breaks_before : goal.returns-clause-breaks_before
returns-clause-breaks_before c = breaks_before_is

pub returns-clause-data_memory : goal.returns-clause-data_memory
returns-clause-data_memory c = data_memory_is
