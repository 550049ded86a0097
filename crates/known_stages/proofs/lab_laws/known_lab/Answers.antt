use Rattle.known_stages.proofs.LabMeanings.{calls_near_is, calls_far_is, calls_spent_is, jumps_near_is, jumps_far_is, jumps_spent_is, branches_near_is, branches_far_is, branches_spent_is, passes_near_is, passes_far_is, addresses_is, nowhere_is, inside_is, reads_is, stopped_is, asks_is, done_is, loops_near_is, loops_far_is, loops_spent_is, caught_near_is, caught_far_is, caught_spent_is, tail_near_is, tail_far_is, tail_spent_is}
use Rattle.known_stages.proofs.lab_laws.known_lab.Goals as goal

pub returns-clause-calls_near : goal.returns-clause-calls_near
returns-clause-calls_near c = calls_near_is

pub returns-clause-calls_far : goal.returns-clause-calls_far
returns-clause-calls_far c = calls_far_is

pub returns-clause-calls_spent : goal.returns-clause-calls_spent
returns-clause-calls_spent c = calls_spent_is

pub returns-clause-jumps_near : goal.returns-clause-jumps_near
returns-clause-jumps_near c = jumps_near_is

pub returns-clause-jumps_far : goal.returns-clause-jumps_far
returns-clause-jumps_far c = jumps_far_is

pub returns-clause-jumps_spent : goal.returns-clause-jumps_spent
returns-clause-jumps_spent c = jumps_spent_is

pub returns-clause-branches_near : goal.returns-clause-branches_near
returns-clause-branches_near c = branches_near_is

pub returns-clause-branches_far : goal.returns-clause-branches_far
returns-clause-branches_far c = branches_far_is

pub returns-clause-branches_spent : goal.returns-clause-branches_spent
returns-clause-branches_spent c = branches_spent_is

pub returns-clause-passes_near : goal.returns-clause-passes_near
returns-clause-passes_near c = passes_near_is

pub returns-clause-passes_far : goal.returns-clause-passes_far
returns-clause-passes_far c = passes_far_is

pub returns-clause-addresses : goal.returns-clause-addresses
returns-clause-addresses c = addresses_is

pub returns-clause-nowhere : goal.returns-clause-nowhere
returns-clause-nowhere c = nowhere_is

pub returns-clause-inside : goal.returns-clause-inside
returns-clause-inside c = inside_is

pub returns-clause-reads : goal.returns-clause-reads
returns-clause-reads c = reads_is

pub returns-clause-stopped : goal.returns-clause-stopped
returns-clause-stopped c = stopped_is

pub returns-clause-asks : goal.returns-clause-asks
returns-clause-asks c = asks_is

pub returns-clause-done : goal.returns-clause-done
returns-clause-done c = done_is

pub returns-clause-loops_near : goal.returns-clause-loops_near
returns-clause-loops_near c = loops_near_is

pub returns-clause-loops_far : goal.returns-clause-loops_far
returns-clause-loops_far c = loops_far_is

pub returns-clause-loops_spent : goal.returns-clause-loops_spent
returns-clause-loops_spent c = loops_spent_is

pub returns-clause-caught_near : goal.returns-clause-caught_near
returns-clause-caught_near c = caught_near_is

pub returns-clause-caught_far : goal.returns-clause-caught_far
returns-clause-caught_far c = caught_far_is

pub returns-clause-caught_spent : goal.returns-clause-caught_spent
returns-clause-caught_spent c = caught_spent_is

pub returns-clause-tail_near : goal.returns-clause-tail_near
returns-clause-tail_near c = tail_near_is

pub returns-clause-tail_far : goal.returns-clause-tail_far
returns-clause-tail_far c = tail_far_is

pub returns-clause-tail_spent : goal.returns-clause-tail_spent
returns-clause-tail_spent c = tail_spent_is
