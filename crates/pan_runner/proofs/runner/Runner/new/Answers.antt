use Rattle.pan_runner.proofs.Beginning.{begins_as, begins_running, starts_so}
use Rattle.pan_runner.proofs.runner.Runner.new.Goals as goal

pub returns-clause-go : goal.returns-clause-go
returns-clause-go c = begins_as c.args.checked.now c.in_ok-program.program _ c.args.memory.now c.in_ok-program.ensures.means (starts_so c.in_ok-program.program c.first_phase-phase.result c.new-2.result c.new-3.result c.in_ok-memory.memory c.args.memory.now c.new-2.ensures c.new-3.ensures c.in_ok-memory.ensures c.first_phase-phase.ensures.begins)

pub returns-clause-runs : goal.returns-clause-runs
returns-clause-runs c = begins_running c.in_ok-program.program _ c.args.memory.now c.in_ok-program.ensures.main (starts_so c.in_ok-program.program c.first_phase-phase.result c.new-2.result c.new-3.result c.in_ok-memory.memory c.args.memory.now c.new-2.ensures c.new-3.ensures c.in_ok-memory.ensures c.first_phase-phase.ensures.begins)
