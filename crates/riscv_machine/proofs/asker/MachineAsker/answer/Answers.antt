use Rattle.riscv_machine.proofs.AnswerLemmas.{machine_answers}
use Rattle.riscv_machine.proofs.asker.MachineAsker.answer.Goals as goal

pub returns-in-Waiting : goal.returns-in-Waiting
returns-in-Waiting c =
    let taken = c.take.ensures in
    machine_answers c.args.self.now c.take.new.self c.in-Waiting.pending _ c.in-Waiting.is taken.config taken.size
