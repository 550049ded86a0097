use Rattle.riscv_machine.proofs.AdvanceLemmas.{advances}
use Rattle.riscv_machine.proofs.asker.MachineAsker.advance.Goals as goal

pub returns : goal.returns
returns c =
    let run = c.run-used in
    let pause = c.pause-pause in
    record {
      advances = advances c.args.self.now run.new.self c.args.budget run.result run.ensures.ran pause.result pause.ensures;
      end = run.ensures.end;
    }
