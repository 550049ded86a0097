use Rattle.riscv_isa.proofs.RunLaws.{steady}
use Rattle.lab_lang.specs.Meaning.{asks, replied, step}
use Rattle.machine_start.specs.Start.{started}
use Rattle.lab_lang.proofs.laws.lines_go_on.Goals as goal

pub returns : goal.returns
returns c p lines layout size m r = steady asks replied (step lines layout) (record { machine = started p m size; owed = 0 }) r
