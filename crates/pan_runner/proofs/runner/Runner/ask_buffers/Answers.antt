use Rattle.pan_runner.proofs.Halts.{found}
use Rattle.pan_runner.proofs.Naming.{unnamed, few_fits, sound_call, asked_foreign}
use Rattle.pan_runner.proofs.runner.Runner.ask_buffers.Goals as goal

pub returns-then-name-name_count-clause-config : goal.returns-then-name-name_count-clause-config
returns-then-name-name_count-clause-config c = unnamed c.args.self.now c.args.name c.args.conf c.args.conf_len c.args.array c.args.array_len c.name_count.result c.name_count.ensures c.if-name-name_count.true

pub overflow_cast-name : goal.overflow_cast-name
overflow_cast-name c = few_fits c.args.self.now.checked.now c.program-program.ensures.shaped c.args.name c.name_count.result c.name_count.ensures c.if-name-name_count.false

pub invariant_of-self : goal.invariant_of-self
invariant_of-self c =
    let conf = found _ _ _ _ c.in_ok-conf.ensures.ok_part c.buffer.ensures in
    let array = found _ _ _ _ c.in_ok-array.ensures.ok_part c.buffer-2.ensures in
    record { sound = sound_call c.name.result.now c.in_ok-conf.conf c.in_ok-array.array _ c.name.ensures.lawful conf.2 array.2 }

pub returns-clause-config : goal.returns-clause-config
returns-clause-config c =
    let conf = found _ _ _ _ c.in_ok-conf.ensures.ok_part c.buffer.ensures in
    let array = found _ _ _ _ c.in_ok-array.ensures.ok_part c.buffer-2.ensures in
    asked_foreign c.args.self.now c.args.name c.args.conf c.args.conf_len c.args.array c.args.array_len c.name.result.now c.in_ok-conf.conf c.in_ok-array.array c.name.ensures.same conf.0 array.0 array.1
