use Rattle.std.proofs.Common.{◌∙◌, arith}
use Rattle.pan_command.proofs.FilledMemory.{lawful_filled}
use Rattle.pan_command.proofs.running.go.Goals as goal

pub boot-requires-clause-memory : goal.boot-requires-clause-memory
boot-requires-clause-memory g c =
    lawful_filled c.args.script.pieces c.args.options.local c.as_slice-local.result.now c.requires.local (c.as_slice-local.ensures.value ∙ c.in-Ok.ensures) (λ i. omega (arith, c.type_inv.local i))
