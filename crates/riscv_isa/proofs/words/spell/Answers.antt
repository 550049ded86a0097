use Rattle.std.proofs.Common.{◌∙◌, ap, ◌++◌, arith}
use Rattle.pan_base.specs.declared.operators.ROp.TheVariants.{Add}
use Rattle.riscv_isa.specs.declared.instr.Instr.TheVariants.{R}
use Rattle.riscv_isa.proofs.Spelling.{completes_more, completes_all}
use Rattle.riscv_isa.proofs.words.spell.Goals as goal

pub loop-instr-preserved : goal.loop-instr-preserved
loop-instr-preserved c =
    let grown = c.in_ok-extend_from_slice.ensures.items ∙ ap (λ b. c.loop-instr.bytes.items ++ b) c.to_le_bytes.ensures in
    completes_more c.args.instrs.now c.loop-instr.instr-index (R Add 0 0 0) c.encode.result c.loop-instr.bytes.items c.extend_from_slice.new.self.items (omega arith) c.loop-instr.invariant c.encode.ensures.fits grown

pub returns : goal.returns
returns c = completes_all c.args.instrs.now c.loop-instr.instr-index c.loop-instr.bytes.items (omega arith) c.loop-instr.invariant
