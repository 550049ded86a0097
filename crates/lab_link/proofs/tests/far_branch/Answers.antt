use Rattle.std.proofs.Common.{arith, ◌+◌, pos, refl}
use Rattle.pan_base.specs.declared.operators.Cmp.TheVariants.{Eq}
use Rattle.pan_base.specs.declared.operators.IOp.TheVariants.{Addi}
use Rattle.riscv_isa.specs.declared.instr.Instr.TheVariants as instr
use Rattle.lab_lang.specs.declared.syntax.Line.TheVariants.{Label, Plain, Branch}
use Rattle.lab_link.proofs.Filling.{filled_push, filled_none, step_is}
use Rattle.lab_link.proofs.tests.far_branch.Goals as goal

pub loop-init : goal.loop-init
loop-init c = filled_push c.new-lines.result c.push.new.self (Branch Eq 0 0 0) 0 3 (filled_none c.new-lines.result c.new-lines.ensures) c.in_ok-push.ensures.ok (omega arith, omega arith, omega arith) refl

pub loop-preserved : goal.loop-preserved
loop-preserved c = filled_push c.loop.lines c.push-in-loop.new.self (Plain (instr.I Addi 15 15 (pos 1))) (3 + c.loop.counter) _ c.loop.invariant c.in_ok-push-2.ensures.ok step_is (omega arith)

pub returns-clause-long : goal.returns-clause-long
returns-clause-long c =
    let f =
    filled_push c.push-2.new.self c.push-3.new.self (Plain instr.Ecall) (3 + c.loop.counter) 2004
    (filled_push c.loop.lines c.push-2.new.self (Label 0) (3 + c.loop.counter) (3 + c.loop.counter) c.loop.invariant c.in_ok-push-3.ensures.ok (omega arith) (omega arith))
    c.in_ok-push-4.ensures.ok tt (omega arith) in
    let e = f.long_is in
    omega arith
