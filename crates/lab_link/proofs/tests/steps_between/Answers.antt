use Rattle.std.proofs.Common.{arith, ◌+◌, pos}
use Rattle.pan_base.specs.declared.operators.IOp.TheVariants.{Addi}
use Rattle.riscv_isa.specs.declared.instr.Instr.TheVariants as instr
use Rattle.lab_lang.specs.Layout.{longest}
use Rattle.lab_lang.specs.declared.syntax.Line.TheVariants.{Plain}
use Rattle.lab_link.proofs.Filling.{filled_push, filled_none, step_is}
use Rattle.lab_link.proofs.tests.steps_between.Goals as goal

pub loop-init : goal.loop-init
loop-init c =
    filled_push c.new-lines.result c.push.new.self c.ends-ends.result.0 0 (longest c.ends-ends.result.0 + 0) (filled_none c.new-lines.result c.new-lines.ensures) c.in_ok-push.ensures.ok c.ends-ends.ensures.first (omega arith)

pub loop-preserved : goal.loop-preserved
loop-preserved c =
    filled_push c.loop.lines c.push-in-loop.new.self (Plain (instr.I Addi 15 15 (pos 1))) (longest c.ends-ends.result.0 + c.loop.counter) _ c.loop.invariant c.in_ok-push-2.ensures.ok step_is (omega arith)

pub returns-clause-each : goal.returns-clause-each
returns-clause-each c =
    (filled_push c.loop.lines c.push-2.new.self c.ends-ends.result.1 (longest c.ends-ends.result.0 + c.loop.counter) (longest c.ends-ends.result.0 + c.loop.counter + longest c.ends-ends.result.1) c.loop.invariant c.in_ok-push-3.ensures.ok c.ends-ends.ensures.last (omega arith)).all

pub returns-clause-most : goal.returns-clause-most
returns-clause-most c =
    let f =
    filled_push c.loop.lines c.push-2.new.self c.ends-ends.result.1 (longest c.ends-ends.result.0 + c.loop.counter) (longest c.ends-ends.result.0 + c.loop.counter + longest c.ends-ends.result.1) c.loop.invariant c.in_ok-push-3.ensures.ok c.ends-ends.ensures.last (omega arith) in
    let e = f.long_is in
    let a = c.ends-ends.ensures.first_most in
    let b = c.ends-ends.ensures.last_most in
    omega arith
