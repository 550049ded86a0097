use Rattle.std.proofs.Common.{map, sym, subst}
use Rattle.pan_agree.specs.Faithful.{Faithful}
use Rattle.pan_tree.specs.Meaning.{source as meaning}
use Rattle.stack_lang.specs.Stage as stacks
use Rattle.word_lang.specs.Stage as words
use Rattle.crep_flatten.specs.Source as source
use Rattle.pan_chain.specs.Whole.{machine_of}
use Rattle.pan_driver.specs.Chained.{parts}
use Rattle.pan_driver.proofs.Bounded.{bounded}
use Rattle.pan_driver.proofs.Whole.{laid_out, kept, in_steps, executes, short, runs}
use Rattle.pan_driver.proofs.laws.chained_is_faithful.Goals as goal

pub returns-clause-faithful : goal.returns-clause-faithful
returns-clause-faithful c = λ s image chained is.
    let passes = c.chain.ensures.passes in
    let frames = c.chain.ensures.frames in
    let renaming = c.renaming_keeps.ensures in
    c.chain.ensures.faithful s.checked image (parts s) (source.face s.checked) (map (source.function_sites s.checked) (s.checked).functions)
    (words.stage (s.homes).program) (stacks.stage (s.stack).program) (laid_out s) (kept passes frames renaming s chained) chained.stack (in_steps passes frames renaming s chained) (executes passes frames renaming s chained) is

pub returns-clause-in_time : goal.returns-clause-in_time
returns-clause-in_time c = λ s chained.
    c.chain.ensures.within (source.face s.checked) (map (source.function_sites s.checked) (s.checked).functions) (meaning s.checked) (machine_of (parts s))
    (runs c.chain.ensures.passes c.chain.ensures.frames c.renaming_keeps.ensures s chained c.chain.ensures.lines)

pub returns-clause-code : goal.returns-clause-code
returns-clause-code c = λ s chained. short c.chain.ensures.passes c.chain.ensures.frames c.renaming_keeps.ensures s chained

pub returns-clause-one_program : goal.returns-clause-one_program
returns-clause-one_program c = λ bytes s t i j a b.
    let same = c.one_reading.ensures.program bytes s.checked t.checked a.checked b.checked in
    let faithful = returns-clause-faithful c in
    (same, faithful s i a.stages a.written, subst (λ p. Faithful p j (parts t)) (sym same) (faithful t j b.stages b.written))

pub returns-clause-bounded : goal.returns-clause-bounded
returns-clause-bounded c = λ s chained.
    bounded c.chain.ensures.passes c.chain.ensures.frames c.renaming_keeps.ensures (λ memory stack replies t. c.machine_goes_on.ensures (parts t) memory stack replies) (λ memory replies t. c.source_meets_no_limit.ensures t.checked memory replies)
    s chained s.bound chained.bound
