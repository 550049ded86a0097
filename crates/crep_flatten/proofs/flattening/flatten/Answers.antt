use Rattle.std.proofs.Common.{◌≡◌, Result, Ok, Err, IfOk, sym, subst}
use Rattle.pan_base.specs.declared.error.NoMemory.{NoMemory}
use Rattle.pan_stage.specs.Stage.{Keeps}
use Rattle.pan_stage.specs.declared.program.Program.{Program}
use Rattle.pan_tree.specs.Check.{IsWellShaped}
use Rattle.pan_tree.specs.declared.program.Program.{Program as Source}
use Rattle.crep_lang.specs.Stage as crep
use Rattle.crep_lang.specs.declared.program.CrepProg.{CrepProg}
use Rattle.crep_lang.specs.declared.syntax.CrepFun.{CrepFun}
use Rattle.crep_flatten.specs.Flattened.{flattened}
use Rattle.crep_flatten.specs.Source.{stage}
use Rattle.crep_flatten.proofs.Kept.{kept}
use Rattle.crep_flatten.proofs.flattening.flatten.Goals as goal

-- what a program becomes keeps it
keeps : (p : Source) → IsWellShaped p → (r : Result CrepProg NoMemory) → IfOk r (λ c. c.program ≡ flattened p) → IfOk r (λ c. Keeps (stage p) (crep.stage c.program))
keeps p well (Ok c) h = subst (λ (q : Program CrepFun). Keeps (stage p) (crep.stage q)) (sym h) (kept p well)
keeps p well (Err e) h = tt

pub returns : goal.returns
returns c = keeps c.args.checked.now c.program.ensures.shaped c.flatten_program.result c.flatten_program.ensures
