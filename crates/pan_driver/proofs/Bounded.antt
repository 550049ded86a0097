-- From the bound of the program over frames to one of the source's image.
use Rattle.std.proofs.Common.{◌≡◌, ℕ, List, map, subst}
use Rattle.std.specs.Prelude.{slice_index}
use Rattle.pan_base.specs.Events.{Replied}
use Rattle.pan_base.specs.Lawful.{IsLawfulMemory, IsLawfulStack}
use Rattle.pan_stage.specs.Stage.{Site, Face}
use Rattle.pan_tree.specs.Ends.{IsSourceLike}
use Rattle.pan_tree.specs.Meaning.{source as meaning}
use Rattle.riscv_isa.specs.Machine.{machine}
use Rattle.riscv_isa.specs.Running.{IsSteady}
use Rattle.pan_chain.specs.Whole.{machine_of}
use Rattle.crep_flatten.specs.Source as source
use Rattle.stack_lang.specs.Stage as stacks
use Rattle.stack_bound.specs.Bounds.{IsBound, IsAnswer}
use Rattle.stack_bound.specs.Calls.{Calls}
use Rattle.stack_bound.specs.Paths.{HasNoCycle, IsKeptCycle, IsPaid}
use Rattle.stack_bound.specs.declared.types.Bound.{Bound}
use Rattle.stack_bound.specs.declared.types.Bound.TheVariants.{Bytes, Cycle}
use Rattle.pan_driver.specs.Bounded.{IsEnoughStack, BoundsStack, IsBoundOf}
use Rattle.pan_driver.specs.Chained.{parts, AreChained}
use Rattle.pan_driver.specs.declared.built.Stages.{Stages}
use Rattle.pan_driver.proofs.EnoughStack.{never_out, does}
use Rattle.pan_driver.proofs.Whole.{KeepsCompose, OverStackComposes, RenamingKeeps, laid_out, over_stack, in_steps, executes}

module _ (passes : KeepsCompose) (frames : OverStackComposes) (renaming : RenamingKeeps)
    (steady : (memory : List ℕ) (stack : ℕ) (replies : List Replied) (s : Stages) → IsSteady (machine (parts s) memory stack replies))
    (like : (memory : List ℕ) (replies : List Replied) (s : Stages) → IsSourceLike (meaning s.checked memory replies))
    (s : Stages) (chained : AreChained s) where
  same_face : (stacks.stage (s.stack).program).face ≡ source.face s.checked
  same_face = (over_stack passes frames renaming s chained).face

  same_sites : (stacks.stage (s.stack).program).sites ≡ map (source.function_sites s.checked) (s.checked).functions
  same_sites = (over_stack passes frames renaming s chained).sites

  enough : (n : ℕ) → IsBound (s.stack).program n → IsEnoughStack s.checked (parts s) n
  enough n bound size memory replies lawful lawful_memory most never =
      never_out (meaning s.checked memory replies) (machine (parts s) memory size replies) (steady memory size replies s) (like memory replies s)
      (λ fuel.
      let d = does (source.stage s.checked) (stacks.stage (s.stack).program) (laid_out s) (machine_of (parts s))
      (over_stack passes frames renaming s chained) (in_steps passes frames renaming s chained) (executes passes frames renaming s chained)
      size memory replies lawful lawful_memory (λ m. bound.enough size memory replies m most) never fuel in
      (d.0, record { same = d.1.same; in_time = d.1.in_time }))

  pub bounded : (b : Bound) → IsAnswer (s.stack).program b → IsBoundOf s.checked (parts s) b
  bounded (Bytes n) h = record {
    no_cycle = subst (λ (f : Face). HasNoCycle (Calls (source.stage s.checked).sites) f.main) same_face (subst (λ (ss : List (List Site)). HasNoCycle (Calls ss) ((s.stack).program).main) same_sites h.no_cycle);
    whole = h.whole;
    paid = subst (λ (f : Face). IsPaid (Calls (source.stage s.checked).sites) (λ g. slice_index f.costs g) f.main n) same_face (subst (λ (ss : List (List Site)). IsPaid (Calls ss) (λ g. slice_index (stacks.stage (s.stack).program).face.costs g) ((s.stack).program).main n) same_sites h.paid);
    enough = enough n h;
  }
  bounded (Cycle fs) h = subst (λ (f : Face). IsKeptCycle (Calls (source.stage s.checked).sites) f.main fs) same_face (subst (λ (ss : List (List Site)). IsKeptCycle (Calls ss) ((s.stack).program).main fs) same_sites h)
