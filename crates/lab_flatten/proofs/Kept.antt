-- The lines of a well-formed program are well formed, and keep what it is.
use Rattle.std.proofs.Common.{◌≡◌, ℕ, ◌+◌, ◌≤◌, refl, sym, ap, ◌∙◌, subst, List, [], ◌∷◌, map, length, arith}
use Rattle.std.proofs.lemmas.List.Elements.{All-from_recursion}
use Rattle.pan_stage.specs.Room.{AreCosts, allowed}
use Rattle.pan_stage.specs.Stage.{Face, KeepsInSteps}
use Rattle.pan_stage.specs.declared.program.Program.{Program}
use Rattle.lab_lang.specs.Layout.{IsLayout}
use Rattle.lab_lang.specs.Needs.{code}
use Rattle.lab_lang.specs.Stage as labs
use Rattle.lab_lang.specs.WellFormed as lines_are
use Rattle.lab_lang.specs.WellFormed.{IsLine}
use Rattle.lab_lang.specs.declared.syntax.LabFun.{LabFun}
use Rattle.lab_lang.specs.declared.syntax.Line.{Line}
use Rattle.stack_lang.specs.Stage as stacks
use Rattle.stack_lang.specs.WellFormed.{IsWellFormed}
use Rattle.stack_lang.specs.declared.syntax.StackFun.{StackFun}
use Rattle.lab_lang.specs.Meaning.{behaviour}
use Rattle.lab_flatten.specs.Contract.{RunsOnFuel}
use Rattle.lab_flatten.specs.Flatten.{labels_in, program_lines, lab_function, lab_program}
use Rattle.lab_flatten.proofs.Needs.{layout_fits, program_fits}
use Rattle.lab_flatten.proofs.Ranges.{program_are}
use Rattle.lab_flatten.proofs.Whole.{program_runs, program_done}

same_names : (fs : List StackFun) → map (λ (f : LabFun). f.name) (map lab_function fs) ≡ map (λ (f : StackFun). f.name) fs
same_names [] = refl
same_names (f ∷ fs) = ap (λ ns. f.name ∷ ns) (same_names fs)

same_costs : (fs : List StackFun) → map (λ (f : LabFun). f.cost) (map lab_function fs) ≡ map (λ (f : StackFun). f.cost) fs
same_costs [] = refl
same_costs (f ∷ fs) = ap (λ ns. f.cost ∷ ns) (same_costs fs)

same_length : (fs : List StackFun) → length (map lab_function fs) ≡ length fs
same_length [] = refl
same_length (f ∷ fs) = let e = same_length fs in omega arith

module _ (p : Program StackFun) (fine : IsWellFormed p) where
  abbrev lines : List Line
  lines = program_lines p.functions p.main

  face_kept : (layout : List (ℕ × ℕ)) → (labs.stage (lab_program p) lines layout).face ≡ (stacks.stage p).face
  face_kept layout =
      let face : List (List ℕ) → List ℕ → Face = λ names costs. record { main = p.main; functions = names; costs = costs; widths = p.exceptions; foreign_names = p.names; globals = p.globals } in
      ap (λ names. face names (map (λ (f : LabFun). f.cost) (map lab_function p.functions))) (same_names p.functions) ∙ ap (face (map (λ (f : StackFun). f.name) p.functions)) (same_costs p.functions)

  -- at each layout they do what it does
  pub program_keeps : (layout : List (ℕ × ℕ)) → IsLayout 0 lines layout → KeepsInSteps (stacks.stage p) (labs.stage (lab_program p) lines layout)
  program_keeps layout lay =
      let fits = program_fits p.functions p.main in
      let spans = layout_fits 0 lines layout lay in
      let light = ((fine.room).priced).light in
      let within = ((fine.room).within).code in
      record {
        face = face_kept layout;
        code = omega arith;
        done = λ size m r n stack memory ok. program_done p fine layout lay (omega arith) size m memory stack r n ok;
      }

  pub program_takes : (layout : List (ℕ × ℕ)) → IsLayout 0 lines layout → RunsOnFuel p (behaviour (lab_program p) lines layout)
  program_takes layout lay size m r n stack memory ok =
      let fits = program_fits p.functions p.main in
      let spans = layout_fits 0 lines layout lay in
      let light = ((fine.room).priced).light in
      let within = ((fine.room).within).code in
      program_runs p fine layout lay (omega arith) size m memory stack r n ok

  pub program_well : (labels : ℕ) → length p.functions + 3 + labels_in (length p.functions + 1) p.functions ≤ labels → lines_are.IsWellFormed (lab_program p) lines labels
  program_well labels enough =
      let numbers = fine.numbers in
      let costs = same_costs p.functions in
      let main = fine.main in let long = same_length p.functions in
      let fits = program_fits p.functions p.main in
      let within = ((fine.room).within).code in
      record {
        numbers = record { exceptions = numbers.exceptions; names = numbers.names; globals = numbers.globals; words = numbers.words };
        main = omega arith;
        each = All-from_recursion (IsLine labels) lines (program_are p fine labels enough);
        priced = subst AreCosts (sym costs) (fine.room).priced;
        within = subst (λ cs. code lines ≤ (allowed cs).code) (sym costs) (omega arith);
      }
