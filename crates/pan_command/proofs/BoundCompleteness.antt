-- How `bound` ends where no fault of the outside came.
use Rattle.std.proofs.Common.{◌≡◌, ℕ, List, Some, None, refl, sym, subst, inl, inr}
use Rattle.std.specs.Prelude.{◌⊎◌}
use Rattle.pan_base.specs.Files.{Files}
use Rattle.pan_tree.specs.declared.program.Program.{Program}
use Rattle.front_end.specs.Sources.{IsChecked, Unchecked}
use Rattle.front_end.specs.declared.error.SourceError.{SourceError}
use Rattle.pan_command.specs.declared.status.Status.{Status}
use Rattle.pan_command.specs.declared.status.Status.TheVariants as status
use Rattle.pan_command.specs.Status.{code}
use Rattle.pan_command.specs.Outside.{Call, IsPut, IsUndisturbed}
use Rattle.pan_command.specs.Reading.{source_line}
use Rattle.pan_command.specs.Bound.{BoundShown, BoundCases}
use Rattle.pan_command.proofs.Told.{same_bytes, not_held, not_unread}

module _ (call : Call) (all : Files) (source : List ℕ) (fine : IsUndisturbed call all) where
  -- a file that is there
  module _ (bytes : List ℕ) (there : all source ≡ Some bytes) where
    pub passed_ends : (program : Program) → IsChecked bytes program → (s : Status) → BoundCases source call s → ((code s ≡ 0) × BoundShown (IsPut call) call.before source) ⊎ (code s ≡ 8)
    passed_ends program checked status.Done h = inl (refl, h)
    passed_ends program checked status.Usage h = absurd h
    passed_ends program checked status.Unread h = absurd (not_unread _ call all source bytes fine there h)
    passed_ends program checked status.Refused h = absurd (h.unchecked program (subst (λ b. IsChecked b program) (sym (same_bytes _ all source bytes h.bytes fine.told there h.held)) checked))
    passed_ends program checked status.NoImage h = absurd h
    passed_ends program checked status.NoScript h = absurd h
    passed_ends program checked status.Unwritten h = absurd h
    passed_ends program checked status.Unput h = absurd (fine.puts h.cause)
    passed_ends program checked status.NoMemory h = inr refl
    passed_ends program checked (status.Ran end) h = absurd h

    pub unpassed_ends : (e : SourceError) → Unchecked bytes e → (s : Status) → BoundCases source call s → ((code s ≡ 4) × IsPut call (source_line e)) ⊎ (code s ≡ 8)
    unpassed_ends e unchecked status.Done h =
        let r = h.built in
        absurd (((r.built).source).accepted e (subst (λ b. Unchecked b e) (sym (same_bytes _ all source bytes r.bytes fine.told there r.held)) unchecked))
    unpassed_ends e unchecked status.Usage h = absurd h
    unpassed_ends e unchecked status.Unread h = absurd (not_unread _ call all source bytes fine there h)
    unpassed_ends e unchecked status.Refused h =
        let same = h.only e (subst (λ b. Unchecked b e) (sym (same_bytes _ all source bytes h.bytes fine.told there h.held)) unchecked) in
        inl (refl, subst (λ r. IsPut call (source_line r)) (sym same) h.line)
    unpassed_ends e unchecked status.NoImage h = absurd h
    unpassed_ends e unchecked status.NoScript h = absurd h
    unpassed_ends e unchecked status.Unwritten h = absurd h
    unpassed_ends e unchecked status.Unput h = absurd (fine.puts h.cause)
    unpassed_ends e unchecked status.NoMemory h = inr refl
    unpassed_ends e unchecked (status.Ran end) h = absurd h

  pub missing_ends : all source ≡ None → (s : Status) → BoundCases source call s → (code s ≡ 3) ⊎ (code s ≡ 8)
  missing_ends gone status.Done h = let r = h.built in absurd (not_held _ all source r.bytes fine.told gone r.held)
  missing_ends gone status.Usage h = absurd h
  missing_ends gone status.Unread h = inl refl
  missing_ends gone status.Refused h = absurd (not_held _ all source h.bytes fine.told gone h.held)
  missing_ends gone status.NoImage h = absurd h
  missing_ends gone status.NoScript h = absurd h
  missing_ends gone status.Unwritten h = absurd h
  missing_ends gone status.Unput h = absurd (fine.puts h.cause)
  missing_ends gone status.NoMemory h = inr refl
  missing_ends gone (status.Ran end) h = absurd h
