-- How `compile` ends: by its status, and where no fault of the outside came.
use Rattle.std.proofs.Common.{◌≡◌, ℕ, List, Some, None, refl, sym, subst, inl, inr}
use Rattle.std.specs.Prelude.{◌⊎◌}
use Rattle.pan_base.specs.Files.{Files}
use Rattle.pan_tree.specs.declared.program.Program.{Program}
use Rattle.pan_command.specs.declared.status.Status.{Status}
use Rattle.pan_command.specs.declared.status.Status.TheVariants as status
use Rattle.front_end.specs.Sources.{IsChecked, Unchecked}
use Rattle.front_end.specs.declared.error.SourceError.{SourceError}
use Rattle.pan_command.specs.Status.{code, IsCompileCode}
use Rattle.pan_command.specs.Outside.{Call, NoFileChanged, IsPut, IsUndisturbed}
use Rattle.pan_command.specs.Reading.{FileUnread, source_line}
use Rattle.pan_command.specs.Check.{Unpassed}
use Rattle.pan_command.specs.Compile.{CompileEnds, Compiled, CompileStarved}
use Rattle.pan_command.proofs.Told.{same_bytes, not_held, not_unread}

-- `compile` gives no other status
pub compile_code : (call : Call) (source image : List ℕ) (s : Status) → CompileEnds source image call s → IsCompileCode (code s)
compile_code call source image status.Done h = inl refl
compile_code call source image status.Usage h = absurd h
compile_code call source image status.NoImage h = absurd h
compile_code call source image status.NoScript h = absurd h
compile_code call source image (status.Ran end) h = absurd h
compile_code call source image status.Unread h = inr (inl refl)
compile_code call source image status.Refused h = inr (inr (inl refl))
compile_code call source image status.Unwritten h = inr (inr (inr (inl refl)))
compile_code call source image status.Unput h = inr (inr (inr (inl refl)))
compile_code call source image status.NoMemory h = inr (inr (inr (inr refl)))

-- status 0 is that of an image that was written, 3 that of a source that wasn't read, 4 that of one that was refused, and 8 that of want of memory
pub compiled_at : (call : Call) (source image : List ℕ) (s : Status) → CompileEnds source image call s → code s ≡ 0 → Compiled (IsPut call) call source image
compiled_at call source image status.Done h e = h
compiled_at call source image status.Usage h e = absurd h
compiled_at call source image status.NoImage h e = absurd h
compiled_at call source image status.NoScript h e = absurd h
compiled_at call source image (status.Ran end) h e = absurd h
compiled_at call source image status.Unread h e = absurd (cc)
compiled_at call source image status.Refused h e = absurd (cc)
compiled_at call source image status.Unwritten h e = absurd (cc)
compiled_at call source image status.Unput h e = absurd (cc)
compiled_at call source image status.NoMemory h e = absurd (cc)

pub starved_at : (call : Call) (source image : List ℕ) (s : Status) → CompileEnds source image call s → code s ≡ 8 → CompileStarved call source image
starved_at call source image status.Done h e = absurd (cc)
starved_at call source image status.Usage h e = absurd h
starved_at call source image status.NoImage h e = absurd h
starved_at call source image status.NoScript h e = absurd h
starved_at call source image (status.Ran end) h e = absurd h
starved_at call source image status.Unread h e = absurd (cc)
starved_at call source image status.Refused h e = absurd (cc)
starved_at call source image status.Unwritten h e = absurd (cc)
starved_at call source image status.Unput h e = absurd (cc)
starved_at call source image status.NoMemory h e = h

pub unread_at : (call : Call) (source image : List ℕ) (s : Status) → CompileEnds source image call s → code s ≡ 3 → NoFileChanged call × FileUnread (IsPut call) call source
unread_at call source image status.Done h e = absurd (cc)
unread_at call source image status.Usage h e = absurd h
unread_at call source image status.NoImage h e = absurd h
unread_at call source image status.NoScript h e = absurd h
unread_at call source image (status.Ran end) h e = absurd h
unread_at call source image status.Unread h e = h
unread_at call source image status.Refused h e = absurd (cc)
unread_at call source image status.Unwritten h e = absurd (cc)
unread_at call source image status.Unput h e = absurd (cc)
unread_at call source image status.NoMemory h e = absurd (cc)

pub refused_at : (call : Call) (source image : List ℕ) (s : Status) → CompileEnds source image call s → code s ≡ 4 → NoFileChanged call × Unpassed (IsPut call) call.before source
refused_at call source image status.Done h e = absurd (cc)
refused_at call source image status.Usage h e = absurd h
refused_at call source image status.NoImage h e = absurd h
refused_at call source image status.NoScript h e = absurd h
refused_at call source image (status.Ran end) h e = absurd h
refused_at call source image status.Unread h e = absurd (cc)
refused_at call source image status.Refused h e = h
refused_at call source image status.Unwritten h e = absurd (cc)
refused_at call source image status.Unput h e = absurd (cc)
refused_at call source image status.NoMemory h e = absurd (cc)

module _ (call : Call) (all : Files) (source image : List ℕ) (fine : IsUndisturbed call all) where
  pub checked_ends : (bytes : List ℕ) (program : Program) → all source ≡ Some bytes → IsChecked bytes program → (s : Status) → CompileEnds source image call s → (code s ≡ 0) ⊎ (code s ≡ 8)
  checked_ends bytes program there checked status.Done h = inl refl
  checked_ends bytes program there checked status.Usage h = absurd h
  checked_ends bytes program there checked status.NoImage h = absurd h
  checked_ends bytes program there checked status.NoScript h = absurd h
  checked_ends bytes program there checked (status.Ran end) h = absurd h
  checked_ends bytes program there checked status.Unread h = absurd (not_unread _ call all source bytes fine there h.1)
  checked_ends bytes program there checked status.Refused h = absurd ((h.1).unchecked program (subst (λ b. IsChecked b program) (sym (same_bytes _ all source bytes (h.1).bytes fine.told there (h.1).held)) checked))
  checked_ends bytes program there checked status.Unwritten h = absurd (fine.writes h.cause)
  checked_ends bytes program there checked status.Unput h = absurd (fine.puts h.cause)
  checked_ends bytes program there checked status.NoMemory h = inr refl

  pub refused_ends : (bytes : List ℕ) (e : SourceError) → all source ≡ Some bytes → Unchecked bytes e → (s : Status) → CompileEnds source image call s
      → ((code s ≡ 4) × IsPut call (source_line e)) ⊎ (code s ≡ 8)
  refused_ends bytes e there refused status.Done h = absurd ((((h.built).built).source).accepted e (subst (λ b. Unchecked b e) (sym (same_bytes _ all source bytes (h.built).bytes fine.told there (h.built).held)) refused))
  refused_ends bytes e there refused status.Usage h = absurd h
  refused_ends bytes e there refused status.NoImage h = absurd h
  refused_ends bytes e there refused status.NoScript h = absurd h
  refused_ends bytes e there refused (status.Ran end) h = absurd h
  refused_ends bytes e there refused status.Unread h = absurd (not_unread _ call all source bytes fine there h.1)
  refused_ends bytes e there refused status.Refused h =
      let same = (h.1).only e (subst (λ b. Unchecked b e) (sym (same_bytes _ all source bytes (h.1).bytes fine.told there (h.1).held)) refused) in
      inl (refl, subst (λ r. IsPut call (source_line r)) (sym same) (h.1).line)
  refused_ends bytes e there refused status.Unwritten h = absurd (fine.writes h.cause)
  refused_ends bytes e there refused status.Unput h = absurd (fine.puts h.cause)
  refused_ends bytes e there refused status.NoMemory h = inr refl

  pub missing_ends : all source ≡ None → (s : Status) → CompileEnds source image call s → (code s ≡ 3) ⊎ (code s ≡ 8)
  missing_ends gone status.Done h = absurd (not_held _ all source (h.built).bytes fine.told gone (h.built).held)
  missing_ends gone status.Usage h = absurd h
  missing_ends gone status.NoImage h = absurd h
  missing_ends gone status.NoScript h = absurd h
  missing_ends gone (status.Ran end) h = absurd h
  missing_ends gone status.Unread h = inl refl
  missing_ends gone status.Refused h = absurd (not_held _ all source (h.1).bytes fine.told gone (h.1).held)
  missing_ends gone status.Unwritten h = absurd (fine.writes h.cause)
  missing_ends gone status.Unput h = absurd (fine.puts h.cause)
  missing_ends gone status.NoMemory h = inr refl
