-- How `meaning` ends where no fault of the outside came.
use Rattle.std.proofs.Common.{◌≡◌, ℕ, List, Some, None, Ok, Err, refl, sym, ap, ◌∙◌, subst, inl, inr}
use Rattle.std.specs.Prelude.{◌⊎◌}
use Rattle.pan_base.specs.Events.{Behaviour, end_of}
use Rattle.pan_base.specs.Files.{Files}
use Rattle.pan_base.specs.declared.events.End.{End}
use Rattle.pan_tree.specs.declared.program.Program.{Program}
use Rattle.front_end.specs.Sources.{IsChecked, Unchecked}
use Rattle.front_end.specs.declared.error.SourceError.{SourceError}
use Rattle.command_words.specs.declared.order.Options.{Options}
use Rattle.device_script.specs.Script.{Content, Refusal, script_of_file}
use Rattle.pan_command.specs.declared.status.Status.{Status}
use Rattle.pan_command.specs.declared.status.Status.TheVariants as status
use Rattle.pan_command.specs.Reading.{source_line, SourceRead, ScriptRead, ScriptRefused, script_line}
use Rattle.pan_command.specs.Status.{code, end_code}
use Rattle.pan_command.specs.Outside.{Call, IsPut, PutFailed, IsUndisturbed}
use Rattle.pan_command.specs.Check.{Unpassed}
use Rattle.pan_command.specs.Playing.{Plays, Played}
use Rattle.pan_command.specs.Meaning.{MeaningCases, MeaningUnread, source_goes}
use Rattle.pan_command.proofs.RunCompleteness.{script_is, refusal_is}
use Rattle.pan_command.proofs.Told.{same_bytes, not_held, not_unread}

-- how `meaning` ends with this status where no put failed
pub data Found (options : Options) (call : Call) (source script : List ℕ) (n : ℕ) : Type 0 where
  IsStarved : (is : n ≡ 8) → Found options call source script n
  IsUnread : (is : n ≡ 3) (h : MeaningUnread (IsPut call) call source script) → Found options call source script n
  IsRefused : (is : n ≡ 4) (h : Unpassed (IsPut call) call.before source) → Found options call source script n
  IsNoScript : (is : n ≡ 6) (p : SourceRead call.before source) (h : ScriptRefused (IsPut call) call.before script) → Found options call source script n
  IsRan : (end : End) (is : n ≡ end_code end) (p : SourceRead call.before source) (r : ScriptRead call.before script)
      (h : Played (IsPut call) (source_goes p.program r.script options) r.script options.steps end) → Found options call source script n

pub found : (options : Options) (call : Call) (source script : List ℕ) (s : Status) → ¬ PutFailed call → MeaningCases options source script call s → Found options call source script (code s)
found options call source script status.Done fine h = absurd h
found options call source script status.Usage fine h = absurd h
found options call source script status.Unread fine h = IsUnread refl h
found options call source script status.Refused fine h = IsRefused refl h
found options call source script status.NoImage fine h = absurd h
found options call source script status.NoScript fine h = IsNoScript refl h.0 h.1
found options call source script status.Unwritten fine h = absurd h
found options call source script status.Unput fine h = absurd (fine h.cause)
found options call source script status.NoMemory fine h = IsStarved refl
found options call source script (status.Ran end) fine h = IsRan end refl h.0 h.1 h.2

module _ (options : Options) (call : Call) (all : Files) (source script : List ℕ) (n : ℕ) (fine : IsUndisturbed call all) where
  pub missing : all source ≡ None → Found options call source script n → (n ≡ 3) ⊎ (n ≡ 8)
  missing gone (IsStarved is) = inr is
  missing gone (IsUnread is h) = inl is
  missing gone (IsRefused is h) = absurd (not_held _ all source h.bytes fine.told gone h.held)
  missing gone (IsNoScript is p h) = absurd (not_held _ all source p.bytes fine.told gone p.held)
  missing gone (IsRan end is p r h) = absurd (not_held _ all source p.bytes fine.told gone p.held)

  module _ (bytes : List ℕ) (there : all source ≡ Some bytes) where
    not_read : (e : SourceError) → Unchecked bytes e → (p : SourceRead call.before source) → ⊥
    not_read e wrong p = (p.source).accepted e (subst (λ b. Unchecked b e) (sym (same_bytes _ all source bytes p.bytes fine.told there p.held)) wrong)

    pub refused : (e : SourceError) → Unchecked bytes e → Found options call source script n → ((n ≡ 4) × IsPut call (source_line e)) ⊎ (n ≡ 8)
    refused e wrong (IsStarved is) = inr is
    refused e wrong (IsUnread is h) = absurd (elim h [ inl u ↦ not_unread _ call all source bytes fine there u | inr p ↦ not_read e wrong p.0 ])
    refused e wrong (IsRefused is h) =
        let same = h.only e (subst (λ b. Unchecked b e) (sym (same_bytes _ all source bytes h.bytes fine.told there h.held)) wrong) in
        inl (is, subst (λ r. IsPut call (source_line r)) (sym same) h.line)
    refused e wrong (IsNoScript is p h) = absurd (not_read e wrong p)
    refused e wrong (IsRan end is p r h) = absurd (not_read e wrong p)

    module _ (program : Program) (checked : IsChecked bytes program) where
      not_wrong : Unpassed (IsPut call) call.before source → ⊥
      not_wrong h = h.unchecked program (subst (λ b. IsChecked b program) (sym (same_bytes _ all source bytes h.bytes fine.told there h.held)) checked)

      same_program : (p : SourceRead call.before source) → program ≡ p.program
      same_program p = (p.source).only program (subst (λ b. IsChecked b program) (sym (same_bytes _ all source bytes p.bytes fine.told there p.held)) checked)

      pub script_missing : all script ≡ None → Found options call source script n → (n ≡ 3) ⊎ (n ≡ 8)
      script_missing gone (IsStarved is) = inr is
      script_missing gone (IsUnread is h) = inl is
      script_missing gone (IsRefused is h) = absurd (not_wrong h)
      script_missing gone (IsNoScript is p h) = absurd (not_held _ all script h.bytes fine.told gone h.held)
      script_missing gone (IsRan end is p r h) = absurd (not_held _ all script r.bytes fine.told gone r.held)

      module _ (script_bytes : List ℕ) (script_there : all script ≡ Some script_bytes) where
        not_unread_here : MeaningUnread (IsPut call) call source script → ⊥
        not_unread_here h = elim h [
          | inl u ↦ not_unread _ call all source bytes fine there u
          | inr p ↦ not_unread _ call all script script_bytes fine script_there p.1
        ]

        pub script_refused : (refusal : Refusal) → script_of_file script_bytes ≡ Err refusal → Found options call source script n
            → ((n ≡ 6) × IsPut call (script_line refusal)) ⊎ (n ≡ 8)
        script_refused refusal wrong (IsStarved is) = inr is
        script_refused refusal wrong (IsUnread is h) = absurd (not_unread_here h)
        script_refused refusal wrong (IsRefused is h) = absurd (not_wrong h)
        script_refused refusal wrong (IsNoScript is p h) =
            let e = refusal_is call.before all fine.told _ script script_bytes script_there h in
            let same : h.refusal ≡ refusal = cc in
            inl (is, subst (λ r. IsPut call (script_line r)) same h.line)
        script_refused refusal wrong (IsRan end is p r h) = let e = script_is call.before all fine.told script script_bytes script_there r in absurd (cc)

        module _ (content : Content) (says : script_of_file script_bytes ≡ Ok content) where
          same_script : (r : ScriptRead call.before script) → r.script ≡ content
          same_script r = let e = script_is call.before all fine.told script script_bytes script_there r in cc

          not_refused : ScriptRefused (IsPut call) call.before script → ⊥
          not_refused h = let e = refusal_is call.before all fine.told _ script script_bytes script_there h in cc

          pub completes : Found options call source script n → ((b : Behaviour) × Plays (source_goes program content options) content options.steps b × (n ≡ end_code (end_of b.ending))) ⊎ (n ≡ 8)
          completes (IsStarved is) = inr is
          completes (IsUnread is h) = absurd (not_unread_here h)
          completes (IsRefused is h) = absurd (not_wrong h)
          completes (IsNoScript is p h) = absurd (not_refused h)
          completes (IsRan end is p r h) =
              let plays : Plays (source_goes p.program content options) content options.steps h.run =
              subst (λ (c : Content). Plays (source_goes p.program c options) c options.steps h.run) (same_script r) h.plays in
              inl (h.run, subst (λ (q : Program). Plays (source_goes q content options) content options.steps h.run) (sym (same_program p)) plays, is ∙ ap end_code (sym h.ends))
