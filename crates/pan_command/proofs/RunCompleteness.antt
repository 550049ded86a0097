-- How `run` ends where no fault of the outside came.
use Rattle.std.proofs.Common.{◌≡◌, ℕ, List, Some, None, Ok, Err, refl, sym, ap, ◌∙◌, subst, inl, inr}
use Rattle.std.specs.Prelude.{◌⊎◌}
use Rattle.pan_base.specs.Events.{Behaviour, end_of}
use Rattle.pan_base.specs.Files.{Files}
use Rattle.pan_base.specs.declared.events.End.{End}
use Rattle.riscv_isa.specs.Image.{ImageParts, ImageOf}
use Rattle.image_file.specs.Faults.{fault_of}
use Rattle.image_file.specs.declared.error.ImageError.{ImageError}
use Rattle.command_words.specs.declared.order.Options.{Options}
use Rattle.device_script.specs.Script.{Content, Refusal, script_of_file}
use Rattle.pan_command.specs.declared.status.Status.{Status}
use Rattle.pan_command.specs.declared.status.Status.TheVariants as status
use Rattle.pan_command.specs.Status.{code, end_code}
use Rattle.pan_command.specs.Outside.{Outside, Call, IsPut, PutFailed, IsUndisturbed}
use Rattle.pan_command.specs.Playing.{Plays, Played}
use Rattle.pan_command.specs.Reading.{IsImage, ImageRead, ScriptRead, ScriptRefused, script_line}
use Rattle.pan_command.specs.Run.{RunCases, RunUnread, NoImage, image_goes, image_line}
use Rattle.pan_command.proofs.Told.{same_bytes, not_held, not_unread}

-- ---- what a file holds is one image, one fault or one script

module _ (before : Outside) (all : Files) (told : (before.files).files ≡ Some all) where
  pub script_is : (script bytes : List ℕ) → all script ≡ Some bytes → (r : ScriptRead before script) → script_of_file bytes ≡ Ok r.script
  script_is script bytes there r = sym (ap script_of_file (same_bytes _ all script bytes r.bytes told there r.held)) ∙ r.says

  pub refusal_is : (Prints : List ℕ → Type 0) (script bytes : List ℕ) → all script ≡ Some bytes → (r : ScriptRefused Prints before script) → script_of_file bytes ≡ Err r.refusal
  refusal_is Prints script bytes there r = sym (ap script_of_file (same_bytes _ all script bytes r.bytes told there r.held)) ∙ r.refused

  module _ (image bytes : List ℕ) (there : all image ≡ Some bytes) where
    image_is : (i : ImageRead before image) → IsImage bytes i.parts
    image_is i = subst (λ b. IsImage b i.parts) (same_bytes _ all image bytes i.bytes told there i.held) i.image

    never_image : (Prints : List ℕ → Type 0) (h : NoImage Prints before image) (parts : ImageParts) → ¬ ImageOf bytes parts
    never_image Prints h = subst (λ b. (parts : ImageParts) → ¬ ImageOf b parts) (same_bytes _ all image bytes h.bytes told there h.held) h.never

    fault_is : (Prints : List ℕ → Type 0) (h : NoImage Prints before image) → fault_of bytes ≡ Some h.fault
    fault_is Prints h = sym (ap fault_of (same_bytes _ all image bytes h.bytes told there h.held)) ∙ h.first

-- ---- how it ends

-- how `run` ends with this status where no put failed
pub data Found (options : Options) (call : Call) (image script : List ℕ) (n : ℕ) : Type 0 where
  IsStarved : (is : n ≡ 8) → Found options call image script n
  IsUnread : (is : n ≡ 3) (h : RunUnread (IsPut call) call image script) → Found options call image script n
  IsNoImage : (is : n ≡ 5) (h : NoImage (IsPut call) call.before image) → Found options call image script n
  IsRefused : (is : n ≡ 6) (i : ImageRead call.before image) (h : ScriptRefused (IsPut call) call.before script) → Found options call image script n
  IsRan : (end : End) (is : n ≡ end_code end) (i : ImageRead call.before image) (r : ScriptRead call.before script)
      (h : Played (IsPut call) (image_goes i.parts r.script options) r.script options.steps end) → Found options call image script n

pub found : (options : Options) (call : Call) (image script : List ℕ) (s : Status) → ¬ PutFailed call → RunCases options image script call s → Found options call image script (code s)
found options call image script status.Done fine h = absurd h
found options call image script status.Usage fine h = absurd h
found options call image script status.Unread fine h = IsUnread refl h
found options call image script status.Refused fine h = absurd h
found options call image script status.NoImage fine h = IsNoImage refl h
found options call image script status.NoScript fine h = IsRefused refl h.0 h.1
found options call image script status.Unwritten fine h = absurd h
found options call image script status.Unput fine h = absurd (fine h.cause)
found options call image script status.NoMemory fine h = IsStarved refl
found options call image script (status.Ran end) fine h = IsRan end refl h.0 h.1 h.2

module _ (options : Options) (call : Call) (all : Files) (image script : List ℕ) (n : ℕ) (fine : IsUndisturbed call all) where
  pub missing : all image ≡ None → Found options call image script n → (n ≡ 3) ⊎ (n ≡ 8)
  missing gone (IsStarved is) = inr is
  missing gone (IsUnread is h) = inl is
  missing gone (IsNoImage is h) = absurd (not_held _ all image h.bytes fine.told gone h.held)
  missing gone (IsRefused is i h) = absurd (not_held _ all image i.bytes fine.told gone i.held)
  missing gone (IsRan end is i r h) = absurd (not_held _ all image i.bytes fine.told gone i.held)

  module _ (bytes : List ℕ) (there : all image ≡ Some bytes) where
    module _ (wrong : (parts : ImageParts) → ¬ ImageOf bytes parts) where
      not_image : ImageRead call.before image → ⊥
      not_image i = wrong i.parts (image_is call.before all fine.told image bytes there i).layout

      pub refused : Found options call image script n → ((fault : ImageError) × (fault_of bytes ≡ Some fault) × (n ≡ 5) × IsPut call (image_line fault)) ⊎ (n ≡ 8)
      refused (IsStarved is) = inr is
      refused (IsUnread is h) = absurd (elim h [ inl u ↦ not_unread _ call all image bytes fine there u | inr p ↦ not_image p.0 ])
      refused (IsNoImage is h) = inl (h.fault, fault_is call.before all fine.told image bytes there _ h, is, h.line)
      refused (IsRefused is i h) = absurd (not_image i)
      refused (IsRan end is i r h) = absurd (not_image i)

    module _ (parts : ImageParts) (layout : ImageOf bytes parts) where
      not_faulty : NoImage (IsPut call) call.before image → ⊥
      not_faulty h = never_image call.before all fine.told image bytes there _ h parts layout

      pub script_missing : all script ≡ None → Found options call image script n → (n ≡ 3) ⊎ (n ≡ 8)
      script_missing gone (IsStarved is) = inr is
      script_missing gone (IsUnread is h) = inl is
      script_missing gone (IsNoImage is h) = absurd (not_faulty h)
      script_missing gone (IsRefused is i h) = absurd (not_held _ all script h.bytes fine.told gone h.held)
      script_missing gone (IsRan end is i r h) = absurd (not_held _ all script r.bytes fine.told gone r.held)

      module _ (script_bytes : List ℕ) (script_there : all script ≡ Some script_bytes) where
        not_unread_here : RunUnread (IsPut call) call image script → ⊥
        not_unread_here h = elim h [
          | inl u ↦ not_unread _ call all image bytes fine there u
          | inr p ↦ not_unread _ call all script script_bytes fine script_there p.1
        ]

        pub script_refused : (refusal : Refusal) → script_of_file script_bytes ≡ Err refusal → Found options call image script n
            → ((n ≡ 6) × IsPut call (script_line refusal)) ⊎ (n ≡ 8)
        script_refused refusal wrong (IsStarved is) = inr is
        script_refused refusal wrong (IsUnread is h) = absurd (not_unread_here h)
        script_refused refusal wrong (IsNoImage is h) = absurd (not_faulty h)
        script_refused refusal wrong (IsRefused is i h) =
            let e = refusal_is call.before all fine.told _ script script_bytes script_there h in
            let same : h.refusal ≡ refusal = cc in
            inl (is, subst (λ r. IsPut call (script_line r)) same h.line)
        script_refused refusal wrong (IsRan end is i r h) = let e = script_is call.before all fine.told script script_bytes script_there r in absurd (cc)

        module _ (content : Content) (says : script_of_file script_bytes ≡ Ok content) where
          same_script : (r : ScriptRead call.before script) → r.script ≡ content
          same_script r = let e = script_is call.before all fine.told script script_bytes script_there r in cc

          not_refused : ScriptRefused (IsPut call) call.before script → ⊥
          not_refused h = let e = refusal_is call.before all fine.told _ script script_bytes script_there h in cc

          same_parts : (i : ImageRead call.before image) → parts ≡ i.parts
          same_parts i = (image_is call.before all fine.told image bytes there i).only parts layout

          pub completes : Found options call image script n → ((b : Behaviour) × Plays (image_goes parts content options) content options.steps b × (n ≡ end_code (end_of b.ending))) ⊎ (n ≡ 8)
          completes (IsStarved is) = inr is
          completes (IsUnread is h) = absurd (not_unread_here h)
          completes (IsNoImage is h) = absurd (not_faulty h)
          completes (IsRefused is i h) = absurd (not_refused h)
          completes (IsRan end is i r h) =
              let plays : Plays (image_goes i.parts content options) content options.steps h.run =
              subst (λ (c : Content). Plays (image_goes i.parts c options) c options.steps h.run) (same_script r) h.plays in
              inl (h.run, subst (λ (p : ImageParts). Plays (image_goes p content options) content options.steps h.run) (sym (same_parts i)) plays, is ∙ ap end_code (sym h.ends))
