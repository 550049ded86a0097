-- How a run by the meaning ends after its source was read, and after its script was.
use Rattle.std.proofs.Common.{ℕ, List, [], Err, subst, inl, inr}
use Rattle.pan_base.specs.Files.{NoneChanged}
use Rattle.pan_base.specs.Sinks.{SinkState, Took, TookFront}
use Rattle.command_words.specs.declared.order.Options.{Options}
use Rattle.pan_command.specs.declared.status.Status.{Status}
use Rattle.pan_command.specs.declared.status.Status.TheVariants as status
use Rattle.pan_command.specs.Outside.{Outside, Call, between}
use Rattle.pan_command.specs.Reading.{SourceRead, ScriptRead}
use Rattle.pan_command.specs.Playing.{MeansOut}
use Rattle.pan_command.specs.Meaning.{MeaningCases, source_goes}
use Rattle.pan_command.specs.Loading.{IsQuiet, ProgramCases, ScriptCases}
use Rattle.pan_command.proofs.Following.{rose_before, put_before, unread_before, refused_before}

-- there is no program
module _ (options : Options) (call : Call) (source script : List ℕ) where
  pub program_ends : (s : Status) → ProgramCases source call (Err s) → MeaningCases options source script call s
  program_ends status.Done h = absurd h
  program_ends status.Usage h = absurd h
  program_ends status.Unread h = inl h
  program_ends status.Refused h = h
  program_ends status.NoImage h = absurd h
  program_ends status.NoScript h = absurd h
  program_ends status.Unwritten h = absurd h
  program_ends status.Unput h = record { cause = h.0; line = elim h.1 [ inl u ↦ inl (inl u) | inr p ↦ inr (inl p) ] }
  program_ends status.NoMemory h = inl h
  program_ends (status.Ran end) h = absurd h

module _ (options : Options) (before mid after : Outside) (source script : List ℕ) (read : SourceRead before source) (same : NoneChanged (before.files).files (mid.files).files) (quiet : IsQuiet (between before mid)) where
  -- the script could not be read, or is refused
  pub script_ends : (s : Status) → ScriptCases script (between mid after) (Err s) → MeaningCases options source script (between before after) s
  script_ends status.Done h = absurd h
  script_ends status.Usage h = absurd h
  script_ends status.Unread h = inr (read, unread_before before mid after same quiet script Took h)
  script_ends status.Refused h = absurd h
  script_ends status.NoImage h = absurd h
  script_ends status.NoScript h = (read, refused_before before mid after same quiet script Took h)
  script_ends status.Unwritten h = absurd h
  script_ends status.Unput h = record {
    cause = rose_before before mid after same quiet script h.0;
    line = elim h.1 [
      | inl u ↦ inl (inr (read, unread_before before mid after same quiet script TookFront u))
      | inr r ↦ inr (inr (inl (read, refused_before before mid after same quiet script TookFront r)))
    ];
  }
  script_ends status.NoMemory h = inl (put_before before mid after same quiet script Took [] h)
  script_ends (status.Ran end) h = absurd h

-- the source ran
module _ (options : Options) (before after : Outside) (source script : List ℕ) (p : SourceRead before source) (r : ScriptRead before script) where
  ran_ends : (s : Status) → MeansOut (source_goes p.program r.script options) r.script options.steps before.out after.out s → MeaningCases options source script (between before after) s
  ran_ends status.Done h = absurd h
  ran_ends status.Usage h = absurd h
  ran_ends status.Unread h = absurd h
  ran_ends status.Refused h = absurd h
  ran_ends status.NoImage h = absurd h
  ran_ends status.NoScript h = absurd h
  ran_ends status.Unwritten h = absurd h
  ran_ends status.Unput h = record { cause = h.0; line = inr (inr (inr (p, r, h.1))) }
  ran_ends status.NoMemory h = elim h [ inl nothing ↦ inl nothing | inr broken ↦ inr (p, r, broken) ]
  ran_ends (status.Ran end) h = (p, r, h)

  pub go_ends : (mid : Outside) → IsQuiet (between before mid) → (s : Status) → MeansOut (source_goes p.program r.script options) r.script options.steps mid.out after.out s → MeaningCases options source script (between before after) s
  go_ends mid quiet s h = ran_ends s (subst (λ (o : SinkState). MeansOut (source_goes p.program r.script options) r.script options.steps o after.out s) quiet.out h)
