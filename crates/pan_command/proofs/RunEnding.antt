-- How a run ends after its image was read, and after its script was.
use Rattle.std.proofs.Common.{ℕ, List, [], Err, subst, inl, inr}
use Rattle.pan_base.specs.Files.{NoneChanged}
use Rattle.pan_base.specs.Sinks.{SinkState, Took, TookFront}
use Rattle.command_words.specs.declared.order.Options.{Options}
use Rattle.pan_command.specs.declared.status.Status.{Status}
use Rattle.pan_command.specs.declared.status.Status.TheVariants as status
use Rattle.pan_command.specs.Outside.{Outside, between}
use Rattle.pan_command.specs.Reading.{ImageRead, ScriptRead}
use Rattle.pan_command.specs.Playing.{GoesOut}
use Rattle.pan_command.specs.Run.{RunCases, image_goes}
use Rattle.pan_command.specs.Loading.{IsQuiet, ScriptCases}
use Rattle.pan_command.proofs.Following.{rose_before, put_before, unread_before, refused_before}

module _ (options : Options) (before mid after : Outside) (image script : List ℕ) (read : ImageRead before image) (same : NoneChanged (before.files).files (mid.files).files) (quiet : IsQuiet (between before mid)) where
  -- the script could not be read, or is refused
  pub script_ends : (s : Status) → ScriptCases script (between mid after) (Err s) → RunCases options image script (between before after) s
  script_ends status.Done h = absurd h
  script_ends status.Usage h = absurd h
  script_ends status.Unread h = inr (read, unread_before before mid after same quiet script Took h)
  script_ends status.Refused h = absurd h
  script_ends status.NoImage h = absurd h
  script_ends status.NoScript h = (read, refused_before before mid after same quiet script Took h)
  script_ends status.Unwritten h = absurd h
  script_ends status.Unput h = record {
    cause = rose_before before mid after same quiet script h.0;
    line = elim h.1 [
      | inl u ↦ inl (inr (read, unread_before before mid after same quiet script TookFront u))
      | inr r ↦ inr (inr (inl (read, refused_before before mid after same quiet script TookFront r)))
    ];
  }
  script_ends status.NoMemory h = put_before before mid after same quiet script Took [] h
  script_ends (status.Ran end) h = absurd h

-- the machine ran
module _ (options : Options) (before after : Outside) (image script : List ℕ) (i : ImageRead before image) (r : ScriptRead before script) where
  ran_ends : (s : Status) → GoesOut (image_goes i.parts r.script options) r.script options.steps before.out after.out s → RunCases options image script (between before after) s
  ran_ends status.Done h = absurd h
  ran_ends status.Usage h = absurd h
  ran_ends status.Unread h = absurd h
  ran_ends status.Refused h = absurd h
  ran_ends status.NoImage h = absurd h
  ran_ends status.NoScript h = absurd h
  ran_ends status.Unwritten h = absurd h
  ran_ends status.Unput h = record { cause = h.0; line = inr (inr (inr (i, r, h.1))) }
  ran_ends status.NoMemory h = h
  ran_ends (status.Ran end) h = (i, r, h)

  pub go_ends : (mid : Outside) → IsQuiet (between before mid) → (s : Status) → GoesOut (image_goes i.parts r.script options) r.script options.steps mid.out after.out s → RunCases options image script (between before after) s
  go_ends mid quiet s h = ran_ends s (subst (λ (o : SinkState). GoesOut (image_goes i.parts r.script options) r.script options.steps o after.out s) quiet.out h)
