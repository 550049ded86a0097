-- What comes after a file was read, said of the outside before it.
use Rattle.std.proofs.Common.{◌≡◌, ℕ, ◌≤◌, List, Option, Some, None, Ok, sym, ◌∙◌, subst, inl, inr, arith}
use Rattle.pan_base.specs.Causes.{Rose}
use Rattle.pan_base.specs.Files.{Files, NoneChanged}
use Rattle.pan_base.specs.Sinks.{SinkState}
use Rattle.device_script.specs.Script.{Content, script_of_file}
use Rattle.pan_command.specs.Outside.{Outside, between, Holds, Lacks}
use Rattle.pan_command.specs.Loading.{IsQuiet}
use Rattle.pan_command.specs.Reading.{FileUnread, ScriptRead, ScriptRefused}

-- a count that did not fall and then rose
pub rose_after : (a b c : ℕ) → a ≤ b → Rose b c → Rose a c
rose_after a b c later rose = omega (arith, later, rose)

-- what holds of the files holds of them before, where none changed
pub held_before : (a b : Option Files) (name bytes : List ℕ) → NoneChanged a b → Holds b name bytes → Holds a name bytes
held_before None None name bytes same h = tt
held_before (Some f) (Some g) name bytes same h = sym (same name) ∙ h
held_before None (Some g) name bytes same h = absurd same
held_before (Some f) None name bytes same h = absurd same

lacks_before : (a b : Option Files) (name : List ℕ) → NoneChanged a b → Lacks b name → Lacks a name
lacks_before None None name same h = tt
lacks_before (Some f) (Some g) name same h = sym (same name) ∙ h
lacks_before None (Some g) name same h = absurd same
lacks_before (Some f) None name same h = absurd same

pub same_after : (a b c : Option Files) → NoneChanged a b → NoneChanged b c → NoneChanged a c
same_after None None None p q = tt
same_after (Some f) (Some g) (Some h) p q = λ n. q n ∙ p n
same_after None None (Some h) p q = absurd q
same_after None (Some g) c p q = absurd p
same_after (Some f) None c p q = absurd p
same_after (Some f) (Some g) None p q = absurd q

pub quiet_after : (a b c : Outside) → IsQuiet (between a b) → IsQuiet (between b c) → IsQuiet (between a c)
quiet_after a b c p q =
    let first : (a.files).failed_reads ≤ (b.files).failed_reads = p.reads in
    let second : (b.files).failed_reads ≤ (c.files).failed_reads = q.reads in
    record { out = q.out ∙ p.out; reads = omega (arith, first, second); writes = q.writes ∙ p.writes }

module _ (before mid after : Outside) (same : NoneChanged (before.files).files (mid.files).files) (quiet : IsQuiet (between before mid)) (name : List ℕ) where
  pub rose_before : Rose (mid.out).faults (after.out).faults → Rose (before.out).faults (after.out).faults
  rose_before h = subst (λ (o : SinkState). Rose o.faults (after.out).faults) quiet.out h

  -- `Puts` says how far a line is put, from one state of the sink to another
  module _ (Puts : SinkState → SinkState → List ℕ → Type 0) where
    pub put_before : (line : List ℕ) → Puts mid.out after.out line → Puts before.out after.out line
    put_before line h = subst (λ (o : SinkState). Puts o after.out line) quiet.out h

    pub unread_before : FileUnread (Puts mid.out after.out) (between mid after) name → FileUnread (Puts before.out after.out) (between before after) name
    unread_before u = record {
      cause = elim u.cause [ inl r ↦ inl (rose_after _ _ _ quiet.reads r) | inr l ↦ inr (lacks_before _ _ _ same l) ];
      line = put_before _ u.line;
    }

    pub refused_before : ScriptRefused (Puts mid.out after.out) mid name → ScriptRefused (Puts before.out after.out) before name
    refused_before r = record {
      bytes = r.bytes;
      held = held_before _ _ _ _ same r.held;
      refusal = r.refusal;
      refused = r.refused;
      line = put_before _ r.line;
    }

  abbrev pub read_before : (bytes : List ℕ) (script : Content) → Holds (mid.files).files name bytes → script_of_file bytes ≡ Ok script → ScriptRead before name
  read_before bytes script held says = record { bytes = bytes; held = held_before _ _ _ _ same held; script = script; says = says }
