-- What the writing of a faithful image leaves, after the source was read.
use Rattle.std.proofs.Common.{◌≡◌, ℕ, ◌<◌, List, take, Option, Some, None, ◌∙◌, subst, inl, inr}
use Rattle.std.specs.Prelude.{◌⊎◌}
use Rattle.pan_base.specs.Causes.{Rose}
use Rattle.pan_base.specs.Files.{Files, NoneChanged, Stored, StoredBelow}
use Rattle.pan_base.specs.Sinks.{Took, TookFront}
use Rattle.pan_driver.specs.Chained.{parts}
use Rattle.pan_command.specs.declared.status.Status.{Status}
use Rattle.pan_command.specs.declared.status.Status.TheVariants as status
use Rattle.pan_command.specs.Building.{SourceBuilt}
use Rattle.pan_command.specs.Outside.{Outside, between}
use Rattle.pan_command.specs.Compile.{CompileEnds, StoreEnds}

stored_after : (a b c : Option Files) (name bytes : List ℕ) → NoneChanged a b → Stored b c name bytes → Stored a c name bytes
stored_after None None None name bytes same stored = tt
stored_after (Some f) (Some g) (Some h) name bytes same stored = (stored.0, λ n e. stored.1 n e ∙ same n)
stored_after None None (Some h) name bytes same stored = absurd stored
stored_after None (Some g) c name bytes same stored = absurd same
stored_after (Some f) None c name bytes same stored = absurd same
stored_after (Some f) (Some g) None name bytes same stored = absurd stored

stored_below_after : (limit : ℕ) (a b c : Option Files) (name bytes : List ℕ) → NoneChanged a b → StoredBelow limit b c name bytes → StoredBelow limit a c name bytes
stored_below_after limit None None None name bytes same stored = tt
stored_below_after limit (Some f) (Some g) (Some h) name bytes same stored =
    (elim stored.0 as (λ _. (h name ≡ f name) ⊎ ((n : ℕ) × (n < limit) × (h name ≡ Some (take n bytes)))) [ inl e ↦ inl (e ∙ same name) | inr p ↦ inr p ], λ n e. stored.1 n e ∙ same n)
stored_below_after limit None None (Some h) name bytes same stored = absurd stored
stored_below_after limit None (Some g) c name bytes same stored = absurd same
stored_below_after limit (Some f) None c name bytes same stored = absurd same
stored_below_after limit (Some f) (Some g) None name bytes same stored = absurd stored

module _ (before mid after : Outside) (source name : List ℕ) (made : SourceBuilt before source) (same : NoneChanged (before.files).files (mid.files).files) (writes : (mid.files).failed_writes ≡ (before.files).failed_writes) (out : mid.out ≡ before.out) where
  took : (line : List ℕ) → Took mid.out after.out line → Took before.out after.out line
  took line h = subst (λ o. Took o after.out line) out h

  front : (line : List ℕ) → TookFront mid.out after.out line → TookFront before.out after.out line
  front line h = subst (λ o. TookFront o after.out line) out h

  wrote : Rose (mid.files).failed_writes (after.files).failed_writes → Rose (before.files).failed_writes (after.files).failed_writes
  wrote h = subst (λ n. Rose n (after.files).failed_writes) writes h

  pub compile_ends : (s : Status) → StoreEnds (parts made.stages).bound name made.image (between mid after) s → CompileEnds source name (between before after) s
  compile_ends status.Done h = record { built = made; stored = stored_after _ _ _ _ _ same h.0; line = took _ h.1 }
  compile_ends status.Usage h = absurd h
  compile_ends status.NoImage h = absurd h
  compile_ends status.NoScript h = absurd h
  compile_ends (status.Ran end) h = absurd h
  compile_ends status.Unread h = absurd h
  compile_ends status.Refused h = absurd h
  compile_ends status.Unwritten h = record { built = made; cause = wrote h.0; stored = stored_below_after _ _ _ _ _ _ same h.1; line = took _ h.2 }
  compile_ends status.Unput h = record {
    cause = subst (λ o. Rose o.faults (after.out).faults) out h.0;
    line = elim h.1 [
      | inl p ↦ inl (record { built = made; stored = stored_after _ _ _ _ _ same p.0; line = front _ p.1 })
      | inr p ↦ inr (inr (inr (record { built = made; cause = wrote p.0; stored = stored_below_after _ _ _ _ _ _ same p.1; line = front _ p.2 })))
    ];
  }
  compile_ends status.NoMemory h = record { left = inr (made, stored_below_after _ _ _ _ _ _ same h.0); line = took _ h.1 }
