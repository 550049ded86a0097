-- How a call ends, by its words.
use Rattle.std.proofs.Common.{◌≡◌, ℕ, List, [], refl, sym, subst, inl, inr}
use Rattle.std.specs.Prelude.{◌⊎◌, codes}
use Rattle.command_words.specs.declared.order.Action.{Action}
use Rattle.command_words.specs.declared.order.Action.TheVariants as action
use Rattle.command_words.specs.declared.order.Options.{Options}
use Rattle.command_words.specs.declared.order.Order.{Order}
use Rattle.pan_base.specs.declared.events.End.{End}
use Rattle.pan_base.specs.declared.events.End.TheVariants as told_end
use Rattle.pan_command.specs.declared.status.Status.{Status}
use Rattle.pan_command.specs.declared.status.Status.TheVariants as status
use Rattle.pan_command.specs.Status.{code, end_code}
use Rattle.pan_command.specs.Outside.{Call, NoFileChanged, IsPut, WriteFailed, PutFailed}
use Rattle.pan_command.specs.Command.{AreWordsOf, AreUnlawful, UsageEnds, ActionEnds, Ends}

module _ (words : List (List ℕ)) (call : Call) where
  starved_in : (a : Action) (options : Options) → NoFileChanged call → IsPut call [] → ActionEnds a options call status.NoMemory
  starved_in (action.Compile source image) options same line = record { left = inl same; line = line }
  starved_in (action.Check source) options same line = (same, line)
  starved_in (action.Run image script) options same line = (same, line)
  starved_in (action.Meaning source script) options same line = (same, inl line)
  starved_in (action.Show source) options same line = (same, line)
  starved_in (action.Dis image) options same line = (same, line)
  starved_in (action.Bound source) options same line = (same, line)

  -- with lawful words of an action the call ends as the action does
  pub acts : (a : Action) (options : Options) (s : Status) → AreWordsOf words a options → Ends words call s → ActionEnds a options call s
  acts a options s asks (inl o) = subst (λ (o : Order). ActionEnds o.action o.options call s) (sym (o.only _ asks)) o.ends
  acts a options s asks (inr (inl u)) = absurd (u.0 _ asks)
  acts a options s asks (inr (inr w)) = subst (ActionEnds a options call) (sym w.status) (starved_in a options w.same w.line)

  -- ---- status 2

  no_usage : (a : Action) (options : Options) → ActionEnds a options call status.Usage → ⊥
  no_usage (action.Compile source image) options h = h
  no_usage (action.Check source) options h = h.1
  no_usage (action.Run image script) options h = h.1
  no_usage (action.Meaning source script) options h = h.1
  no_usage (action.Show source) options h = h.1
  no_usage (action.Dis image) options h = h.1
  no_usage (action.Bound source) options h = h.1

  not_two : (end : End) → end_code end ≡ 2 → ⊥
  not_two (told_end.Exit n) e = cc
  not_two told_end.Spent e = cc
  not_two told_end.Stack e = cc
  not_two told_end.Stopped e = cc
  not_two told_end.Fault e = cc
  not_two told_end.Fails e = cc
  not_two (told_end.Uncaught n) e = cc
  not_two told_end.Asks e = cc

  is_usage : (s : Status) → code s ≡ 2 → s ≡ status.Usage
  is_usage status.Done e = absurd (cc)
  is_usage status.Usage e = refl
  is_usage status.Unread e = absurd (cc)
  is_usage status.Refused e = absurd (cc)
  is_usage status.NoImage e = absurd (cc)
  is_usage status.NoScript e = absurd (cc)
  is_usage status.Unwritten e = absurd (cc)
  is_usage status.Unput e = absurd (cc)
  is_usage status.NoMemory e = absurd (cc)
  is_usage (status.Ran end) e = absurd (not_two end e)

  usage_so : Ends words call status.Usage → AreUnlawful words × NoFileChanged call × IsPut call (codes "usage\n")
  usage_so (inl o) = absurd (no_usage (o.order).action (o.order).options o.ends)
  usage_so (inr (inl u)) = (u.0, u.1.0, u.1.1)
  usage_so (inr (inr w)) = let e = w.status in absurd (cc)

  pub usage_at : (s : Status) → Ends words call s → code s ≡ 2 → AreUnlawful words × NoFileChanged call × IsPut call (codes "usage\n")
  usage_at s h e = usage_so (subst (Ends words call) (is_usage s e) h)

  unlawful_so : (s : Status) → UsageEnds call s → (code s ≡ 2) ⊎ ((code s ≡ 7) ⊎ (code s ≡ 8))
  unlawful_so status.Done h = absurd h
  unlawful_so status.Usage h = inl refl
  unlawful_so status.Unread h = absurd h
  unlawful_so status.Refused h = absurd h
  unlawful_so status.NoImage h = absurd h
  unlawful_so status.NoScript h = absurd h
  unlawful_so status.Unwritten h = absurd h
  unlawful_so status.Unput h = inr (inl refl)
  unlawful_so status.NoMemory h = absurd h
  unlawful_so (status.Ran end) h = absurd h

  pub unlawful_at : (s : Status) → Ends words call s → AreUnlawful words → (code s ≡ 2) ⊎ ((code s ≡ 7) ⊎ (code s ≡ 8))
  unlawful_at s (inl o) unlawful = absurd (unlawful o.order o.given)
  unlawful_at s (inr (inl u)) unlawful = unlawful_so s u.1
  unlawful_at s (inr (inr w)) unlawful = subst (λ s. (code s ≡ 2) ⊎ ((code s ≡ 7) ⊎ (code s ≡ 8))) (sym w.status) (inr (inr refl))

  -- ---- status 7

  abbrev Failed : Type 0
  Failed = WriteFailed call ⊎ PutFailed call

  unwritten_in : (a : Action) (options : Options) → ActionEnds a options call status.Unwritten → Failed
  unwritten_in (action.Compile source image) options h = inl h.cause
  unwritten_in (action.Check source) options h = absurd h.1
  unwritten_in (action.Run image script) options h = absurd h.1
  unwritten_in (action.Meaning source script) options h = absurd h.1
  unwritten_in (action.Show source) options h = absurd h.1
  unwritten_in (action.Dis image) options h = absurd h.1
  unwritten_in (action.Bound source) options h = absurd h.1

  unput_in : (a : Action) (options : Options) → ActionEnds a options call status.Unput → Failed
  unput_in (action.Compile source image) options h = inr h.cause
  unput_in (action.Check source) options h = inr (h.1).cause
  unput_in (action.Run image script) options h = inr (h.1).cause
  unput_in (action.Meaning source script) options h = inr (h.1).cause
  unput_in (action.Show source) options h = inr (h.1).cause
  unput_in (action.Dis image) options h = inr (h.1).cause
  unput_in (action.Bound source) options h = inr (h.1).cause

  not_seven : (end : End) → end_code end ≡ 7 → ⊥
  not_seven (told_end.Exit n) e = cc
  not_seven told_end.Spent e = cc
  not_seven told_end.Stack e = cc
  not_seven told_end.Stopped e = cc
  not_seven told_end.Fault e = cc
  not_seven told_end.Fails e = cc
  not_seven (told_end.Uncaught n) e = cc
  not_seven told_end.Asks e = cc

  failed_in : (a : Action) (options : Options) (s : Status) → ActionEnds a options call s → code s ≡ 7 → Failed
  failed_in a options status.Done h e = absurd (cc)
  failed_in a options status.Usage h e = absurd (cc)
  failed_in a options status.Unread h e = absurd (cc)
  failed_in a options status.Refused h e = absurd (cc)
  failed_in a options status.NoImage h e = absurd (cc)
  failed_in a options status.NoScript h e = absurd (cc)
  failed_in a options status.Unwritten h e = unwritten_in a options h
  failed_in a options status.Unput h e = unput_in a options h
  failed_in a options status.NoMemory h e = absurd (cc)
  failed_in a options (status.Ran end) h e = absurd (not_seven end e)

  failed_words : (s : Status) → UsageEnds call s → code s ≡ 7 → Failed
  failed_words status.Done h e = absurd h
  failed_words status.Usage h e = absurd (cc)
  failed_words status.Unread h e = absurd h
  failed_words status.Refused h e = absurd h
  failed_words status.NoImage h e = absurd h
  failed_words status.NoScript h e = absurd h
  failed_words status.Unwritten h e = absurd h
  failed_words status.Unput h e = inr h.1
  failed_words status.NoMemory h e = absurd h
  failed_words (status.Ran end) h e = absurd h

  not_starved : (s : Status) → s ≡ status.NoMemory → code s ≡ 7 → ⊥
  not_starved s is e = let eight : code s ≡ 8 = subst (λ s. code s ≡ 8) (sym is) refl in cc

  pub failed_at : (s : Status) → Ends words call s → code s ≡ 7 → Failed
  failed_at s (inl o) e = failed_in (o.order).action (o.order).options s o.ends e
  failed_at s (inr (inl u)) e = failed_words s u.1 e
  failed_at s (inr (inr w)) e = absurd (not_starved s w.status e)
