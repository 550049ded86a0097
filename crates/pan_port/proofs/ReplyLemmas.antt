-- The replies that are left after the next one is given.
use Rattle.std.proofs.Common.{◌≡◌, ℕ, ◌+◌, ◌≤◌, List, length, drop, inl, inr, sym, ap, ◌∙◌, arith}
use Rattle.std.specs.Prelude.{min}
use Rattle.std.proofs.lemmas.Bool.{cases_lt}
use Rattle.std.proofs.lemmas.List.{drop_all, drop-drop}
use Rattle.pan_port.specs.declared.replies.OwnReply.{OwnReply}

pub one_less : (replies : List OwnReply) (next : ℕ) → next ≤ length replies → drop (min (next + 1) (length replies)) replies ≡ drop 1 (drop next replies)
one_less replies next within = elim (cases_lt next (length replies)) [
  | inl more ↦ (let e : min (next + 1) (length replies) ≡ next + 1 = omega arith in ap (λ k. drop k replies) e ∙ sym (drop-drop 1 next replies))
  | inr all ↦
      (let e : min (next + 1) (length replies) ≡ length replies = omega arith in
      ap (λ k. drop k replies) e ∙ drop_all (length replies) replies (omega arith) ∙ sym (ap (drop 1) (drop_all next replies all)))
]
