-- The list of frames as a stack.
use Rattle.std.proofs.Common.{◌≡◌, List, [], ◌∷◌, ◌++◌, Option, Some, None, refl, ap, ◌∙◌}
use Rattle.std.specs.Prelude.{MatchOption}
use Rattle.pan_runner.specs.Machine.{Frame}
use Rattle.pan_runner.specs.View.{frame_of, frames_onto}
use Rattle.pan_runner.specs.declared.waiting.Waiting.{Waiting}

pub on_top : (fs : List Waiting) (f : Waiting) (ks : List Frame) → frames_onto (fs ++ f ∷ []) ks ≡ frame_of f ∷ frames_onto fs ks
on_top [] f ks = refl
on_top (g ∷ fs) f ks = on_top fs f (frame_of g ∷ ks)

pub popped : (old new : List Waiting) (o : Option Waiting) → MatchOption o ((old ≡ []) × (new ≡ [])) (λ last. old ≡ new ++ last ∷ []) → MatchOption o (frames_onto old [] ≡ []) (λ f. frames_onto old [] ≡ frame_of f ∷ frames_onto new [])
popped old new None e = ap (λ fs. frames_onto fs []) e.0
popped old new (Some f) e = ap (λ fs. frames_onto fs []) e ∙ on_top new f []
