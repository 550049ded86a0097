-- Rows of meanings.
use Rattle.std.proofs.Common.{◌≡◌, List, [], ◌∷◌, ◌++◌, refl}
use Rattle.pan_control.specs.World.{World}
use Rattle.pan_control.specs.Control.{Outcome, Normal, Broken, Continued, Returned, Raised, Over, Meaning, and_then, in_turn}

pub then_twice : {V X G : Type 0} (o : Outcome G V X) (f g h : Meaning G V X) → ((v : V) (w : World G) → h v w ≡ and_then (f v w) g) → and_then o h ≡ and_then (and_then o f) g
then_twice (Normal v w) f g h e = e v w
then_twice (Broken v w) f g h e = refl
then_twice (Continued v w) f g h e = refl
then_twice (Returned x w) f g h e = refl
then_twice (Raised i x w) f g h e = refl
then_twice (Over e w) f g h k = refl

pub in_turn_append : {V X G : Type 0} (ms ns : List (Meaning G V X)) (v : V) (w : World G) → in_turn (ms ++ ns) v w ≡ and_then (in_turn ms v w) (in_turn ns)
in_turn_append [] ns v w = refl
in_turn_append (m ∷ ms) ns v w = then_twice (m v w) (in_turn ms) (in_turn ns) (in_turn (ms ++ ns)) (in_turn_append ms ns)

pub then_normal : {V X G : Type 0} (o : Outcome G V X) → and_then o (λ v w. Normal v w) ≡ o
then_normal (Normal v w) = refl
then_normal (Broken v w) = refl
then_normal (Continued v w) = refl
then_normal (Returned x w) = refl
then_normal (Raised i x w) = refl
then_normal (Over e w) = refl
