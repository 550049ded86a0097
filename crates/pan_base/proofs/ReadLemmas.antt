-- The bytes that a reader loses by one read upon another.
use Rattle.std.proofs.Common.{ℕ, List, [], ◌++◌, Option, Some, None, refl, ◌∙◌, ap, sym, append_assoc}
use Rattle.std.proofs.lemmas.List.{append-nil}
use Rattle.std.specs.Io.KnownBytes.{Consumes}

pub Consumes-none : (a : Option (List ℕ)) → Consumes a a []
Consumes-none None = tt
Consumes-none (Some xs) = refl

pub Consumes-more : (a b c : Option (List ℕ)) (front next : List ℕ) → Consumes a b front → Consumes b c next → Consumes a c (front ++ next)
Consumes-more None b c front next p q = tt
Consumes-more (Some xs) None c front next p q = absurd p
Consumes-more (Some xs) (Some ys) None front next p q = absurd q
Consumes-more (Some xs) (Some ys) (Some zs) front next p q = p ∙ ap (λ rest. front ++ rest) q ∙ sym (append_assoc front next zs)

pub Consumes-nothing : (a b c : Option (List ℕ)) (front : List ℕ) → Consumes a b front → Consumes b c [] → Consumes a c front
Consumes-nothing a b c front p q = rw append-nil at (Consumes-more a b c front [] p q)
