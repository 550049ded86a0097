-- Prefixes of traces: each trace is one of itself, and a prefix of a prefix is one.
use Rattle.std.proofs.Common.{List, [], ◌++◌, sym, ap, ◌∙◌, append_assoc}
use Rattle.std.proofs.lemmas.List.{append-nil}
use Rattle.pan_base.specs.Events.{Event, IsPrefix}

pub prefix_refl : (xs : List Event) → IsPrefix xs xs
prefix_refl xs = record { rest = []; all = sym (append-nil xs) }

pub prefix_trans : (xs ys zs : List Event) → IsPrefix xs ys → IsPrefix ys zs → IsPrefix xs zs
prefix_trans xs ys zs p q = record { rest = p.rest ++ q.rest; all = q.all ∙ ap (λ t. t ++ q.rest) p.all ∙ append_assoc xs p.rest q.rest }
