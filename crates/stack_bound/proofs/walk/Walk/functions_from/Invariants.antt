use Rattle.std.proofs.Common.{◌≡◌, map, take, drop}
use Rattle.stack_bound.specs.declared.walk.Visit.{Visit}
use Rattle.stack_bound.proofs.walk.Walk.functions_from.Given as goal

abbrev pub invariant-loop-visit : goal.invariant-loop-visit
invariant-loop-visit l = l.functions.items ≡ map (λ (v : Visit). v.function) (take l.visit-index (drop l.place l.self.callers))
