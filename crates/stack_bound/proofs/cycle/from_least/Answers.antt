use Rattle.std.proofs.Common.{◌<◌, ◌≤◌, ℕ, length, get_or, take, drop, sym, ◌∙◌, subst}
use Rattle.std.proofs.lemmas.List.{take-append-drop}
use Rattle.stack_bound.proofs.Walking.{begins_least}
use Rattle.stack_bound.proofs.cycle.from_least.Goals as goal

pub returns-clause-turned : goal.returns-clause-turned
returns-clause-turned c =
    record {
      front = take c.place_of_least-least.result c.args.cycle.items;
      rest = drop c.place_of_least-least.result c.args.cycle.items;
      before = sym (take-append-drop c.place_of_least-least.result c.args.cycle.items);
      after = c.from_vec.ensures ∙ c.rotate_left.ensures.items;
    }

pub returns-clause-least : goal.returns-clause-least
returns-clause-least c =
    let m = c.place_of_least-least.result in
    begins_least c.args.cycle.items _ m (subst (λ xs. m < length xs) c.as_slice.ensures.value c.place_of_least-least.ensures.within)
    (subst (λ xs. (k : ℕ) → k < length xs → get_or xs m 0 ≤ get_or xs k 0) c.as_slice.ensures.value c.place_of_least-least.ensures.least) (c.from_vec.ensures ∙ c.rotate_left.ensures.items)
