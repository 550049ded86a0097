use Rattle.std.proofs.Common.{◌≡◌, ℕ, List, position, Option, Some, None, length, map, slice_get, MatchOption, ◌<◌, subst}
use Rattle.std.specs.Str.{bytes_eq}
use Rattle.pan_tree.specs.declared.program.Function.{Function}
use Rattle.pan_tree.specs.declared.program.Program.{Program}
use Rattle.pan_tree.specs.Check.{function_of}
use Rattle.pan_shapes.proofs.HeadLemmas.{find_named, stands_within}
use Rattle.pan_shapes.proofs.heads.Heads.function_index.Goals as goal

abbrev Found : List ℕ → Option ℕ → Program → Type 0
Found q o p = MatchOption o (function_of q p ≡ None) (λ i. (function_of q p ≡ slice_get p.functions i) × (i < length p.functions))

is_found : (q : List ℕ) (p : Program) (names : List (List ℕ)) (o : Option ℕ) → names ≡ map (λ (f : Function). f.name) p.functions → o ≡ position (λ y. bytes_eq y q) names → Found q o p
is_found q p names None e is = find_named (λ (f : Function). f.name) q p.functions names None e is
is_found q p names (Some i) e is = (find_named (λ (f : Function). f.name) q p.functions names (Some i) e is, stands_within (λ (f : Function). f.name) q p.functions names i e is)

pub returns : goal.returns
returns c =
    subst (Found c.args.name.now c.position.result) c.self.view_is (is_found c.args.name.now (c.self.inside.program).now c.self.inside.functions c.position.result c.self.invariant.1 c.position.ensures)
