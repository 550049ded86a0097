use Rattle.std.proofs.Common.{◌≡◌, ℕ, List, Option, map, codes, ap, ◌∙◌}
use Rattle.pan_tree.specs.declared.program.Function.{Function as SourceFunction}
use Rattle.pan_tree.specs.declared.program.Program.{Program as Source}
use Rattle.pan_tree.specs.Meaning.{function_index}
use Rattle.source_resolver.specs.declared.resolved.Function.{Function}
use Rattle.source_resolver.specs.declared.resolved.Program.{Program}
use Rattle.source_resolver.specs.Resolving.{resolved_function, resolved}
use Rattle.source_resolver.proofs.Mains.{main_so}
use Rattle.source_resolver.proofs.ResolvedPrograms.{means_so}
use Rattle.source_resolver.proofs.resolving.resolve.Goals as goal

-- a program of these functions and this main
whole : (p d : Source) (sources : List SourceFunction) (functions : List Function) (main : Option ℕ) → d ≡ p → sources ≡ p.functions → functions ≡ map (λ f. resolved_function d f) sources → main ≡ function_index (codes "main") d
    → let made : Program = record { functions = functions; main = main } in made ≡ resolved p
whole p d sources functions main same all each first =
    let fs : functions ≡ map (resolved_function p) p.functions =
    each ∙ ap (λ (xs : List SourceFunction). map (λ f. resolved_function d f) xs) all ∙ ap (λ (q : Source). map (λ f. resolved_function q f) p.functions) same in
    let m : main ≡ function_index (codes "main") p = first ∙ ap (function_index (codes "main")) same in
    λ i. record { functions = fs i; main = m i }

pub returns-clause-resolved : goal.returns-clause-resolved
returns-clause-resolved c =
    let all = c.as_slice.ensures ∙ ap (λ (q : Source). q.functions) c.program-program.ensures.same in
    whole c.args.checked.now c.in_ok-directory.directory c.as_slice.result.now c.in_ok-functions.functions c.function.result c.in_ok-directory.ensures all c.in_ok-functions.ensures c.function.ensures

pub returns-clause-means : goal.returns-clause-means
returns-clause-means c = means_so c.args.checked.now _ (returns-clause-resolved c)

pub returns-clause-main : goal.returns-clause-main
returns-clause-main c = main_so c.args.checked.now _ c.program-program.ensures.shaped (returns-clause-resolved c)
