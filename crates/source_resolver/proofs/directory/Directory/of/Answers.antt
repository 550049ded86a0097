use Rattle.std.proofs.Common.{List, map, sym, ap, ◌∙◌}
use Rattle.pan_tree.specs.declared.program.Exception.{Exception}
use Rattle.pan_tree.specs.declared.program.Function.{Function}
use Rattle.pan_tree.specs.Check.{foreign_names}
use Rattle.source_resolver.specs.Numbering.{numbered}
use Rattle.source_resolver.proofs.directory.Directory.of.Goals as goal

pub invariant_of-result : goal.invariant_of-result
invariant_of-result c = (
  c.in_ok-functions.ensures ∙ ap (λ (fs : List Function). numbered 0 (map (λ (f : Function). f.name) fs)) c.as_slice.ensures,
  c.in_ok-exceptions.ensures ∙ ap (λ (xs : List Exception). numbered 0 (map (λ (x : Exception). x.name) xs)) c.as_slice-2.ensures,
  c.in_ok-foreigns.ensures ∙ ap (λ p. numbered 0 (foreign_names p)) (sym c.program-program.ensures.same),
)
