use Rattle.std.proofs.Common.{ap, sym, slice_get, ◌∙◌}
use Rattle.std.specs.Prelude.{option_and_then}
use Rattle.pan_tree.specs.Scopes.{innermost}
use Rattle.source_resolver.proofs.NumberLemmas.{lent}
use Rattle.crep_flatten.proofs.ScopeLemmas.{found}
use Rattle.crep_flatten.proofs.scopes.Scopes.place.Goals as goal

pub returns-in-Some : goal.returns-in-Some
returns-in-Some c =
    let x = c.args.name.now in
    let s = c.self.inside in
    lent c.deref.result.now c.in-Some.number c.get.result c.get.ensures.lookup ∙ ap (λ t. slice_get t c.in-Some.number) c.deref.ensures.value ∙ ap (option_and_then (slice_get s.places.items)) c.in-Some.ensures
    ∙ sym (found x s.numbers s.places.items s.outside.items s.words c.self.invariant) ∙ ap (innermost x) c.self.view_is

pub returns-in-None : goal.returns-in-None
returns-in-None c =
    let x = c.args.name.now in
    let s = c.self.inside in
    ap (option_and_then (slice_get s.places.items)) c.in-None.ensures ∙ sym (found x s.numbers s.places.items s.outside.items s.words c.self.invariant) ∙ ap (innermost x) c.self.view_is
