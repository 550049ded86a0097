use Rattle.std.proofs.Common.{◌≡◌, true, false, sym, ap, ◌∙◌}
use Rattle.std.specs.Option.{is_some}
use Rattle.pan_tree.specs.Scopes.{in_scope}
use Rattle.source_resolver.specs.Numbering.{named}
use Rattle.source_resolver.proofs.NumberLemmas.{known_stays, new_counts}
use Rattle.source_resolver.proofs.numbers.Numbers.add.Goals as goal

pub invariant_of-self-then-is_known : goal.invariant_of-self-then-is_known
invariant_of-self-then-is_known c =
    let name = c.args.name in
    let all = (c.self.inside.all).items in
    let found : in_scope name.now (named all) ≡ c.find.result = ap (in_scope name.now) c.self.view_is ∙ sym c.find.ensures in
    let known : is_some (in_scope name.now (named all)) ≡ true = ap is_some found ∙ sym c.is_some-is_known.ensures ∙ c.if-is_known.true in
    known_stays (c.self.inside.firsts).entries all (c.push.new.self).items name c.args.number c.self.invariant c.in_ok-push.ensures.items known

pub invariant_of-self-in-Ok : goal.invariant_of-self-in-Ok
invariant_of-self-in-Ok c =
    let name = c.args.name in
    let all = (c.self.inside.all).items in
    let found : in_scope name.now (named all) ≡ c.find.result = ap (in_scope name.now) c.self.view_is ∙ sym c.find.ensures in
    let unknown : is_some (in_scope name.now (named all)) ≡ false = ap is_some found ∙ sym c.is_some-is_known.ensures ∙ c.if-is_known.false in
    let first = new_counts c.self.inside.firsts all (c.push.new.self).items name c.args.number c.self.invariant c.in_ok-push.ensures.items unknown in
    λ q. ap (λ xs. in_scope q (named xs)) c.in-Ok.ensures.entries ∙ first q
