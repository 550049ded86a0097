use Rattle.std.proofs.Common.{take, drop, ap, ◌∙◌}
use Rattle.crep_flatten.proofs.ScopeLemmas.{closed}
use Rattle.crep_flatten.proofs.scopes.Scopes.leave.Goals as goal

pub invariant_of-self : goal.invariant_of-self
invariant_of-self c =
    let s = c.self.inside in
    let table = s.places.items in
    (closed s.numbers c.leave.new.self table c.truncate.new.self.items s.outside.items c.pop.new.self.items s.words c.in-Some.words c.self.invariant c.in-Some.ensures.items c.leave.ensures (c.truncate.ensures.items ∙ ap (λ n. take n table) c.total.ensures)).tabled

pub returns-in-Some : goal.returns-in-Some
returns-in-Some c =
    let s = c.self.inside in
    let table = s.places.items in
    (closed s.numbers c.leave.new.self table c.truncate.new.self.items s.outside.items c.pop.new.self.items s.words c.in-Some.words c.self.invariant c.in-Some.ensures.items c.leave.ensures (c.truncate.ensures.items ∙ ap (λ n. take n table) c.total.ensures)).same
    ∙ ap (drop 1) c.self.view_is
