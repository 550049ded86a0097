use Rattle.std.proofs.Common.{◌≡◌, ◌+◌, ◌-◌, length, arith, vec_len, reverse, sym, ap, ◌∙◌}
use Rattle.std.proofs.lemmas.Result.{err_from_is_err_and}
use Rattle.source_resolver.specs.Resolving.{count, with_variable}
use Rattle.source_resolver.proofs.PlaceLemmas.{variable_last, one_more, same_last}
use Rattle.source_resolver.proofs.places.Places.declare.Goals as goal

pub invariant_of-self : goal.invariant_of-self
invariant_of-self c =
    let blocks = c.self.inside.blocks in
    let item = c.in-Some-last_mut.ensures.item in
    c.self.invariant ∙ ap (λ bs. count (reverse bs)) (sym (same_last blocks.items (vec_len blocks - 1) c.in-Some-last_mut.block.now c.add.new.self item.1 c.in_err-add.ensures.kept))

pub invariant_of-self-in-Some-last_mut : goal.invariant_of-self-in-Some-last_mut
invariant_of-self-in-Some-last_mut c =
    let blocks = c.self.inside.blocks in
    let item = c.in-Some-last_mut.ensures.item in
    let many : length blocks.items ≡ vec_len blocks - 1 + 1 = omega (arith, blocks.ok.0, item.3.0) in
    let next : c.in-Some.next ≡ c.self.inside.total + 1 = omega (arith, c.in-Some.ensures) in
    next ∙ one_more c.args.name.now c.self.inside.total blocks.items (vec_len blocks - 1) c.in-Some-last_mut.block.now c.add.new.self c.self.invariant many item.1 c.in_ok-add.ensures.added

pub returns-in_ok-add-clause-declared : goal.returns-in_ok-add-clause-declared
returns-in_ok-add-clause-declared c =
    let blocks = c.self.inside.blocks in
    let item = c.in-Some-last_mut.ensures.item in
    let many : length blocks.items ≡ vec_len blocks - 1 + 1 = omega (arith, blocks.ok.0, item.3.0) in
    variable_last c.args.name.now c.self.inside.total blocks.items (vec_len blocks - 1) c.in-Some-last_mut.block.now c.add.new.self c.self.invariant many item.1 c.in_ok-add.ensures.added ∙ ap (with_variable c.args.name.now) c.self.view_is

pub returns-in_err-add-clause-kept : goal.returns-in_err-add-clause-kept
returns-in_err-add-clause-kept c =
    let blocks = c.self.inside.blocks in
    let item = c.in-Some-last_mut.ensures.item in
    let error = err_from_is_err_and c.from_residual.result c.from_residual.ensures.1 in
    rw error.1 (ap reverse (same_last blocks.items (vec_len blocks - 1) c.in-Some-last_mut.block.now c.add.new.self item.1 c.in_err-add.ensures.kept) ∙ c.self.view_is)
