use Rattle.std.proofs.Common.{◌≡◌, ◌+◌, length, vec_len, arith, ap, ◌∙◌}
use Rattle.pan_tree.specs.Scopes.{declare}
use Rattle.pan_tree.specs.Shapes.{words_of}
use Rattle.crep_flatten.specs.Flat.{Place}
use Rattle.crep_flatten.specs.Flattened.{new_place}
use Rattle.crep_flatten.specs.ScopeTables.{placed}
use Rattle.crep_flatten.proofs.ScopeLemmas.{declared, some_open, undone}
use Rattle.crep_flatten.proofs.scopes.Scopes.declare.Goals as goal

pub invariant_of-self-in-Ok : goal.invariant_of-self-in-Ok
invariant_of-self-in-Ok c =
    let s = c.self.inside in
    let q : Place = record { first = s.words; shape = c.args.shape } in
    let some = some_open s.outside.items (vec_len s.outside) c.is_empty.result (omega (arith, s.outside.ok.0)) c.is_empty.ensures c.if-is_empty.false in
    let more : c.in-Some.words ≡ s.words + words_of c.args.shape = omega (arith, c.in-Some.ensures, c.in_ok-size.ensures) in
    (declared c.args.name.now q s.numbers c.declare.new.self s.places.items c.push.new.self.items s.outside.items s.words c.in-Some.words c.self.invariant some c.in-Ok.ensures.declared c.in_ok-push.ensures.items more).tabled

pub invariant_of-self-in-Err : goal.invariant_of-self-in-Err
invariant_of-self-in-Err c =
    let s = c.self.inside in
    let q : Place = record { first = s.words; shape = c.args.shape } in
    let many : vec_len c.push.new.self ≡ length s.places.items + 1 = omega (arith, s.places.ok.0, c.in_ok-push.ensures.len) in
    undone s.numbers c.declare.new.self q s.places.items c.push.new.self.items c.pop.new.self.items s.outside.items s.words (vec_len c.push.new.self) c.self.invariant c.in-Err.ensures.kept c.in_ok-push.ensures.items many c.pop.ensures.rest

pub returns-in-Ok : goal.returns-in-Ok
returns-in-Ok c =
    let s = c.self.inside in
    let q : Place = record { first = s.words; shape = c.args.shape } in
    let some = some_open s.outside.items (vec_len s.outside) c.is_empty.result (omega (arith, s.outside.ok.0)) c.is_empty.ensures c.if-is_empty.false in
    let more : c.in-Some.words ≡ s.words + words_of c.args.shape = omega (arith, c.in-Some.ensures, c.in_ok-size.ensures) in
    (declared c.args.name.now q s.numbers c.declare.new.self s.places.items c.push.new.self.items s.outside.items s.words c.in-Some.words c.self.invariant some c.in-Ok.ensures.declared c.in_ok-push.ensures.items more).same
    ∙ ap (λ n. declare c.args.name.now (record { first = n; shape = c.args.shape }) (placed s.places.items s.numbers)) c.self.invariant.counted
    ∙ ap (λ here. declare c.args.name.now (new_place c.args.shape here) here) c.self.view_is
