use Rattle.std.proofs.Common.{◌≡◌, ◌+◌, ◌-◌, ◌≤◌, length, arith, vec_len, reverse, ap, ◌∙◌}
use Rattle.pan_tree.specs.Check as check
use Rattle.pan_shapes.proofs.Scoping.{declared_last, declared_nowhere, on_ok_as, ok_as}
use Rattle.pan_shapes.proofs.scopes.Scopes.declare.Goals as goal
use Rattle.pan_shapes.proofs.scopes.Scopes.declare.Goals.{in-Some, in-None+in-Group-1, in-None+in-Word-1}

pub returns : goal.returns
returns c =
    let blocks = c.self.inside.blocks in
    let name = c.args.name.now in
    let old = ap (check.declare name c.args.shape) c.self.view_is in
    elim c.match-last_mut.branch [
      | in-Some w ↦
          let item = w.in-Some.ensures.item in
          let many : length blocks.items ≡ vec_len blocks - 1 + 1 = omega (arith, blocks.ok.0, item.3.0) in
          on_ok_as _ _ w.declare.result c.match-last_mut.result w.result-is w.declare.ensures.declared (λ made.
          ap (λ s. reverse s.blocks.items) w.self-inside-is
          ∙ declared_last name c.args.shape blocks.items (vec_len blocks - 1) w.in-Some.block.now w.declare.new.self many item.1 made
          ∙ old)
      | in-None+in-Group-1 w ↦
          let few : length blocks.items ≤ 0 = w.in-None.ensures.item.3 in
          ok_as _ tt c.match-last_mut.result w.result-is (ap (λ s. reverse s.blocks.items) w.self-inside-is ∙ declared_nowhere name c.args.shape blocks.items few ∙ old)
      | in-None+in-Word-1 w ↦
          let few : length blocks.items ≤ 0 = w.in-None.ensures.item.3 in
          ok_as _ tt c.match-last_mut.result w.result-is (ap (λ s. reverse s.blocks.items) w.self-inside-is ∙ declared_nowhere name c.args.shape blocks.items few ∙ old)
    ]
