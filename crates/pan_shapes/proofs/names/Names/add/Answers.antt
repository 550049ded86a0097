use Rattle.std.proofs.Common.{ap, ◌∙◌}
use Rattle.pan_tree.specs.Check.{with_name}
use Rattle.pan_shapes.proofs.NameLemmas.{now_of, add_now}
use Rattle.pan_shapes.proofs.names.Names.add.Goals as goal

pub returns : goal.returns
returns c = ap now_of c.in_ok-insert.ensures.keys ∙ add_now (c.self.inside.set).keys c.args.name ∙ ap (with_name c.args.name.now) c.self.view_is
