use Rattle.std.proofs.Common.{ap, ◌∙◌, position}
use Rattle.std.specs.Str.{bytes_eq}
use Rattle.pan_shapes.proofs.NameLemmas.{position_now}
use Rattle.pan_shapes.proofs.names.Names.position.Goals as goal

pub returns : goal.returns
returns c = c.get_index_of.ensures.index ∙ position_now c.args.name.now (c.self.inside.set).keys ∙ ap (position (λ y. bytes_eq y c.args.name.now)) c.self.view_is
