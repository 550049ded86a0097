use Rattle.std.proofs.Common.{ap, ◌∙◌}
use Rattle.std.specs.List.{list_any}
use Rattle.std.specs.Str.{bytes_eq}
use Rattle.pan_shapes.proofs.NameLemmas.{any_now}
use Rattle.pan_shapes.proofs.names.Names.contains.Goals as goal

pub returns : goal.returns
returns c = c.contains.ensures ∙ any_now c.args.name.now (c.self.inside.set).keys ∙ ap (list_any (λ y. bytes_eq y c.args.name.now)) c.self.view_is
