use Rattle.pan_parser.proofs.Names.{spelled_utf8}
use Rattle.pan_parser.proofs.text.text.Goals as goal

pub unreachable-requires : goal.unreachable-requires
unreachable-requires c = c.in_default.ensures.cases.0 (spelled_utf8 c.args.name.now c.requires)
