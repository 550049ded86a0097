use Rattle.pan_parser.proofs.ItemTrees.{item_refused}
use Rattle.pan_parser.proofs.items.next_item.Goals as goal

pub returns-clause-err : goal.returns-clause-err
returns-clause-err c = item_refused _ _ _ _ c.requires c.in_default.ensures.none c.in_default-after_word.ensures.none c.syntax.ensures
