use Rattle.std.proofs.lemmas.List.{take_all}
use Rattle.pan_tree.proofs.ShapeLayers.{words_group}
use Rattle.pan_tree.proofs.shapes.+count_words.Goals as goal

pub returns-after-loop-part : goal.returns-after-loop-part
returns-after-loop-part t c =
    let all = take_all c.loop-part.part-index c.as_slice-part-items.result.now c.loop-part-test.false in
    let parts = words_group c.in-Group.parts in
    cc
