use Rattle.pan_runner.proofs.FillLemmas.{words_told, group_told}
use Rattle.pan_runner.proofs.values.+fill.Goals as goal

pub fill-returns-in_ok-parts-in-Words : goal.fill-returns-in_ok-parts-in-Words
fill-returns-in_ok-parts-in-Words t c = words_told c.args.shape.now c.in-Words.count c.in_ok-parts-in-Words.parts c.args.words.now c.in_ok-parts-in-Words.rest.now c.in-Words.is c.in_ok-parts-in-Words.ensures

pub fill-returns-in_ok-parts-in-Group : goal.fill-returns-in_ok-parts-in-Group
fill-returns-in_ok-parts-in-Group t c =
    let is = c.in-Group.is in
    group_told c.args.shape.now c.as_slice.result.now c.in_ok-parts-in-Group.parts c.args.words.now c.in_ok-parts-in-Group.rest.now (cc) c.in_ok-parts-in-Group.ensures
