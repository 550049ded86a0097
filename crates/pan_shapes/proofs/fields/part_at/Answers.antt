use Rattle.std.proofs.Common.{◌<◌, ◌≤◌, length, get_or, arith, sym, ap, ◌∙◌}
use Rattle.pan_tree.specs.Shapes.{OfWord, NoPart, APart}
use Rattle.pan_shapes.proofs.FieldLemmas.{next_part, of_word, no_part, among_word, among_words, past_words, among_group, past_group}
use Rattle.pan_shapes.proofs.fields.part_at.Goals as goal
use Rattle.pan_shapes.proofs.fields.part_at.Goals.{in-Words+else-index-count, in-Group+else-index-len}

pub returns-in-Word : goal.returns-in-Word
returns-in-Word c =
    sym (of_word _) ∙ next_part c.args.shape.now c.loop-index.at.now c.args.path.now c.loop-index.index-index OfWord c.loop-index.invariant c.loop-index-test.true (among_word c.loop-index.at.now _ c.in-Word.is)

pub returns-then-index-count : goal.returns-then-index-count
returns-then-index-count c =
    sym (no_part _) ∙ next_part c.args.shape.now c.loop-index.at.now c.args.path.now c.loop-index.index-index NoPart c.loop-index.invariant c.loop-index-test.true (past_words c.loop-index.at.now c.in-Words.count _ c.in-Words.is c.if-index-count.true)

pub returns-then-index-len : goal.returns-then-index-len
returns-then-index-len c =
    let k = get_or c.args.path.now c.loop-index.index-index 0 in
    let past : length c.in-Group.parts ≤ k = omega (arith, c.if-index-len.true, c.len.ensures) in
    sym (no_part _) ∙ next_part c.args.shape.now c.loop-index.at.now c.args.path.now c.loop-index.index-index NoPart c.loop-index.invariant c.loop-index-test.true (past_group c.loop-index.at.now c.in-Group.parts k c.in-Group.is past)

pub loop-index-preserved : goal.loop-index-preserved
loop-index-preserved c =
    let k = get_or c.args.path.now c.loop-index.index-index 0 in
    let at = c.loop-index.at.now in
    let next = next_part c.args.shape.now at c.args.path.now c.loop-index.index-index (APart c.match-at.at.now) c.loop-index.invariant c.loop-index-test.true in
    elim c.match-at.branch [
      | in-Words+else-index-count w ↦
          next (among_words at w.in-Words.count k w.in-Words.is w.if-index-count.false ∙ ap (λ r. APart r.now) (sym w.at-is))
      | in-Group+else-index-len w ↦
          let h : k < length w.in-Group.parts = omega (arith, w.if-index-len.false, w.len.ensures) in
          let part = w.index-as_slice-index.result in
          let is = w.index-as_slice-index.is ∙ ap (λ parts. get_or parts k part) w.as_slice.ensures in
          next (among_group at w.in-Group.parts k part w.in-Group.is h is ∙ ap (λ r. APart r.now) (sym w.at-is))
    ]
