use Rattle.std.proofs.Common.{◌≡◌, ◌-◌, ◌^◌, min, map, sum, take}
use Rattle.pan_tree.specs.Shapes.{words_of}
use Rattle.pan_tree.proofs.shapes.+count_words.Given as goal

abbrev pub invariant-loop-part : goal.invariant-loop-part
invariant-loop-part l = l.total ≡ min (sum (map words_of (take l.part-index l.part-items))) (2 ^ 64 - 1)
