use Rattle.std.proofs.Common.{◌+◌, ◌%◌, get_or, slice_set, ap, ◌∙◌, arith}
use Rattle.std.proofs.Math.Nat.{add-mod-mod}
use Rattle.std.proofs.lemmas.List.{get_or_default}
use Rattle.std.proofs.lemmas.List.Edits.{map_over_more}
use Rattle.device_script.proofs.rules.add_to_each.Goals as goal

pub loop-byte-preserved : goal.loop-byte-preserved
loop-byte-preserved c =
    let xs = c.args.array.now in
    let array = c.loop-byte.array in
    let at = c.loop-byte.byte-index in
    let byte = get_or array at 0 in
    ap (λ b. slice_set array at b) (add-mod-mod byte c.args.n 256) ∙ map_over_more (λ b. (b + c.args.n) % 256) xs array at byte c.loop-byte-test.true c.loop-byte.invariant (get_or_default array at 0 byte (omega arith))
