use Rattle.std.proofs.Common.{arith}
use Rattle.stack_lang.proofs.WordsBefore.{front_small}
use Rattle.stack_frames.proofs.framing.framed_fun.Goals as goal

pub overflow_add-frame : goal.overflow_add-frame
overflow_add-frame c =
    let few = front_small c.in_ok-body-2.body in
    let same = c.words_before_slots.ensures in
    let slots = c.in_ok-slots.slots.few in
    let row = c.as_slice.ensures in
    let long = c.len.ensures in
    omega arith

pub overflow_add-frame-2 : goal.overflow_add-frame-2
overflow_add-frame-2 c =
    let few = front_small c.in_ok-body-2.body in
    let same = c.words_before_slots.ensures in
    let slots = c.in_ok-slots.slots.few in
    let row = c.as_slice.ensures in
    let long = c.len.ensures in
    omega arith

pub overflow_mul-frame : goal.overflow_mul-frame
overflow_mul-frame c =
    let few = front_small c.in_ok-body-2.body in
    let same = c.words_before_slots.ensures in
    let slots = c.in_ok-slots.slots.few in
    let row = c.as_slice.ensures in
    let long = c.len.ensures in
    omega arith
