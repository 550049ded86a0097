use Rattle.std.proofs.Common.{ap, Err, inl, inr}
use Rattle.pan_command.proofs.Following.{rose_after}
use Rattle.pan_command.proofs.PlayingLaws.{SinksGoOn, played, played_in_part, broken_at_line, broken_hungry}
use Rattle.pan_command.proofs.playing.play.Goals as goal

pub returns-in-Ok-write_end : goal.returns-in-Ok-write_end
returns-in-Ok-write_end g c =
    let on : SinksGoOn = record { more = c.sinks_go_on.ensures.more; front = c.sinks_go_on.ensures.front } in
    played on _ _ c.args.script c.into_device-device.result _ _ _ c.args.steps c.in-Ok.end c.into_device-device.ensures c.requires.fresh c.in-Ok.ensures.ran _ c.in-Ok-write_end.ensures.took

pub returns-in-Ok : goal.returns-in-Ok
returns-in-Ok g c =
    let on : SinksGoOn = record { more = c.sinks_go_on.ensures.more; front = c.sinks_go_on.ensures.front } in (
      rose_after _ _ _ c.in-Ok.ensures.keeps.later_faults c.in-Err.ensures.cause.failed,
      inl (c.in-Ok.end, played_in_part on _ _ c.args.script c.into_device-device.result _ _ _ c.args.steps c.in-Ok.end c.into_device-device.ensures c.requires.fresh c.in-Ok.ensures.ran _ c.in-Err.ensures.took),
    )

pub returns-in-Err-WriteFault : goal.returns-in-Err-WriteFault
returns-in-Err-WriteFault g c =
    let on : SinksGoOn = record { more = c.sinks_go_on.ensures.more; front = c.sinks_go_on.ensures.front } in
    let u = c.in-Err-WriteFault.ensures.write (ap Err c.in-Err-WriteFault.field-0-is) in
    (u.fault, inr (broken_at_line on _ _ c.args.script c.into_device-device.result _ _ _ c.args.steps c.into_device-device.ensures u))

pub returns : goal.returns
returns g c =
    let on : SinksGoOn = record { more = c.sinks_go_on.ensures.more; front = c.sinks_go_on.ensures.front } in
    let h = c.in-Err-NoMemory.ensures.memory (ap Err c.in-Err-NoMemory.field-0-is) in
    (h.wants, broken_hungry on _ _ c.args.script c.into_device-device.result _ _ _ c.args.steps c.into_device-device.ensures h)
