use Rattle.device_script.proofs.MemoryLemmas.{put_mid-overwrites}
use Rattle.device_script.proofs.memory.overwrite.Goals as goal

pub returns : goal.returns
returns c =
    put_mid-overwrites c.args.memory.now c.args.bytes.now c.copy_from_slice.new.self c.args.offset c.min-start.result c.min-count.result c.min-start.ensures c.min-count.ensures c.copy_from_slice.ensures.after
