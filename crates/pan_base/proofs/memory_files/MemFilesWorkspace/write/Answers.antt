use Rattle.std.proofs.Common.{◌≡◌, rules}
use Rattle.pan_base.proofs.FileLemmas.{stored_whole, stored_kept, stored_nothing}
use Rattle.pan_base.proofs.memory_files.MemFilesWorkspace.write.Goals as goal
use Rattle.pan_base.proofs.memory_files.MemFilesWorkspace.write.Goals.{in-Ok-put_file, in-Err-put_file}

pub returns-in-Ok-clause-stored : goal.returns-in-Ok-clause-stored
returns-in-Ok-clause-stored c =
    let same : c.self.inside.files ≡ c.args.self.now.files = search rules in
    rw (c.in-Ok.ensures.ok, same) (stored_kept _ _ _ _)

pub returns-clause-stored : goal.returns-clause-stored
returns-clause-stored c =
    let same : c.self.inside.files ≡ c.args.self.now.files = search rules in
    elim c.match-put_file.branch [
      | in-Ok-put_file w ↦ rw (w.result-is, ← same, w.in-Ok-put_file.ensures.ok) (stored_whole _ _ _)
      | in-Err-put_file w ↦ rw (w.result-is, ← same, w.in-Err-put_file.ensures.err) (stored_nothing _ _ _ _)
    ]
