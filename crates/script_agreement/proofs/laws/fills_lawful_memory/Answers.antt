use Rattle.script_agreement.proofs.FilledMemory.{lawful_memory}
use Rattle.script_agreement.proofs.laws.fills_lawful_memory.Goals as goal

pub returns : goal.returns
returns c =
    let rows = c.rows_of_bytes.ensures in
    lawful_memory (record { front = rows.front; rest = rows.rest; joined = rows.joined })
