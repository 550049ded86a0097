use Rattle.image_file.proofs.Complete.{complete}
use Rattle.image_file.proofs.reading.read_image.Goals as goal

pub returns-clause-complete : goal.returns-clause-complete
returns-clause-complete c = complete c.args.bytes.now c.read.result (record { found = c.read.ensures.found; fault = c.read.ensures.fault })
