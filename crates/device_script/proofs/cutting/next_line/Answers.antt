use Rattle.std.proofs.Common.{arith}
use Rattle.device_script.proofs.CuttingLemmas.{first_line_cut, only_line}
use Rattle.device_script.proofs.cutting.next_line.Goals as goal

pub returns-then-len-bytes-clause-more : goal.returns-then-len-bytes-clause-more
returns-then-len-bytes-clause-more c =
    first_line_cut c.args.bytes.now c.line_len-len.result c.without_return.result.now c.line_len-len.ensures.value c.if-len-bytes.true c.without_return.ensures

pub returns-else-len-bytes-clause-last : goal.returns-else-len-bytes-clause-last
returns-else-len-bytes-clause-last c = only_line c.args.bytes.now (omega (arith, c.line_len-len.ensures.value))
