use Rattle.std.proofs.Common.{arith}
use Rattle.std.proofs.lemmas.Bool.Decides.{nat_tests}
use Rattle.device_script.proofs.CuttingLemmas.{first_word_cut, no_word_cut}
use Rattle.device_script.proofs.cutting.next_word.Goals as goal

pub returns-then-is_empty-clause-none : goal.returns-then-is_empty-clause-none
returns-then-is_empty-clause-none c =
    no_word_cut c.args.line.now c.blank_len.result c.blank_len.ensures.value (grind (arith, nat_tests))

pub returns-else-is_empty-clause-word : goal.returns-else-is_empty-clause-word
returns-else-is_empty-clause-word c =
    first_word_cut c.args.line.now c.blank_len.result c.word_len.result c.split_at.result.0.now c.split_at.result.1.now c.blank_len.ensures.value (grind (arith, nat_tests)) c.word_len.ensures.value c.split_at.ensures.front c.split_at.ensures.back
