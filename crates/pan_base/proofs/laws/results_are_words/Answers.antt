use Rattle.pan_base.proofs.ResultLaws.{r_result_is_word, i_result_is_word, sh_result_is_word, u_result_is_word, l_result_is_word}
use Rattle.pan_base.proofs.laws.results_are_words.Goals as goal

pub returns : goal.returns
returns c = record {
  of_registers = r_result_is_word;
  of_immediate = i_result_is_word;
  of_shift = sh_result_is_word;
  of_upper = u_result_is_word;
  of_load = l_result_is_word;
}
