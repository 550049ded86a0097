-- How many temporaries expressions need, at each variant.
use Rattle.crep_lang.proofs.Exprs.{steps_num, steps_var, steps_load_word, steps_load_byte, steps_bin, steps_shift, steps_compare, temporaries_num, temporaries_var, temporaries_load_word, temporaries_load_byte, temporaries_bin, temporaries_shift, temporaries_compare}

pub ruleset size_rules = (steps_num, steps_var, steps_load_word, steps_load_byte, steps_bin, steps_shift, steps_compare, temporaries_num, temporaries_var, temporaries_load_word, temporaries_load_byte, temporaries_bin, temporaries_shift, temporaries_compare)
