-- The known programs of the language of words, computed.
use Rattle.std.proofs.Common.{◌≡◌, [], ◌∷◌}
use Rattle.std.specs.Prelude.{replicate}
use Rattle.pan_base.specs.declared.events.Size.TheVariants.{B8}
use Rattle.pan_base.specs.Events.{Store, Done, Stop, only, Exit, Uncaught, Spent, Asks, Stopped}
use Rattle.crep_lang.specs.Meaning.{meaning}
use Rattle.crep_lang.proofs.Exprs.{word_rules, steps_rules}
use Rattle.crep_lang.proofs.Runs.{run_rules}
use Rattle.known_stages.specs.CrepPrograms.{loops, caught, tail, stopped, passes_on, breaks_before, data_memory}

pub tail_is : meaning tail [] [] 1 ≡ record { behaviour = only (Exit 42); deepest = 320; toll = 688 }
tail_is = simp (run_rules, word_rules, steps_rules)

pub stopped_is : meaning stopped [] (Stop ∷ []) 0 ≡ record { behaviour = only (Stopped (Store B8 0x40000000 5)); deepest = 240; toll = 192 }
stopped_is = simp (run_rules, word_rules, steps_rules)

pub asks_is : meaning stopped [] [] 0 ≡ record { behaviour = only (Asks (Store B8 0x40000000 5)); deepest = 240; toll = 192 }
asks_is = simp (run_rules, word_rules, steps_rules)

pub done_is : meaning stopped [] (Done ∷ []) 0 ≡ record { behaviour = record { events = record { request = Store B8 0x40000000 5; reply = Done } ∷ []; ending = Exit 0 }; deepest = 240; toll = 352 }
done_is = simp (run_rules, word_rules, steps_rules)

pub loops_is : meaning loops [] [] 4 ≡ record { behaviour = only (Exit 4); deepest = 240; toll = 1776 }
loops_is = simp (run_rules, word_rules, steps_rules)

pub spent_is : meaning loops [] [] 3 ≡ record { behaviour = only Spent; deepest = 240; toll = 1312 }
spent_is = simp (run_rules, word_rules, steps_rules)

pub caught_is : meaning caught [] [] 2 ≡ record { behaviour = only (Exit 14); deepest = 560; toll = 1664 }
caught_is = simp (run_rules, word_rules, steps_rules)

pub passes_on_is : meaning passes_on [] [] 1 ≡ record { behaviour = only (Uncaught 1); deepest = 560; toll = 544 }
passes_on_is = simp (run_rules, word_rules, steps_rules)

pub breaks_before_is : meaning breaks_before [] [] 3 ≡ record { behaviour = only (Exit 3); deepest = 240; toll = 1232 }
breaks_before_is = simp (run_rules, word_rules, steps_rules)

pub data_memory_is : meaning data_memory (replicate 8 0) [] 0 ≡ record { behaviour = only (Exit 0x7800000000123716); deepest = 240; toll = 608 }
data_memory_is = simp (run_rules, word_rules, steps_rules)
