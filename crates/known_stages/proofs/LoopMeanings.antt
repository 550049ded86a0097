-- The known programs of the language of steps between variables, computed.
use Rattle.std.proofs.Common.{◌≡◌, ℕ, List, [], ◌∷◌}
use Rattle.std.specs.Prelude.{replicate}
use Rattle.pan_base.specs.declared.events.Size.TheVariants.{B8}
use Rattle.pan_base.specs.Events.{Store, Done, Stop, only, Exit, Uncaught, Spent, Asks, Stopped}
use Rattle.loop_lang.specs.Meaning.{meaning}
use Rattle.loop_lang.proofs.Equations.{run_skip, run_seq, run_const, run_bin, run_shift, run_compare, run_load_word, run_load_byte, run_store_word, run_store_byte, run_if, run_while, run_break, run_continue, run_call, run_tail_call, run_return, run_raise, run_shared_store}
use Rattle.known_stages.specs.LoopPrograms.{loops, caught, tail, stopped, passes_on, breaks_before, data_memory}

ruleset run_rules = (run_skip, run_seq, run_const, run_bin, run_shift, run_compare, run_load_word, run_load_byte, run_store_word, run_store_byte, run_if, run_while, run_break, run_continue, run_call, run_tail_call, run_return, run_raise, run_shared_store)

pub tail_is : meaning tail [] [] 1 ≡ record { behaviour = only (Exit 42); deepest = 320; toll = 656 }
tail_is = simp run_rules

pub stopped_is : meaning stopped [] (Stop ∷ []) 0 ≡ record { behaviour = only (Stopped (Store B8 0x40000000 5)); deepest = 240; toll = 192 }
stopped_is = simp run_rules

pub asks_is : meaning stopped [] [] 0 ≡ record { behaviour = only (Asks (Store B8 0x40000000 5)); deepest = 240; toll = 192 }
asks_is = simp run_rules

pub done_is : meaning stopped [] (Done ∷ []) 0 ≡ record { behaviour = record { events = record { request = Store B8 0x40000000 5; reply = Done } ∷ []; ending = Exit 0 }; deepest = 240; toll = 352 }
done_is = simp run_rules

pub loops_is : (live : List ℕ) → meaning (loops live) [] [] 4 ≡ record { behaviour = only (Exit 4); deepest = 240; toll = 1392 }
loops_is live = simp run_rules

pub spent_is : (live : List ℕ) → meaning (loops live) [] [] 3 ≡ record { behaviour = only Spent; deepest = 240; toll = 1008 }
spent_is live = simp run_rules

pub caught_is : (live : List ℕ) → meaning (caught live) [] [] 2 ≡ record { behaviour = only (Exit 14); deepest = 560; toll = 1552 }
caught_is live = simp run_rules

pub passes_on_is : meaning passes_on [] [] 1 ≡ record { behaviour = only (Uncaught 1); deepest = 560; toll = 544 }
passes_on_is = simp run_rules

pub breaks_before_is : meaning breaks_before [] [] 3 ≡ record { behaviour = only (Exit 3); deepest = 240; toll = 1040 }
breaks_before_is = simp run_rules

pub data_memory_is : meaning data_memory (replicate 8 0) [] 0 ≡ record { behaviour = only (Exit 0x7800000000123716); deepest = 240; toll = 576 }
data_memory_is = simp run_rules
