-- The known programs of the language of operations on variables, computed.
use Rattle.std.proofs.Common.{◌≡◌, [], ◌∷◌}
use Rattle.std.specs.Prelude.{pos, replicate}
use Rattle.pan_base.specs.declared.events.Size.TheVariants.{B8}
use Rattle.pan_base.specs.declared.operators.LOp.TheVariants.{Lb, Lw, Ld, Lhu, Lwu}
use Rattle.pan_base.specs.Events.{Store, Done, Stop, only, Exit, Uncaught, Spent, Asks, Stopped}
use Rattle.pan_base.specs.Results.{plus, sign_extended}
use Rattle.word_lang.specs.Meaning.{meaning}
use Rattle.word_lang.proofs.Equations.{run_skip, run_seq, run_const, run_reg, run_imm, run_sh, run_load, run_store, run_if, run_while, run_break, run_continue, run_call, run_tail_call, run_return, run_raise, run_shared_store}
use Rattle.known_stages.specs.WordPrograms.{loops, caught, tail, stopped, passes_on, breaks_before, data_memory, accesses}

ruleset run_rules = (run_skip, run_seq, run_const, run_reg, run_imm, run_sh, run_load, run_store, run_if, run_while, run_break, run_continue, run_call, run_tail_call, run_return, run_raise, run_shared_store)

pub tail_is : meaning tail [] [] 1 ≡ record { behaviour = only (Exit 42); deepest = 320; toll = 656 }
tail_is = simp run_rules

pub stopped_is : meaning stopped [] (Stop ∷ []) 0 ≡ record { behaviour = only (Stopped (Store B8 0x40000000 5)); deepest = 240; toll = 192 }
unfolding plus
stopped_is = simp run_rules

pub asks_is : meaning stopped [] [] 0 ≡ record { behaviour = only (Asks (Store B8 0x40000000 5)); deepest = 240; toll = 192 }
unfolding plus
asks_is = simp run_rules

pub done_is : meaning stopped [] (Done ∷ []) 0 ≡ record { behaviour = record { events = record { request = Store B8 0x40000000 5; reply = Done } ∷ []; ending = Exit 0 }; deepest = 240; toll = 352 }
unfolding plus
done_is = simp run_rules

pub loops_is : meaning loops [] [] 4 ≡ record { behaviour = only (Exit 4); deepest = 240; toll = 816 }
unfolding plus
loops_is = simp run_rules

pub spent_is : meaning loops [] [] 3 ≡ record { behaviour = only Spent; deepest = 240; toll = 576 }
unfolding plus
spent_is = simp run_rules

pub caught_is : meaning caught [] [] 2 ≡ record { behaviour = only (Exit 14); deepest = 560; toll = 1376 }
unfolding plus
caught_is = simp run_rules

pub passes_on_is : meaning passes_on [] [] 1 ≡ record { behaviour = only (Uncaught 1); deepest = 560; toll = 544 }
unfolding plus
passes_on_is = simp run_rules

pub breaks_before_is : meaning breaks_before [] [] 3 ≡ record { behaviour = only (Exit 3); deepest = 240; toll = 672 }
unfolding plus
breaks_before_is = simp run_rules

pub data_memory_is : meaning data_memory (replicate 8 0) [] 0 ≡ record { behaviour = only (Exit 0x7800000000123716); deepest = 240; toll = 544 }
unfolding plus
data_memory_is = simp run_rules

pub lwu_is : meaning (accesses Lwu (pos 4)) (replicate 16 0) [] 0 ≡ record { behaviour = only (Exit 0x80000001); deepest = 240; toll = 384 }
unfolding plus sign_extended
lwu_is = simp run_rules

pub lw_is : meaning (accesses Lw (pos 4)) (replicate 16 0) [] 0 ≡ record { behaviour = only (Exit 0xffffffff80000001); deepest = 240; toll = 384 }
unfolding plus sign_extended
lw_is = simp run_rules

pub lhu_is : meaning (accesses Lhu (pos 2)) (replicate 16 0) [] 0 ≡ record { behaviour = only (Exit 0xffff); deepest = 240; toll = 384 }
unfolding plus sign_extended
lhu_is = simp run_rules

pub lb_is : meaning (accesses Lb (pos 7)) (replicate 16 0) [] 0 ≡ record { behaviour = only (Exit 0xffffffffffffff80); deepest = 240; toll = 384 }
unfolding plus sign_extended
lb_is = simp run_rules

pub ld_is : meaning (accesses Ld (pos 0)) (replicate 16 0) [] 0 ≡ record { behaviour = only (Exit 0x80000001ffff0000); deepest = 240; toll = 384 }
unfolding plus sign_extended
ld_is = simp run_rules
