-- The known programs of lines, computed.
use Rattle.std.proofs.Common.{◌≡◌, refl, [], ◌∷◌}
use Rattle.pan_base.specs.declared.events.Size.TheVariants.{B8}
use Rattle.pan_base.specs.Events.{Store, Done, Stop, only, Exit, Spent, Asks, Stopped, Fails}
use Rattle.pan_base.specs.Results.{plus, upper}
use Rattle.riscv_isa.specs.Regions.{place_of}
use Rattle.riscv_isa.specs.Running.{run}
use Rattle.riscv_isa.specs.Step.{reg}
use Rattle.lab_lang.specs.Meaning.{behaviour}
use Rattle.known_stages.specs.LabPrograms.{program, laid, calls, jumps, jumps_laid, jumps_nowhere, jumps_inside, branches, passes, addresses, reads_global, stores, loops, loops_laid, caught, caught_laid, tail, tail_laid}

pub calls_near_is : behaviour (program []) calls (laid 0 (1 ∷ 1 ∷ 0 ∷ 1 ∷ 1 ∷ [])) 0 [] [] 4 ≡ only (Exit 0x100000004)
unfolding run reg plus upper place_of
calls_near_is = refl

pub calls_far_is : behaviour (program []) calls (laid 0 (2 ∷ 1 ∷ 0 ∷ 1 ∷ 1 ∷ [])) 0 [] [] 5 ≡ only (Exit 0x100000008)
unfolding run reg plus upper place_of
calls_far_is = refl

pub calls_spent_is : behaviour (program []) calls (laid 0 (2 ∷ 1 ∷ 0 ∷ 1 ∷ 1 ∷ [])) 0 [] [] 4 ≡ only Spent
unfolding run reg plus upper place_of
calls_spent_is = refl

pub jumps_near_is : behaviour (program []) jumps (jumps_laid 1) 0 [] [] 3 ≡ only (Exit 0)
unfolding run reg plus upper place_of
jumps_near_is = refl

pub jumps_far_is : behaviour (program []) jumps (jumps_laid 2) 0 [] [] 4 ≡ only (Exit 0x100001000)
unfolding run reg plus upper place_of
jumps_far_is = refl

pub jumps_spent_is : behaviour (program []) jumps (jumps_laid 2) 0 [] [] 3 ≡ only Spent
unfolding run reg plus upper place_of
jumps_spent_is = refl

pub branches_near_is : behaviour (program []) branches (laid 0 (1 ∷ 1 ∷ 0 ∷ 1 ∷ 1 ∷ [])) 0 [] [] 3 ≡ only (Exit 0)
unfolding run reg plus upper place_of
branches_near_is = refl

pub branches_far_is : behaviour (program []) branches (laid 0 (3 ∷ 1 ∷ 0 ∷ 1 ∷ 1 ∷ [])) 0 [] [] 5 ≡ only (Exit 0x100000004)
unfolding run reg plus upper place_of
branches_far_is = refl

pub branches_spent_is : behaviour (program []) branches (laid 0 (3 ∷ 1 ∷ 0 ∷ 1 ∷ 1 ∷ [])) 0 [] [] 4 ≡ only Spent
unfolding run reg plus upper place_of
branches_spent_is = refl

pub passes_near_is : behaviour (program []) passes (laid 0 (1 ∷ 1 ∷ 0 ∷ 1 ∷ 1 ∷ [])) 0 [] [] 4 ≡ only (Exit 1)
unfolding run reg plus upper place_of
passes_near_is = refl

pub passes_far_is : behaviour (program []) passes (laid 0 (3 ∷ 1 ∷ 0 ∷ 1 ∷ 1 ∷ [])) 0 [] [] 4 ≡ only (Exit 1)
unfolding run reg plus upper place_of
passes_far_is = refl

pub addresses_is : behaviour (program []) addresses (laid 0 (2 ∷ 0 ∷ 1 ∷ 0 ∷ [])) 0 [] [] 3 ≡ only (Exit 0x100000008)
unfolding run reg plus upper place_of
addresses_is = refl

pub nowhere_is : behaviour (program []) jumps_nowhere (laid 0 (1 ∷ 1 ∷ [])) 0 [] [] 1 ≡ only Fails
unfolding run reg plus upper place_of
nowhere_is = refl

pub inside_is : behaviour (program []) jumps_inside (laid 0 (2 ∷ 1 ∷ 0 ∷ 2 ∷ 0 ∷ 1 ∷ [])) 0 [] [] 4 ≡ only Fails
unfolding run reg plus upper place_of
inside_is = refl

pub reads_is : behaviour (program (7 ∷ 8 ∷ [])) reads_global (laid 0 (1 ∷ 1 ∷ 1 ∷ [])) 0 [] [] 3 ≡ only (Exit 8)
unfolding run reg plus upper place_of
reads_is = refl

pub stopped_is : behaviour (program []) stores (laid 0 (1 ∷ 1 ∷ 1 ∷ 1 ∷ [])) 0 [] (Stop ∷ []) 3 ≡ only (Stopped (Store B8 0x40000000 5))
unfolding run reg plus upper place_of
stopped_is = refl

pub asks_is : behaviour (program []) stores (laid 0 (1 ∷ 1 ∷ 1 ∷ 1 ∷ [])) 0 [] [] 3 ≡ only (Asks (Store B8 0x40000000 5))
unfolding run reg plus upper place_of
asks_is = refl

pub done_is : behaviour (program []) stores (laid 0 (1 ∷ 1 ∷ 1 ∷ 1 ∷ [])) 0 [] (Done ∷ []) 4 ≡ record { events = record { request = Store B8 0x40000000 5; reply = Done } ∷ []; ending = Exit 0 }
unfolding run reg plus upper place_of
done_is = refl

pub loops_near_is : behaviour (program []) loops (loops_laid 1 1) 0 [] [] 25 ≡ only (Exit 4)
unfolding run reg plus upper place_of
loops_near_is = refl

pub loops_far_is : behaviour (program []) loops (loops_laid 3 2) 0 [] [] 31 ≡ only (Exit 4)
unfolding run reg plus upper place_of
loops_far_is = refl

pub loops_spent_is : behaviour (program []) loops (loops_laid 3 2) 0 [] [] 30 ≡ only Spent
unfolding run reg plus upper place_of
loops_spent_is = refl

pub caught_near_is : behaviour (program []) caught (caught_laid 1 1) 64 [] [] 29 ≡ only (Exit 14)
unfolding run reg plus upper place_of
caught_near_is = refl

pub caught_far_is : behaviour (program []) caught (caught_laid 2 3) 64 [] [] 33 ≡ only (Exit 14)
unfolding run reg plus upper place_of
caught_far_is = refl

pub caught_spent_is : behaviour (program []) caught (caught_laid 2 3) 64 [] [] 32 ≡ only Spent
unfolding run reg plus upper place_of
caught_spent_is = refl

pub tail_near_is : behaviour (program []) tail (tail_laid 1) 0 [] [] 9 ≡ only (Exit 42)
unfolding run reg plus upper place_of
tail_near_is = refl

pub tail_far_is : behaviour (program []) tail (tail_laid 2) 0 [] [] 11 ≡ only (Exit 42)
unfolding run reg plus upper place_of
tail_far_is = refl

pub tail_spent_is : behaviour (program []) tail (tail_laid 2) 0 [] [] 10 ≡ only Spent
unfolding run reg plus upper place_of
tail_spent_is = refl
