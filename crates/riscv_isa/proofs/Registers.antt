-- What a register holds after a write.
use Rattle.std.proofs.Common.{◌≡◌, ◌≢◌, ℕ, ◌<◌, refl, ap, length, Bool, true, false, eqb, cond, arith}
use Rattle.std.specs.Prelude.{slice_index, slice_set}
use Rattle.std.proofs.lemmas.Bool.{ne_eqb}
use Rattle.std.proofs.lemmas.Grind.{common_steps}
use Rattle.riscv_isa.specs.Step.{State, reg, with_reg}

pub written : (s : State) (i n : ℕ) → i ≢ 0 → i < length s.registers → reg (with_reg s i n) i ≡ n
unfolding reg
written s i n apart below = let e = ne_eqb i 0 apart in rw e (grind (arith, common_steps))

pub unwritten : (s : State) (i j n : ℕ) → i ≢ j → reg (with_reg s i n) j ≡ reg s j
unfolding reg
unwritten s i j n apart = ap (λ x. cond (eqb j 0) 0 x) (by_zero (eqb i 0))
  where
    by_zero : (b : Bool) → slice_index (cond b s.registers (slice_set s.registers i n)) j ≡ slice_index s.registers j
    by_zero true = refl
    by_zero false = grind (arith, common_steps)

pub zero_is : (s : State) → reg s 0 ≡ 0
unfolding reg
zero_is s = refl

pub zero_unwritten : (s : State) (n : ℕ) → with_reg s 0 n ≡ s
zero_unwritten s n = refl
