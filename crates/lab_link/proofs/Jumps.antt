-- What the instructions of jumps, branches and addresses do in the machine.
use Rattle.std.proofs.Common.{◌≡◌, ℕ, ℤ, pos, zero, suc, ◌+◌, ◌*◌, ◌%◌, ◌<◌, refl, sym, ap, ◌∙◌, subst, List, Bool, true, false, cond, eqb, set, inl, inr, arith}
use Rattle.std.specs.Prelude.{◌⊎◌, not}
use Rattle.std.proofs.lemmas.List.{set-set}
use Rattle.pan_base.specs.Results.{plus}
use Rattle.pan_base.specs.Words.{compare}
use Rattle.pan_base.specs.declared.operators.Cmp.{Cmp}
use Rattle.pan_base.specs.declared.operators.Cmp.TheVariants.{Eq, Ne, Lt, Ge, Ltu, Geu}
use Rattle.riscv_isa.specs.Held.{AreAt}
use Rattle.riscv_isa.specs.Running.{Leads}
use Rattle.riscv_isa.specs.Step.{State, Runs, reg, with_reg, next, jump, act, step}
use Rattle.riscv_isa.specs.Ways.{IsNear, way, high_of, low_of, halfway}
use Rattle.riscv_isa.specs.declared.instr.Instr.TheVariants.{I, U, B}
use Rattle.pan_base.specs.declared.operators.IOp.TheVariants.{Addi}
use Rattle.pan_base.specs.declared.operators.UOp.TheVariants.{Auipc}
use Rattle.riscv_isa.proofs.Fetching.{stepped, Has32}
use Rattle.riscv_isa.proofs.WayLaws.{gone, jumped, jumps_far, jumps_near, makes_address}
use Rattle.lab_lang.specs.Meaning.{by_way}
use Rattle.lab_link.specs.Lowered.{inverse, jump_by, branch_by, address_by}

-- an address at which an instruction may stand, or the end of the code
pub record IsPlace (at : ℕ) : Type 0 where
  pub near : IsNear at
  pub whole : at % 4 ≡ 0

-- what was written last stays
twice : (b : Bool) (rs : List ℕ) (rd n m : ℕ) → cond b (cond b rs (set rs rd n)) (set (cond b rs (set rs rd n)) rd m) ≡ cond b rs (set rs rd m)
twice true rs rd n m = refl
twice false rs rd n m = set-set rs rd n m

-- ---- jumps

-- a jump that links nothing
pub jump_leads : (count to : ℕ) (s : State) → (count ≡ 1) ⊎ (count ≡ 2) → Has32 s → IsNear s.pc → IsPlace to → AreAt (jump_by count 0 9 s.pc to) s.code s.pc
    → Leads step count s (record (by_way count s.pc to s) { pc = to })
jump_leads count to s (inl is) has near p =
    subst (λ n. AreAt (jump_by n 0 9 s.pc to) s.code s.pc → Leads step n s (record (by_way n s.pc to s) { pc = to })) (sym is)
    (λ held. jumps_near s 0 to held.0 near p.near p.whole)
jump_leads count to s (inr is) has near p =
    subst (λ n. AreAt (jump_by n 0 9 s.pc to) s.code s.pc → Leads step n s (record (by_way n s.pc to s) { pc = to })) (sym is)
    (λ held. jumps_far s 0 9 to held (omega arith) (omega arith) near p.near p.whole)

-- one that links in x1
pub call_leads : (count to : ℕ) (s : State) → (count ≡ 1) ⊎ (count ≡ 2) → Has32 s → IsNear s.pc → IsPlace to → AreAt (jump_by count 1 1 s.pc to) s.code s.pc
    → Leads step count s (record (with_reg s 1 (s.pc + 4 * count)) { pc = to })
call_leads count to s (inl is) has near p =
    subst (λ n. AreAt (jump_by n 1 1 s.pc to) s.code s.pc → Leads step n s (record (with_reg s 1 (s.pc + 4 * n)) { pc = to })) (sym is)
    (λ held. jumps_near s 1 to held.0 near p.near p.whole)
call_leads count to s (inr is) has near p =
    subst (λ n. AreAt (jump_by n 1 1 s.pc to) s.code s.pc → Leads step n s (record (with_reg s 1 (s.pc + 4 * n)) { pc = to })) (sym is)
    (λ held.
    subst (λ rs. Leads step 2 s (record s { registers = rs; pc = to })) (twice false s.registers 1 (halfway s.pc to) (s.pc + 8))
    (jumps_far s 1 1 to held (omega arith) (omega arith) near p.near p.whole))

-- ---- addresses

-- x0 keeps no address
zero_leads : (to : ℕ) (s : State) → AreAt (address_by 0 s.pc to) s.code s.pc → Leads step 2 s (record s { pc = s.pc + 8 })
zero_leads to s held =
    let after : s.pc + 4 + 4 ≡ s.pc + 8 = omega arith in (
      next s,
      stepped s (U Auipc 0 (high_of s.pc to)) held.0,
      (
        record s { pc = s.pc + 8 },
        stepped (next s) (I Addi 0 0 (low_of s.pc to)) held.1.0 ∙ ap (λ n. Runs (record s { pc = n })) after,
        refl,
      ),
    )

pub address_leads : (rd to : ℕ) (s : State) → rd < 32 → Has32 s → IsNear s.pc → IsPlace to → AreAt (address_by rd s.pc to) s.code s.pc
    → Leads step 2 s (record (with_reg s rd to) { pc = s.pc + 8 })
address_leads zero to s small has near p held = zero_leads to s held
address_leads (suc r) to s small has near p held =
    subst (λ rs. Leads step 2 s (record s { registers = rs; pc = s.pc + 8 })) (twice (eqb (suc r) 0) s.registers (suc r) (halfway s.pc to) to)
    (makes_address s (suc r) to held (omega arith) (omega arith) near p.near)

-- ---- branches

not_not : (b : Bool) → not (not b) ≡ b
not_not true = refl
not_not false = refl

pub inverse_is : (c : Cmp) (a b : ℕ) → compare (inverse c) a b ≡ not (compare c a b)
inverse_is Eq a b = refl
inverse_is Ne a b = sym (not_not _)
inverse_is Lt a b = refl
inverse_is Ge a b = sym (not_not _)
inverse_is Ltu a b = refl
inverse_is Geu a b = sym (not_not _)

-- a branch instruction, by whether its comparison holds
branch_acts : (c : Cmp) (a b : ℕ) (by : ℤ) (s : State) (holds : Bool) → compare c (reg s a) (reg s b) ≡ holds → act (B c a b by) s ≡ cond holds (jump (plus s.pc by) s) (Runs (next s))
branch_acts c a b by s holds is = ap (λ h. cond h (jump (plus s.pc by) s) (Runs (next s))) is

over_two : (at : ℕ) → IsNear at → plus at (pos 12) ≡ at + 12
unfolding plus
over_two at near = let a = near.high in omega arith

-- one that is taken
pub taken_leads : (c : Cmp) (a b count to : ℕ) (s : State) → compare c (reg s a) (reg s b) ≡ true → (count ≡ 1) ⊎ (count ≡ 3) → Has32 s → IsNear s.pc → IsPlace (s.pc + 4 * count) → IsPlace to
    → AreAt (branch_by count c a b s.pc to) s.code s.pc → Leads step count s (record (by_way count (s.pc + 4) to s) { pc = to })
taken_leads c a b count to s holds (inl is) has near after p =
    subst (λ n. AreAt (branch_by n c a b s.pc to) s.code s.pc → Leads step n s (record (by_way n (s.pc + 4) to s) { pc = to })) (sym is)
    (λ held. (
      record s { pc = to },
      stepped s (B c a b (way s.pc to)) held.0 ∙ branch_acts c a b (way s.pc to) s true holds ∙ jumped (plus s.pc (way s.pc to)) to s (gone s.pc to near p.near) p.whole,
      refl,
    ))
taken_leads c a b count to s holds (inr is) has near after p =
    let end : IsPlace (s.pc + 12) = subst (λ n. IsPlace (s.pc + 4 * n)) is after in
    let second : IsNear (s.pc + 4) = let x = (end.near).high in let y = near.low in record { low = omega arith; high = omega arith } in
    subst (λ n. AreAt (branch_by n c a b s.pc to) s.code s.pc → Leads step n s (record (by_way n (s.pc + 4) to s) { pc = to })) (sym is)
    (λ held. (
      next s,
      stepped s (B (inverse c) a b (pos 12)) held.0 ∙ branch_acts (inverse c) a b (pos 12) s false (inverse_is c (reg s a) (reg s b) ∙ ap not holds),
      jumps_far (next s) 0 9 to held.1 (omega arith) (omega arith) second p.near p.whole,
    ))

-- one that isn't taken
pub passed_leads : (c : Cmp) (a b count to : ℕ) (s : State) → compare c (reg s a) (reg s b) ≡ false → (count ≡ 1) ⊎ (count ≡ 3) → IsNear s.pc → IsPlace (s.pc + 4 * count)
    → AreAt (branch_by count c a b s.pc to) s.code s.pc → Leads step 1 s (record s { pc = s.pc + 4 * count })
passed_leads c a b count to s fails (inl is) near after =
    subst (λ n. AreAt (branch_by n c a b s.pc to) s.code s.pc → Leads step 1 s (record s { pc = s.pc + 4 * n })) (sym is)
    (λ held. (next s, stepped s (B c a b (way s.pc to)) held.0 ∙ branch_acts c a b (way s.pc to) s false fails, refl))
passed_leads c a b count to s fails (inr is) near after =
    let end : IsPlace (s.pc + 12) = subst (λ n. IsPlace (s.pc + 4 * n)) is after in
    subst (λ n. AreAt (branch_by n c a b s.pc to) s.code s.pc → Leads step 1 s (record s { pc = s.pc + 4 * n })) (sym is)
    (λ held. (
      record s { pc = s.pc + 12 },
      stepped s (B (inverse c) a b (pos 12)) held.0
          ∙ branch_acts (inverse c) a b (pos 12) s true (inverse_is c (reg s a) (reg s b) ∙ ap not fails)
          ∙ jumped (plus s.pc (pos 12)) (s.pc + 12) s (over_two s.pc near) end.whole,
      refl,
    ))
