-- From an address of code to another one.
use Rattle.std.proofs.Common.{◌≡◌, ◌≢◌, ℕ, ◌+◌, ◌-◌, ◌*◌, ◌/◌, ◌%◌, ◌^◌, ◌<◌, ◌≤◌, refl, ap, ◌∙◌, [], ◌∷◌, length, arith, eq-eqb}
use Rattle.std.specs.Prelude.{◌⊎◌}
use Rattle.std.proofs.lemmas.Bool.Decides.{nat_tests}
use Rattle.pan_base.specs.declared.operators.IOp.TheVariants.{Addi}
use Rattle.pan_base.specs.declared.operators.UOp.TheVariants.{Auipc}
use Rattle.pan_base.specs.Results.{plus, upper}
use Rattle.pan_base.specs.Words.{signed}
use Rattle.riscv_isa.specs.declared.instr.Instr.TheVariants as instr
use Rattle.riscv_isa.specs.Held.{IsAt, AreAt}
use Rattle.riscv_isa.specs.Running.{Leads}
use Rattle.riscv_isa.specs.Step.{State, Runs, reg, with_reg, next, jump, linked, step}
use Rattle.riscv_isa.specs.Ways.{IsNear, way, high_of, low_of, halfway}
use Rattle.riscv_isa.proofs.Fetching.{stepped}
use Rattle.riscv_isa.proofs.Registers.{written}

upper_cases : (h : ℕ) → ((h < 2 ^ 19) × (upper h ≡ h * 2 ^ 12)) ⊎ ((2 ^ 19 ≤ h) × (upper h ≡ 2 ^ 64 - 2 ^ 32 + h * 2 ^ 12))
unfolding upper
upper_cases h = grind (arith, nat_tests)

plus_cases : (a m : ℕ) → m < 2 ^ 12 → ((m < 2 ^ 11) × (plus a (signed 12 m) ≡ (a + m) % 2 ^ 64)) ⊎ ((2 ^ 11 ≤ m) × (plus a (signed 12 m) ≡ (a + (2 ^ 64 - 1 - (2 ^ 12 - 1 - m))) % 2 ^ 64))
unfolding plus
plus_cases a m small = grind (arith, nat_tests)

pub reached : (from to : ℕ) → IsNear from → IsNear to → plus (halfway from to) (low_of from to) ≡ to
reached from to f t =
    let a = upper_cases (high_of from to) in
    let b = plus_cases (halfway from to) ((to + 2 ^ 64 - from) % 2 ^ 12) (omega arith) in
    let c = f.low in let d = f.high in let e = t.low in let g = t.high in
    omega arith

pub gone : (from to : ℕ) → IsNear from → IsNear to → plus from (way from to) ≡ to
unfolding plus
gone from to f t =
    let c = f.low in let d = f.high in let e = t.low in let g = t.high in
    grind (arith, nat_tests)

pub high_is_small : (from to : ℕ) → high_of from to < 2 ^ 20
high_is_small from to = omega arith

-- ---- in the machine

-- a jump to an address that is a multiple of 4
pub jumped : (to at : ℕ) (s : State) → to ≡ at → at % 4 ≡ 0 → jump to s ≡ Runs (record s { pc = at })
jumped to at s is whole = ap (λ a. jump a s) is ∙ rw (eq-eqb (at % 4) 0 whole) refl

halves : (to : ℕ) → to % 4 ≡ 0 → to / 2 * 2 ≡ to
halves to whole = omega arith

-- the state after an AUIPC on the way to an address
abbrev pub on_the_way : State → ℕ → ℕ → State
on_the_way s by to = next (with_reg s by (halfway s.pc to))

way_there : (s : State) (by to : ℕ) → by ≢ 0 → by < length s.registers → IsNear s.pc → IsNear to → plus (reg (on_the_way s by to) by) (low_of s.pc to) ≡ to
unfolding reg
way_there s by to some below from there =
    ap (λ n. plus n (low_of s.pc to)) (written s by (halfway s.pc to) some below) ∙ reached s.pc to from there

-- AUIPC and JALR jump to the address, and link
pub jumps_far : (s : State) (rd by to : ℕ) → AreAt (instr.U Auipc by (high_of s.pc to) ∷ instr.Jalr rd by (low_of s.pc to) ∷ []) s.code s.pc
    → by ≢ 0 → by < length s.registers → IsNear s.pc → IsNear to → to % 4 ≡ 0
    → Leads step 2 s (record (with_reg (with_reg s by (halfway s.pc to)) rd (s.pc + 8)) { pc = to })
jumps_far s rd by to held some below from there whole =
    let t = on_the_way s by to in
    let target : plus (reg t by) (low_of s.pc to) / 2 * 2 ≡ to = ap (λ n. n / 2 * 2) (way_there s by to some below from there) ∙ halves to whole in
    let after : s.pc + 4 + 4 ≡ s.pc + 8 = omega arith in (
      t,
      stepped s (instr.U Auipc by (high_of s.pc to)) held.0,
      (
        record (with_reg (with_reg s by (halfway s.pc to)) rd (s.pc + 8)) { pc = to },
        stepped t (instr.Jalr rd by (low_of s.pc to)) held.1.0 ∙ jumped _ to (linked rd t) target whole ∙ ap (λ n. Runs (record (with_reg t rd n) { pc = to })) after,
        refl,
      ),
    )

-- AUIPC and ADDI make the address
pub makes_address : (s : State) (rd to : ℕ) → AreAt (instr.U Auipc rd (high_of s.pc to) ∷ instr.I Addi rd rd (low_of s.pc to) ∷ []) s.code s.pc
    → rd ≢ 0 → rd < length s.registers → IsNear s.pc → IsNear to
    → Leads step 2 s (record (with_reg (with_reg s rd (halfway s.pc to)) rd to) { pc = s.pc + 8 })
makes_address s rd to held some below from there =
    let t = on_the_way s rd to in
    let after : s.pc + 4 + 4 ≡ s.pc + 8 = omega arith in (
      t,
      stepped s (instr.U Auipc rd (high_of s.pc to)) held.0,
      (
        record (with_reg (with_reg s rd (halfway s.pc to)) rd to) { pc = s.pc + 8 },
        stepped t (instr.I Addi rd rd (low_of s.pc to)) held.1.0
            ∙ ap (λ n. Runs (next (with_reg t rd n))) (way_there s rd to some below from there)
            ∙ ap (λ n. Runs (record (with_reg t rd to) { pc = n })) after,
        refl,
      ),
    )

-- JAL jumps as far as its immediate goes, and links
pub jumps_near : (s : State) (rd to : ℕ) → IsAt (instr.Jal rd (way s.pc to)) s.code s.pc → IsNear s.pc → IsNear to → to % 4 ≡ 0
    → Leads step 1 s (record (with_reg s rd (s.pc + 4)) { pc = to })
jumps_near s rd to held from there whole = (
  record (with_reg s rd (s.pc + 4)) { pc = to },
  stepped s (instr.Jal rd (way s.pc to)) held ∙ jumped (plus s.pc (way s.pc to)) to (linked rd s) (gone s.pc to from there) whole,
  refl,
)
