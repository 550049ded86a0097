-- What is seen of a state: registers and memory after a write.
use Rattle.std.proofs.Common.{◌≡◌, ◌≢◌, ℕ, ◌<◌, ◌≤◌, refl, sym, ap, ◌∙◌, List, length, set, Bool, true, false, eqb, cond, arith}
use Rattle.std.proofs.lemmas.List.{set-set, set_comm, get_or-set_other, length-set}
use Rattle.std.proofs.lemmas.Bool.Decides.{nat_tests}
use Rattle.riscv_isa.specs.Regions.{Memory}
use Rattle.riscv_isa.specs.Step.{State, reg, with_reg}
use Rattle.riscv_isa.proofs.Registers.{written, unwritten}
use Rattle.stack_lang.specs.Shown.{mask, hide, IsVisible}

apart : (a b : ℕ) → eqb a b ≡ false → a ≢ b
apart a b h = grind (arith, nat_tests)

-- ---- hiding twice

mask_1 : (xs : List ℕ) → mask (set xs 1 0) ≡ mask xs
mask_1 xs = ap (λ ys. set (set (set ys 9 0) 2 0) 8 0) (set-set xs 1 0 0)

mask_9 : (xs : List ℕ) → mask (set xs 9 0) ≡ mask xs
mask_9 xs = ap (λ ys. set (set ys 2 0) 8 0) (ap (λ ys. set ys 9 0) (set_comm xs 9 1 0 0 (apart 9 1 refl)) ∙ set-set (set xs 1 0) 9 0 0)

mask_2 : (xs : List ℕ) → mask (set xs 2 0) ≡ mask xs
mask_2 xs =
    ap (λ ys. set ys 8 0) (ap (λ ys. set ys 2 0) (ap (λ ys. set ys 9 0) (set_comm xs 2 1 0 0 (apart 2 1 refl)) ∙ set_comm (set xs 1 0) 2 9 0 0 (apart 2 9 refl)) ∙ set-set (set (set xs 1 0) 9 0) 2 0 0)

mask_8 : (xs : List ℕ) → mask (set xs 8 0) ≡ mask xs
mask_8 xs =
    ap (λ ys. set ys 8 0) (ap (λ ys. set ys 2 0) (ap (λ ys. set ys 9 0) (set_comm xs 8 1 0 0 (apart 8 1 refl)) ∙ set_comm (set xs 1 0) 8 9 0 0 (apart 8 9 refl)) ∙ set_comm (set (set xs 1 0) 9 0) 8 2 0 0 (apart 8 2 refl))
    ∙ set-set (set (set (set xs 1 0) 9 0) 2 0) 8 0 0

mask_mask : (xs : List ℕ) → mask (mask xs) ≡ mask xs
mask_mask xs =
    let x1 = set xs 1 0 in
    let x9 = set x1 9 0 in
    let x2 = set x9 2 0 in
    mask_8 x2 ∙ mask_2 x9 ∙ mask_9 x1 ∙ mask_1 xs

pub hide_hide : (t : State) → hide (hide t) ≡ hide t
hide_hide t = ap (λ r. record (hide t) { registers = r }) (mask_mask t.registers)

pub hidden_count : (t : State) → length (hide t).registers ≡ length t.registers
hidden_count t =
    let x1 = set t.registers 1 0 in
    let x9 = set x1 9 0 in
    let x2 = set x9 2 0 in
    length-set x2 8 0 ∙ length-set x9 2 0 ∙ length-set x1 9 0 ∙ length-set t.registers 1 0

pub reg_hide : (t : State) (r : ℕ) → IsVisible r → reg (hide t) r ≡ reg t r
unfolding reg
reg_hide t r v =
    let x1 = set t.registers 1 0 in
    let x9 = set x1 9 0 in
    ap (λ n. cond (eqb r 0) 0 n) (get_or-set_other (set x9 2 0) 8 r 0 0 v.3 ∙ get_or-set_other x9 2 r 0 0 v.2 ∙ get_or-set_other x1 9 r 0 0 v.1 ∙ get_or-set_other t.registers 1 r 0 0 v.0)

-- ---- registers

-- a register that the code of a frame writes: a scratch register, one that passes words, one of a foreign call, or one for variables
pub record IsUsable (r : ℕ) : Type 0 where
  pub real : 5 ≤ r
  pub below : r < 32
  pub newest : r ≢ 8
  pub jumps : r ≢ 9

pub seen : (r : ℕ) → IsUsable r → IsVisible r
seen r u = (λ e. omega (arith, e, u.real), u.jumps, λ e. omega (arith, e, u.real), u.newest)

pub with_count : (s : State) (r n : ℕ) → length (with_reg s r n).registers ≡ length s.registers
with_count s r n = by (eqb r 0)
  where
    by : (b : Bool) → length (cond b s.registers (set s.registers r n)) ≡ length s.registers
    by true = refl
    by false = length-set s.registers r n

pub reg_written : (s : State) (r n : ℕ) → IsUsable r → length s.registers ≡ 32 → reg (hide (with_reg s r n)) r ≡ n
reg_written s r n u all = reg_hide (with_reg s r n) r (seen r u) ∙ written s r n (λ e. omega (arith, e, u.real)) (omega (arith, all, u.below))

pub reg_unwritten : (s : State) (r x n : ℕ) → r ≢ x → IsVisible x → reg (hide (with_reg s r n)) x ≡ reg s x
reg_unwritten s r x n ne v = reg_hide (with_reg s r n) x v ∙ unwritten s r x n ne

-- ---- memory

pub reg_memory : (s : State) (x : ℕ) (d : Memory) → reg (record s { memory = d }) x ≡ reg s x
unfolding reg
reg_memory s x d = refl

-- ---- two writes

mask_set : (xs : List ℕ) (r n : ℕ) → IsVisible r → set (mask xs) r n ≡ mask (set xs r n)
mask_set xs r n v =
    let x1 = set xs 1 0 in
    let x9 = set x1 9 0 in
    let x2 = set x9 2 0 in
    set_comm x2 8 r 0 n (λ e. v.3 (sym e))
    ∙ ap (λ ys. set ys 8 0) (set_comm x9 2 r 0 n (λ e. v.2 (sym e)) ∙ ap (λ ys. set ys 2 0) (set_comm x1 9 r 0 n (λ e. v.1 (sym e)) ∙ ap (λ ys. set ys 9 0) (set_comm xs 1 r 0 n (λ e. v.0 (sym e)))))

-- the second alone is seen
pub reg_twice : (s : State) (r a b : ℕ) → IsUsable r → hide (with_reg (hide (with_reg s r a)) r b) ≡ hide (with_reg s r b)
reg_twice s r a b u = by (eqb r 0) (let h = u.real in grind (arith, nat_tests))
  where
    by : (z : Bool) → z ≡ false
        → (let t = hide (record s { registers = cond z s.registers (set s.registers r a) }) in hide (record t { registers = cond z t.registers (set t.registers r b) })) ≡ hide (record s { registers = cond z s.registers (set s.registers r b) })
    by true e = cc e
    by false e = ap (λ xs. record (hide s) { registers = xs }) (ap mask (mask_set (set s.registers r a) r b (seen r u)) ∙ mask_mask (set (set s.registers r a) r b) ∙ ap mask (set-set s.registers r a b))

-- a write to what is seen is seen as a write to the whole
pub reg_over : (s : State) (r n : ℕ) → IsUsable r → hide (with_reg (hide s) r n) ≡ hide (with_reg s r n)
reg_over s r n u = by (eqb r 0) (let h = u.real in grind (arith, nat_tests))
  where
    by : (z : Bool) → z ≡ false → (let t = hide s in hide (record t { registers = cond z t.registers (set t.registers r n) })) ≡ hide (record s { registers = cond z s.registers (set s.registers r n) })
    by true e = cc e
    by false e = ap (λ xs. record (hide s) { registers = xs }) (ap mask (mask_set s.registers r n (seen r u)) ∙ mask_mask (set s.registers r n))

pub memory_over : (s : State) (d : Memory) → hide (record (hide s) { memory = d }) ≡ hide (record s { memory = d })
memory_over s d = ap (λ xs. record (hide (record s { memory = d })) { registers = xs }) (mask_mask s.registers)
