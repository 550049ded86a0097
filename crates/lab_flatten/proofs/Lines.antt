-- Lines at their places, and what one of them, or a fixed row of them, does to the machine.
use Rattle.std.proofs.Common.{◌≡◌, ℕ, pos, negsuc, zero, suc, ◌+◌, ◌-◌, ◌*◌, ◌/◌, ◌%◌, ◌^◌, ◌<◌, ◌≤◌, refl, sym, ap, ◌∙◌, subst, Bool, true, false, cond, List, [], ◌∷◌, ◌++◌, append_assoc, length, Some, inl, inr, arith}
use Rattle.std.specs.Prelude.{◌⊎◌, nat_eq}
use Rattle.std.proofs.lemmas.Bool.Decides.{nat_tests}
use Rattle.pan_base.specs.Words.{compare, signed}
use Rattle.pan_base.specs.declared.operators.Cmp.{Cmp}
use Rattle.pan_base.specs.declared.operators.LOp.TheVariants.{Ld}
use Rattle.pan_base.specs.declared.operators.IOp.TheVariants.{Addi}
use Rattle.pan_base.specs.declared.operators.ROp.TheVariants.{Add, Sub}
use Rattle.pan_base.specs.declared.operators.UOp.TheVariants.{Lui}
use Rattle.riscv_isa.specs.declared.instr.Instr.{Instr}
use Rattle.riscv_isa.specs.declared.instr.Instr.TheVariants as instr
use Rattle.pan_base.specs.Results.{plus, upper}
use Rattle.riscv_isa.specs.Step.{State, Runs, reg, with_reg, next, jump, act}
use Rattle.riscv_isa.specs.Running.{Leads}
use Rattle.riscv_isa.specs.Ways.{halfway}
use Rattle.riscv_isa.proofs.RunLaws.{leads_on}
use Rattle.lab_lang.specs.declared.syntax.Line.{Line}
use Rattle.lab_lang.specs.declared.syntax.Line.TheVariants as line
use Rattle.lab_lang.specs.Layout.{found, address}
use Rattle.lab_lang.specs.Meaning.{State as Working, once, comes, aimed, by_way, act_laid, step}
use Rattle.stack_lang.specs.Shown.{hide}
use Rattle.lab_flatten.specs.Flatten.{high, low as low_part, is_near, reach, base, rest, where_some, below, off}
use Rattle.lab_flatten.proofs.Hiding.{apart, hidden_1, hidden_2, hidden_9}
use Rattle.lab_flatten.proofs.Machine.{Sets, sets_reg, sets_on, sets_none, sets_pc, IsWord, loads_word, plus_zero, plus_small, plus_down, word, Outer, outer_on, sets_outer, kept_self, saved, IsFrame, Ready, frame_word}

-- ---- offsets

upper_small : (h : ℕ) → h < 2 ^ 19 → upper h ≡ h * 2 ^ 12
unfolding upper
upper_small h small = grind (arith, nat_tests)

low_cases : (a m : ℕ) → m < 2 ^ 12 → ((m < 2 ^ 11) × (plus a (signed 12 m) ≡ (a + m) % 2 ^ 64)) ⊎ ((2 ^ 11 ≤ m) × (plus a (signed 12 m) ≡ (a + (2 ^ 64 - 1 - (2 ^ 12 - 1 - m))) % 2 ^ 64))
unfolding plus
low_cases a m small = grind (arith, nat_tests)

-- a far offset in two parts
pub parts_sum : (a d : ℕ) → a ≤ 0x40000000 → d ≤ 0x7F000 → plus ((upper (high d) + a) % 2 ^ 64) (low_part d) ≡ a + d
parts_sum a d small few =
    let u = upper_small (high d) (omega arith) in
    let c = low_cases ((upper (high d) + a) % 2 ^ 64) (d % 2 ^ 12) (omega arith) in
    omega arith

pub parts_alone : (d : ℕ) → d ≤ 0x7F000 → plus (upper (high d)) (low_part d) ≡ d
parts_alone d few =
    let u = upper_small (high d) (omega arith) in
    let c = low_cases (upper (high d)) (d % 2 ^ 12) (omega arith) in
    omega arith

-- the machine, where the last line takes no further step
abbrev pub settled : State → Working
settled t = record { machine = t; owed = 0 }

module _ (lines : List Line) (layout : List (ℕ × ℕ)) where
  -- ---- lines at their places

  -- the label stands at the address
  abbrev pub At : ℕ → ℕ → Type 0
  At l to = address lines layout l ≡ Some to

  -- a line of so many instructions is at the address
  abbrev pub Here : Line → ℕ → ℕ → Type 0
  Here (line.Label l) n at = (n ≡ 0) × At l at × (at % 4 ≡ 0) × (at < 2 ^ 64)
  Here (line.Plain i) n at = (n ≡ 1) × (found lines layout at ≡ Some (record { line = line.Plain i; count = n }))
  Here (line.Jump l) n at = ((n ≡ 1) ⊎ (n ≡ 2)) × (found lines layout at ≡ Some (record { line = line.Jump l; count = n }))
  Here (line.Branch c a b l) n at = ((n ≡ 1) ⊎ (n ≡ 3)) × (found lines layout at ≡ Some (record { line = line.Branch c a b l; count = n }))
  Here (line.CallTo l) n at = (found lines layout at ≡ Some (record { line = line.CallTo l; count = n })) × (n ≤ 2) × ((at + 4 * n) % 4 ≡ 0) × (at + 4 * n < 2 ^ 64)
  Here (line.Address rd l) n at = (n ≡ 2) × (found lines layout at ≡ Some (record { line = line.Address rd l; count = n }))
  Here (line.JumpReg r) n at = (n ≡ 1) × (found lines layout at ≡ Some (record { line = line.JumpReg r; count = n }))

  -- the lines are one after another from an address to another one
  abbrev pub Stands : ℕ → List Line → ℕ → Type 0
  Stands at [] to = at ≡ to
  Stands at (x ∷ xs) to = (n : ℕ) × Here x n at × Stands (at + 4 * n) xs to

  pub stands_split : (at : ℕ) (xs ys : List Line) (to : ℕ) → Stands at (xs ++ ys) to → (mid : ℕ) × Stands at xs mid × Stands mid ys to
  stands_split at [] ys to h = (at, refl, h)
  stands_split at (x ∷ xs) ys to h =
      let r = stands_split (at + 4 * h.0) xs ys to h.2 in
      (r.0, (h.0, h.1, r.1), r.2)

  pub stands_at : (at at' : ℕ) (xs : List Line) (to : ℕ) → at ≡ at' → Stands at xs to → Stands at' xs to
  stands_at at at' xs to e h = subst (λ a. Stands a xs to) e h

  -- behind a label
  pub past_label : (l at : ℕ) (xs : List Line) (to : ℕ) → Stands at (line.Label l ∷ xs) to → Stands at xs to
  past_label l at xs to h = let none = (h.1).0 in stands_at (at + 4 * h.0) at xs to (omega (arith, none)) h.2

  -- ---- steps

  -- it leads from one state to the other in so many steps that ask nothing
  pub record Goes (t u : State) (n : ℕ) : Type 0 where
    pub leads : Leads (step lines layout) n (settled t) (settled u)

  pub goes_none : (t : State) → Goes t t 0
  goes_none t = record { leads = refl }

  pub goes_on : (t u v : State) (m n : ℕ) → Goes t u m → Goes u v n → Goes t v (m + n)
  goes_on t u v m n a b = record { leads = leads_on (step lines layout) m n (settled t) (settled u) (settled v) a.leads b.leads }

  owed_steps : (m : ℕ) (u : State) → Leads (step lines layout) m (record { machine = u; owed = m }) (settled u)
  owed_steps zero u = refl
  owed_steps (suc m) u = (record { machine = u; owed = m }, refl, owed_steps m u)

  -- a line that leads to a state, in so many steps
  pub line_goes : (t u : State) (owed n : ℕ) → n ≡ suc owed → step lines layout (settled t) ≡ Runs (record { machine = u; owed = owed }) → Goes t u n
  line_goes t u owed n is e = subst (λ n. Goes t u n) (sym is) (record { leads = (record { machine = u; owed = owed }, e, owed_steps owed u) })

  -- an instruction, and the lines behind it
  pub step_plain : (i : Instr) (xs : List Line) (to : ℕ) (t u : State) → Stands t.pc (line.Plain i ∷ xs) to → act i t ≡ Runs u → u.pc ≡ t.pc + 4 → Goes t u 1 × Stands u.pc xs to
  step_plain i xs to t u h e pc =
      let one = (h.1).0 in (
        line_goes t u 0 1 refl (ap (λ o. act_laid o (address lines layout) t) (h.1).1 ∙ ap once e),
        stands_at (t.pc + 4 * h.0) u.pc xs to (omega (arith, one, pc)) h.2,
      )

  -- an instruction that writes a register
  pub step_reg : (i : Instr) (xs : List Line) (to : ℕ) (t : State) (r n : ℕ) → Stands t.pc (line.Plain i ∷ xs) to → act i t ≡ Runs (next (with_reg t r n)) → Goes t (next (with_reg t r n)) 1 × Stands (next (with_reg t r n)).pc xs to
  step_reg i xs to t r n h e = step_plain i xs to t (next (with_reg t r n)) h e refl

  -- a small number in a register
  pub constant : (r n : ℕ) (xs : List Line) (to : ℕ) (t : State) → n < 2 ^ 64 → Stands t.pc (line.Plain (instr.I Addi r 0 (pos n)) ∷ xs) to → Goes t (next (with_reg t r n)) 1 × Stands (next (with_reg t r n)).pc xs to
  unfolding reg
  constant r n xs to t small h = step_reg (instr.I Addi r 0 (pos n)) xs to t r n h (ap (λ m. Runs (next (with_reg t r m))) (zero_plus n small))
    where
      zero_plus : (n : ℕ) → n < 2 ^ 64 → plus 0 (pos n) ≡ n
      zero_plus n s = plus_small 0 n (omega arith) ∙ none n
        where
          none : (n : ℕ) → 0 + n ≡ n
          none n = omega arith

  -- ---- jumps, which may write x9

  pub record Moved (t : State) (to most : ℕ) : Type 0 where
    pub state : State
    pub nine : ℕ
    pub sets : Sets 9 nine t state
    pub pc : state.pc ≡ to
    pub steps : ℕ
    pub some : 1 ≤ steps
    pub few : steps ≤ most
    pub goes : Goes t state steps

  long_way : (t : State) (n to owed most : ℕ) → length t.registers ≡ 32 → suc owed ≤ most → step lines layout (settled t) ≡ Runs (record { machine = record (with_reg t 9 n) { pc = to }; owed = owed }) → Moved t to most
  long_way t n to owed most count few e = record {
    state = record (with_reg t 9 n) { pc = to };
    nine = n;
    sets = sets_reg 9 hidden_9 t n to count;
    pc = refl;
    steps = suc owed;
    some = omega arith;
    few = few;
    goes = line_goes t (record (with_reg t 9 n) { pc = to }) owed (suc owed) refl e;
  }

  short_way : (t : State) (to most : ℕ) → 1 ≤ most → step lines layout (settled t) ≡ Runs (settled (record t { pc = to })) → Moved t to most
  short_way t to most few e = record {
    state = record t { pc = to };
    nine = reg t 9;
    sets = sets_pc 9 t to;
    pc = refl;
    steps = 1;
    some = omega arith;
    few = few;
    goes = line_goes t (record t { pc = to }) 0 1 refl e;
  }

  pub jump_moved : (t : State) (l n to : ℕ) → length t.registers ≡ 32 → Here (line.Jump l) n t.pc → At l to → Moved t to 2
  jump_moved t l n to count here there = by_count here.0 (ap (λ o. act_laid o (address lines layout) t) here.1 ∙ ap (λ o. aimed o (λ to. comes n to (by_way n t.pc to t))) there)
    where
      by_count : (n ≡ 1) ⊎ (n ≡ 2) → step lines layout (settled t) ≡ comes n to (by_way n t.pc to t) → Moved t to 2
      by_count (inl one) e = short_way t to 2 (omega arith) (e ∙ ap (λ n. comes n to (by_way n t.pc to t)) one)
      by_count (inr two) e = long_way t (halfway t.pc to) to 1 2 count (omega arith) (e ∙ ap (λ n. comes n to (by_way n t.pc to t)) two)

  -- a branch, by its test
  branch_step : (t : State) (op : Cmp) (a b l n to : ℕ) (c : Bool) → Here (line.Branch op a b l) n t.pc → At l to → compare op (reg t a) (reg t b) ≡ c
      → step lines layout (settled t) ≡ cond c (comes n to (by_way n (t.pc + 4) to t)) (comes 1 (t.pc + 4 * n) t)
  branch_step t op a b l n to c here there test =
      ap (λ o. act_laid o (address lines layout) t) here.1 ∙ ap (λ o. cond (compare op (reg t a) (reg t b)) (aimed o (λ to. comes n to (by_way n (t.pc + 4) to t))) (comes 1 (t.pc + 4 * n) t)) there
      ∙ ap (λ c. cond c (comes n to (by_way n (t.pc + 4) to t)) (comes 1 (t.pc + 4 * n) t)) test

  -- a branch that is taken, and one that isn't
  pub branch_moved : (t : State) (op : Cmp) (a b l n to : ℕ) (c : Bool) → length t.registers ≡ 32 → Here (line.Branch op a b l) n t.pc → At l to
      → compare op (reg t a) (reg t b) ≡ c → Moved t (cond c to (t.pc + 4 * n)) (cond c 3 1)
  branch_moved t op a b l n to c count here there test = by_test c (branch_step t op a b l n to c here there test)
    where
      by_count : (n ≡ 1) ⊎ (n ≡ 3) → step lines layout (settled t) ≡ comes n to (by_way n (t.pc + 4) to t) → Moved t to 3
      by_count (inl one) e = short_way t to 3 (omega arith) (e ∙ ap (λ n. comes n to (by_way n (t.pc + 4) to t)) one)
      by_count (inr three) e = long_way t (halfway (t.pc + 4) to) to 2 3 count (omega arith) (e ∙ ap (λ n. comes n to (by_way n (t.pc + 4) to t)) three)

      by_test : (c : Bool) → step lines layout (settled t) ≡ cond c (comes n to (by_way n (t.pc + 4) to t)) (comes 1 (t.pc + 4 * n) t) → Moved t (cond c to (t.pc + 4 * n)) (cond c 3 1)
      by_test true e = by_count here.0 e
      by_test false e = short_way t (t.pc + 4 * n) 1 (omega arith) e

  -- a branch that isn't taken leaves all but the place
  pub branch_passed : (t : State) (op : Cmp) (a b l n to : ℕ) → Here (line.Branch op a b l) n t.pc → At l to → compare op (reg t a) (reg t b) ≡ false → Goes t (record t { pc = t.pc + 4 * n }) 1
  branch_passed t op a b l n to here there test = line_goes t (record t { pc = t.pc + 4 * n }) 0 1 refl (branch_step t op a b l n to false here there test)

  -- a call, with the return address in x1
  pub record Called (t : State) (back to : ℕ) : Type 0 where
    pub state : State
    pub sets : Sets 1 back t state
    pub pc : state.pc ≡ to
    pub steps : ℕ
    pub some : 1 ≤ steps
    pub few : steps ≤ 2
    pub goes : Goes t state steps

  pub call_moved : (t : State) (f n to : ℕ) → length t.registers ≡ 32 → Here (line.CallTo f) n t.pc → At f to → Called t (t.pc + 4 * n) to
  call_moved t f n to count here there = record {
    state = record (with_reg t 1 (t.pc + 4 * n)) { pc = to };
    sets = sets_reg 1 hidden_1 t (t.pc + 4 * n) to count;
    pc = refl;
    steps = suc (n - 1);
    some = omega arith;
    few = (let h = here.1 in omega arith);
    goes = line_goes t (record (with_reg t 1 (t.pc + 4 * n)) { pc = to }) (n - 1) (suc (n - 1)) refl (ap (λ o. act_laid o (address lines layout) t) here.0 ∙ ap (λ o. aimed o (λ to. comes n to (with_reg t 1 (t.pc + 4 * n)))) there);
  }

  -- the address of a label in x9
  pub address_goes : (t : State) (l to end : ℕ) (xs : List Line) → Stands t.pc (line.Address 9 l ∷ xs) end → At l to
      → Goes t (record (with_reg t 9 to) { pc = t.pc + 8 }) 2 × Stands (t.pc + 8) xs end
  address_goes t l to end xs h there =
      let two = (h.1).0 in (
        line_goes t (record (with_reg t 9 to) { pc = t.pc + 8 }) 1 2 refl (ap (λ o. act_laid o (address lines layout) t) (h.1).1 ∙ ap (λ o. aimed o (λ to. comes h.0 (t.pc + 4 * h.0) (with_reg t 9 to))) there ∙ ap (λ n. comes n (t.pc + 4 * n) (with_reg t 9 to)) two),
        stands_at (t.pc + 4 * h.0) (t.pc + 8) xs end (omega (arith, two)) h.2,
      )

  halves : (a n : ℕ) → a ≡ n → n % 4 ≡ 0 → a / 2 * 2 ≡ n
  halves a n e whole = omega arith

  -- a jump to the address in a register
  pub jump_back : (t : State) (r to end : ℕ) (xs : List Line) → Stands t.pc (line.JumpReg r ∷ xs) end → reg t r ≡ to → to % 4 ≡ 0 → to < 2 ^ 64 → Goes t (record t { pc = to }) 1
  jump_back t r to end xs h is whole small =
      let e : plus (reg t r) (pos 0) ≡ to = ap (λ n. plus n (pos 0)) is ∙ plus_zero to small in
      let f : plus (reg t r) (pos 0) / 2 * 2 ≡ to = halves (plus (reg t r) (pos 0)) to e whole in
      line_goes t (record t { pc = to }) 0 1 refl (ap (λ o. act_laid o (address lines layout) t) (h.1).1 ∙ ap (λ a. once (jump a t)) f ∙ (rw whole refl))

  -- ---- a place at an offset from x2

  pub record Reached (d : ℕ) (t : State) (xs : List Line) (end : ℕ) : Type 0 where
    pub state : State
    pub nine : ℕ
    pub sets : Sets 9 nine t state
    pub steps : ℕ
    pub few : steps ≤ 2
    pub goes : Goes t state steps
    pub stands : Stands state.pc xs end
    pub place : plus (reg state (base d)) (rest d) ≡ reg t 2 + d

  pub reached : (d : ℕ) (t : State) (xs : List Line) (end : ℕ) → length t.registers ≡ 32 → reg t 2 ≤ 0x40000000 → d ≤ 0x7F000 → Stands t.pc (reach d ++ xs) end → Reached d t xs end
  reached d t xs end count low few h = by (is_near d) refl
    where
      near : Stands t.pc xs end → plus (reg t (base d)) (rest d) ≡ reg t 2 + d → Reached d t xs end
      near h e = record { state = t; nine = reg t 9; sets = sets_none 9 t; steps = 0; few = omega arith; goes = goes_none t; stands = h; place = e }

      far : Stands t.pc (line.Plain (instr.U Lui 9 (high d)) ∷ line.Plain (instr.R Add 9 9 2) ∷ xs) end → ((u : State) → plus (reg u 9) (low_part d) ≡ reg t 2 + d → plus (reg u (base d)) (rest d) ≡ reg t 2 + d) → Reached d t xs end
      far h same =
          let n1 = upper (high d) in
          let u1 = next (with_reg t 9 n1) in
          let s1 = sets_reg 9 hidden_9 t n1 (next (with_reg t 9 n1)).pc count in
          let a = step_reg (instr.U Lui 9 (high d)) (line.Plain (instr.R Add 9 9 2) ∷ xs) end t 9 n1 h refl in
          let n2 = (reg u1 9 + reg u1 2) % 2 ^ 64 in
          let u2 = next (with_reg u1 9 n2) in
          let s2 = sets_reg 9 hidden_9 u1 n2 (next (with_reg u1 9 n2)).pc (s1.count ∙ count) in
          let b = step_reg (instr.R Add 9 9 2) xs end u1 9 n2 a.1 refl in
          record {
            state = u2;
            nine = n2;
            sets = sets_on 9 n1 n2 t u1 u2 s1 s2;
            steps = 1 + 1;
            few = omega arith;
            goes = goes_on t u1 u2 1 1 a.0 b.0;
            stands = b.1;
            place = same u2 (ap (λ n. plus n (low_part d)) (s2.value ∙ ap (λ n. (n + reg u1 2) % 2 ^ 64) s1.value ∙ ap (λ n. (upper (high d) + n) % 2 ^ 64) (s1.other 2 (apart 2 9 refl))) ∙ parts_sum (reg t 2) d low few);
          }

      by : (b : Bool) → is_near d ≡ b → Reached d t xs end
      by true is =
          near (subst (λ b. Stands t.pc (cond b [] (line.Plain (instr.U Lui 9 (high d)) ∷ line.Plain (instr.R Add 9 9 2) ∷ []) ++ xs) end) is h)
          (ap (λ b. plus (reg t (cond b 2 9)) (cond b (pos d) (low_part d))) is ∙ plus_small (reg t 2) d (omega (arith, low, few)))
      by false is =
          far (subst (λ b. Stands t.pc (cond b [] (line.Plain (instr.U Lui 9 (high d)) ∷ line.Plain (instr.R Add 9 9 2) ∷ []) ++ xs) end) is h)
          (λ u e. ap (λ b. plus (reg u (cond b 2 9)) (cond b (pos d) (low_part d))) is ∙ e)

  -- ---- the frame is given up

  -- the return address comes into x1
  record Linked (front : ℕ) (t : State) (xs : List Line) (end : ℕ) : Type 0 where
    state : State
    sets : Sets 1 (saved front t) t state
    steps : ℕ
    few : steps ≤ 1
    goes : Goes t state steps
    stands : Stands state.pc xs end

  linked : (front size : ℕ) (t : State) (xs : List Line) (end : ℕ) → IsFrame front size → Ready front size t → Stands t.pc (where_some front (line.Plain (instr.L Ld 1 2 (pos 0)) ∷ []) ++ xs) end → Linked front t xs end
  linked front size t xs end f r h = by (nat_eq front 0) refl
    where
      zero_off : reg t 2 + 0 ≡ reg t 2
      zero_off = omega arith

      by : (b : Bool) → nat_eq front 0 ≡ b → Linked front t xs end
      by true is =
          let from : reg t 1 ≡ saved front t = ap (λ b. cond b (reg t 1) (word t (reg t 2))) (sym is) in
          record { state = t; sets = subst (λ n. Sets 1 n t t) from (sets_none 1 t); steps = 0; few = omega arith; goes = goes_none t; stands = subst (λ b. Stands t.pc (cond b [] (line.Plain (instr.L Ld 1 2 (pos 0)) ∷ []) ++ xs) end) is h }
      by false is =
          let some : 0 < front = grind (arith, nat_tests) in
          let low : reg t 2 ≤ 0x40000000 = (let a = r.frame in let b = (r.map).stack in omega arith) in
          let from : word t (reg t 2) ≡ saved front t = ap (λ b. cond b (reg t 1) (word t (reg t 2))) (sym is) in
          let n = word t (reg t 2) in
          let w : IsWord t (reg t 2) = subst (λ a. IsWord t a) zero_off (frame_word front size 0 t r refl (let x = f.wide in omega arith)) in
          let u = next (with_reg t 1 n) in
          let a = step_reg (instr.L Ld 1 2 (pos 0)) xs end t 1 n (subst (λ b. Stands t.pc (cond b [] (line.Plain (instr.L Ld 1 2 (pos 0)) ∷ []) ++ xs) end) is h) (loads_word t 1 2 (pos 0) (reg t 2) w (plus_zero (reg t 2) (omega (arith, low)))) in
          record { state = u; sets = subst (λ n. Sets 1 n t u) from (sets_reg 1 hidden_1 t n (next (with_reg t 1 n)).pc r.count); steps = 1; few = omega arith; goes = a.0; stands = a.1 }

  -- the stack pointer comes to where it was before the frame
  record Raised (size : ℕ) (t : State) (xs : List Line) (end : ℕ) : Type 0 where
    state : State
    seen : hide state ≡ hide t
    outer : Outer (reg t 2 + size) t state
    sp : reg state 2 ≡ reg t 2 + size
    link : reg state 1 ≡ reg t 1
    steps : ℕ
    few : steps ≤ 3
    goes : Goes t state steps
    stands : Stands state.pc xs end

  raised : (size : ℕ) (t : State) (xs : List Line) (end : ℕ) → length t.registers ≡ 32 → reg t 2 ≤ 0x40000000 → size ≤ 0x7F000
      → Stands t.pc (where_some size (reach size ++ line.Plain (instr.I Addi 2 (base size) (rest size)) ∷ []) ++ xs) end → Raised size t xs end
  raised size t xs end count low most h = by (nat_eq size 0) refl
    where
      top : ℕ
      top = reg t 2 + size

      outer_self : Outer (reg t 2 + size) t t
      outer_self = (kept_self 0 size t).outer

      by : (b : Bool) → nat_eq size 0 ≡ b → Raised size t xs end
      by true is =
          let none : size ≡ 0 = grind (arith, nat_tests) in
          record { state = t; seen = refl; outer = outer_self; sp = omega (arith, none); link = refl; steps = 0; few = omega arith; goes = goes_none t; stands = subst (λ b. Stands t.pc (cond b [] (reach size ++ line.Plain (instr.I Addi 2 (base size) (rest size)) ∷ []) ++ xs) end) is h }
      by false is =
          let last = line.Plain (instr.I Addi 2 (base size) (rest size)) in
          let stands : Stands t.pc (reach size ++ last ∷ xs) end = subst (λ ys. Stands t.pc ys end) (append_assoc (reach size) (last ∷ []) xs) (subst (λ b. Stands t.pc (cond b [] (reach size ++ last ∷ []) ++ xs) end) is h) in
          let m = reached size t (last ∷ xs) end count low most stands in
          let n = plus (reg m.state (base size)) (rest size) in
          let u = next (with_reg m.state 2 n) in
          let s = sets_reg 2 hidden_2 m.state n (next (with_reg m.state 2 n)).pc ((m.sets).count ∙ count) in
          let b = step_reg (instr.I Addi 2 (base size) (rest size)) xs end m.state 2 n m.stands refl in
          record {
            state = u;
            seen = s.seen ∙ (m.sets).seen;
            outer = outer_on (reg t 2 + size) (reg t 2 + size) t m.state u (sets_outer 9 m.nine (reg t 2 + size) t m.state m.sets (apart 4 9 refl) (apart 8 9 refl)) (sets_outer 2 n (reg t 2 + size) m.state u s (apart 4 2 refl) (apart 8 2 refl)) (omega arith);
            sp = s.value ∙ m.place;
            link = s.other 1 (apart 1 2 refl) ∙ (m.sets).other 1 (apart 1 9 refl);
            steps = m.steps + 1;
            few = (let x = m.few in omega arith);
            goes = goes_on t m.state u m.steps 1 m.goes b.0;
            stands = b.1;
          }

  pub record Unframed (front size : ℕ) (t : State) (xs : List Line) (end : ℕ) : Type 0 where
    pub state : State
    pub seen : hide state ≡ hide t
    pub outer : Outer (reg t 2 + size) t state
    pub sp : reg state 2 ≡ reg t 2 + size
    pub link : reg state 1 ≡ saved front t
    pub steps : ℕ
    pub few : steps ≤ 4
    pub goes : Goes t state steps
    pub stands : Stands state.pc xs end

  pub unframed : (front size : ℕ) (t : State) (xs : List Line) (end : ℕ) → IsFrame front size → Ready front size t → Stands t.pc (off front size xs) end → Unframed front size t xs end
  unframed front size t xs end f r h =
      let low : reg t 2 ≤ 0x40000000 = (let a = r.frame in let b = (r.map).stack in omega arith) in
      let l = linked front size t (where_some size (reach size ++ line.Plain (instr.I Addi 2 (base size) (rest size)) ∷ []) ++ xs) end f r h in
      let u = l.state in
      let s = l.sets in
      let sp1 : reg u 2 ≡ reg t 2 = s.other 2 (apart 2 1 refl) in
      let z = raised size u xs end (s.count ∙ r.count) (omega (arith, sp1, low)) f.most l.stands in
      let top = reg t 2 + size in
      record {
        state = z.state;
        seen = z.seen ∙ s.seen;
        outer = outer_on top (reg u 2 + size) t u z.state (sets_outer 1 (saved front t) top t u s (apart 4 1 refl) (apart 8 1 refl)) z.outer (omega (arith, sp1));
        sp = z.sp ∙ ap (λ n. n + size) sp1;
        link = z.link ∙ s.value;
        steps = l.steps + z.steps;
        few = (let x = l.few in let y = z.few in omega arith);
        goes = goes_on t u z.state l.steps z.steps l.goes z.goes;
        stands = z.stands;
      }

  -- ---- x9 so far below x2

  pub record Lowered (n : ℕ) (t : State) (xs : List Line) (end : ℕ) : Type 0 where
    pub state : State
    pub sets : Sets 9 (reg t 2 - n) t state
    pub steps : ℕ
    pub few : steps ≤ 3
    pub goes : Goes t state steps
    pub stands : Stands state.pc xs end

  pub lowered : (n : ℕ) (t : State) (xs : List Line) (end : ℕ) → length t.registers ≡ 32 → 0x20000000 ≤ reg t 2 → reg t 2 ≤ 0x40000000 → 0 < n → n ≤ 0x7F000 → Stands t.pc (below n ++ xs) end → Lowered n t xs end
  lowered n t xs end count low small some few h = by (is_near n) refl
    where
      to_value : (t u : State) (a b : ℕ) → Sets 9 a t u → a ≡ b → Sets 9 b t u
      to_value t u a b s e = subst (λ a. Sets 9 a t u) e s

      near : Stands t.pc (line.Plain (instr.I Addi 9 2 (negsuc (n - 1))) ∷ xs) end → Lowered n t xs end
      near h =
          let m = plus (reg t 2) (negsuc (n - 1)) in
          let u = next (with_reg t 9 m) in
          let a = step_reg (instr.I Addi 9 2 (negsuc (n - 1))) xs end t 9 m h refl in
          record {
            state = u;
            sets = to_value t u m (reg t 2 - n) (sets_reg 9 hidden_9 t m (next (with_reg t 9 m)).pc count) (plus_down (reg t 2) n some (omega (arith, low, few)) (omega (arith, small)) (omega (arith, few)));
            steps = 1;
            few = omega arith;
            goes = a.0;
            stands = a.1;
          }

      far : Stands t.pc (line.Plain (instr.U Lui 9 (high n)) ∷ line.Plain (instr.I Addi 9 9 (low_part n)) ∷ line.Plain (instr.R Sub 9 2 9) ∷ xs) end → Lowered n t xs end
      far h =
          let n1 = upper (high n) in
          let u1 = next (with_reg t 9 n1) in
          let s1 = sets_reg 9 hidden_9 t n1 (next (with_reg t 9 n1)).pc count in
          let a = step_reg (instr.U Lui 9 (high n)) (line.Plain (instr.I Addi 9 9 (low_part n)) ∷ line.Plain (instr.R Sub 9 2 9) ∷ xs) end t 9 n1 h refl in
          let n2 = plus (reg u1 9) (low_part n) in
          let u2 = next (with_reg u1 9 n2) in
          let c1 = s1.count ∙ count in
          let s2 = sets_reg 9 hidden_9 u1 n2 (next (with_reg u1 9 n2)).pc c1 in
          let b = step_reg (instr.I Addi 9 9 (low_part n)) (line.Plain (instr.R Sub 9 2 9) ∷ xs) end u1 9 n2 a.1 refl in
          let n3 = (reg u2 2 + (2 ^ 64 - reg u2 9)) % 2 ^ 64 in
          let u3 = next (with_reg u2 9 n3) in
          let s3 = sets_reg 9 hidden_9 u2 n3 (next (with_reg u2 9 n3)).pc (s2.count ∙ c1) in
          let c = step_reg (instr.R Sub 9 2 9) xs end u2 9 n3 b.1 refl in
          let nine : reg u2 9 ≡ n = s2.value ∙ ap (λ m. plus m (low_part n)) s1.value ∙ parts_alone n few in
          let two : reg u2 2 ≡ reg t 2 = s2.other 2 (apart 2 9 refl) ∙ s1.other 2 (apart 2 9 refl) in
          record {
            state = u3;
            sets = to_value t u3 n3 (reg t 2 - n) (sets_on 9 n2 n3 t u2 u3 (sets_on 9 n1 n2 t u1 u2 s1 s2) s3) (omega (arith, nine, two, low, small, few));
            steps = 1 + (1 + 1);
            few = omega arith;
            goes = goes_on t u1 u3 1 (1 + 1) a.0 (goes_on u1 u2 u3 1 1 b.0 c.0);
            stands = c.1;
          }

      by : (b : Bool) → is_near n ≡ b → Lowered n t xs end
      by true is = near (subst (λ b. Stands t.pc (cond b (line.Plain (instr.I Addi 9 2 (negsuc (n - 1))) ∷ []) (line.Plain (instr.U Lui 9 (high n)) ∷ line.Plain (instr.I Addi 9 9 (low_part n)) ∷ line.Plain (instr.R Sub 9 2 9) ∷ []) ++ xs) end) is h)
      by false is = far (subst (λ b. Stands t.pc (cond b (line.Plain (instr.I Addi 9 2 (negsuc (n - 1))) ∷ []) (line.Plain (instr.U Lui 9 (high n)) ∷ line.Plain (instr.I Addi 9 9 (low_part n)) ∷ line.Plain (instr.R Sub 9 2 9) ∷ []) ++ xs) end) is h)
