-- Homes and the places where words are passed: what a write of a register, of a slot or of the block does to them.
use Rattle.std.proofs.Common.{◌≡◌, ◌≢◌, ℕ, ◌+◌, ◌-◌, ◌*◌, ◌%◌, ◌^◌, ◌<◌, ◌≤◌, List, [], ◌∷◌, length, Option, Some, Bool, true, false, refl, ap, ◌∙◌, arith, inl, inr}
use Rattle.std.specs.Prelude.{◌⊎◌, nat_lt, nat_eq, if◌then◌else◌}
use Rattle.std.proofs.lemmas.Bool.{eq-eqb}
use Rattle.std.proofs.lemmas.Bool.Decides.{nat_tests}
use Rattle.pan_base.specs.declared.events.Size.TheVariants.{B8}
use Rattle.pan_base.specs.Bytes.{number_at, with_number}
use Rattle.pan_base.specs.Words.{IsWord}
use Rattle.pan_base.proofs.ByteLaws.{with_number_length}
use Rattle.pan_flow.specs.Flow.{has}
use Rattle.riscv_isa.specs.Step.{reg, with_reg}
use Rattle.word_lang.specs.Homes.{first_slot, is_home}
use Rattle.stack_lang.specs.Frame.{Frame, set_slot, with_register, with_slot}
use Rattle.stack_lang.specs.Shown.{hide}
use Rattle.stack_frames.proofs.Masked.{IsUsable, seen, reg_written, reg_unwritten, reg_hide, reg_memory}
use Rattle.stack_frames.proofs.Machine.{Machine, register_machine, memory_machine}

-- ---- which registers are homes

pub home_usable : (x : ℕ) → is_home x ≡ true → nat_lt x first_slot ≡ true → IsUsable x
home_usable x h l = record { real = grind (arith, nat_tests); below = grind (arith, nat_tests); newest = λ e. grind (arith, nat_tests); jumps = λ e. grind (arith, nat_tests) }

-- a register that is no home
pub record IsSpare (r : ℕ) : Type 0 where
  pub usable : IsUsable r
  pub spare : r ≤ 14 ⊎ r ≡ 17

pub no_home : (r x : ℕ) → IsSpare r → is_home x ≡ true → r ≢ x
no_home r x s h e = by s.spare
  where
    by : r ≤ 14 ⊎ r ≡ 17 → ⊥
    by (inl l) = grind (arith, nat_tests)
    by (inr l) = grind (arith, nat_tests)

pub spare_low : (r : ℕ) → 10 ≤ r → r ≤ 14 → IsSpare r
spare_low r a b = record { usable = record { real = omega (arith, a); below = omega (arith, b); newest = λ e. omega (arith, a, e); jumps = λ e. omega (arith, a, e) }; spare = inl b }

pub spare_5 : IsSpare 5
spare_5 = record { usable = record { real = omega arith; below = omega arith; newest = λ e. omega (arith, e); jumps = λ e. omega (arith, e) }; spare = inl (omega arith) }

pub spare_6 : IsSpare 6
spare_6 = record { usable = record { real = omega arith; below = omega arith; newest = λ e. omega (arith, e); jumps = λ e. omega (arith, e) }; spare = inl (omega arith) }

pub spare_17 : IsSpare 17
spare_17 = record { usable = record { real = omega arith; below = omega arith; newest = λ e. omega (arith, e); jumps = λ e. omega (arith, e) }; spare = inr refl }

-- ---- slots

pub slot_same : (k n : ℕ) (f : ℕ → Option ℕ) → set_slot k n f k ≡ Some n
slot_same k n f = ap (λ b. if b then Some n else f k) (eq-eqb k k refl)

pub slot_other : (k j n : ℕ) (f : ℕ → Option ℕ) → nat_eq j k ≡ false → set_slot k n f j ≡ f j
slot_other k j n f e = ap (λ b. if b then Some n else f j) e

-- The slots of these homes are numbered so, each by a number of its own.
pub record IsNumbered (slot : ℕ → ℕ) (named : List ℕ) : Type 0 where
  pub homes : (x : ℕ) → has named x ≡ true → is_home x ≡ true
  pub apart : (x y : ℕ) → has named x ≡ true → has named y ≡ true → nat_lt x first_slot ≡ false → nat_lt y first_slot ≡ false → slot x ≡ slot y → x ≡ y

-- ---- places where words are passed

-- the word at the k-th place
abbrev pub passed : ℕ → Frame → ℕ
passed k u = if nat_lt k 5 then reg u.seen (10 + k) else number_at B8 ((u.seen).memory).block (8 * (k - 5))

-- these words are passed, from the k-th place on
abbrev pub Carries : ℕ → List ℕ → Frame → Type 0
Carries k [] u = Unit {0}
Carries k (n ∷ ns) u = (passed k u ≡ n) × IsWord n × Carries (k + 1) ns u

pub carries_on : (k : ℕ) (ns : List ℕ) (u u' : Frame) → ((j : ℕ) → k ≤ j → passed j u' ≡ passed j u) → Carries k ns u → Carries k ns u'
carries_on k [] u u' s c = tt
carries_on k (n ∷ ns) u u' s c = (s k (omega arith) ∙ c.0, c.1, carries_on (k + 1) ns u u' (λ j le. s j (omega (arith, le))) c.2)

-- ---- homes

module _ (names : List (List ℕ)) (slot : ℕ → ℕ) (named : List ℕ) (numbered : IsNumbered slot named) where
  -- the word of a home, where it has one
  abbrev pub home_value : ℕ → Frame → Option ℕ
  home_value x u = if nat_lt x first_slot then Some (reg u.seen x) else u.slots (slot x)

  -- homes are as they were
  pub record Kept (u u' : Frame) : Type 0 where
    pub homes : (x : ℕ) → has named x ≡ true → home_value x u' ≡ home_value x u
    pub room : u'.room ≡ u.room

  -- a home has this word; other homes and what is passed are as they were
  pub record Written (x n : ℕ) (u u' : Frame) : Type 0 where
    pub here : home_value x u' ≡ Some n
    pub others : (y : ℕ) → has named y ≡ true → nat_eq y x ≡ false → home_value y u' ≡ home_value y u
    pub passing : (j : ℕ) → passed j u' ≡ passed j u
    pub room : u'.room ≡ u.room

  pub kept_self : (u : Frame) → Kept u u
  kept_self u = record { homes = λ x h. refl; room = refl }

  pub kept_on : (u u' u2 : Frame) → Kept u u' → Kept u' u2 → Kept u u2
  kept_on u u' u2 a b = record { homes = λ x h. b.homes x h ∙ a.homes x h; room = b.room ∙ a.room }

  pub written_on : (x n : ℕ) (u u1 u' : Frame) → Kept u u1 → ((j : ℕ) → passed j u1 ≡ passed j u) → Written x n u1 u' → Written x n u u'
  written_on x n u u1 u' k s p = record { here = p.here; others = λ y h ne. p.others y h ne ∙ k.homes y h; passing = λ j. p.passing j ∙ s j; room = p.room ∙ k.room }

  -- a register that is no home
  pub register_kept : (r n : ℕ) (u : Frame) → IsSpare r → Kept u (with_register u r n)
  register_kept r n u s = record { homes = λ x h. by x h (nat_lt x first_slot) refl; room = refl }
    where
      by : (x : ℕ) → has named x ≡ true → (b : Bool) → nat_lt x first_slot ≡ b
          → (if b then Some (reg (hide (with_reg u.seen r n)) x) else u.slots (slot x)) ≡ (if b then Some (reg u.seen x) else u.slots (slot x))
      by x h true l = ap Some (reg_unwritten u.seen r x n (no_home r x s (numbered.homes x h)) (seen x (home_usable x (numbered.homes x h) l)))
      by x h false l = refl

  -- other memory: registers and slots stay
  pub memory_kept : (d : _) (u : Frame) → Kept u (record u { seen = hide (record u.seen { memory = d }) })
  memory_kept d u = record { homes = λ x h. by x h (nat_lt x first_slot) refl; room = refl }
    where
      by : (x : ℕ) → has named x ≡ true → (b : Bool) → nat_lt x first_slot ≡ b
          → (if b then Some (reg (hide (record u.seen { memory = d })) x) else u.slots (slot x)) ≡ (if b then Some (reg u.seen x) else u.slots (slot x))
      by x h true l = ap Some (reg_hide (record u.seen { memory = d }) x (seen x (home_usable x (numbered.homes x h) l)) ∙ reg_memory u.seen x d)
      by x h false l = refl

  -- a register that passes nothing
  pub register_passing : (r n j : ℕ) (u : Frame) → IsUsable r → r ≤ 9 ⊎ 15 ≤ r → passed j (with_register u r n) ≡ passed j u
  register_passing r n j u s o = by (nat_lt j 5) refl o
    where
      by : (b : Bool) → nat_lt j 5 ≡ b → r ≤ 9 ⊎ 15 ≤ r → (if b then reg (hide (with_reg u.seen r n)) (10 + j) else number_at B8 ((u.seen).memory).block (8 * (j - 5))) ≡ (if b then reg u.seen (10 + j) else number_at B8 ((u.seen).memory).block (8 * (j - 5)))
      by true l (inl a) = reg_unwritten u.seen r (10 + j) n (λ e. omega (arith, a, e)) (λ e. omega (arith, e), λ e. omega (arith, e), λ e. omega (arith, e), λ e. omega (arith, e))
      by true l (inr a) = let k : j < 5 = grind (arith, nat_tests) in reg_unwritten u.seen r (10 + j) n (λ e. omega (arith, a, e, k)) (λ e. omega (arith, e), λ e. omega (arith, e), λ e. omega (arith, e), λ e. omega (arith, e))
      by false l o = refl

  -- writes a home
  abbrev pub with_home : ℕ → ℕ → Frame → Frame
  with_home x n u = if nat_lt x first_slot then with_register u x n else with_slot u (slot x) n

  pub home_machine : (globals local : List ℕ) (x n : ℕ) (u : Frame) → has named x ≡ true → Machine names globals local u.seen → Machine names globals local (with_home x n u).seen
  home_machine globals local x n u h m = by (nat_lt x first_slot) refl
    where
      by : (b : Bool) → nat_lt x first_slot ≡ b → Machine names globals local (if b then with_register u x n else with_slot u (slot x) n).seen
      by true l = register_machine names globals local u.seen m x n (home_usable x (numbered.homes x h) l)
      by false l = m

  home_least : (x : ℕ) → is_home x ≡ true → 15 ≤ x
  home_least x e = grind (arith, nat_tests)

  pub written : (x n : ℕ) (u : Frame) → has named x ≡ true → IsWord n → length (u.seen).registers ≡ 32 → Written x n u (with_home x n u)
  written x n u h small count = by (nat_lt x first_slot) refl
    where
      near : (y : ℕ) → has named y ≡ true → nat_eq y x ≡ false → (b : Bool) → nat_lt y first_slot ≡ b
          → (if b then Some (reg (hide (with_reg u.seen x n)) y) else u.slots (slot y)) ≡ (if b then Some (reg u.seen y) else u.slots (slot y))
      near y k ne true l = ap Some (reg_unwritten u.seen x y n (λ e. grind (arith, nat_tests)) (seen y (home_usable y (numbered.homes y k) l)))
      near y k ne false l = refl

      far : (y : ℕ) → has named y ≡ true → nat_eq y x ≡ false → nat_lt x first_slot ≡ false → (b : Bool) → nat_lt y first_slot ≡ b
          → (if b then Some (reg u.seen y) else set_slot (slot x) (n % 2 ^ 64) u.slots (slot y)) ≡ (if b then Some (reg u.seen y) else u.slots (slot y))
      far y k ne e true f = refl
      far y k ne e false f = slot_other (slot x) (slot y) (n % 2 ^ 64) u.slots (different (nat_eq (slot y) (slot x)) refl)
        where
          different : (b : Bool) → nat_eq (slot y) (slot x) ≡ b → b ≡ false
          different true is = let same : y ≡ x = numbered.apart y x k h f e (grind (arith, nat_tests)) in grind (arith, nat_tests)
          different false is = refl

      by : (b : Bool) → nat_lt x first_slot ≡ b → Written x n u (if b then with_register u x n else with_slot u (slot x) n)
      by true e =
          let usable = home_usable x (numbered.homes x h) e in
          record {
            here = ap (λ b. if b then Some (reg (hide (with_reg u.seen x n)) x) else u.slots (slot x)) e ∙ ap Some (reg_written u.seen x n usable count);
            others = λ y k ne. near y k ne (nat_lt y first_slot) refl;
            passing = λ j. register_passing x n j u usable (inr (home_least x (numbered.homes x h)));
            room = refl;
          }
      by false e =
          record {
            here = ap (λ b. if b then Some (reg u.seen x) else set_slot (slot x) (n % 2 ^ 64) u.slots (slot x)) e ∙ slot_same (slot x) (n % 2 ^ 64) u.slots ∙ ap Some (let r : n % 2 ^ 64 ≡ n = omega (arith, small) in r);
            others = λ y k ne. far y k ne e (nat_lt y first_slot) refl;
            passing = λ j. refl;
            room = refl;
          }

  -- ---- the block

  -- with a word in the block
  abbrev pub with_block : Frame → ℕ → ℕ → Frame
  with_block u k n = record u { seen = hide (record u.seen { memory = record (u.seen).memory { block = with_number B8 ((u.seen).memory).block (8 * k) n } }) }

  pub block_machine : (globals local : List ℕ) (k n : ℕ) (u : Frame) → k < 128 → Machine names globals local u.seen → Machine names globals local (with_block u k n).seen
  block_machine globals local k n u l m =
      memory_machine names globals local u.seen m globals local (record (u.seen).memory { block = with_number B8 ((u.seen).memory).block (8 * k) n })
      (with_number_length B8 ((u.seen).memory).block (8 * k) n (let h = m.block in omega (arith, h, l)) ∙ m.block) m.globals_are m.local_are m.few m.small m.global_bytes m.local_bytes
