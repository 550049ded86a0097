-- The machine as the code of a frame sees it, beside the world of the variables: the same globals and local memory, and the block.
use Rattle.std.proofs.Common.{pos, ◌≡◌, ℕ, ◌+◌, ◌-◌, ◌*◌, ◌<◌, ◌≤◌, refl, sym, ap, ◌∙◌, List, [], length, Some, arith}
use Rattle.pan_base.specs.declared.events.Size.{Size}
use Rattle.pan_base.specs.declared.events.Size.TheVariants.{B1, B2, B4, B8}
use Rattle.pan_base.specs.Bytes.{number_at, with_number}
use Rattle.pan_base.specs.Events.{byte_count}
use Rattle.pan_base.specs.Results.{plus}
use Rattle.pan_base.specs.Words.{IsBytes, base_address}
use Rattle.pan_stage.specs.Data.{globals_address, Place, InLocal, InGlobals, Nowhere, place_of, read_at, write_at, read, write}
use Rattle.pan_stage.proofs.DataLaws.{IsAt, found, same_lengths, stay_bytes}
use Rattle.riscv_isa.specs.declared.place.Region.{Region}
use Rattle.riscv_isa.specs.declared.place.Region.TheVariants.{Block, Globals, Local}
use Rattle.riscv_isa.specs.declared.place.Place.TheVariants as place
use Rattle.riscv_isa.specs.Regions.{Memory, AreApart, IsInside, begin, bytes_of, with_bytes}
use Rattle.riscv_isa.specs.Regions as machine
use Rattle.riscv_isa.specs.Step.{State, reg, with_reg}
use Rattle.riscv_isa.proofs.Places.{placed}
use Rattle.stack_lang.specs.Shown.{hide, IsVisible}
use Rattle.stack_frames.proofs.Masked.{IsUsable, hide_hide, hidden_count, reg_hide, with_count, reg_unwritten, reg_memory}

-- the machine of a program with these foreign names, beside these globals and this local memory
pub record Machine (names : List (List ℕ)) (globals local : List ℕ) (s : State) : Type 0 where
  pub hidden : hide s ≡ s
  pub count : length s.registers ≡ 32
  pub block_at : reg s 3 ≡ 0x08000000
  pub block : length (s.memory).block ≡ 1024
  pub globals_are : (s.memory).globals ≡ globals
  pub local_are : (s.memory).local ≡ local
  pub names_are : s.names ≡ names
  pub few : length globals ≤ 0x04000000
  pub small : length local ≤ 0x10000000
  pub global_bytes : IsBytes globals
  pub local_bytes : IsBytes local

-- x3 is seen
pub three : IsVisible 3
three = (λ e. omega (arith, e), λ e. omega (arith, e), λ e. omega (arith, e), λ e. omega (arith, e))

module _ (names : List (List ℕ)) (globals local : List ℕ) (s : State) (m : Machine names globals local s) where
  -- ---- writes

  pub register_machine : (r n : ℕ) → IsUsable r → Machine names globals local (hide (with_reg s r n))
  register_machine r n u =
      record {
        hidden = hide_hide (with_reg s r n);
        count = hidden_count (with_reg s r n) ∙ with_count s r n ∙ m.count;
        block_at = reg_unwritten s r 3 n (λ e. let h = u.real in omega (arith, e, h)) three ∙ m.block_at;
        block = m.block;
        globals_are = m.globals_are;
        local_are = m.local_are;
        names_are = m.names_are;
        few = m.few;
        small = m.small;
        global_bytes = m.global_bytes;
        local_bytes = m.local_bytes;
      }

  -- other memory, with the same sizes
  pub memory_machine : (g l : List ℕ) (d : Memory) → length d.block ≡ 1024 → d.globals ≡ g → d.local ≡ l → length g ≤ 0x04000000 → length l ≤ 0x10000000 → IsBytes g → IsBytes l → Machine names g l (hide (record s { memory = d }))
  memory_machine g l d block gs ls few small gb lb =
      record {
        hidden = hide_hide (record s { memory = d });
        count = hidden_count (record s { memory = d }) ∙ m.count;
        block_at = reg_hide (record s { memory = d }) 3 three ∙ reg_memory s 3 d ∙ m.block_at;
        block = block;
        globals_are = gs;
        local_are = ls;
        names_are = m.names_are;
        few = few;
        small = small;
        global_bytes = gb;
        local_bytes = lb;
      }

  -- ---- places

  no_stack : (s.memory).stack ≡ []
  no_stack = ap (λ (t : State). (t.memory).stack) (sym m.hidden)

  pub are_apart : AreApart s.memory
  are_apart =
      record {
        block = let h = m.block in omega (arith, h);
        globals = let h = m.few in let e = ap (λ (l : List ℕ). length l) m.globals_are in omega (arith, h, e);
        local = let h = m.small in let e = ap (λ (l : List ℕ). length l) m.local_are in omega (arith, h, e);
        stack = let e = ap (λ (l : List ℕ). length l) no_stack in omega (arith, e);
      }

  some_bytes : (size : Size) → 0 < byte_count size
  some_bytes B1 = omega arith
  some_bytes B2 = omega arith
  some_bytes B4 = omega arith
  some_bytes B8 = omega arith

  at_least : (k : ℕ) → k < 128 → plus 0x08000000 (pos (8 * k)) ≡ 0x08000000 + 8 * k
  unfolding plus
  at_least k l = omega (arith, l)

  -- the k-th word of the block
  pub block_placed : (k : ℕ) → k < 128 → machine.place_of s.memory (plus (reg s 3) (pos (8 * k))) 8 ≡ place.In Block (8 * k)
  block_placed k l =
      ap (λ a. machine.place_of s.memory (plus a (pos (8 * k))) 8) m.block_at
      ∙ ap (λ a. machine.place_of s.memory a 8) (at_least k l)
      ∙ placed Block s.memory (0x08000000 + 8 * k) 8 are_apart (omega arith) (omega arith) (record { from = omega arith; to = let h = m.block in omega (arith, h, l) })
      ∙ ap (λ a. place.In Block a) (let e : 0x08000000 + 8 * k - 0x08000000 ≡ 8 * k = omega arith in e)

  -- ---- data memory

  -- what is read there is a number of the machine's memory
  pub record IsRead (size : Size) (addr n : ℕ) : Type 0 where
    pub region : Region
    pub at : ℕ
    pub goes : machine.place_of s.memory addr (byte_count size) ≡ place.In region at
    pub is : number_at size (bytes_of region s.memory) at ≡ n

  some : {A : Type 0} (a b : A) → Some a ≡ Some b → a ≡ b
  some a b e = cc e

  pub data_read : (size : Size) (addr n : ℕ) → read size globals local addr ≡ Some n → IsRead size addr n
  data_read size addr n = by (place_of size (length globals) (length local) addr) (found size (length globals) (length local) addr)
    where
      by : (p : Place) → IsAt size (length globals) (length local) addr p → read_at p size globals local ≡ Some n → IsRead size addr n
      by (InLocal at) i e =
          record {
            region = Local;
            at = addr - base_address;
            goes = placed Local s.memory addr (byte_count size) are_apart (some_bytes size) i.even (record { from = i.low; to = let h = i.high in let e = ap (λ (l : List ℕ). length l) m.local_are in omega (arith, h, e) });
            is = ap (λ l. number_at size l (addr - base_address)) m.local_are ∙ ap (number_at size local) (sym i.is) ∙ some _ _ e;
          }
      by (InGlobals at) i e =
          record {
            region = Globals;
            at = addr - globals_address;
            goes = placed Globals s.memory addr (byte_count size) are_apart (some_bytes size) i.even (record { from = i.low; to = let h = i.high in let e = ap (λ (l : List ℕ). length l) m.globals_are in omega (arith, h, e) });
            is = ap (λ l. number_at size l (addr - globals_address)) m.globals_are ∙ ap (number_at size globals) (sym i.is) ∙ some _ _ e;
          }
      by Nowhere i e = absurd (cc e)

  -- what is written there is written to the machine's memory
  pub record IsWritten (size : Size) (addr n : ℕ) (d : List ℕ × List ℕ) : Type 0 where
    pub region : Region
    pub at : ℕ
    pub goes : machine.place_of s.memory addr (byte_count size) ≡ place.In region at
    pub machine_is : Machine names d.0 d.1 (hide (record s { memory = with_bytes region (with_number size (bytes_of region s.memory) at n) s.memory }))
    pub block_is : (with_bytes region (with_number size (bytes_of region s.memory) at n) s.memory).block ≡ (s.memory).block

  pub data_written : (size : Size) (addr n : ℕ) (d : List ℕ × List ℕ) → write size globals local addr n ≡ Some d → IsWritten size addr n d
  data_written size addr n d written = by (place_of size (length globals) (length local) addr) (found size (length globals) (length local) addr) written
    where
      gb : IsBytes d.0
      gb = (stay_bytes size globals local addr n d written m.global_bytes m.local_bytes).0

      lb : IsBytes d.1
      lb = (stay_bytes size globals local addr n d written m.global_bytes m.local_bytes).1

      few : length d.0 ≤ 0x04000000
      few = let e = (same_lengths size globals local addr n d written).0 in let h = m.few in omega (arith, e, h)

      small : length d.1 ≤ 0x10000000
      small = let e = (same_lengths size globals local addr n d written).1 in let h = m.small in omega (arith, e, h)

      by : (p : Place) → IsAt size (length globals) (length local) addr p → write_at p size globals local n ≡ Some d → IsWritten size addr n d
      by (InLocal at) i e =
          let a = addr - base_address in
          let p = some _ _ e in
          record {
            region = Local;
            at = a;
            goes = placed Local s.memory addr (byte_count size) are_apart (some_bytes size) i.even (record { from = i.low; to = let h = i.high in let e = ap (λ (l : List ℕ). length l) m.local_are in omega (arith, h, e) });
            machine_is = memory_machine d.0 d.1 (with_bytes Local (with_number size (s.memory).local a n) s.memory) m.block (m.globals_are ∙ ap (λ (d : List ℕ × List ℕ). d.0) p)
                (ap (λ l. with_number size l a n) m.local_are ∙ ap (λ a. with_number size local a n) (sym i.is) ∙ ap (λ (d : List ℕ × List ℕ). d.1) p) few small gb lb;
            block_is = refl;
          }
      by (InGlobals at) i e =
          let a = addr - globals_address in
          let p = some _ _ e in
          record {
            region = Globals;
            at = a;
            goes = placed Globals s.memory addr (byte_count size) are_apart (some_bytes size) i.even (record { from = i.low; to = let h = i.high in let e = ap (λ (l : List ℕ). length l) m.globals_are in omega (arith, h, e) });
            machine_is = memory_machine d.0 d.1 (with_bytes Globals (with_number size (s.memory).globals a n) s.memory) m.block
                (ap (λ l. with_number size l a n) m.globals_are ∙ ap (λ a. with_number size globals a n) (sym i.is) ∙ ap (λ (d : List ℕ × List ℕ). d.0) p) (m.local_are ∙ ap (λ (d : List ℕ × List ℕ). d.1) p) few small gb lb;
            block_is = refl;
          }
      by Nowhere i e = absurd (cc e)
