-- The data memory of the stages: the bytes of the globals, and above them those of local memory.
use Rattle.std.specs.Prelude.{ℕ, zero, suc, ◌+◌, ◌-◌, ◌/◌, ◌%◌, ◌^◌, ◌*◌, nat_eq, if◌then◌else◌, List, [], ◌∷◌, ◌++◌, length, Option, Some, None, option_map, option_and_then}
use Rattle.std.specs.Int.{w64, to_le_bytes}
use Rattle.pan_base.specs.declared.events.Size.{Size}
use Rattle.pan_base.specs.declared.events.Size.TheVariants.{B1}
use Rattle.pan_base.specs.Bytes.{is_within, number_at, with_number}
use Rattle.pan_base.specs.Events.{Replied, byte_count}
use Rattle.pan_base.specs.Words.{base_address}
use Rattle.pan_control.specs.World.{World as WorldOf}
use Rattle.pan_control.specs.Control.{Outcome as OutcomeOf, Meaning as MeaningOf, Callee as CalleeOf, with_value}
use Rattle.pan_control.specs.Runs as runs
use Rattle.pan_stage.specs.Toll.{stepped, starting_steps}

-- the address at which the globals begin
abbrev pub globals_address : ℕ
globals_address = 0x0C000000

-- the bytes of words, eight for each, its lowest byte first
abbrev pub words_bytes : List ℕ → List ℕ
words_bytes [] = []
words_bytes (n ∷ ns) = to_le_bytes w64 n ++ words_bytes ns

-- ---- accesses

-- where an access begins: at a byte of local memory, at a byte of the globals, or in neither
pub data Place : Type 0 where
  InLocal : (at : ℕ) → Place
  InGlobals : (at : ℕ) → Place
  Nowhere : Place

-- An access goes somewhere where its address is a multiple of its size and it lies wholly in local memory or wholly in the globals, which have so many bytes.
abbrev pub place_of : Size → (globals local : ℕ) → ℕ → Place
place_of size globals local addr =
    if nat_eq (addr % byte_count size) 0 then
    (if is_within base_address local addr (byte_count size) then InLocal (addr - base_address)
    else (if is_within globals_address globals addr (byte_count size) then InGlobals (addr - globals_address)
    else Nowhere))
    else Nowhere

abbrev pub read_at : Place → Size → (globals local : List ℕ) → Option ℕ
read_at (InLocal at) size globals local = Some (number_at size local at)
read_at (InGlobals at) size globals local = Some (number_at size globals at)
read_at Nowhere size globals local = None

abbrev pub write_at : Place → Size → (globals local : List ℕ) → ℕ → Option (List ℕ × List ℕ)
write_at (InLocal at) size globals local n = Some (globals, with_number size local at n)
write_at (InGlobals at) size globals local n = Some (with_number size globals at n, local)
write_at Nowhere size globals local n = None

-- the number at the address
abbrev pub read : Size → (globals local : List ℕ) → ℕ → Option ℕ
read size globals local addr = read_at (place_of size (length globals) (length local) addr) size globals local

-- the globals and local memory with the number's low bytes at the address
abbrev pub write : Size → (globals local : List ℕ) → (addr n : ℕ) → Option (List ℕ × List ℕ)
write size globals local addr n = write_at (place_of size (length globals) (length local) addr) size globals local n

-- the number of so many bytes from the address on, read one by one
abbrev pub read_bytes : ℕ → (globals local : List ℕ) → ℕ → Option ℕ
read_bytes zero globals local addr = Some 0
read_bytes (suc count) globals local addr =
    option_and_then (λ b. option_map (λ n. b + 2 ^ 8 * n) (read_bytes count globals local (addr + 1))) (read B1 globals local addr)

-- the globals and local memory with so many of a number's low bytes from the address on, written one by one
abbrev pub write_bytes : ℕ → (globals local : List ℕ) → (addr n : ℕ) → Option (List ℕ × List ℕ)
write_bytes zero globals local addr n = Some (globals, local)
write_bytes (suc count) globals local addr n = option_and_then (λ d. write_bytes count d.0 d.1 (addr + 1) (n / 2 ^ 8)) (write B1 globals local addr n)

-- ---- runs

abbrev pub World : Type 0
World = WorldOf (List ℕ)

abbrev pub Outcome : Type 0 → Type 0 → Type 0
Outcome V X = OutcomeOf (List ℕ) V X

abbrev pub Meaning : Type 0 → Type 0 → Type 0
Meaning V X = MeaningOf (List ℕ) V X

abbrev pub Callee : Type 0 → Type 0 → Type 0
Callee A X = CalleeOf (List ℕ) A X

-- the world at the start, with these words as globals, this memory, these replies and this fuel, and the starting steps done
abbrev pub start : List ℕ → List ℕ → List Replied → ℕ → World
start words m r n = stepped starting_steps (runs.start (words_bytes words) m r n)

-- goes on with the number at the address, or fails
abbrev pub with_read : {V X : Type 0} → Size → ℕ → World → (ℕ → Outcome V X) → Outcome V X
with_read size addr w go = with_value (read size w.globals w.memory addr) w go

-- goes on with the number's low bytes at the address, or fails
abbrev pub with_written : {V X : Type 0} → Size → (addr n : ℕ) → World → (World → Outcome V X) → Outcome V X
with_written size addr n w go = with_value (write size w.globals w.memory addr n) w (λ d. go (record w { globals = d.0; memory = d.1 }))
