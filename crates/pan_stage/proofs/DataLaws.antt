-- Laws of data memory: what is written is read, another place is as it was, and a number is the row of its bytes.
use Rattle.std.specs.Prelude.{◌⊎◌, ◌&&◌, if◌then◌else◌, nat_eq, slice_index, slice_set, option_map, option_and_then}
use Rattle.std.specs.Int.{w64, to_le_bytes, from_le_bytes}
use Rattle.std.proofs.Common.{◌≡◌, ℕ, zero, suc, ◌+◌, ◌-◌, ◌*◌, ◌/◌, ◌%◌, ◌^◌, ◌≤◌, ◌<◌, List, [], ◌∷◌, ◌++◌, length, take, drop, Option, Some, None, Bool, true, false, refl, sym, ap, subst, ◌∙◌, arith, inl, inr, append_assoc}
use Rattle.std.proofs.Math.Seq.{drop-append-add}
use Rattle.std.proofs.lemmas.Bool.Decides.{nat_tests}
use Rattle.std.proofs.lemmas.List.{take-append-drop, take-set, drop-set}
use Rattle.std.proofs.lemmas.Nat.{from_le_bytes-to_le_bytes_8}
use Rattle.pan_base.specs.declared.events.Size.{Size}
use Rattle.pan_base.specs.declared.events.Size.TheVariants.{B1, B2, B4, B8}
use Rattle.pan_base.specs.Bytes.{is_within, number_at, with_number, number_of_bytes, with_bytes_of}
use Rattle.pan_base.specs.Events.{byte_count}
use Rattle.pan_base.specs.Words.{IsBytes, base_address}
use Rattle.pan_base.proofs.ByteLaws.{byte_at, with_number_length, number_elsewhere, number_read_back, number_by_bytes, written_by_bytes, number_is_small, with_number_is_small, low_part_written}
use Rattle.pan_control.specs.Memory as local
use Rattle.pan_stage.specs.Data.{globals_address, words_bytes, Place, InLocal, InGlobals, Nowhere, place_of, read_at, write_at, read, write, read_bytes, write_bytes}

-- ---- where an access goes

-- at a byte of what begins at `from` and has so many bytes
pub record Inside (size : Size) (from count addr at : ℕ) : Type 0 where
  pub even : addr % byte_count size ≡ 0
  pub low : from ≤ addr
  pub high : addr + byte_count size ≤ from + count
  pub is : at ≡ addr - from

-- what is so of an access that goes to a place
abbrev pub IsAt : Size → (globals local addr : ℕ) → Place → Type 0
IsAt size globals local addr (InLocal at) = Inside size base_address local addr at
IsAt size globals local addr (InGlobals at) = Inside size globals_address globals addr at
IsAt size globals local addr Nowhere = Unit {0}

pub found : (size : Size) (globals local addr : ℕ) → IsAt size globals local addr (place_of size globals local addr)
found size globals local addr =
    by (nat_eq (addr % byte_count size) 0) (is_within base_address local addr (byte_count size)) (is_within globals_address globals addr (byte_count size)) refl refl refl
  where
    by : (a b c : Bool) → nat_eq (addr % byte_count size) 0 ≡ a → is_within base_address local addr (byte_count size) ≡ b → is_within globals_address globals addr (byte_count size) ≡ c
        → IsAt size globals local addr (if a then (if b then InLocal (addr - base_address) else (if c then InGlobals (addr - globals_address) else Nowhere)) else Nowhere)
    by false b c p q r = tt
    by true true c p q r = record { even = grind (arith, nat_tests); low = grind (arith, nat_tests); high = grind (arith, nat_tests); is = refl }
    by true false true p q r = record { even = grind (arith, nat_tests); low = grind (arith, nat_tests); high = grind (arith, nat_tests); is = refl }
    by true false false p q r = tt

-- an access of local memory goes there, whatever the globals are
pub into_local : (size : Size) (globals local addr : ℕ) → addr % byte_count size ≡ 0 → base_address ≤ addr → addr + byte_count size ≤ base_address + local → place_of size globals local addr ≡ InLocal (addr - base_address)
into_local size globals local addr even low high =
    by (nat_eq (addr % byte_count size) 0) (is_within base_address local addr (byte_count size)) refl refl
  where
    by : (a b : Bool) → nat_eq (addr % byte_count size) 0 ≡ a → is_within base_address local addr (byte_count size) ≡ b
        → (if a then (if b then InLocal (addr - base_address) else (if is_within globals_address globals addr (byte_count size) then InGlobals (addr - globals_address) else Nowhere)) else Nowhere) ≡ InLocal (addr - base_address)
    by true true p q = refl
    by true false p q = absurd (grind (arith, nat_tests))
    by false b p q = absurd (grind (arith, nat_tests))

-- an access at or above the begin of local memory goes there or nowhere, where the globals end below
pub local_alone : (size : Size) (globals local addr : ℕ) → globals ≤ base_address - globals_address → base_address ≤ addr
    → place_of size globals local addr ≡ (if is_within base_address local addr (byte_count size) && nat_eq (addr % byte_count size) 0 then InLocal (addr - base_address) else Nowhere)
local_alone size globals local addr below high =
    by (nat_eq (addr % byte_count size) 0) (is_within base_address local addr (byte_count size)) (is_within globals_address globals addr (byte_count size)) refl
  where
    by : (a b c : Bool) → is_within globals_address globals addr (byte_count size) ≡ c
        → (if a then (if b then InLocal (addr - base_address) else (if c then InGlobals (addr - globals_address) else Nowhere)) else Nowhere) ≡ (if b && a then InLocal (addr - base_address) else Nowhere)
    by false false c r = refl
    by false true c r = refl
    by true true c r = refl
    by true false false r = refl
    by true false true r = absurd (too_high size r)
      where
        too_high : (size : Size) → is_within globals_address globals addr (byte_count size) ≡ true → ⊥
        too_high B1 r = grind (arith, nat_tests)
        too_high B2 r = grind (arith, nat_tests)
        too_high B4 r = grind (arith, nat_tests)
        too_high B8 r = grind (arith, nat_tests)

-- an access of the globals goes there, where they end below local memory
pub into_globals : (size : Size) (globals local addr : ℕ) → globals ≤ base_address - globals_address → addr % byte_count size ≡ 0 → globals_address ≤ addr → addr + byte_count size ≤ globals_address + globals
    → place_of size globals local addr ≡ InGlobals (addr - globals_address)
into_globals size globals local addr below even low high =
    by (nat_eq (addr % byte_count size) 0) (is_within base_address local addr (byte_count size)) (is_within globals_address globals addr (byte_count size)) refl refl refl
  where
    too_high : (size : Size) → addr + byte_count size ≤ globals_address + globals → is_within base_address local addr (byte_count size) ≡ true → ⊥
    too_high B1 high r = grind (arith, nat_tests)
    too_high B2 high r = grind (arith, nat_tests)
    too_high B4 high r = grind (arith, nat_tests)
    too_high B8 high r = grind (arith, nat_tests)

    by : (a b c : Bool) → nat_eq (addr % byte_count size) 0 ≡ a → is_within base_address local addr (byte_count size) ≡ b → is_within globals_address globals addr (byte_count size) ≡ c
        → (if a then (if b then InLocal (addr - base_address) else (if c then InGlobals (addr - globals_address) else Nowhere)) else Nowhere) ≡ InGlobals (addr - globals_address)
    by true true c p q r = absurd (too_high size high q)
    by true false true p q r = refl
    by true false false p q r = absurd (grind (arith, nat_tests))
    by false b c p q r = absurd (grind (arith, nat_tests))

-- ---- what a write leaves

value_or : {A : Type 0} → A → Option A → A
value_or a None = a
value_or a (Some b) = b

same_value : {A : Type 0} (a b : A) → Some a ≡ Some b → a ≡ b
unfolding value_or
same_value a b e = ap (value_or a) e

-- what holds of the rows that are known to be written holds of those that were
on_written : (P : List ℕ → List ℕ → Type 0) (globals local : List ℕ) (d : List ℕ × List ℕ) → Some (globals, local) ≡ Some d → P globals local → P d.0 d.1
on_written P globals local d e h = subst (λ (d : List ℕ × List ℕ). P d.0 d.1) (same_value _ _ e) h

none_written : (P : Type 0) (d : List ℕ × List ℕ) → None ≡ Some d → P
none_written P d e = absurd (cc e)

fits : (size : Size) (from count addr at : ℕ) → Inside size from count addr at → at + byte_count size ≤ count
fits size from count addr at i = omega (arith, i.low, i.high, i.is)

module _ (size : Size) (globals local : List ℕ) (addr n : ℕ) (d : List ℕ × List ℕ) (written : write size globals local addr n ≡ Some d) where
  pub same_lengths : (length d.0 ≡ length globals) × (length d.1 ≡ length local)
  same_lengths = by (place_of size (length globals) (length local) addr) (found size (length globals) (length local) addr) written
    where
      by : (p : Place) → IsAt size (length globals) (length local) addr p → write_at p size globals local n ≡ Some d → (length d.0 ≡ length globals) × (length d.1 ≡ length local)
      by (InLocal at) i e = on_written (λ g l. (length g ≡ length globals) × (length l ≡ length local)) globals (with_number size local at n) d e (refl, with_number_length size local at n (fits size base_address (length local) addr at i))
      by (InGlobals at) i e =
          on_written (λ g l. (length g ≡ length globals) × (length l ≡ length local)) (with_number size globals at n) local d e (with_number_length size globals at n (fits size globals_address (length globals) addr at i), refl)
      by Nowhere i e = none_written _ d e

  -- an access goes where it went before
  same_place : (other : Size) (from : ℕ) → place_of other (length d.0) (length d.1) from ≡ place_of other (length globals) (length local) from
  same_place other from = ap (λ k. place_of other k (length d.1) from) (same_lengths.0) ∙ ap (λ k. place_of other (length globals) k from) (same_lengths.1)

  -- the number's low bytes are read there
  pub read_back : read size d.0 d.1 addr ≡ Some (n % 2 ^ (8 * byte_count size))
  read_back = ap (λ p. read_at p size d.0 d.1) (same_place size addr) ∙ by (place_of size (length globals) (length local) addr) (found size (length globals) (length local) addr) written
    where
      by : (p : Place) → IsAt size (length globals) (length local) addr p → write_at p size globals local n ≡ Some d → read_at p size d.0 d.1 ≡ Some (n % 2 ^ (8 * byte_count size))
      by (InLocal at) i e =
          let inside = fits size base_address (length local) addr at i in
          on_written (λ g l. Some (number_at size l at) ≡ Some (n % 2 ^ (8 * byte_count size))) globals (with_number size local at n) d e (ap Some (number_read_back size local at n (omega (arith, inside))))
      by (InGlobals at) i e =
          let inside = fits size globals_address (length globals) addr at i in
          on_written (λ g l. Some (number_at size g at) ≡ Some (n % 2 ^ (8 * byte_count size))) (with_number size globals at n) local d e (ap Some (number_read_back size globals at n (omega (arith, inside))))
      by Nowhere i e = none_written _ d e

  -- another address, which has nothing in common with this one, has the number that it had, whatever the size
  pub read_elsewhere : (other : Size) (from : ℕ) → (from + byte_count other ≤ addr) ⊎ (addr + byte_count size ≤ from) → read other d.0 d.1 from ≡ read other globals local from
  read_elsewhere other from apart =
      ap (λ p. read_at p other d.0 d.1) (same_place other from)
      ∙ by (place_of size (length globals) (length local) addr) (place_of other (length globals) (length local) from) (found size (length globals) (length local) addr) (found other (length globals) (length local) from) written
    where
      moved : (base count counted at at' : ℕ) → Inside size base count addr at → Inside other base counted from at' → (at' + byte_count other ≤ at) ⊎ (at + byte_count size ≤ at')
      moved base count counted at at' i k = side apart
        where
          side : (from + byte_count other ≤ addr) ⊎ (addr + byte_count size ≤ from) → (at' + byte_count other ≤ at) ⊎ (at + byte_count size ≤ at')
          side (inl h) = inl (omega (arith, h, i.low, i.is, k.low, k.is))
          side (inr h) = inr (omega (arith, h, i.low, i.is, k.low, k.is))

      by : (p q : Place) → IsAt size (length globals) (length local) addr p → IsAt other (length globals) (length local) from q → write_at p size globals local n ≡ Some d → read_at q other d.0 d.1 ≡ read_at q other globals local
      by p Nowhere i k e = refl
      by Nowhere q i k e = none_written _ d e
      by (InLocal at) (InGlobals at') i k e = on_written (λ g l. Some (number_at other g at') ≡ Some (number_at other globals at')) globals (with_number size local at n) d e refl
      by (InGlobals at) (InLocal at') i k e = on_written (λ g l. Some (number_at other l at') ≡ Some (number_at other local at')) (with_number size globals at n) local d e refl
      by (InLocal at) (InLocal at') i k e =
          on_written (λ g l. Some (number_at other l at') ≡ Some (number_at other local at')) globals (with_number size local at n) d e
          (ap Some (number_elsewhere size other local at n at' (fits size base_address (length local) addr at i) (moved base_address (length local) (length local) at at' i k)))
      by (InGlobals at) (InGlobals at') i k e =
          on_written (λ g l. Some (number_at other g at') ≡ Some (number_at other globals at')) (with_number size globals at n) local d e
          (ap Some (number_elsewhere size other globals at n at' (fits size globals_address (length globals) addr at i) (moved globals_address (length globals) (length globals) at at' i k)))

  -- rows of bytes stay rows of bytes
  pub stay_bytes : IsBytes globals → IsBytes local → IsBytes d.0 × IsBytes d.1
  stay_bytes g l = by (place_of size (length globals) (length local) addr) written
    where
      by : (p : Place) → write_at p size globals local n ≡ Some d → IsBytes d.0 × IsBytes d.1
      by (InLocal at) e = on_written (λ x y. IsBytes x × IsBytes y) globals (with_number size local at n) d e (g, with_number_is_small size local at n l)
      by (InGlobals at) e = on_written (λ x y. IsBytes x × IsBytes y) (with_number size globals at n) local d e (with_number_is_small size globals at n g, l)
      by Nowhere e = none_written _ d e

  -- where a number is written one could be read before
  pub read_before : (a : ℕ) × (read size globals local addr ≡ Some a)
  read_before = by (place_of size (length globals) (length local) addr) written
    where
      by : (p : Place) → write_at p size globals local n ≡ Some d → (a : ℕ) × (read_at p size globals local ≡ Some a)
      by (InLocal at) e = (number_at size local at, refl)
      by (InGlobals at) e = (number_at size globals at, refl)
      by Nowhere e = none_written _ d e

-- where a number is read one can be written
pub written_where_read : (size : Size) (globals local : List ℕ) (addr a n : ℕ) → read size globals local addr ≡ Some a → (d : List ℕ × List ℕ) × (write size globals local addr n ≡ Some d)
written_where_read size globals local addr a n is = by (place_of size (length globals) (length local) addr) is
  where
    by : (p : Place) → read_at p size globals local ≡ Some a → (d : List ℕ × List ℕ) × (write_at p size globals local n ≡ Some d)
    by (InLocal at) e = ((globals, with_number size local at n), refl)
    by (InGlobals at) e = ((with_number size globals at n, local), refl)
    by Nowhere e = absurd (cc e)

-- the number that is read has no more bits than the access
pub number_fits : (size : Size) (globals local : List ℕ) (addr a : ℕ) → IsBytes globals → IsBytes local → read size globals local addr ≡ Some a → a < 2 ^ (8 * byte_count size)
number_fits size globals local addr a g l is = by (place_of size (length globals) (length local) addr) is
  where
    by : (p : Place) → read_at p size globals local ≡ Some a → a < 2 ^ (8 * byte_count size)
    by (InLocal at) e = subst (λ a. a < 2 ^ (8 * byte_count size)) (same_value _ _ e) (number_is_small size local at l)
    by (InGlobals at) e = subst (λ a. a < 2 ^ (8 * byte_count size)) (same_value _ _ e) (number_is_small size globals at g)
    by Nowhere e = absurd (cc e)

-- only the low bytes of a number are written
pub low_bytes_written : (size : Size) (globals local : List ℕ) (addr n : ℕ) → write size globals local addr (n % 2 ^ (8 * byte_count size)) ≡ write size globals local addr n
low_bytes_written size globals local addr n = by (place_of size (length globals) (length local) addr)
  where
    by : (p : Place) → write_at p size globals local (n % 2 ^ (8 * byte_count size)) ≡ write_at p size globals local n
    by (InLocal at) = ap (λ (l : List ℕ). Some (globals, l)) (low_part_written size local at n)
    by (InGlobals at) = ap (λ (g : List ℕ). Some (g, local)) (low_part_written size globals at n)
    by Nowhere = refl

-- ---- accesses of local memory

-- a word of local memory, as the source has it
pub word_read : (globals m : List ℕ) (addr n : ℕ) → local.word_at m addr ≡ Some n → read B8 globals m addr ≡ Some n
word_read globals m addr n is = by (local.is_local_word m addr) refl is
  where
    by : (b : Bool) → local.is_local_word m addr ≡ b → (if b then Some (number_at B8 m (addr - base_address)) else None) ≡ Some n → read B8 globals m addr ≡ Some n
    by true h e = ap (λ p. read_at p B8 globals m) (into_local B8 (length globals) (length m) addr (grind (arith, nat_tests)) (grind (arith, nat_tests)) (grind (arith, nat_tests))) ∙ e
    by false h e = absurd (cc e)

pub word_written : (globals m m' : List ℕ) (addr n : ℕ) → local.with_word m addr n ≡ Some m' → write B8 globals m addr n ≡ Some (globals, m')
word_written globals m m' addr n is = by (local.is_local_word m addr) refl is
  where
    by : (b : Bool) → local.is_local_word m addr ≡ b → (if b then Some (with_number B8 m (addr - base_address) n) else None) ≡ Some m' → write B8 globals m addr n ≡ Some (globals, m')
    by true h e =
        ap (λ p. write_at p B8 globals m n) (into_local B8 (length globals) (length m) addr (grind (arith, nat_tests)) (grind (arith, nat_tests)) (grind (arith, nat_tests)))
        ∙ ap (λ (l : List ℕ). Some (globals, l)) (same_value _ _ e)
    by false h e = absurd (cc e)

-- a byte of local memory
pub byte_read : (globals m : List ℕ) (addr n : ℕ) → local.byte_at m addr ≡ Some n → read B1 globals m addr ≡ Some n
byte_read globals m addr n is = by (local.is_local m addr 1) refl is
  where
    by : (b : Bool) → local.is_local m addr 1 ≡ b → (if b then Some (slice_index m (addr - base_address)) else None) ≡ Some n → read B1 globals m addr ≡ Some n
    by true h e =
        ap (λ p. read_at p B1 globals m) (into_local B1 (length globals) (length m) addr (omega arith) (grind (arith, nat_tests)) (grind (arith, nat_tests)))
        ∙ ap Some (byte_at m (addr - base_address)) ∙ e
    by false h e = absurd (cc e)

-- a byte that is set is a number that is written
byte_set : (bytes : List ℕ) (at n : ℕ) → at < length bytes → n < 256 → slice_set bytes at n ≡ with_number B1 bytes at n
byte_set bytes at n inside small =
    let low : n % 256 ≡ n = omega (arith, small) in
    sym (take-append-drop at (slice_set bytes at n)) ∙ ap (λ front. front ++ drop at (slice_set bytes at n)) (take-set bytes at n) ∙ ap (λ back. take at bytes ++ back) (drop-set bytes at n inside)
    ∙ ap (λ k. take at bytes ++ k ∷ drop (at + 1) bytes) (sym low) ∙ sym (append_assoc (take at bytes) (n % 256 ∷ []) (drop (at + 1) bytes))

pub byte_written : (globals m m' : List ℕ) (addr n : ℕ) → n < 256 → local.with_byte m addr n ≡ Some m' → write B1 globals m addr n ≡ Some (globals, m')
byte_written globals m m' addr n small is = by (local.is_local m addr 1) refl is
  where
    by : (b : Bool) → local.is_local m addr 1 ≡ b → (if b then Some (slice_set m (addr - base_address) n) else None) ≡ Some m' → write B1 globals m addr n ≡ Some (globals, m')
    by true h e =
        let inside : addr - base_address < length m = grind (arith, nat_tests) in
        ap (λ p. write_at p B1 globals m n) (into_local B1 (length globals) (length m) addr (omega arith) (grind (arith, nat_tests)) (grind (arith, nat_tests)))
        ∙ ap (λ (l : List ℕ). Some (globals, l)) (sym (byte_set m (addr - base_address) n inside small) ∙ same_value _ _ e)
    by false h e = absurd (cc e)

-- At or above the begin of local memory nothing else is reached, where the globals end below.
module _ (globals m : List ℕ) (addr : ℕ) (below : length globals ≤ base_address - globals_address) (high : base_address ≤ addr) where
  pub word_read_alone : read B8 globals m addr ≡ local.word_at m addr
  word_read_alone = ap (λ p. read_at p B8 globals m) (local_alone B8 (length globals) (length m) addr below high) ∙ by (local.is_local_word m addr)
    where
      by : (b : Bool) → read_at (if b then InLocal (addr - base_address) else Nowhere) B8 globals m ≡ (if b then Some (number_at B8 m (addr - base_address)) else None)
      by true = refl
      by false = refl

  pub word_written_alone : (n : ℕ) → write B8 globals m addr n ≡ option_map (λ (l : List ℕ). (globals, l)) (local.with_word m addr n)
  word_written_alone n = ap (λ p. write_at p B8 globals m n) (local_alone B8 (length globals) (length m) addr below high) ∙ by (local.is_local_word m addr)
    where
      by : (b : Bool) → write_at (if b then InLocal (addr - base_address) else Nowhere) B8 globals m n ≡ option_map (λ (l : List ℕ). (globals, l)) (if b then Some (with_number B8 m (addr - base_address) n) else None)
      by true = refl
      by false = refl

  even : (is_within base_address (length m) addr 1 && nat_eq (addr % 1) 0) ≡ local.is_local m addr 1
  even = by (local.is_local m addr 1) (nat_eq (addr % 1) 0) refl
    where
      by : (a b : Bool) → nat_eq (addr % 1) 0 ≡ b → (a && b) ≡ a
      by true true e = refl
      by false b e = refl
      by true false e = absurd (grind (arith, nat_tests))

  pub byte_read_alone : read B1 globals m addr ≡ local.byte_at m addr
  byte_read_alone =
      ap (λ p. read_at p B1 globals m) (local_alone B1 (length globals) (length m) addr below high ∙ ap (λ b. if b then InLocal (addr - base_address) else Nowhere) even) ∙ by (local.is_local m addr 1)
    where
      by : (b : Bool) → read_at (if b then InLocal (addr - base_address) else Nowhere) B1 globals m ≡ (if b then Some (slice_index m (addr - base_address)) else None)
      by true = ap Some (byte_at m (addr - base_address))
      by false = refl

  pub byte_written_alone : (n : ℕ) → n < 256 → write B1 globals m addr n ≡ option_map (λ (l : List ℕ). (globals, l)) (local.with_byte m addr n)
  byte_written_alone n small =
      ap (λ p. write_at p B1 globals m n) (local_alone B1 (length globals) (length m) addr below high ∙ ap (λ b. if b then InLocal (addr - base_address) else Nowhere) even) ∙ by (local.is_local m addr 1) refl
    where
      by : (b : Bool) → local.is_local m addr 1 ≡ b → write_at (if b then InLocal (addr - base_address) else Nowhere) B1 globals m n ≡ option_map (λ (l : List ℕ). (globals, l)) (if b then Some (slice_set m (addr - base_address) n) else None)
      by true h = let inside : addr - base_address < length m = grind (arith, nat_tests) in ap (λ (l : List ℕ). Some (globals, l)) (sym (byte_set m (addr - base_address) n inside small))
      by false h = refl

-- ---- a number is the row of its bytes

-- a byte of local memory or of the globals
byte_in_local : (globals m : List ℕ) (addr : ℕ) → base_address ≤ addr → addr + 1 ≤ base_address + length m → place_of B1 (length globals) (length m) addr ≡ InLocal (addr - base_address)
byte_in_local globals m addr low high = into_local B1 (length globals) (length m) addr (omega arith) low high

byte_in_globals : (globals m : List ℕ) (addr : ℕ) → length globals ≤ base_address - globals_address → globals_address ≤ addr → addr + 1 ≤ globals_address + length globals → place_of B1 (length globals) (length m) addr ≡ InGlobals (addr - globals_address)
byte_in_globals globals m addr below low high = into_globals B1 (length globals) (length m) addr below (omega arith) low high

next : (from addr : ℕ) → from ≤ addr → addr + 1 - from ≡ addr - from + 1
next from addr low = omega (arith, low)

bytes_in_local : (count : ℕ) (globals m : List ℕ) (addr : ℕ) → base_address ≤ addr → addr + count ≤ base_address + length m → read_bytes count globals m addr ≡ Some (number_of_bytes count m (addr - base_address))
bytes_in_local zero globals m addr low high = refl
bytes_in_local (suc count) globals m addr low high =
    ap (λ p. option_and_then (λ b. option_map (λ n. b + 2 ^ 8 * n) (read_bytes count globals m (addr + 1))) (read_at p B1 globals m)) (byte_in_local globals m addr low (omega (arith, high)))
    ∙ ap (option_map (λ n. number_at B1 m (addr - base_address) + 2 ^ 8 * n)) (bytes_in_local count globals m (addr + 1) (omega (arith, low)) (omega (arith, high)) ∙ ap (λ at. Some (number_of_bytes count m at)) (next base_address addr low))

bytes_in_globals : (count : ℕ) (globals m : List ℕ) (addr : ℕ) → length globals ≤ base_address - globals_address → globals_address ≤ addr → addr + count ≤ globals_address + length globals → read_bytes count globals m addr ≡ Some (number_of_bytes count globals (addr - globals_address))
bytes_in_globals zero globals m addr below low high = refl
bytes_in_globals (suc count) globals m addr below low high =
    ap (λ p. option_and_then (λ b. option_map (λ n. b + 2 ^ 8 * n) (read_bytes count globals m (addr + 1))) (read_at p B1 globals m)) (byte_in_globals globals m addr below low (omega (arith, high)))
    ∙ ap (option_map (λ n. number_at B1 globals (addr - globals_address) + 2 ^ 8 * n)) (bytes_in_globals count globals m (addr + 1) below (omega (arith, low)) (omega (arith, high)) ∙ ap (λ at. Some (number_of_bytes count globals at)) (next globals_address addr low))

pub read_by_bytes : (size : Size) (globals m : List ℕ) (addr n : ℕ) → length globals ≤ base_address - globals_address → read size globals m addr ≡ Some n → read_bytes (byte_count size) globals m addr ≡ Some n
read_by_bytes size globals m addr n below is = by (place_of size (length globals) (length m) addr) (found size (length globals) (length m) addr) is
  where
    by : (p : Place) → IsAt size (length globals) (length m) addr p → read_at p size globals m ≡ Some n → read_bytes (byte_count size) globals m addr ≡ Some n
    by (InLocal at) i e = bytes_in_local (byte_count size) globals m addr i.low i.high ∙ ap (λ at. Some (number_of_bytes (byte_count size) m at)) (sym i.is) ∙ ap Some (sym (number_by_bytes size m at)) ∙ e
    by (InGlobals at) i e =
        bytes_in_globals (byte_count size) globals m addr below i.low i.high ∙ ap (λ at. Some (number_of_bytes (byte_count size) globals at)) (sym i.is) ∙ ap Some (sym (number_by_bytes size globals at)) ∙ e
    by Nowhere i e = absurd (cc e)

bytes_into_local : (count : ℕ) (globals m : List ℕ) (addr n : ℕ) → base_address ≤ addr → addr + count ≤ base_address + length m → write_bytes count globals m addr n ≡ Some (globals, with_bytes_of count m (addr - base_address) n)
bytes_into_local zero globals m addr n low high = refl
bytes_into_local (suc count) globals m addr n low high =
    let m' : List ℕ = with_number B1 m (addr - base_address) n in
    let same : length m' ≡ length m = with_number_length B1 m (addr - base_address) n (omega (arith, low, high)) in
    ap (λ p. option_and_then (λ (d : List ℕ × List ℕ). write_bytes count d.0 d.1 (addr + 1) (n / 2 ^ 8)) (write_at p B1 globals m n)) (byte_in_local globals m addr low (omega (arith, high)))
    ∙ bytes_into_local count globals m' (addr + 1) (n / 2 ^ 8) (omega (arith, low)) (omega (arith, high, same)) ∙ ap (λ at. Some (globals, with_bytes_of count m' at (n / 2 ^ 8))) (next base_address addr low)

bytes_into_globals : (count : ℕ) (globals m : List ℕ) (addr n : ℕ) → length globals ≤ base_address - globals_address → globals_address ≤ addr → addr + count ≤ globals_address + length globals
    → write_bytes count globals m addr n ≡ Some (with_bytes_of count globals (addr - globals_address) n, m)
bytes_into_globals zero globals m addr n below low high = refl
bytes_into_globals (suc count) globals m addr n below low high =
    let globals' : List ℕ = with_number B1 globals (addr - globals_address) n in
    let same : length globals' ≡ length globals = with_number_length B1 globals (addr - globals_address) n (omega (arith, low, high)) in
    ap (λ p. option_and_then (λ (d : List ℕ × List ℕ). write_bytes count d.0 d.1 (addr + 1) (n / 2 ^ 8)) (write_at p B1 globals m n)) (byte_in_globals globals m addr below low (omega (arith, high)))
    ∙ bytes_into_globals count globals' m (addr + 1) (n / 2 ^ 8) (omega (arith, below, same)) (omega (arith, low)) (omega (arith, high, same)) ∙ ap (λ at. Some (with_bytes_of count globals' at (n / 2 ^ 8), m)) (next globals_address addr low)

pub write_by_bytes : (size : Size) (globals m : List ℕ) (addr n : ℕ) (d : List ℕ × List ℕ) → length globals ≤ base_address - globals_address → write size globals m addr n ≡ Some d → write_bytes (byte_count size) globals m addr n ≡ Some d
write_by_bytes size globals m addr n d below is = by (place_of size (length globals) (length m) addr) (found size (length globals) (length m) addr) is
  where
    by : (p : Place) → IsAt size (length globals) (length m) addr p → write_at p size globals m n ≡ Some d → write_bytes (byte_count size) globals m addr n ≡ Some d
    by (InLocal at) i e =
        bytes_into_local (byte_count size) globals m addr n i.low i.high ∙ ap (λ at. Some (globals, with_bytes_of (byte_count size) m at n)) (sym i.is)
        ∙ ap (λ (l : List ℕ). Some (globals, l)) (sym (written_by_bytes size m at n (fits size base_address (length m) addr at i))) ∙ e
    by (InGlobals at) i e =
        bytes_into_globals (byte_count size) globals m addr n below i.low i.high ∙ ap (λ at. Some (with_bytes_of (byte_count size) globals at n, m)) (sym i.is)
        ∙ ap (λ (g : List ℕ). Some (g, m)) (sym (written_by_bytes size globals at n (fits size globals_address (length globals) addr at i))) ∙ e
    by Nowhere i e = absurd (cc e)

-- ---- the bytes of words

pub words_bytes_length : (ns : List ℕ) → length (words_bytes ns) ≡ 8 * length ns
words_bytes_length [] = refl
words_bytes_length (n ∷ ns) = omega (arith, words_bytes_length ns)

small_append : (xs ys : List ℕ) → IsBytes xs → IsBytes ys → IsBytes (xs ++ ys)
small_append [] ys p q = q
small_append (x ∷ xs) ys p q = elim [ zero ↦ p 0 | suc i ↦ small_append xs ys (λ i. p (suc i)) q i ]

pub words_are_bytes : (ns : List ℕ) → IsBytes (words_bytes ns)
words_are_bytes [] = λ i. omega arith
words_are_bytes (n ∷ ns) = small_append (to_le_bytes w64 n) (words_bytes ns) (with_number_is_small B8 [] 0 n (λ i. omega arith)) (words_are_bytes ns)

-- each word is where it stands in the list
pub word_of_words : (ns : List ℕ) (i : ℕ) → slice_index ns i < 2 ^ 64 → i < length ns → number_at B8 (words_bytes ns) (8 * i) ≡ slice_index ns i
word_of_words [] i small inside = absurd (omega (arith, inside))
word_of_words (n ∷ ns) zero small inside = from_le_bytes-to_le_bytes_8 n small
word_of_words (n ∷ ns) (suc i) small inside =
    let at : 8 * suc i ≡ 8 + 8 * i = omega arith in
    ap (λ k. from_le_bytes w64 (take 8 (drop k (words_bytes (n ∷ ns))))) at ∙ ap (λ bs. from_le_bytes w64 (take 8 bs)) (drop-append-add (to_le_bytes w64 n) (words_bytes ns) (8 * i)) ∙ word_of_words ns i small (omega (arith, inside))

-- at the start each global word is read at its address
pub global_at_start : (ns m : List ℕ) (i : ℕ) → 8 * length ns ≤ base_address - globals_address → i < length ns → slice_index ns i < 2 ^ 64 → read B8 (words_bytes ns) m (globals_address + 8 * i) ≡ Some (slice_index ns i)
global_at_start ns m i below inside small =
    let long = words_bytes_length ns in
    let at : globals_address + 8 * i - globals_address ≡ 8 * i = omega arith in
    ap (λ p. read_at p B8 (words_bytes ns) m) (into_globals B8 (length (words_bytes ns)) (length m) (globals_address + 8 * i) (omega (arith, below, long)) (omega arith) (omega arith) (omega (arith, inside, long)) ∙ ap InGlobals at)
    ∙ ap Some (word_of_words ns i small inside)
