-- Local memory and the shared window, as the source and the stages reach them.
use Rattle.std.specs.Prelude.{ℕ, zero, suc, ◌+◌, ◌-◌, ◌%◌, ◌^◌, ◌&&◌, nat_le, nat_eq, Bool, if◌then◌else◌, List, [], ◌∷◌, ◌++◌, length, take, drop, Option, Some, None, option_map, option_and_then, slice_index, slice_set}
use Rattle.std.specs.Int.{w64, to_le_bytes, from_le_bytes}
use Rattle.pan_base.specs.declared.events.Size.{Size}
use Rattle.pan_base.specs.Events.{byte_count}
use Rattle.pan_base.specs.Words.{base_address, bytes_in_word}

-- an access of the size at the address lies wholly in the shared window, and the address is a multiple of the size
abbrev pub is_shared : Size → ℕ → Bool
is_shared size addr = nat_le 0x40000000 addr && nat_le (addr + byte_count size) 0x80000000 && nat_eq (addr % byte_count size) 0

-- so many bytes from the address on lie wholly in local memory
abbrev pub is_local : List ℕ → ℕ → ℕ → Bool
is_local m addr count = nat_le base_address addr && nat_le (addr + count) (base_address + length m)

-- a word at the address lies wholly in local memory, and the address is a multiple of 8
abbrev pub is_local_word : List ℕ → ℕ → Bool
is_local_word m addr = is_local m addr bytes_in_word && nat_eq (addr % bytes_in_word) 0

-- ---- bytes

-- the bytes from the address on, so many, where they lie wholly in local memory
abbrev pub bytes_at : List ℕ → ℕ → ℕ → Option (List ℕ)
bytes_at m addr count = if is_local m addr count then Some (take count (drop (addr - base_address) m)) else None

-- local memory with these bytes from the address on
abbrev pub with_bytes : List ℕ → ℕ → List ℕ → List ℕ
with_bytes m addr bytes = take (addr - base_address) m ++ bytes ++ drop (addr - base_address + length bytes) m

-- the byte at the address
abbrev pub byte_at : List ℕ → ℕ → Option ℕ
byte_at m addr = if is_local m addr 1 then Some (slice_index m (addr - base_address)) else None

-- local memory with this byte at the address
abbrev pub with_byte : List ℕ → ℕ → ℕ → Option (List ℕ)
with_byte m addr n = if is_local m addr 1 then Some (slice_set m (addr - base_address) n) else None

-- ---- words

-- the address of the next word
abbrev pub next_word : ℕ → ℕ
next_word addr = (addr + bytes_in_word) % 2 ^ 64

-- the word at the address, its lowest byte first
abbrev pub word_at : List ℕ → ℕ → Option ℕ
word_at m addr = if is_local_word m addr then Some (from_le_bytes w64 (take bytes_in_word (drop (addr - base_address) m))) else None

-- local memory with this word at the address
abbrev pub with_word : List ℕ → ℕ → ℕ → Option (List ℕ)
with_word m addr n = if is_local_word m addr then Some (with_bytes m addr (to_le_bytes w64 n)) else None

-- the words from the address on, so many
abbrev pub words_at : List ℕ → ℕ → ℕ → Option (List ℕ)
words_at m addr zero = Some []
words_at m addr (suc n) = option_and_then (λ a. option_map (λ others. a ∷ others) (words_at m (next_word addr) n)) (word_at m addr)

-- local memory with these words from the address on
abbrev pub with_words : List ℕ → ℕ → List ℕ → Option (List ℕ)
with_words m addr [] = Some m
with_words m addr (n ∷ ns) = option_and_then (λ m'. with_words m' (next_word addr) ns) (with_word m addr n)
