-- Numbers in rows of bytes.
use Rattle.std.specs.Prelude.{ℕ, zero, suc, ◌+◌, ◌*◌, ◌/◌, ◌^◌, ◌&&◌, nat_le, Bool, List, ◌++◌, length, take, drop}
use Rattle.std.specs.Int.{to_le_bytes, from_le_bytes}
use Rattle.pan_base.specs.declared.events.Size.{Size}
use Rattle.pan_base.specs.declared.events.Size.TheVariants.{B1}
use Rattle.pan_base.specs.Events.{byte_count, width}

-- the access of so many bytes at the address lies wholly in what begins at `from` and has `count` bytes
abbrev pub is_within : ℕ → ℕ → ℕ → ℕ → Bool
is_within from count addr size = nat_le from addr && nat_le (addr + size) (from + count)

-- the bytes with the number's low bytes at a place, the lowest first
abbrev pub with_number : Size → List ℕ → ℕ → ℕ → List ℕ
with_number size bytes at n = take at bytes ++ to_le_bytes (width size) n ++ drop (at + byte_count size) bytes

-- the number of the bytes at a place, the lowest first
abbrev pub number_at : Size → List ℕ → ℕ → ℕ
number_at size bytes at = from_le_bytes (width size) (take (byte_count size) (drop at bytes))

-- the number of so many bytes from a place on, the lowest first, read one by one
abbrev pub number_of_bytes : ℕ → List ℕ → ℕ → ℕ
number_of_bytes zero bytes at = 0
number_of_bytes (suc count) bytes at = number_at B1 bytes at + 2 ^ 8 * number_of_bytes count bytes (at + 1)

-- the bytes with so many of a number's low bytes from a place on, the lowest first, written one by one
abbrev pub with_bytes_of : ℕ → List ℕ → ℕ → ℕ → List ℕ
with_bytes_of zero bytes at n = bytes
with_bytes_of (suc count) bytes at n = with_bytes_of count (with_number B1 bytes at n) (at + 1) (n / 2 ^ 8)

-- so many bytes from a place on
abbrev pub part : List ℕ → ℕ → ℕ → List ℕ
part bytes at count = take count (drop at bytes)

-- the bytes with others at a place
abbrev pub with_part : List ℕ → ℕ → List ℕ → List ℕ
with_part bytes at new = take at bytes ++ new ++ drop (at + length new) bytes
