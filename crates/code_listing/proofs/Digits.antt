-- The hexadecimal digits of numbers of 32 bits.
use Rattle.std.proofs.Common.{◌≡◌, ℕ, ◌<◌, zero, suc, get_or, arith}
use Rattle.std.specs.Int.{byte_at, bytes_high_first, to_be_bytes, w32}
use Rattle.hex.specs.Hex.{encode_lower}
use Rattle.pan_base.specs.Trace.{hex_text}
use Rattle.pan_base.proofs.HexLemmas.{encode_lower-hex_text}

byte_below : (k n : ℕ) → byte_at k n < 256
byte_below zero n = omega arith
byte_below (suc k) n = omega arith

bytes_below : (k n i : ℕ) → get_or (bytes_high_first k n) i 0 < 256
bytes_below zero n i = omega arith
bytes_below (suc k) n zero = byte_below k n
bytes_below (suc k) n (suc i) = bytes_below k n i

pub hex_text_of : (n : ℕ) → encode_lower (to_be_bytes w32 n) ≡ hex_text (to_be_bytes w32 n)
hex_text_of n = encode_lower-hex_text (bytes_high_first 4 n) (bytes_below 4 n)
