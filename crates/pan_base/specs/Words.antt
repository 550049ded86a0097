-- Words, and what the operators of the languages make of them. A word is a number below 2 ^ 64.
use Rattle.std.specs.Prelude.{ℕ, ℤ, pos, negsuc, ◌+◌, ◌-◌, ◌*◌, ◌/◌, ◌%◌, ◌^◌, ◌<◌, nat_lt, nat_eq, not, int_lt, Bool, if◌then◌else◌, bit_and, bit_or, bit_xor, slice_index, List}
use Rattle.pan_base.specs.declared.operators.BinOp.{BinOp}
use Rattle.pan_base.specs.declared.operators.BinOp.TheVariants.{Add, Sub, Mul, And, Or, Xor}
use Rattle.pan_base.specs.declared.operators.ShOp.{ShOp}
use Rattle.pan_base.specs.declared.operators.ShOp.TheVariants.{Shl, Shr, Sar, Ror}
use Rattle.pan_base.specs.declared.operators.Cmp.{Cmp}
use Rattle.pan_base.specs.declared.operators.Cmp.TheVariants.{Eq, Ne, Lt, Ge, Ltu, Geu}

-- a number below 2 ^ 64
abbrev pub IsWord : ℕ → Type 0
IsWord n = n < 2 ^ 64

-- each is a byte
abbrev pub IsBytes : List ℕ → Type 0
IsBytes bytes = (i : ℕ) → slice_index bytes i < 256

-- the number that so many bits stand for in two's complement
abbrev pub signed : ℕ → ℕ → ℤ
signed count n = if nat_lt n (2 ^ (count - 1)) then pos n else negsuc (2 ^ count - 1 - n)

-- sums, differences and products wrap at 2 ^ 64, and the others act on bits
abbrev pub operate : BinOp → ℕ → ℕ → ℕ
operate Add a b = (a + b) % 2 ^ 64
operate Sub a b = (a + (2 ^ 64 - b)) % 2 ^ 64
operate Mul a b = a * b % 2 ^ 64
operate And a b = bit_and a b
operate Or a b = bit_or a b
operate Xor a b = bit_xor a b

-- a word shifted by a number from 0 to 63: to the left, to the right with zeros, to the right with the sign, rotated right
abbrev pub shift : ShOp → ℕ → ℕ → ℕ
shift Shl a n = a * 2 ^ n % 2 ^ 64
shift Shr a n = a / 2 ^ n
shift Sar a n = if nat_lt a (2 ^ 63) then a / 2 ^ n else 2 ^ 64 - 1 - (2 ^ 64 - 1 - a) / 2 ^ n
shift Ror a n = bit_or (a / 2 ^ n) (a * 2 ^ ((64 - n) % 64) % 2 ^ 64)

-- the word with the sign turned round
abbrev pub negate : ℕ → ℕ
negate a = (2 ^ 64 - a) % 2 ^ 64

-- whether the comparison holds of two words, which `Lt` and `Ge` read in two's complement
abbrev pub compare : Cmp → ℕ → ℕ → Bool
compare Eq a b = nat_eq a b
compare Ne a b = not (nat_eq a b)
compare Lt a b = int_lt (signed 64 a) (signed 64 b)
compare Ge a b = not (int_lt (signed 64 a) (signed 64 b))
compare Ltu a b = nat_lt a b
compare Geu a b = not (nat_lt a b)

-- the word that a comparison gives: 1 where it holds, else 0
abbrev pub truth : Cmp → ℕ → ℕ → ℕ
truth c a b = if compare c a b then 1 else 0

-- the address at which local memory begins, and how many bytes a word has
abbrev pub base_address : ℕ
base_address = 0x10000000

abbrev pub bytes_in_word : ℕ
bytes_in_word = 8
