-- What the words of a line say, or what is wrong with them.
use Rattle.std.specs.Prelude.{ℕ, ◌+◌, ◌*◌, ◌%◌, ◌&&◌, ◌==◌, nat_le, nat_lt, not, Bool, false, if◌then◌else◌, List, [], ◌∷◌, length, codes, Option, Some, None, Result, Ok, Err}
use Rattle.std.specs.Option.{ok_or, option_map, option_and_then}
use Rattle.std.specs.Str.{bytes_eq}
use Rattle.pan_base.specs.declared.events.Size.{Size}
use Rattle.pan_base.specs.declared.events.Size.TheVariants.{B1, B2, B4, B8}
use Rattle.pan_base.specs.Events.{byte_count}
use Rattle.pan_base.specs.Names.{is_spelled}
use Rattle.pan_base.specs.Spelling.{is_hex_digit, digit_value, numeral}
use Rattle.device_script.specs.declared.error.Cause.{Cause}
use Rattle.device_script.specs.declared.error.Cause.TheVariants as cause
use Rattle.device_script.specs.declared.line.Line.{Line}
use Rattle.device_script.specs.declared.line.Line.TheVariants as line
use Rattle.device_script.specs.declared.rules.Effect.{Effect}
use Rattle.device_script.specs.declared.rules.Effect.TheVariants as effect
use Rattle.device_script.specs.declared.rules.Rule.TheVariants as rule

-- Of the steps of a `do` the first that is wrong counts.
infixl 10 ◌>>=◌
abbrev pub ◌>>=◌ : {A B : Type 0} → Result A Cause → (A → Result B Cause) → Result B Cause
Ok a >>= more = more a
Err c >>= more = Err c

-- ---- words

-- a number below 2 ^ 64, in decimal digits or after 0x in hexadecimal ones
abbrev pub number_said : List ℕ → Result ℕ Cause
number_said word = ok_or (numeral word) cause.Number

abbrev pub numbers_said : List (List ℕ) → Result (List ℕ) Cause
numbers_said [] = Ok []
numbers_said (word ∷ words) = do
  n ← number_said word
  ns ← numbers_said words
  Ok (n ∷ ns)

abbrev pub size_of_bits : ℕ → Option Size
size_of_bits n =
    if n == 8 then Some B1
    else (if n == 16 then Some B2
    else (if n == 32 then Some B4
    else (if n == 64 then Some B8
    else None)))

-- the number of bits of an access
abbrev pub size_said : List ℕ → Result Size Cause
size_said word = ok_or (option_and_then size_of_bits (numeral word)) cause.Size

-- an access of the size is aligned at the address, and lies in the shared window
abbrev pub is_address : Size → ℕ → Bool
is_address size addr = addr % byte_count size == 0 && nat_le 0x40000000 addr && nat_le (addr + byte_count size) 0x80000000

abbrev pub address_said : Size → List ℕ → Result ℕ Cause
address_said size word = do
  addr ← number_said word
  if is_address size addr then Ok addr else Err cause.Address

-- the size and the address of an access
abbrev pub place_said : List ℕ → List ℕ → Result (Size × ℕ) Cause
place_said n a = do
  size ← size_said n
  addr ← address_said size a
  Ok (size, addr)

-- the name of a foreign function
abbrev pub is_name : List ℕ → Bool
is_name word = is_spelled word && nat_le (length word) 64 && not (bytes_eq word (codes "base")) && not (bytes_eq word (codes "biw"))

abbrev pub name_said : List ℕ → Result (List ℕ) Cause
name_said word = if is_name word then Ok word else Err cause.Name

-- the bytes of pairs of hexadecimal digits
abbrev pub bytes_of_digits : List ℕ → Option (List ℕ)
bytes_of_digits [] = Some []
bytes_of_digits (high ∷ []) = None
bytes_of_digits (high ∷ low ∷ digits) =
    if is_hex_digit high && is_hex_digit low then option_map (λ bytes. (digit_value high * 16 + digit_value low) ∷ bytes) (bytes_of_digits digits)
    else None

-- bytes in hexadecimal digits, or `-` for none
abbrev pub hex_said : List ℕ → Result (List ℕ) Cause
hex_said word = if bytes_eq word (codes "-") then Ok [] else ok_or (bytes_of_digits word) cause.Hex

-- ---- the words after the first

-- a piece of memory has a byte, and ends within what local memory may have
abbrev pub is_piece : ℕ → List ℕ → Bool
is_piece offset bytes = nat_lt 0 (length bytes) && nat_le (offset + length bytes) 67108864

abbrev pub memory_said : List (List ℕ) → Result Line Cause
memory_said (o ∷ hex ∷ []) = do
  offset ← number_said o
  bytes ← hex_said hex
  if is_piece offset bytes then Ok (line.Piece (record { offset = offset; bytes = bytes })) else Err cause.Range
memory_said _ = Err cause.Count

abbrev pub register_said : List (List ℕ) → Result Line Cause
register_said (n ∷ a ∷ v ∷ []) = do
  place ← place_said n a
  value ← number_said v
  Ok (line.Rule (rule.Register place.0 place.1 value))
register_said _ = Err cause.Count

abbrev pub queue_said : List (List ℕ) → Result Line Cause
queue_said (n ∷ a ∷ vs) = do
  place ← place_said n a
  values ← numbers_said vs
  Ok (line.Rule (rule.Queue place.0 place.1 values))
queue_said _ = Err cause.Count

abbrev pub counter_said : List (List ℕ) → Result Line Cause
counter_said (n ∷ a ∷ v ∷ d ∷ []) = do
  place ← place_said n a
  first ← number_said v
  step ← number_said d
  Ok (line.Rule (rule.Counter place.0 place.1 first step 0))
counter_said _ = Err cause.Count

abbrev pub collector_said : List (List ℕ) → Result Line Cause
collector_said (n ∷ a ∷ k ∷ []) = do
  place ← place_said n a
  left ← number_said k
  Ok (line.Rule (rule.Collector place.0 place.1 left))
collector_said _ = Err cause.Count

-- the words after the kind
abbrev pub bytes_said : List (List ℕ) → Result Effect Cause
bytes_said (hex ∷ []) = do
  bytes ← hex_said hex
  Ok (effect.Bytes bytes)
bytes_said _ = Err cause.Count

abbrev pub conf_said : List (List ℕ) → Result Effect Cause
conf_said [] = Ok effect.Conf
conf_said _ = Err cause.Count

abbrev pub add_said : List (List ℕ) → Result Effect Cause
add_said (d ∷ []) = do
  n ← number_said d
  Ok (effect.Add n)
add_said _ = Err cause.Count

abbrev pub effect_said : List ℕ → List (List ℕ) → Result Effect Cause
effect_said kind rest =
    if bytes_eq kind (codes "bytes") then bytes_said rest
    else (if bytes_eq kind (codes "conf") then conf_said rest
    else (if bytes_eq kind (codes "add") then add_said rest
    else Err cause.Kind))

-- the number of words is looked at twice: at once whether there is a kind, and after it what it wants
abbrev pub foreign_said : List (List ℕ) → Result Line Cause
foreign_said (word ∷ kind ∷ rest) = do
  name ← name_said word
  effect ← effect_said kind rest
  Ok (line.Rule (rule.Foreign name effect))
foreign_said _ = Err cause.Count

-- ---- the whole line

-- a word that begins a comment
abbrev pub is_comment : List ℕ → Bool
is_comment [] = false
is_comment (b ∷ bs) = b == 35

abbrev pub said : List (List ℕ) → Result Line Cause
said [] = Ok line.Silence
said (first ∷ rest) =
    if is_comment first then Ok line.Silence
    else (if bytes_eq first (codes "memory") then memory_said rest
    else (if bytes_eq first (codes "register") then register_said rest
    else (if bytes_eq first (codes "queue") then queue_said rest
    else (if bytes_eq first (codes "counter") then counter_said rest
    else (if bytes_eq first (codes "collector") then collector_said rest
    else (if bytes_eq first (codes "foreign") then foreign_said rest
    else Err cause.Word))))))
