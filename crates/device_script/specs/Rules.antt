-- How rules answer requests, and what they keep then.
use Rattle.std.specs.Prelude.{ℕ, zero, suc, ◌+◌, ◌*◌, ◌%◌, ◌^◌, ◌&&◌, ◌==◌, nat_lt, Bool, false, if◌then◌else◌, List, [], ◌∷◌, length, map}
use Rattle.std.specs.Str.{bytes_eq}
use Rattle.pan_base.specs.declared.events.Size.{Size}
use Rattle.pan_base.specs.Events.{Asked, Load, Store, Foreign, Value, Done, Bytes, Stop, byte_count}
use Rattle.pan_port.specs.Device.{Given, Gave, Silent}
use Rattle.device_script.specs.declared.rules.Effect.{Effect}
use Rattle.device_script.specs.declared.rules.Effect.TheVariants as effect
use Rattle.device_script.specs.declared.rules.Rule.{Rule}
use Rattle.device_script.specs.declared.rules.Rule.TheVariants as rule
use Rattle.device_script.specs.Memory.{overwritten}

-- ---- which rule answers

-- the access has so many bytes, and is at this address
abbrev pub is_access : Size → ℕ → ℕ → ℕ → Bool
is_access size addr bytes at = byte_count size == bytes && addr == at

-- the rule answers loads of so many bytes at this address
abbrev pub answers_load : Rule → ℕ → ℕ → Bool
answers_load (rule.Register size addr value) bytes at = is_access size addr bytes at
answers_load (rule.Queue size addr values) bytes at = is_access size addr bytes at
answers_load (rule.Counter size addr first step loads) bytes at = is_access size addr bytes at
answers_load _ bytes at = false

-- the rule answers stores of so many bytes at this address
abbrev pub answers_store : Rule → ℕ → ℕ → Bool
answers_store (rule.Register size addr value) bytes at = is_access size addr bytes at
answers_store (rule.Collector size addr left) bytes at = is_access size addr bytes at
answers_store _ bytes at = false

-- the rule answers foreign calls of this name
abbrev pub answers_call : Rule → List ℕ → Bool
answers_call (rule.Foreign name effect) called = bytes_eq name called
answers_call _ called = false

abbrev pub answers : Rule → Asked → Bool
answers r (Load size addr) = answers_load r (byte_count size) addr
answers r (Store size addr value) = answers_store r (byte_count size) addr
answers r (Foreign number name conf array) = answers_call r name

-- ---- what it gives, and the rule with what it keeps from then on

-- a queue with no value left is silent, and a counter answers modulo what the size holds
abbrev pub answer_load : Rule → Given × Rule
answer_load (rule.Register size addr value) = (Gave (Value value), rule.Register size addr value)
answer_load (rule.Queue size addr []) = (Silent, rule.Queue size addr [])
answer_load (rule.Queue size addr (value ∷ values)) = (Gave (Value value), rule.Queue size addr values)
answer_load (rule.Counter size addr first step loads) =
    (Gave (Value ((first + loads * step) % 2 ^ (8 * byte_count size))), rule.Counter size addr first step ((loads + 1) % 2 ^ 64))
answer_load r = (Gave Stop, r)

abbrev pub answer_store : Rule → ℕ → Given × Rule
answer_store (rule.Register size addr old) value = (Gave Done, rule.Register size addr value)
answer_store (rule.Collector size addr zero) value = (Gave Stop, rule.Collector size addr zero)
answer_store (rule.Collector size addr (suc left)) value = (Gave Done, rule.Collector size addr left)
answer_store r value = (Gave Stop, r)

-- a foreign call with this configuration and this array
abbrev pub call_given : Effect → List ℕ → List ℕ → Given
call_given (effect.Bytes bytes) conf array = if nat_lt (length array) (length bytes) then Gave Stop else Gave (Bytes (overwritten array 0 bytes))
call_given effect.Conf conf array = Gave (Bytes (overwritten array 0 conf))
call_given (effect.Add n) conf array = Gave (Bytes (map (λ b. (b + n) % 256) array))

abbrev pub answer_call : Rule → List ℕ → List ℕ → Given × Rule
answer_call (rule.Foreign name effect) conf array = (call_given effect conf array, rule.Foreign name effect)
answer_call r conf array = (Gave Stop, r)

abbrev pub answer : Rule → Asked → Given × Rule
answer r (Load size addr) = answer_load r
answer r (Store size addr value) = answer_store r value
answer r (Foreign number name conf array) = answer_call r conf array

-- ---- a step of all rules

-- the first rule that answers the request gives its answer, and Stop is given where none does
abbrev pub step : List Rule → Asked → Given × List Rule
step [] q = (Gave Stop, [])
step (r ∷ rs) q = if answers r q then ((answer r q).0, (answer r q).1 ∷ rs) else ((step rs q).0, r ∷ (step rs q).1)
