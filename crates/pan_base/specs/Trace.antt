-- The text of a trace: a line for each event, and one for the end.
use Rattle.std.specs.Prelude.{ℕ, ◌+◌, ◌/◌, ◌%◌, nat_lt, if◌then◌else◌, List, [], ◌∷◌, ◌++◌, codes}
use Rattle.std.specs.List.{flat_map}
use Rattle.std.specs.Int.{to_be_bytes, w64}
use Rattle.pan_base.specs.declared.events.Size.{Size}
use Rattle.pan_base.specs.declared.events.End.{End}
use Rattle.pan_base.specs.declared.events.End.TheVariants as told_end
use Rattle.pan_base.specs.Tokens.{bits_text}
use Rattle.pan_base.specs.Events.{Asked, Load, Store, Foreign, Replied, Value, Done, Bytes, Event}

-- a hexadecimal digit in lower case
abbrev pub hex_digit : ℕ → ℕ
hex_digit n = if nat_lt n 10 then 48 + n else 87 + n

-- bytes as two hexadecimal digits each
abbrev pub hex_text : List ℕ → List ℕ
hex_text bytes = flat_map (λ b. hex_digit (b / 16) ∷ hex_digit (b % 16) ∷ []) bytes

-- a buffer: its bytes in hexadecimal, and `-` where it is empty
abbrev pub buffer_text : List ℕ → List ℕ
buffer_text [] = codes "-"
buffer_text (b ∷ bs) = hex_text (b ∷ bs)

-- a word: 0x and 16 hexadecimal digits
unfoldable pub word_text : ℕ → List ℕ
word_text n = codes "0x" ++ hex_text (to_be_bytes w64 n)

-- texts one after another
abbrev pub joined : List (List ℕ) → List ℕ
joined pieces = flat_map (λ piece. piece) pieces

abbrev pub load_line : Size → ℕ → ℕ → List ℕ
load_line size addr value = joined (codes "ld" ∷ bits_text size ∷ codes " " ∷ word_text addr ∷ codes " " ∷ word_text value ∷ codes "\n" ∷ [])

abbrev pub store_line : Size → ℕ → ℕ → List ℕ
store_line size addr value = joined (codes "st" ∷ bits_text size ∷ codes " " ∷ word_text addr ∷ codes " " ∷ word_text value ∷ codes "\n" ∷ [])

abbrev pub call_line : List ℕ → List ℕ → List ℕ → List ℕ → List ℕ
call_line name conf array reply =
    joined (codes "call " ∷ name ∷ codes " " ∷ buffer_text conf ∷ codes " " ∷ buffer_text array ∷ codes " " ∷ buffer_text reply ∷ codes "\n" ∷ [])

-- the line of a request and the reply that fits it
unfoldable pub event_line : Asked → Replied → List ℕ
event_line (Load size addr) (Value n) = load_line size addr n
event_line (Store size addr value) Done = store_line size addr value
event_line (Foreign number name conf array) (Bytes bytes) = call_line name conf array bytes
event_line _ _ = []

-- the lines of a trace
abbrev pub trace_text : List Event → List ℕ
trace_text events = flat_map (λ e. event_line e.request e.reply) events

-- the line of an end
abbrev pub end_line : End → List ℕ
end_line (told_end.Exit n) = joined (codes "exit " ∷ word_text n ∷ codes "\n" ∷ [])
end_line (told_end.Uncaught n) = joined (codes "uncaught " ∷ word_text n ∷ codes "\n" ∷ [])
end_line told_end.Stopped = codes "stopped\n"
end_line told_end.Asks = codes "asks\n"
end_line told_end.Spent = codes "spent\n"
end_line told_end.Stack = codes "stack\n"
end_line told_end.Fault = codes "fault\n"
end_line told_end.Fails = codes "fails\n"
