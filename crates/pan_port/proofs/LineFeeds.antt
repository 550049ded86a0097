-- Each line of a trace has one line feed, at its end.
use Rattle.std.proofs.Common.{◌≡◌, ℕ, ◌+◌, ◌/◌, ◌%◌, List, [], ◌∷◌, ◌++◌, false, refl, ap, ◌∙◌, arith}
use Rattle.std.specs.Prelude.{◌==◌, not, IsTrue, codes}
use Rattle.std.specs.List.{list_all}
use Rattle.std.specs.Int.{to_be_bytes, w64}
use Rattle.std.proofs.lemmas.Grind.{common_steps}
use Rattle.pan_base.specs.declared.events.Size.{Size}
use Rattle.pan_base.specs.declared.events.Size.TheVariants.{B1, B2, B4, B8}
use Rattle.pan_base.specs.Events.{Asked, Load, Store, Foreign, Replied, Value, Done, Bytes, Stop, Fits}
use Rattle.pan_base.specs.Sinks.{feeds}
use Rattle.pan_base.specs.Tokens.{bits_text}
use Rattle.pan_base.specs.Trace.{hex_digit, hex_text, buffer_text, word_text, joined, event_line}
use Rattle.pan_port.specs.Drive.{IsOneLine}

pub feeds-append : (xs ys : List ℕ) → feeds (xs ++ ys) ≡ feeds xs + feeds ys
feeds-append xs ys = grind (arith, common_steps)

skip : (b : ℕ) (bytes : List ℕ) → (b == 10) ≡ false → feeds (b ∷ bytes) ≡ feeds bytes
skip b bytes h = grind (arith, common_steps, h)

digit : (n : ℕ) → (hex_digit n == 10) ≡ false
digit n = grind (arith)

hex : (bytes : List ℕ) → feeds (hex_text bytes) ≡ 0
hex [] = refl
hex (b ∷ bytes) = skip (hex_digit (b / 16)) (hex_digit (b % 16) ∷ hex_text bytes) (digit (b / 16)) ∙ skip (hex_digit (b % 16)) (hex_text bytes) (digit (b % 16)) ∙ hex bytes

buffer : (bytes : List ℕ) → feeds (buffer_text bytes) ≡ 0
buffer [] = refl
buffer (b ∷ bytes) = hex (b ∷ bytes)

word : (n : ℕ) → feeds (word_text n) ≡ 0
unfolding word_text
word n = hex (to_be_bytes w64 n)

bits : (size : Size) → feeds (bits_text size) ≡ 0
bits B1 = refl
bits B2 = refl
bits B4 = refl
bits B8 = refl

named : (name : List ℕ) → IsTrue (list_all (λ b. not (b == 10)) name) → feeds name ≡ 0
named [] h = refl
named (b ∷ name) h = grind (arith, common_steps, named name)

abbrev all_feeds : List (List ℕ) → ℕ
all_feeds [] = 0
all_feeds (piece ∷ pieces) = feeds piece + all_feeds pieces

joined_feeds : (pieces : List (List ℕ)) → feeds (joined pieces) ≡ all_feeds pieces
joined_feeds [] = refl
joined_feeds (piece ∷ pieces) = feeds-append piece (joined pieces) ∙ ap (λ n. feeds piece + n) (joined_feeds pieces)

pub line_feed : (q : Asked) (r : Replied) → Fits q r → IsOneLine q → feeds (event_line q r) ≡ 1
unfolding event_line
line_feed (Load size addr) (Value n) fits one = joined_feeds (codes "ld" ∷ bits_text size ∷ codes " " ∷ word_text addr ∷ codes " " ∷ word_text n ∷ codes "\n" ∷ []) ∙ rw (bits size, word addr, word n) refl
line_feed (Store size addr value) Done fits one = joined_feeds (codes "st" ∷ bits_text size ∷ codes " " ∷ word_text addr ∷ codes " " ∷ word_text value ∷ codes "\n" ∷ []) ∙ rw (bits size, word addr, word value) refl
line_feed (Foreign number name conf array) (Bytes bytes) fits one = joined_feeds (codes "call " ∷ name ∷ codes " " ∷ buffer_text conf ∷ codes " " ∷ buffer_text array ∷ codes " " ∷ buffer_text bytes ∷ codes "\n" ∷ []) ∙ rw (named name one, buffer conf, buffer array, buffer bytes) refl
line_feed (Load size addr) Done fits one = absurd (cc)
line_feed (Load size addr) (Bytes bytes) fits one = absurd (cc)
line_feed (Load size addr) Stop fits one = absurd (cc)
line_feed (Store size addr value) (Value n) fits one = absurd (cc)
line_feed (Store size addr value) (Bytes bytes) fits one = absurd (cc)
line_feed (Store size addr value) Stop fits one = absurd (cc)
line_feed (Foreign number name conf array) (Value n) fits one = absurd (cc)
line_feed (Foreign number name conf array) Done fits one = absurd (cc)
line_feed (Foreign number name conf array) Stop fits one = absurd (cc)
