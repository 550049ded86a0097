-- A script fills local memory with bytes.
use Rattle.std.proofs.Common.{◌≡◌, ℕ, ◌+◌, ◌-◌, min, ◌*◌, ◌%◌, ◌<◌, ◌≤◌, zero, suc, List, [], ◌∷◌, ◌++◌, length, take, drop, replicate, Bool, true, false, Option, Some, None, Result, Ok, Err, refl, ap, ◌∙◌, subst, arith, inl, inr, length-append, length-drop}
use Rattle.std.specs.Prelude.{◌&&◌, if◌then◌else◌, codes, fold}
use Rattle.std.specs.Option.{ok_or, option_map}
use Rattle.std.specs.Str.{bytes_eq}
use Rattle.std.proofs.lemmas.Bool.{cases_lt}
use Rattle.std.proofs.lemmas.Bool.Decides.{nat_tests}
use Rattle.std.proofs.lemmas.List.{get_or-replicate, get_or_past, length-replicate, length-take-le, length-take}
use Rattle.pan_base.specs.Spelling.{is_hex_digit, digit_value}
use Rattle.pan_base.specs.Words.{IsBytes}
use Rattle.pan_base.specs.Lawful.{IsLawfulMemory}
use Rattle.device_script.specs.declared.error.Cause.{Cause}
use Rattle.device_script.specs.declared.error.Cause.TheVariants as cause
use Rattle.device_script.specs.declared.line.Piece.{Piece}
use Rattle.device_script.specs.declared.line.Line.{Line}
use Rattle.device_script.specs.declared.line.Line.TheVariants as line
use Rattle.device_script.specs.declared.rules.Rule.{Rule}
use Rattle.device_script.specs.Lines.{lines, words}
use Rattle.device_script.specs.Memory.{overwritten, filled}
use Rattle.device_script.specs.Saying.{◌>>=◌, number_said, place_said, numbers_said, name_said, effect_said, bytes_of_digits, hex_said, is_piece, memory_said, register_said, queue_said, counter_said, collector_said, foreign_said, is_comment, said}
use Rattle.device_script.specs.Script.{Content, Refusal, is_taken, with_line, or_refused, with_lines, script_of_file}

-- what the crate below says of rows of bytes
pub record RowsOfBytes : Type 0 where
  pub front : (n : ℕ) (bytes : List ℕ) → IsBytes bytes → IsBytes (take n bytes)
  pub rest : (n : ℕ) (bytes : List ℕ) → IsBytes bytes → IsBytes (drop n bytes)
  pub joined : (first second : List ℕ) → IsBytes first → IsBytes second → IsBytes (first ++ second)

-- ---- bytes

bytes_none : IsBytes []
bytes_none i = omega arith

bytes_one_more : (b : ℕ) (bytes : List ℕ) → b < 256 → IsBytes bytes → IsBytes (b ∷ bytes)
bytes_one_more b bytes h k zero = h
bytes_one_more b bytes h k (suc i) = k i

bytes_zero : (n : ℕ) → IsBytes (replicate n 0)
bytes_zero n i =
    elim (cases_lt i n) [
      | inl lt ↦ rw (get_or-replicate {A = ℕ} n i 0 0 lt) (omega arith)
      | inr le ↦ rw (get_or_past {X = ℕ} (replicate n 0) i 0 (omega (arith, length-replicate {A = ℕ} n 0))) (omega arith)
    ]

-- ---- pieces over memory

overwritten_bytes : RowsOfBytes → (memory : List ℕ) (offset : ℕ) (bytes : List ℕ) → IsBytes memory → IsBytes bytes → IsBytes (overwritten memory offset bytes)
overwritten_bytes rows memory offset bytes h k =
    rows.front (length memory) _ (rows.joined _ _ (rows.joined _ bytes (rows.front offset memory h) k) (rows.rest (offset + length bytes) memory h))

long_enough : (front bytes back : List ℕ) (offset size : ℕ) → length front ≡ min offset size → length back ≡ size - (offset + length bytes) → size ≤ length (front ++ bytes ++ back)
long_enough front bytes back offset size f b =
    let whole = length-append (front ++ bytes) back in
    let more = length-append front bytes in
    omega (arith, whole, more, f, b)

overwritten_length : (memory : List ℕ) (offset : ℕ) (bytes : List ℕ) → length (overwritten memory offset bytes) ≡ length memory
overwritten_length memory offset bytes =
    length-take-le (length memory) _
    (long_enough (take offset memory) bytes (drop (offset + length bytes) memory) offset (length memory) (length-take offset memory) (length-drop (offset + length bytes) memory))

-- each piece is of bytes
abbrev AreBytes : List Piece → Type 0
AreBytes [] = Unit {0}
AreBytes (p ∷ ps) = IsBytes p.bytes × AreBytes ps

fold_bytes : RowsOfBytes → (pieces : List Piece) (memory : List ℕ) → AreBytes pieces → IsBytes memory → IsBytes (fold (λ memory piece. overwritten memory piece.offset piece.bytes) memory pieces)
fold_bytes rows [] memory all h = h
fold_bytes rows (p ∷ ps) memory all h = fold_bytes rows ps (overwritten memory p.offset p.bytes) all.1 (overwritten_bytes rows memory p.offset p.bytes h all.0)

fold_length : (pieces : List Piece) (memory : List ℕ) → length (fold (λ memory piece. overwritten memory piece.offset piece.bytes) memory pieces) ≡ length memory
fold_length [] memory = refl
fold_length (p ∷ ps) memory = fold_length ps (overwritten memory p.offset p.bytes) ∙ overwritten_length memory p.offset p.bytes

-- ---- digits

digit_small : (c : ℕ) → is_hex_digit c ≡ true → digit_value c < 16
digit_small c h = grind (arith, nat_tests)

abbrev IfBytes : Option (List ℕ) → Type 0
IfBytes None = Unit {0}
IfBytes (Some bytes) = IsBytes bytes

pair_bytes : (p q : Bool) (high low : ℕ) (bytes : Option (List ℕ)) → (p ≡ true → digit_value high < 16) → (q ≡ true → digit_value low < 16) → IfBytes bytes
    → IfBytes (if p && q then option_map (λ bytes. (digit_value high * 16 + digit_value low) ∷ bytes) bytes else None)
pair_bytes false q high low bytes h l all = tt
pair_bytes true false high low bytes h l all = tt
pair_bytes true true high low None h l all = tt
pair_bytes true true high low (Some bytes) h l all = bytes_one_more (digit_value high * 16 + digit_value low) bytes (omega (arith, h refl, l refl)) all

digits_bytes : (digits : List ℕ) → IfBytes (bytes_of_digits digits)
digits_bytes [] = bytes_none
digits_bytes (high ∷ []) = tt
digits_bytes (high ∷ low ∷ digits) = pair_bytes (is_hex_digit high) (is_hex_digit low) high low (bytes_of_digits digits) (digit_small high) (digit_small low) (digits_bytes digits)

abbrev SaysBytes : Result (List ℕ) Cause → Type 0
SaysBytes (Ok bytes) = IsBytes bytes
SaysBytes (Err c) = Unit {0}

hex_bytes : (t : Bool) (bytes : Option (List ℕ)) → IfBytes bytes → SaysBytes (if t then Ok [] else ok_or bytes cause.Hex)
hex_bytes true bytes all = bytes_none
hex_bytes false None all = tt
hex_bytes false (Some bytes) all = all

-- ---- lines

-- a piece that the line says is of bytes
abbrev SaysPiece : Result Line Cause → Type 0
SaysPiece (Ok line.Silence) = Unit {0}
SaysPiece (Ok (line.Piece p)) = IsBytes p.bytes
SaysPiece (Ok (line.Rule r)) = Unit {0}
SaysPiece (Err c) = Unit {0}

then_piece : {A : Type 0} (r : Result A Cause) (more : A → Result Line Cause) → ((a : A) → r ≡ Ok a → SaysPiece (more a)) → SaysPiece (r >>= more)
then_piece (Ok a) more h = h a refl
then_piece (Err c) more h = tt

either_piece : (t : Bool) (a b : Result Line Cause) → SaysPiece a → SaysPiece b → SaysPiece (if t then a else b)
either_piece true a b h k = h
either_piece false a b h k = k

memory_piece : (rest : List (List ℕ)) → SaysPiece (memory_said rest)
memory_piece [] = tt
memory_piece (o ∷ []) = tt
memory_piece (o ∷ hex ∷ []) =
    then_piece (number_said o) _ (λ offset _. then_piece (hex_said hex) _ (λ bytes is.
    either_piece (is_piece offset bytes) (Ok (line.Piece (record { offset = offset; bytes = bytes }))) (Err cause.Range)
    (subst SaysBytes is (hex_bytes (bytes_eq hex (codes "-")) (bytes_of_digits hex) (digits_bytes hex))) tt))
memory_piece (o ∷ hex ∷ x ∷ xs) = tt

register_piece : (rest : List (List ℕ)) → SaysPiece (register_said rest)
register_piece [] = tt
register_piece (n ∷ []) = tt
register_piece (n ∷ a ∷ []) = tt
register_piece (n ∷ a ∷ v ∷ []) = then_piece (place_said n a) _ (λ place _. then_piece (number_said v) _ (λ value _. tt))
register_piece (n ∷ a ∷ v ∷ x ∷ xs) = tt

queue_piece : (rest : List (List ℕ)) → SaysPiece (queue_said rest)
queue_piece [] = tt
queue_piece (n ∷ []) = tt
queue_piece (n ∷ a ∷ vs) = then_piece (place_said n a) _ (λ place _. then_piece (numbers_said vs) _ (λ values _. tt))

counter_piece : (rest : List (List ℕ)) → SaysPiece (counter_said rest)
counter_piece [] = tt
counter_piece (n ∷ []) = tt
counter_piece (n ∷ a ∷ []) = tt
counter_piece (n ∷ a ∷ v ∷ []) = tt
counter_piece (n ∷ a ∷ v ∷ d ∷ []) = then_piece (place_said n a) _ (λ place _. then_piece (number_said v) _ (λ first _. then_piece (number_said d) _ (λ step _. tt)))
counter_piece (n ∷ a ∷ v ∷ d ∷ x ∷ xs) = tt

collector_piece : (rest : List (List ℕ)) → SaysPiece (collector_said rest)
collector_piece [] = tt
collector_piece (n ∷ []) = tt
collector_piece (n ∷ a ∷ []) = tt
collector_piece (n ∷ a ∷ k ∷ []) = then_piece (place_said n a) _ (λ place _. then_piece (number_said k) _ (λ left _. tt))
collector_piece (n ∷ a ∷ k ∷ x ∷ xs) = tt

foreign_piece : (rest : List (List ℕ)) → SaysPiece (foreign_said rest)
foreign_piece [] = tt
foreign_piece (word ∷ []) = tt
foreign_piece (word ∷ kind ∷ rest) = then_piece (name_said word) _ (λ name _. then_piece (effect_said kind rest) _ (λ effect _. tt))

said_piece : (ws : List (List ℕ)) → SaysPiece (said ws)
said_piece [] = tt
said_piece (first ∷ rest) =
    either_piece (is_comment first) _ _ tt
    (either_piece (bytes_eq first (codes "memory")) _ _ (memory_piece rest)
    (either_piece (bytes_eq first (codes "register")) _ _ (register_piece rest)
    (either_piece (bytes_eq first (codes "queue")) _ _ (queue_piece rest)
    (either_piece (bytes_eq first (codes "counter")) _ _ (counter_piece rest)
    (either_piece (bytes_eq first (codes "collector")) _ _ (collector_piece rest)
    (either_piece (bytes_eq first (codes "foreign")) _ _ (foreign_piece rest) tt))))))

-- ---- scripts

pieces_push : (pieces : List Piece) (p : Piece) → AreBytes pieces → IsBytes p.bytes → AreBytes (pieces ++ p ∷ [])
pieces_push [] p all h = (h, tt)
pieces_push (q ∷ pieces) p all h = (all.0, pieces_push pieces p all.1 h)

abbrev KeepsBytes : {E : Type 0} → Result Content E → Type 0
KeepsBytes (Ok s) = AreBytes s.pieces
KeepsBytes (Err e) = Unit {0}

rule_keeps : (t : Bool) (s : Content) (r : Rule) → AreBytes s.pieces → KeepsBytes {E = Cause} (if t then Err cause.Twice else Ok (record s { rules = s.rules ++ r ∷ [] }))
rule_keeps true s r all = tt
rule_keeps false s r all = all

line_keeps : (s : Content) (r : Result Line Cause) → AreBytes s.pieces → SaysPiece r → KeepsBytes (with_line s r)
line_keeps s (Ok line.Silence) all h = all
line_keeps s (Ok (line.Piece p)) all h = pieces_push s.pieces p all h
line_keeps s (Ok (line.Rule r)) all h = rule_keeps (is_taken s.rules r) s r all
line_keeps s (Err c) all h = tt

refused_keeps : (n : ℕ) (r : Result Content Cause) (more : Content → Result Content Refusal) → KeepsBytes r → ((s : Content) → AreBytes s.pieces → KeepsBytes (more s)) → KeepsBytes (or_refused n r more)
refused_keeps n (Ok s) more all h = h s all
refused_keeps n (Err c) more all h = tt

lines_keep : (n : ℕ) (s : Content) (ls : List (List ℕ)) → AreBytes s.pieces → KeepsBytes (with_lines n s ls)
lines_keep n s [] all = all
lines_keep n s (l ∷ ls) all = refused_keeps n (with_line s (said (words l))) (λ t. with_lines (n + 1) t ls) (line_keeps s (said (words l)) all (said_piece (words l))) (λ t h. lines_keep (n + 1) t ls h)

pub lawful_memory : RowsOfBytes → (file : List ℕ) (script : Content) (local : ℕ) → script_of_file file ≡ Ok script → local % 8 ≡ 0 → local ≤ 67108864 → IsLawfulMemory (filled script.pieces local)
lawful_memory rows file script local is whole most =
    let all : AreBytes script.pieces = subst KeepsBytes is (lines_keep 1 (record { pieces = []; rules = [] }) (lines file) tt) in
    let same : length (filled script.pieces local) ≡ local = fold_length script.pieces (replicate local 0) ∙ length-replicate {A = ℕ} local 0 in
    record {
      whole = ap (λ n. n % 8) same ∙ whole;
      most = omega (arith, same, most);
      bytes = fold_bytes rows script.pieces (replicate local 0) all (bytes_zero local);
    }
