-- The local memory that a script fills is lawful.
use Rattle.std.proofs.Common.{◌≡◌, ℕ, ◌+◌, ◌%◌, ◌≤◌, List, [], ◌∷◌, ◌++◌, length, take, drop, fold, refl, sym, ap, ◌∙◌, subst, arith, length-append, length-drop}
use Rattle.std.proofs.lemmas.List.{length-take-le, length-take, length-replicate}
use Rattle.pan_base.specs.Words.{IsBytes}
use Rattle.pan_base.specs.Lawful.{IsLawfulMemory}
use Rattle.command_words.specs.Words.{IsSize}
use Rattle.device_script.specs.Memory.{overwritten, filled}
use Rattle.device_script.specs.declared.line.Piece.{Piece}

overwritten_length : (memory : List ℕ) (offset : ℕ) (bytes : List ℕ) → length (overwritten memory offset bytes) ≡ length memory
overwritten_length memory offset bytes =
    let rest = drop (offset + length bytes) memory in
    let whole = length-append (take offset memory ++ bytes) rest in
    let front = length-append (take offset memory) bytes in
    let first = length-take offset memory in
    let last = length-drop (offset + length bytes) memory in
    length-take-le (length memory) (take offset memory ++ bytes ++ rest) (omega (arith, whole, front, first, last))

fold_length : (pieces : List Piece) (memory : List ℕ) → length (fold (λ memory piece. overwritten memory piece.offset piece.bytes) memory pieces) ≡ length memory
fold_length [] memory = refl
fold_length (p ∷ pieces) memory = fold_length pieces (overwritten memory p.offset p.bytes) ∙ overwritten_length memory p.offset p.bytes

filled_length : (pieces : List Piece) (n : ℕ) → length (filled pieces n) ≡ n
filled_length pieces n = fold_length pieces _ ∙ length-replicate n 0

pub lawful_filled : (pieces : List Piece) (n : ℕ) (memory : List ℕ) → IsSize 8 n → memory ≡ filled pieces n → IsBytes memory → IsLawfulMemory memory
lawful_filled pieces n memory size is bytes =
    let len : length memory ≡ n = ap length is ∙ filled_length pieces n in
    record { whole = subst (λ k. k % 8 ≡ 0) (sym len) size.whole; most = subst (λ k. k ≤ 67108864) (sym len) size.most; bytes = bytes }
