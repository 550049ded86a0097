-- The bytes that a script puts into memory.
use Rattle.std.specs.Prelude.{ℕ, ◌+◌, List, ◌++◌, length, take, drop, fold, replicate}
use Rattle.device_script.specs.declared.line.Piece.{Piece}

-- the bytes stand from the offset on, and what of them goes past the end is dropped
abbrev pub overwritten : List ℕ → ℕ → List ℕ → List ℕ
overwritten memory offset bytes = take (length memory) (take offset memory ++ bytes ++ drop (offset + length bytes) memory)

-- a memory of this length: zeros, and then the pieces in order
abbrev pub filled : List Piece → ℕ → List ℕ
filled pieces length = fold (λ memory piece. overwritten memory piece.offset piece.bytes) (replicate length 0) pieces
