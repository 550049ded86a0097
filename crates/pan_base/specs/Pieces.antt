-- The text of a part of a line, and what becomes of it.
use Rattle.std.specs.Prelude.{◌≡◌, ℕ, List, ◌++◌, Result, Ok, Err}
use Rattle.pan_base.specs.declared.trace.Piece.{Piece}
use Rattle.pan_base.specs.declared.trace.Piece.TheVariants.{Text, Bits, Word, Buffer}
use Rattle.pan_base.specs.Sinks.{SinkState, Took, TookFront}
use Rattle.pan_base.specs.Tokens.{bits_text}
use Rattle.pan_base.specs.Trace.{buffer_text, word_text}

abbrev pub piece_text : Piece → List ℕ
piece_text (Text text) = text.now
piece_text (Bits size) = bits_text size
piece_text (Word word) = word_text word
piece_text (Buffer bytes) = buffer_text bytes.now

-- These bytes come after those that were held back: a front of all is put, and the others are held back.
pub record PassedOn (old new : SinkState) (held kept bs : List ℕ) : Type 0 where
  pub put : List ℕ
  pub all : held ++ bs ≡ put ++ kept
  pub took : Took old new put

-- and where it fails, a front of all is put
abbrev pub Passes : {A E : Type 0} → SinkState → SinkState → Result A E → List ℕ → List ℕ → List ℕ → Type 0
Passes old new (Ok x) held kept bs = PassedOn old new held kept bs
Passes old new (Err e) held kept bs = TookFront old new (held ++ bs)
