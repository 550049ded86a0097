-- What the code finds at a text's beginning, as contracts see it.
use Rattle.std.specs.Prelude.{List, [], ◌∷◌, Option, Some, None}
use Rattle.pan_base.specs.Tokens.{Kind, Placed, kind_of}
use Rattle.pan_base.specs.declared.span.Span.{Span}
use Rattle.pan_lexer.specs.declared.pieces.Piece.{Piece}
use Rattle.pan_lexer.specs.declared.pieces.Piece.TheVariants as piece

-- the token, or nothing for a gap
abbrev pub kind_in : Piece → Option Kind
kind_in piece.Gap = None
kind_in (piece.Token kind) = Some (kind_of kind)

-- the token at this place, or none for a gap
abbrev pub tokens_in : Option Kind → Span → List Placed
tokens_in None span = []
tokens_in (Some k) span = record { kind = k; span = span } ∷ []
