-- The text of tokens that follow one another.
use Rattle.std.proofs.Common.{◌≡◌, List, [], ◌∷◌, ◌++◌, append_assoc}
use Rattle.std.proofs.lemmas.List.{append-nil}
use Rattle.std.proofs.lemmas.List.Concat.{flat_map-append}
use Rattle.pan_printer.specs.Pieces.{Piece, piece_text, text_of}

pub text_append : (ps qs : List Piece) → text_of (ps ++ qs) ≡ text_of ps ++ text_of qs
text_append ps qs = flat_map-append piece_text ps qs

pub ruleset text_rules = (text_append, append_assoc, append-nil)
