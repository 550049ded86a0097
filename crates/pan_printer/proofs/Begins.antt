-- Rows of tokens that begin with printed ones.
use Rattle.std.proofs.Common.{◌≡◌, List, [], ◌∷◌, ◌++◌}
use Rattle.pan_base.specs.Tokens.{Placed}
use Rattle.pan_printer.specs.Pieces.{Piece}

-- the tokens before a tail are those that are printed
pub data Begins : List Piece → List Placed → List Placed → Type 0 where
  done : (c : List Placed) → Begins [] c c
  next : (p : Piece) (t : Placed) (ps : List Piece) (a c : List Placed) → t.kind ≡ p.kind → Begins ps a c → Begins (p ∷ ps) (t ∷ a) c

-- tokens that are printed one behind the other
pub record Splits (ps qs : List Piece) (a c : List Placed) : Type 0 where
  pub middle : List Placed
  pub front : Begins ps a middle
  pub back : Begins qs middle c

pub split : (ps qs : List Piece) (a c : List Placed) → Begins (ps ++ qs) a c → Splits ps qs a c
split [] qs a c h = record { middle = a; front = done a; back = h }
split (p ∷ ps) qs _ c (next _ t _ a _ is h) =
    let s = split ps qs a c h in
    record { middle = s.middle; front = next p t ps a s.middle is s.front; back = s.back }
