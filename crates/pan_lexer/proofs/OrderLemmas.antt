-- Tokens that stand in order, each spelled somehow.
use Rattle.std.proofs.Common.{◌≡◌, ℕ, zero, suc, ◌<◌, ◌≤◌, List, [], ◌∷◌, length, get_or, subst, arith}
use Rattle.std.specs.Prelude.{map}
use Rattle.std.specs.List.{All}
use Rattle.std.proofs.Math.ListN.{get_or-map}
use Rattle.pan_base.specs.Tokens.{Placed, placed, kind_of}
use Rattle.pan_base.specs.declared.tokens.Token.{Token}
use Rattle.pan_lexer.specs.TokenRow.{IsInOrder, IsSpelled}

order_below : (from end : ℕ) (ts : List Placed) → IsInOrder from ts end → from ≤ end
order_below from end [] order = order
order_below from end (t ∷ ts) order = omega (arith, order.0, order.1, order_below t.span.end end ts order.2)

-- a token isn't empty, and stands before the end
pub within_order : (from end i : ℕ) (ts : List Token) (d : Token) → i < length (map placed ts) → IsInOrder from (map placed ts) end
    → ((get_or ts i d).span.start < (get_or ts i d).span.end) × ((get_or ts i d).span.end ≤ end)
within_order from end i [] d below order = absurd (omega arith)
within_order from end zero (t ∷ ts) d below order = (order.1, order_below t.span.end end (map placed ts) order.2)
within_order from end (suc i) (t ∷ ts) d below order = within_order t.span.end end i ts d (omega arith) order.2

pub spelled_at : (i : ℕ) (ts : List Token) (d : Token) → i < length (map placed ts) → All (λ t. IsSpelled t.kind) (map placed ts) → IsSpelled (kind_of (get_or ts i d).kind)
spelled_at i ts d below all =
    let same : get_or (map placed ts) i (placed d) ≡ placed (get_or ts i d) = get_or-map placed ts i d in
    subst (λ t. IsSpelled t.kind) same (all i (placed d) below)
