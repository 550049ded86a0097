-- A text has one row of tokens at most, and is stuck at one place at most.
use Rattle.std.proofs.Common.{◌≡◌, ℕ, zero, suc, ◌+◌, ◌-◌, ◌<◌, ◌≤◌, true, false, ◌==◌, List, [], ◌∷◌, ◌++◌, length, Option, Some, None, sym, ap, ◌∙◌, subst, refl, inl, inr, arith, length-append}
use Rattle.std.specs.Prelude.{◌⊎◌}
use Rattle.std.specs.List.{All}
use Rattle.std.proofs.lemmas.List.Elements.{All-nil, All-cons}
use Rattle.std.proofs.lemmas.Bool.Decides.{Decides-eqb}
use Rattle.pan_base.specs.declared.span.Span.{Span}
use Rattle.pan_base.specs.Tokens.{Kind, Placed, Spells, IsLongest}
use Rattle.pan_base.specs.Lexing.{IsGap, Row, Here, Gap, Next, Lexes, IsStuck, IsStuckAt}
use Rattle.pan_lexer.specs.Found.{tokens_in}
use Rattle.pan_lexer.specs.Pieces.{piece_of, after_gap, token_of}
use Rattle.pan_lexer.specs.Laws.{OneRow, NoRowWhereStuck, OneStuckPlace, RowOrStuck}
use Rattle.pan_lexer.specs.TokenRow.{IsInOrder, IsSpelled}
use Rattle.pan_lexer.proofs.TestLemmas.{different, none_or_some}
use Rattle.pan_lexer.proofs.PieceLemmas.{PieceAt, piece_found, piece_given, piece_shorter, token_length}

-- the place of what stands before this text
abbrev pub span_before : ℕ → List ℕ → List ℕ → Span
span_before at bytes more = record { start = at; end = at + (length bytes - length more) }

-- a row goes on with this piece
pub record GoesOn (at : ℕ) (piece : Option Kind) (bytes more : List ℕ) (tokens : List Placed) (rest : List ℕ) : Type 0 where
  pub others : List Placed
  pub all : tokens ≡ tokens_in piece (span_before at bytes more) ++ others
  pub row : Row (at + (length bytes - length more)) more others rest

taken : (bytes text more : List ℕ) → bytes ≡ text ++ more → length bytes - length more ≡ length text
taken bytes text more all = omega (arith, ap length all, length-append text more)

goes_on_gap : (at : ℕ) (bytes text more rest : List ℕ) (tokens : List Placed) → bytes ≡ text ++ more → Row (at + length text) more tokens rest → GoesOn at None bytes more tokens rest
goes_on_gap at bytes text more rest tokens all row = record {
  others = tokens;
  all = refl;
  row = subst (λ n. Row (at + n) more tokens rest) (sym (taken bytes text more all)) row;
}

goes_on_token : (at : ℕ) (bytes text more rest : List ℕ) (kind : Kind) (tokens : List Placed) → bytes ≡ text ++ more → Row (at + length text) more tokens rest
    → GoesOn at (Some kind) bytes more (record { kind = kind; span = record { start = at; end = at + length text } } ∷ tokens) rest
goes_on_token at bytes text more rest kind tokens all row = record {
  others = tokens;
  all = ap (λ n. record { kind = kind; span = record { start = at; end = at + n } } ∷ tokens) (sym (taken bytes text more all));
  row = subst (λ n. Row (at + n) more tokens rest) (sym (taken bytes text more all)) row;
}

same_piece : (bytes more rest : List ℕ) (k l : Option Kind) → piece_of bytes ≡ Some (k, more) → piece_of bytes ≡ Some (l, rest) → (k ≡ l) × (more ≡ rest)
same_piece bytes more rest k l one other =
    let same : ◌≡◌ {A = Option (Option Kind × List ℕ)} (Some (k, more)) (Some (l, rest)) = sym one ∙ other in
    let pair : ◌≡◌ {A = Option Kind × List ℕ} (k, more) (l, rest) = cc in
    (ap (λ (p : Option Kind × List ℕ). p.0) pair, ap (λ (p : Option Kind × List ℕ). p.1) pair)

gap_piece : (bytes text more : List ℕ) → bytes ≡ text ++ more → IsGap text more → piece_of bytes ≡ Some (None, more)
gap_piece bytes text more all gap = piece_given bytes None more (record { text = text; all = all; gap = gap })

token_piece : (bytes text more : List ℕ) (kind : Kind) → bytes ≡ text ++ more → Spells text kind → IsLongest kind more → piece_of bytes ≡ Some (Some kind, more)
token_piece bytes text more kind all spelled longest = piece_given bytes (Some kind) more (record { text = text; all = all; spelled = spelled; longest = longest })

same_goes : (at : ℕ) (bytes more after rest : List ℕ) (k l : Option Kind) (tokens : List Placed) → (k ≡ l) × (more ≡ after) → GoesOn at k bytes more tokens rest → GoesOn at l bytes after tokens rest
same_goes at bytes more after rest k l tokens same goes =
    subst (λ k. GoesOn at k bytes after tokens rest) same.0 (subst (λ more. GoesOn at k bytes more tokens rest) same.1 goes)

-- every row of a text that begins with the piece, and ends where nothing goes on, goes on with it
goes : (at : ℕ) (bytes more rest : List ℕ) (piece : Option Kind) (tokens : List Placed) → piece_of bytes ≡ Some (piece, more) → Row at bytes tokens rest → piece_of rest ≡ None → GoesOn at piece bytes more tokens rest
goes at bytes more rest piece tokens is (Here _ _) ended = absurd (different (sym ended ∙ is))
goes at bytes more rest piece tokens is (Gap _ _ text after _ _ all gap row) ended =
    same_goes at bytes after more rest None piece tokens (same_piece bytes after more None piece (gap_piece bytes text after all gap) is) (goes_on_gap at bytes text after rest tokens all row)
goes at bytes more rest piece _ is (Next _ _ text after _ kind tokens all spelled longest row) ended =
    same_goes at bytes after more rest (Some kind) piece (record { kind = kind; span = record { start = at; end = at + length text } } ∷ tokens)
    (same_piece bytes after more (Some kind) piece (token_piece bytes text after kind all spelled longest) is) (goes_on_token at bytes text after rest kind tokens all row)

no_row_more : (at : ℕ) (bytes rest : List ℕ) (tokens : List Placed) → piece_of bytes ≡ None → Row at bytes tokens rest → (tokens ≡ []) × (bytes ≡ rest)
no_row_more at bytes rest tokens none (Here _ _) = (refl, refl)
no_row_more at bytes rest tokens none (Gap _ _ text more _ _ all gap row) = absurd (different (sym none ∙ gap_piece bytes text more all gap))
no_row_more at bytes rest _ none (Next _ _ text more _ kind tokens all spelled longest row) = absurd (different (sym none ∙ token_piece bytes text more kind all spelled longest))

-- rows of one text that end where nothing goes on are one row
pub same_row : (at : ℕ) (bytes : List ℕ) (a b : List Placed) (rest other : List ℕ) → Row at bytes a rest → piece_of rest ≡ None → Row at bytes b other → piece_of other ≡ None → (a ≡ b) × (rest ≡ other)
same_row at bytes a b rest other (Here _ _) ended row stops =
    let r = no_row_more at bytes other b ended row in (sym r.0, r.1)
same_row at bytes a b rest other (Gap _ _ text more _ _ all gap one) ended row stops =
    let g = goes at bytes more other None b (gap_piece bytes text more all gap) row stops in
    let same = same_row (at + length text) more a g.others rest other one ended (subst (λ n. Row (at + n) more g.others other) (taken bytes text more all) g.row) stops in
    (same.0 ∙ sym g.all, same.1)
same_row at bytes _ b rest other (Next _ _ text more _ kind tokens all spelled longest one) ended row stops =
    let g = goes at bytes more other (Some kind) b (token_piece bytes text more kind all spelled longest) row stops in
    let same = same_row (at + length text) more tokens g.others rest other one ended (subst (λ n. Row (at + n) more g.others other) (taken bytes text more all) g.row) stops in
    let first : record { kind = kind; span = record { start = at; end = at + length text } } ∷ tokens ≡ tokens_in (Some kind) (span_before at bytes more) ++ g.others =
    ap (λ n. record { kind = kind; span = record { start = at; end = at + n } } ∷ tokens) (sym (taken bytes text more all))
    ∙ ap (λ ts. record { kind = kind; span = record { start = at; end = at + (length bytes - length more) } } ∷ ts) same.0 in
    (first ∙ sym g.all, same.1)

-- ---- where nothing goes on

pub end_piece : piece_of [] ≡ None
unfolding piece_of after_gap token_of
end_piece = refl

pub stuck_piece : (rest : List ℕ) → IsStuck rest → piece_of rest ≡ None
stuck_piece rest stuck =
    none_or_some (piece_of rest ≡ None) (piece_of rest)
    (λ none. none)
    (λ p is. absurd (goes_nowhere rest stuck p.0 p.1 (piece_found rest p is)))
  where
    goes_nowhere : (rest : List ℕ) → IsStuck rest → (k : Option Kind) (more : List ℕ) → PieceAt rest k more → ⊥
    goes_nowhere rest stuck None more at = stuck.no_gap at.text more at.all at.gap
    goes_nowhere rest stuck (Some k) more at = stuck.no_token at.text more k at.all at.spelled at.longest

pub none_stuck : (rest : List ℕ) → ¬ (rest ≡ []) → piece_of rest ≡ None → IsStuck rest
none_stuck rest some none = record {
  there = some;
  no_gap = λ text more all gap. different (sym none ∙ gap_piece rest text more all gap);
  no_token = λ text more kind all spelled longest. different (sym none ∙ token_piece rest text more kind all spelled longest);
}

-- ---- rows that are put together

pub row_within : (at : ℕ) (bytes rest : List ℕ) (tokens : List Placed) → Row at bytes tokens rest → length rest ≤ length bytes
row_within at bytes rest tokens (Here _ _) = omega arith
row_within at bytes rest tokens (Gap _ _ text more _ _ all gap row) =
    omega (arith, row_within (at + length text) more rest tokens row, ap length all, length-append text more)
row_within at bytes rest _ (Next _ _ text more _ kind tokens all spelled longest row) =
    omega (arith, row_within (at + length text) more rest tokens row, ap length all, length-append text more)

same_place : (at : ℕ) (bytes text more middle : List ℕ) → bytes ≡ text ++ more → length middle ≤ length more → at + (length bytes - length middle) ≡ at + length text + (length more - length middle)
same_place at bytes text more middle all within = omega (arith, ap length all, length-append text more)

-- one row, and another from where it ends
pub row_append : (at : ℕ) (bytes middle rest : List ℕ) (ts us : List Placed) → Row at bytes ts middle → Row (at + (length bytes - length middle)) middle us rest → Row at bytes (ts ++ us) rest
row_append at bytes middle rest ts us (Here _ _) other =
    let same : at + (length bytes - length middle) ≡ at = omega arith in
    subst (λ n. Row n bytes us rest) same other
row_append at bytes middle rest ts us (Gap _ _ text more _ _ all gap row) other =
    let within = row_within (at + length text) more middle ts row in
    Gap at bytes text more rest (ts ++ us) all gap
    (row_append (at + length text) more middle rest ts us row (subst (λ n. Row n middle us rest) (same_place at bytes text more middle all within) other))
row_append at bytes middle rest _ us (Next _ _ text more _ kind ts all spelled longest row) other =
    let within = row_within (at + length text) more middle ts row in
    Next at bytes text more rest kind (ts ++ us) all spelled longest
    (row_append (at + length text) more middle rest ts us row (subst (λ n. Row n middle us rest) (same_place at bytes text more middle all within) other))

-- a row of one piece
row_piece : (at : ℕ) (bytes more : List ℕ) (k : Option Kind) → PieceAt bytes k more → Row at bytes (tokens_in k (span_before at bytes more)) more
row_piece at bytes more None piece = Gap at bytes piece.text more more [] piece.all piece.gap (Here (at + length piece.text) more)
row_piece at bytes more (Some k) piece =
    subst (λ n. Row at bytes (record { kind = k; span = record { start = at; end = at + n } } ∷ []) more) (sym (taken bytes piece.text more piece.all))
    (Next at bytes piece.text more more k [] piece.all piece.spelled piece.longest (Here (at + length piece.text) more))

-- one piece more at the end of a row
pub row_more : (bytes rest more : List ℕ) (tokens : List Placed) (k : Option Kind) → Row 0 bytes tokens rest → piece_of rest ≡ Some (k, more)
    → Row 0 bytes (tokens ++ tokens_in k (record { start = length bytes - length rest; end = length bytes - length more })) more
row_more bytes rest more tokens k row is =
    let piece : PieceAt rest k more = piece_found rest (k, more) is in
    let within : length rest ≤ length bytes = row_within 0 bytes rest tokens row in
    let shorter : length more < length rest = piece_shorter rest k more piece in
    let start : 0 + (length bytes - length rest) ≡ length bytes - length rest = omega arith in
    let end : length bytes - length rest + (length rest - length more) ≡ length bytes - length more = omega arith in
    let new : List Placed = tokens_in k (record { start = length bytes - length rest; end = length bytes - length more }) in
    let one : Row (length bytes - length rest) rest new more =
    subst (λ n. Row (length bytes - length rest) rest (tokens_in k (record { start = length bytes - length rest; end = n })) more) end
    (row_piece (length bytes - length rest) rest more k piece) in
    row_append 0 bytes rest more tokens new row (subst (λ n. Row n rest new more) (sym start) one)

-- ---- places

in_order_from : (from at end : ℕ) (tokens : List Placed) → from ≤ at → IsInOrder at tokens end → IsInOrder from tokens end
in_order_from from at end [] below order = omega arith
in_order_from from at end (t ∷ ts) below order = let start : from ≤ t.span.start = omega (arith, order.0) in (start, order.1, order.2)

-- the tokens of a row stand in order within the text
pub row_in_order : (at : ℕ) (bytes rest : List ℕ) (tokens : List Placed) → Row at bytes tokens rest → IsInOrder at tokens (at + length bytes)
row_in_order at bytes rest tokens (Here _ _) = omega arith
row_in_order at bytes rest tokens (Gap _ _ text more _ _ all gap row) =
    let end : at + length text + length more ≡ at + length bytes = omega (arith, ap length all, length-append text more) in
    let below : at ≤ at + length text = omega arith in
    subst (λ n. IsInOrder at tokens n) end (in_order_from at (at + length text) (at + length text + length more) tokens below (row_in_order (at + length text) more rest tokens row))
row_in_order at bytes rest _ (Next _ _ text more _ kind tokens all spelled longest row) =
    let end : at + length text + length more ≡ at + length bytes = omega (arith, ap length all, length-append text more) in
    let start : at ≤ at = omega arith in
    let some : at < at + length text = omega (arith, token_length kind text spelled) in
    (start, some, subst (λ n. IsInOrder (at + length text) tokens n) end (row_in_order (at + length text) more rest tokens row))

-- ---- the laws

pub one_row : OneRow
one_row bytes a b one other = (same_row 0 bytes a b [] [] one end_piece other end_piece).0

pub one_stuck_place : OneStuckPlace
one_stuck_place bytes rest other p q one two =
    let same : rest ≡ other = (same_row 0 bytes one.tokens two.tokens rest other one.row (stuck_piece rest one.stuck) two.row (stuck_piece other two.stuck)).1 in
    let place : p ≡ q = omega (arith, one.at, two.at, ap length same) in
    (place, same)

pub no_row_where_stuck : NoRowWhereStuck
no_row_where_stuck bytes rest place tokens stuck row =
    let same : rest ≡ [] = (same_row 0 bytes stuck.tokens tokens rest [] stuck.row (stuck_piece rest stuck.stuck) row end_piece).1 in
    stuck.stuck.there same

-- the row up to where nothing goes on
record Whole (at : ℕ) (bytes : List ℕ) : Type 0 where
  tokens : List Placed
  rest : List ℕ
  row : Row at bytes tokens rest
  ended : piece_of rest ≡ None

whole : (n at : ℕ) (bytes : List ℕ) → length bytes ≤ n → Whole at bytes
whole zero at bytes small =
    none_or_some (Whole at bytes) (piece_of bytes)
    (λ none. record { tokens = []; rest = bytes; row = Here at bytes; ended = none })
    (λ p is. absurd (omega (arith, small, piece_shorter bytes p.0 p.1 (piece_found bytes p is))))
whole (suc n) at bytes small =
    none_or_some (Whole at bytes) (piece_of bytes)
    (λ none. record { tokens = []; rest = bytes; row = Here at bytes; ended = none })
    (λ p is.
    let piece : PieceAt bytes p.0 p.1 = piece_found bytes p is in
    let shorter : length p.1 < length bytes = piece_shorter bytes p.0 p.1 piece in
    let more = whole n (at + (length bytes - length p.1)) p.1 (omega arith) in
    record {
      tokens = tokens_in p.0 (span_before at bytes p.1) ++ more.tokens;
      rest = more.rest;
      row = row_append at bytes p.1 more.rest (tokens_in p.0 (span_before at bytes p.1)) more.tokens (row_piece at bytes p.1 p.0 piece) more.row;
      ended = more.ended;
    })

pub stuck_at : (bytes rest : List ℕ) (tokens : List Placed) → Row 0 bytes tokens rest → piece_of rest ≡ None → ¬ (rest ≡ []) → IsStuckAt bytes (length bytes - length rest) rest
stuck_at bytes rest tokens row ended some = record {
  tokens = tokens;
  row = row;
  at = omega (arith, row_within 0 bytes rest tokens row);
  stuck = none_stuck rest some ended;
}

pub row_or_stuck : RowOrStuck
row_or_stuck bytes = by_rest w.rest w.tokens w.row w.ended
  where
    w : Whole 0 bytes
    w = whole (length bytes) 0 bytes (omega arith)

    by_rest : (rest : List ℕ) (tokens : List Placed) → Row 0 bytes tokens rest → piece_of rest ≡ None → ((tokens : List Placed) × Lexes bytes tokens) ⊎ ((place : ℕ) × (rest : List ℕ) × IsStuckAt bytes place rest)
    by_rest [] tokens row ended = inl (tokens, row)
    by_rest (b ∷ bs) tokens row ended = inr (length bytes - length (b ∷ bs), b ∷ bs, stuck_at bytes (b ∷ bs) tokens row ended (λ e. let no_end : b ∷ bs ≡ [] = e in cc))

-- ---- the loop

-- the tokens so far, and what is left
pub record ScannedSo (bytes rest : List ℕ) (tokens : List Placed) : Type 0 where
  pub row : Row 0 bytes tokens rest
  pub within : length rest ≤ length bytes

pub scanned_none : (bytes : List ℕ) → ScannedSo bytes bytes []
scanned_none bytes = record { row = Here 0 bytes; within = omega arith }

pub scanned_more : (bytes rest more : List ℕ) (tokens : List Placed) (k : Option Kind) → piece_of rest ≡ Some (k, more) → ScannedSo bytes rest tokens
    → ScannedSo bytes more (tokens ++ tokens_in k (record { start = length bytes - length rest; end = length bytes - length more }))
scanned_more bytes rest more tokens k is so = record {
  row = row_more bytes rest more tokens k so.row is;
  within = omega (arith, so.within, piece_shorter rest k more (piece_found rest (k, more) is));
}

pub scanned_shorter : (rest more : List ℕ) (k : Option Kind) → piece_of rest ≡ Some (k, more) → length more < length rest
scanned_shorter rest more k is = piece_shorter rest k more (piece_found rest (k, more) is)

is_empty_text : (bytes : List ℕ) → true ≡ (length bytes == 0) → bytes ≡ []
is_empty_text [] is = refl
is_empty_text (b ∷ bs) is = let none : suc (length bs) ≡ 0 = (Decides-eqb (length (b ∷ bs)) 0).0 (sym is) in absurd (omega arith)

no_empty_text : (bytes : List ℕ) → false ≡ (length bytes == 0) → ¬ (bytes ≡ [])
no_empty_text bytes is none = let never : false ≡ true = is ∙ ap (λ (bytes : List ℕ). length bytes == 0) none in cc

pub scanned_all : (bytes rest : List ℕ) (tokens : List Placed) → true ≡ (length rest == 0) → ScannedSo bytes rest tokens → Lexes bytes tokens
scanned_all bytes rest tokens none so = subst (λ rest. Row 0 bytes tokens rest) (is_empty_text rest none) so.row

pub scanned_stuck : (bytes rest : List ℕ) (tokens : List Placed) → false ≡ (length rest == 0) → piece_of rest ≡ None → ScannedSo bytes rest tokens → IsStuckAt bytes (length bytes - length rest) rest
scanned_stuck bytes rest tokens some none so = stuck_at bytes rest tokens so.row none (no_empty_text rest some)

-- the tokens of a row are spelled somehow
pub row_spelled : (at : ℕ) (bytes rest : List ℕ) (tokens : List Placed) → Row at bytes tokens rest → All (λ t. IsSpelled t.kind) tokens
row_spelled at bytes rest tokens (Here _ _) = All-nil (λ t. IsSpelled t.kind)
row_spelled at bytes rest tokens (Gap _ _ text more _ _ all gap row) = row_spelled (at + length text) more rest tokens row
row_spelled at bytes rest _ (Next _ _ text more _ kind tokens all spelled longest row) = All-cons (λ t. IsSpelled t.kind) _ tokens (text, spelled) (row_spelled (at + length text) more rest tokens row)
