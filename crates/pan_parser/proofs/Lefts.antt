-- What is left of a row of tokens, and the places that it gives.
use Rattle.std.proofs.Common.{◌≡◌, ℕ, ◌+◌, ◌-◌, ◌<◌, ◌≤◌, [], ◌∷◌, length, get_or, drop, Some, sym, ap, ◌∙◌, arith, length-drop}
use Rattle.std.specs.Prelude.{slice_get}
use Rattle.std.specs.Option.{option_map_or}
use Rattle.std.proofs.lemmas.List.{drop_more, drop_all, get_or-drop}
use Rattle.std.proofs.lemmas.Option.{get_or_from_slice_get, slice_get-get_or}
use Rattle.pan_base.specs.declared.span.Span.{Span}
use Rattle.pan_base.specs.Tokens.{Placed}
use Rattle.pan_lexer.specs.TokenRow.{TokenRow, IsSpelled}
use Rattle.pan_tree.specs.Nodes.{start_of, end_before, between}
use Rattle.pan_parser.specs.Reading.{left, Comes}

pub comes : (row : TokenRow) (at : ℕ) (t : Placed) → slice_get row.tokens at ≡ Some t → at < length row.tokens → IsSpelled t.kind → Comes row at (at + 1) t
unfolding left
comes row at t get within spelled =
    let same : get_or row.tokens at t ≡ t = get_or_from_slice_get row.tokens at t t get in
    record {
      all = drop_more row.tokens at t within ∙ ap (λ t. t ∷ drop (at + 1) row.tokens) same;
      ahead = omega arith;
      within = omega arith;
      spelled = spelled;
    }

pub none_left : (row : TokenRow) (at : ℕ) → length row.tokens ≤ at → left row at ≡ []
unfolding left
none_left row at past = drop_all at row.tokens past

length_left : (row : TokenRow) (at : ℕ) → length (left row at) ≡ length row.tokens - at
unfolding left
length_left row at = length-drop at row.tokens

starts : (row : TokenRow) (at : ℕ) (t : Placed) → slice_get row.tokens at ≡ Some t → at < length row.tokens → start_of (left row at) ≡ t.span.start
unfolding left
starts row at t get within =
    let same : get_or row.tokens at t ≡ t = get_or_from_slice_get row.tokens at t t get in
    ap start_of (drop_more row.tokens at t within) ∙ ap (λ t. t.span.start) same

ends : (row : TokenRow) (from to : ℕ) (t : Placed) → from < to → to ≤ length row.tokens → slice_get row.tokens (to - 1) ≡ Some t → end_before (left row from) (left row to) ≡ t.span.end
unfolding left
ends row from to t some within get =
    let n : ℕ = length row.tokens - from - (length row.tokens - to) - 1 in
    let last : n < length (drop from row.tokens) = omega (arith, length-drop from row.tokens) in
    let there : from + n ≡ to - 1 = omega arith in
    let same : get_or (drop from row.tokens) n t ≡ t =
    get_or-drop from row.tokens n t ∙ ap (λ i. get_or row.tokens i t) there ∙ get_or_from_slice_get row.tokens (to - 1) t t get in
    ap (λ m. option_map_or (λ t. t.span.end) (slice_get (drop from row.tokens) (m - (length (drop to row.tokens)) - 1)) 0) (length-drop from row.tokens)
    ∙ ap (λ m. option_map_or (λ t. t.span.end) (slice_get (drop from row.tokens) (length row.tokens - from - m - 1)) 0) (length-drop to row.tokens)
    ∙ ap (λ o. option_map_or (λ t. t.span.end) o 0) (slice_get-get_or (drop from row.tokens) n t last ∙ ap Some same)

pub spans : (row : TokenRow) (from to : ℕ) (t u : Placed) (s : Span) → from < to → to ≤ length row.tokens
    → slice_get row.tokens from ≡ Some t → slice_get row.tokens (to - 1) ≡ Some u → s ≡ record { start = t.span.start; end = u.span.end } → s ≡ between (left row from) (left row to)
spans row from to t u s some within first last is =
    let begin : from < length row.tokens = omega arith in
    is
    ∙ ap (λ n. record { start = n; end = u.span.end }) (sym (starts row from t first begin))
    ∙ ap (λ n. record { start = start_of (left row from); end = n }) (sym (ends row from to u some within last))

pub some_left : (row : TokenRow) (at : ℕ) → at < length row.tokens → left row at ≡ [] → ⊥
some_left row at within none = absurd (omega (arith, length_left row at, ap length none))
