-- What has been read of shifts and of fields.
use Rattle.std.proofs.Common.{◌≡◌, ℕ, ◌≤◌, if◌then◌else◌, List, [], ◌∷◌, ◌++◌, length, sym, ap, ◌∙◌, subst, arith, append_assoc, append-nil}
use Rattle.pan_base.specs.declared.operators.ShOp.{ShOp}
use Rattle.pan_base.specs.declared.tokens.Sign.TheVariants as sign
use Rattle.pan_base.specs.Tokens.{Placed, Number, ASign}
use Rattle.pan_lexer.specs.TokenRow.{TokenRow}
use Rattle.pan_tree.specs.Nodes.{shift_operator}
use Rattle.pan_tree.specs.Grammar.{nesting_limit, Shifts, no_shift, next_shift, Fields, no_field, next_field}
use Rattle.pan_parser.specs.Machine.{WantNumber, MoreShifts, MoreFields, Goes, continues, is_sign, step}
use Rattle.pan_parser.specs.Reading.{left, IsOne, Means, Reads}
use Rattle.pan_parser.proofs.Ways.{Passes, on, one_read, goes}

pub record ShiftsSo (row : TokenRow) (from at : ℕ) (amounts : List (ShOp × ℕ)) : Type 0 where
  pub tree : (c : List Placed) (ns : List (ShOp × ℕ)) → Shifts (left row at) c ns → Shifts (left row from) c (amounts ++ ns)
  pub way : Passes (MoreShifts ∷ []) (left row from) (MoreShifts ∷ []) (left row at)
  pub ahead : from ≤ at
  pub within : at ≤ length row.tokens

shift_goes : (row : TokenRow) (at after : ℕ) (o : ShOp) → Means row at after shift_operator o → Passes (MoreShifts ∷ []) (left row at) (WantNumber ∷ MoreShifts ∷ []) (left row after)
shift_goes row at after o m = goes row at after m.token (MoreShifts ∷ []) (WantNumber ∷ MoreShifts ∷ []) m.comes
    (λ K. ap (λ o. continues o (WantNumber ∷ MoreShifts ∷ K) (step nesting_limit K m.token)) m.is)

pub shifts_more : (row : TokenRow) (from at b after n : ℕ) (amounts : List (ShOp × ℕ)) (o : ShOp) → ShiftsSo row from at amounts → Means row at b shift_operator o
    → IsOne row b after (Number n) → Reads (WantNumber ∷ []) (left row b) (left row after) → ShiftsSo row from after (amounts ++ (o, n) ∷ [])
shifts_more row from at b after n amounts o so m one reads = record {
  tree = λ c ns more.
      let all : left row at ≡ m.token ∷ one.token ∷ left row after = m.comes.all ∙ ap (λ a. m.token ∷ a) one.comes.all in
      subst (Shifts (left row from) c) (sym (append_assoc amounts ((o, n) ∷ []) ns))
      (so.tree c ((o, n) ∷ ns) (subst (λ a. Shifts a c ((o, n) ∷ ns)) (sym all) (next_shift m.token one.token (left row after) c o n ns m.is one.is more)));
  way = on so.way (on (shift_goes row at b o m) (one_read reads));
  ahead = omega (arith, so.ahead, m.comes.ahead, one.comes.ahead);
  within = one.comes.within;
}

pub shifts_done : (row : TokenRow) (from at : ℕ) (amounts : List (ShOp × ℕ)) → ShiftsSo row from at amounts → Shifts (left row from) (left row at) amounts
shifts_done row from at amounts so = subst (Shifts (left row from) (left row at)) (append-nil amounts) (so.tree (left row at) [] (no_shift (left row at)))

pub record FieldsSo (row : TokenRow) (from at : ℕ) (indices : List ℕ) : Type 0 where
  pub tree : (c : List Placed) (is : List ℕ) → Fields (left row at) c is → Fields (left row from) c (indices ++ is)
  pub way : Passes (MoreFields ∷ []) (left row from) (MoreFields ∷ []) (left row at)
  pub ahead : from ≤ at
  pub within : at ≤ length row.tokens

dot_goes : (row : TokenRow) (at after : ℕ) → IsOne row at after (ASign sign.Dot) → Passes (MoreFields ∷ []) (left row at) (WantNumber ∷ MoreFields ∷ []) (left row after)
dot_goes row at after dot = goes row at after dot.token (MoreFields ∷ []) (WantNumber ∷ MoreFields ∷ []) dot.comes
    (λ K. ap (λ v. if is_sign sign.Dot v then Goes (WantNumber ∷ MoreFields ∷ K) else step nesting_limit K dot.token) dot.is)

pub fields_more : (row : TokenRow) (from at b after i : ℕ) (indices : List ℕ) → FieldsSo row from at indices → IsOne row at b (ASign sign.Dot)
    → IsOne row b after (Number i) → Reads (WantNumber ∷ []) (left row b) (left row after) → FieldsSo row from after (indices ++ i ∷ [])
fields_more row from at b after i indices so dot one reads = record {
  tree = λ c is more.
      let all : left row at ≡ dot.token ∷ one.token ∷ left row after = dot.comes.all ∙ ap (λ a. dot.token ∷ a) one.comes.all in
      subst (Fields (left row from) c) (sym (append_assoc indices (i ∷ []) is))
      (so.tree c (i ∷ is) (subst (λ a. Fields a c (i ∷ is)) (sym all) (next_field dot.token one.token (left row after) c i is dot.is one.is more)));
  way = on so.way (on (dot_goes row at b dot) (one_read reads));
  ahead = omega (arith, so.ahead, dot.comes.ahead, one.comes.ahead);
  within = one.comes.within;
}

pub fields_done : (row : TokenRow) (from at : ℕ) (indices : List ℕ) → FieldsSo row from at indices → Fields (left row from) (left row at) indices
fields_done row from at indices so = subst (Fields (left row from) (left row at)) (append-nil indices) (so.tree (left row at) [] (no_field (left row at)))
