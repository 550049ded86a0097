-- The trees of exceptions and functions, and what has been read of lists of parameters and items.
use Rattle.std.proofs.Common.{◌≡◌, ℕ, ◌<◌, ◌≤◌, false, if◌then◌else◌, List, [], ◌∷◌, ◌++◌, length, sym, ap, ◌∙◌, subst, refl, arith, append_assoc, append-nil}
use Rattle.pan_base.specs.declared.span.Span.{Span}
use Rattle.pan_base.specs.declared.tokens.Keyword.TheVariants as keyword
use Rattle.pan_base.specs.declared.tokens.Sign.TheVariants as sign
use Rattle.pan_base.specs.Tokens.{Placed, Kind, Name, Reserved, ASign}
use Rattle.pan_lexer.specs.TokenRow.{TokenRow}
use Rattle.pan_tree.specs.declared.shape.Shape.{Shape}
use Rattle.pan_tree.specs.declared.shape.Shape.TheVariants as shape
use Rattle.pan_tree.specs.declared.program.Param.{Param}
use Rattle.pan_tree.specs.declared.program.Program.{Program}
use Rattle.pan_tree.specs.Nodes.{between}
use Rattle.pan_tree.specs.Grammar as grammar
use Rattle.pan_tree.specs.Grammar.{Block, nesting_limit, Within, AShape, AParam, MoreParams, Params, Result, ABlock, AnException, AFunction, Items, Tree}
use Rattle.pan_parser.specs.declared.error.ParseError.{ParseError}
use Rattle.pan_parser.specs.declared.error.ParseError.TheVariants as error
use Rattle.pan_parser.specs.declared.items.Item.{Item}
use Rattle.pan_parser.specs.declared.items.Item.TheVariants as item
use Rattle.pan_parser.specs.Machine.{WantParam, MoreParams as AlsoParams, Goes, Refused, is_sign, is_word, begin_item, step, go_on, run, whole}
use Rattle.pan_parser.specs.Answers.{place_of}
use Rattle.pan_parser.specs.Follow.{BeginsNot, Halts}
use Rattle.pan_parser.specs.Reading.{left, IsOne, Reads}
use Rattle.pan_parser.specs.Items.{NamedResult, SomeParams, ClosedParams, AnItem, with_item}
use Rattle.pan_parser.proofs.Ways.{Passes, on, one_read, goes}
use Rattle.pan_parser.proofs.Lefts.{none_left, some_left}

-- ---- parameters

pub param_tree : (row : TokenRow) (at b after : ℕ) (z : Shape) (x : List ℕ) → AShape Within 0 (left row at) (left row b) z → IsOne row b after (Name x)
    → AParam Within 0 (left row at) (left row after) (record { name = x; shape = z })
param_tree row at b after z x p name = grammar.param 0 name.token (left row at) (left row after) z x (subst (λ b. AShape Within 0 (left row at) b z) name.comes.all p) name.is

pub record ParamsSo (row : TokenRow) (from at : ℕ) (params : List Param) : Type 0 where
  pub tree : (c : List Placed) (ys : List Param) → MoreParams Within 0 (left row at) c ys → SomeParams (left row from) c (params ++ ys)
  pub way : Passes (WantParam 0 ∷ AlsoParams 0 ∷ []) (left row from) (AlsoParams 0 ∷ []) (left row at)
  pub ahead : from < at
  pub within : at ≤ length row.tokens

comma_goes : (row : TokenRow) (at after : ℕ) → IsOne row at after (ASign sign.Comma) → Passes (AlsoParams 0 ∷ []) (left row at) (WantParam 0 ∷ AlsoParams 0 ∷ []) (left row after)
comma_goes row at after comma = goes row at after comma.token (AlsoParams 0 ∷ []) (WantParam 0 ∷ AlsoParams 0 ∷ []) comma.comes
    (λ K. ap (λ v. if is_sign sign.Comma v then Goes (WantParam 0 ∷ AlsoParams 0 ∷ K) else step nesting_limit K comma.token) comma.is)

pub params_one : (row : TokenRow) (from after : ℕ) (z : Param) → AParam Within 0 (left row from) (left row after) z → Reads (WantParam 0 ∷ []) (left row from) (left row after)
    → (from < after) × (after ≤ length row.tokens) → ParamsSo row from after (z ∷ [])
params_one row from after z one reads ahead = record {
  tree = λ c ys more. record { one = z; others = ys; are = refl; between = left row after; first = one; more = more };
  way = one_read reads;
  ahead = ahead.0;
  within = ahead.1;
}

pub params_more : (row : TokenRow) (from at b after : ℕ) (params : List Param) (z : Param) → ParamsSo row from at params → IsOne row at b (ASign sign.Comma)
    → AParam Within 0 (left row b) (left row after) z → Reads (WantParam 0 ∷ []) (left row b) (left row after) → (b < after) × (after ≤ length row.tokens)
    → ParamsSo row from after (params ++ z ∷ [])
params_more row from at b after params z so comma one reads ahead = record {
  tree = λ c ys more.
      subst (SomeParams (left row from) c) (sym (append_assoc params (z ∷ []) ys))
      (so.tree c (z ∷ ys) (subst (λ a. MoreParams Within 0 a c (z ∷ ys)) (sym comma.comes.all) (grammar.next_param 0 comma.token (left row b) (left row after) c z ys comma.is one more)));
  way = on so.way (on (comma_goes row at b comma) (one_read reads));
  ahead = omega (arith, so.ahead, comma.comes.ahead, ahead.0);
  within = ahead.1;
}

pub params_done : (row : TokenRow) (from at : ℕ) (params : List Param) → ParamsSo row from at params → SomeParams (left row from) (left row at) params
params_done row from at params so = subst (SomeParams (left row from) (left row at)) (append-nil params) (so.tree (left row at) [] (grammar.no_param 0 (left row at)))

pub no_params : (row : TokenRow) (at after : ℕ) (xs : List Param) → IsOne row at after (ASign sign.CloseParen) → xs ≡ [] → ClosedParams (left row at) (left row after) xs
no_params row at after xs close none = record {
  close = close.token;
  is = close.is;
  params = subst (Params Within 0 (left row at) (close.token ∷ left row after)) (sym none)
      (subst (λ b. Params Within 0 (left row at) b []) close.comes.all (grammar.no_params 0 (left row at)));
}

pub some_params : (row : TokenRow) (at b after : ℕ) (xs : List Param) → SomeParams (left row at) (left row b) xs → IsOne row b after (ASign sign.CloseParen) → ClosedParams (left row at) (left row after) xs
some_params row at b after xs parts close =
    let more : MoreParams Within 0 parts.between (close.token ∷ left row after) parts.others = subst (λ d. MoreParams Within 0 parts.between d parts.others) close.comes.all parts.more in
    record {
      close = close.token;
      is = close.is;
      params = subst (Params Within 0 (left row at) (close.token ∷ left row after)) (sym parts.are)
          (grammar.params 0 (left row at) parts.between (close.token ∷ left row after) parts.one parts.others parts.first more);
    }

-- ---- items

pub named_word : (row : TokenRow) (at after : ℕ) (f : List ℕ) → IsOne row at after (Name f) → NamedResult (left row at) (left row after) shape.Word f
named_word row at after f name = record {
  name = name.token;
  is = name.is;
  result = subst (λ b. Result Within 0 (left row at) b shape.Word) name.comes.all (grammar.no_result 0 (left row at));
}

pub named_shape : (row : TokenRow) (at b after : ℕ) (z : Shape) (f : List ℕ) → AShape Within 0 (left row at) (left row b) z → IsOne row b after (Name f) → NamedResult (left row at) (left row after) z f
named_shape row at b after z f p name = record {
  name = name.token;
  is = name.is;
  result = grammar.result 0 (left row at) (name.token ∷ left row after) z (subst (λ b. AShape Within 0 (left row at) b z) name.comes.all p);
}

pub exception_tree : (row : TokenRow) (at b c d after : ℕ) (x : List ℕ) (z : Shape) (s : Span) → IsOne row at b (Reserved keyword.Exception) → IsOne row b c (Name x)
    → AShape Within 0 (left row c) (left row d) z → IsOne row d after (ASign sign.Semicolon) → s ≡ between (left row at) (left row after)
    → AnException Within (left row at) (left row after) (record { name = x; shape = z; span = s })
exception_tree row at b c d after x z s word name p end span =
    let all : left row at ≡ word.token ∷ name.token ∷ left row c = word.comes.all ∙ ap (λ a. word.token ∷ a) name.comes.all in
    subst (λ s. AnException Within (left row at) (left row after) (record { name = x; shape = z; span = s })) (sym span)
    (subst (λ a. AnException Within a (left row after) (record { name = x; shape = z; span = between a (left row after) })) (sym all)
    (grammar.exception word.token name.token end.token (left row c) (left row after) x z word.is name.is (subst (λ d. AShape Within 0 (left row c) d z) end.comes.all p) end.is))

pub function_tree : (row : TokenRow) (at b c d e after : ℕ) (z : Shape) (f : List ℕ) (xs : List Param) (y : Block) (s : Span) → IsOne row at b (Reserved keyword.Fun)
    → NamedResult (left row b) (left row c) z f → IsOne row c d (ASign sign.OpenParen) → ClosedParams (left row d) (left row e) xs → ABlock Within 0 (left row e) (left row after) y
    → s ≡ between (left row at) (left row after) → AFunction Within (left row at) (left row after) (record { name = f; params = xs; result = z; body = y; span = s })
function_tree row at b c d e after z f xs y s word named paren closed p span =
    subst (λ s. AFunction Within (left row at) (left row after) (record { name = f; params = xs; result = z; body = y; span = s })) (sym span)
    (subst (λ a. AFunction Within a (left row after) (record { name = f; params = xs; result = z; body = y; span = between a (left row after) })) (sym word.comes.all)
    (grammar.function word.token named.name paren.token closed.close (left row b) (left row d) (left row e) (left row after) z f xs y word.is
    (subst (λ c. Result Within 0 (left row b) (named.name ∷ c) z) paren.comes.all named.result) named.is paren.is closed.params closed.is p))

-- no item begins so
pub item_refused : (row : TokenRow) (at end : ℕ) (e : ParseError) → at < length row.tokens → BeginsNot (λ v. is_word keyword.Exception v ≡ false) (left row at)
    → BeginsNot (λ v. is_word keyword.Fun v ≡ false) (left row at) → e ≡ error.Syntax (place_of (left row at) end) → Halts end (left row at) e
item_refused row at end e within one two is = subst (Halts end (left row at)) (sym is) (at_token (left row at) refl one two)
  where
    begins_none : (v : Kind) → is_word keyword.Exception v ≡ false → is_word keyword.Fun v ≡ false → begin_item v whole Refused ≡ Refused
    begins_none (Reserved keyword.Exception) h i = absurd (cc)
    begins_none (Reserved keyword.Fun) h i = absurd (cc)
    begins_none _ h i = refl

    at_token : (a : List Placed) → left row at ≡ a → BeginsNot (λ v. is_word keyword.Exception v ≡ false) a → BeginsNot (λ v. is_word keyword.Fun v ≡ false) a → Halts end a (error.Syntax (place_of a end))
    at_token [] none h i = absurd (some_left row at within none)
    at_token (t ∷ a) some h i = (t ∷ a, refl, ap (λ s. go_on s (t ∷ a) (run nesting_limit a)) (begins_none t.kind h i))

-- what has been read of a program
pub record ItemsSo (row : TokenRow) (at : ℕ) (p : Program) : Type 0 where
  pub tree : (q : Program) → Items Within (left row at) q.exceptions q.functions → Items Within row.tokens (p.exceptions ++ q.exceptions) (p.functions ++ q.functions)
  pub way : run nesting_limit row.tokens whole ≡ run nesting_limit (left row at) whole
  pub within : at ≤ length row.tokens

pub items_none : (row : TokenRow) (p : Program) → p.exceptions ≡ [] → p.functions ≡ [] → ItemsSo row 0 p
unfolding left
items_none row p none other = record {
  tree = λ q t.
      subst (λ xs. Items Within row.tokens (xs ++ q.exceptions) (p.functions ++ q.functions)) (sym none)
      (subst (λ fs. Items Within row.tokens q.exceptions (fs ++ q.functions)) (sym other) t);
  way = refl;
  within = omega arith;
}

pub items_more : (row : TokenRow) (at after : ℕ) (p : Program) (x : Item) → ItemsSo row at p → AnItem (left row at) (left row after) x
    → run nesting_limit (left row at) whole ≡ run nesting_limit (left row after) whole → after ≤ length row.tokens → ItemsSo row after (with_item p x)
items_more row at after p x so t way within = record { tree = by_item x t; way = so.way ∙ way; within = within }
  where
    by_item : (x : Item) → AnItem (left row at) (left row after) x → (q : Program) → Items Within (left row after) q.exceptions q.functions
        → Items Within row.tokens ((with_item p x).exceptions ++ q.exceptions) ((with_item p x).functions ++ q.functions)
    by_item (item.Exception x) t q more =
        subst (λ xs. Items Within row.tokens xs (p.functions ++ q.functions)) (sym (append_assoc p.exceptions (x ∷ []) q.exceptions))
        (so.tree (record { exceptions = x ∷ q.exceptions; functions = q.functions }) (grammar.next_exception (left row at) (left row after) x q.exceptions q.functions t more))
    by_item (item.Function f) t q more =
        subst (Items Within row.tokens (p.exceptions ++ q.exceptions)) (sym (append_assoc p.functions (f ∷ []) q.functions))
        (so.tree (record { exceptions = q.exceptions; functions = f ∷ q.functions }) (grammar.next_function (left row at) (left row after) f q.exceptions q.functions t more))

pub items_done : (row : TokenRow) (at : ℕ) (p : Program) → ItemsSo row at p → length row.tokens ≤ at → Tree row.tokens p
items_done row at p so past =
    let none : Program = record { exceptions = []; functions = [] } in
    subst (λ xs. Items Within row.tokens xs p.functions) (append-nil p.exceptions)
    (subst (Items Within row.tokens (p.exceptions ++ [])) (append-nil p.functions)
    (so.tree none (subst (λ a. Items Within a [] []) (sym (none_left row at past)) grammar.no_item)))

pub halts_on : (row : TokenRow) (at end : ℕ) (p : Program) (e : ParseError) → ItemsSo row at p → Halts end (left row at) e → Halts end row.tokens e
halts_on row at end p error.NoMemory so h = tt
halts_on row at end p (error.Syntax place) so h = (h.0, h.1, so.way ∙ h.2)
halts_on row at end p (error.TooDeep place) so h = (h.0, h.1, so.way ∙ h.2)
