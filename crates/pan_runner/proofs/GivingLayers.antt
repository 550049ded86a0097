-- What expressions give, at each variant.
use Rattle.std.proofs.Common.{◌≡◌, ℕ, List, [], ◌∷◌, ◌++◌, ◌+◌, ◌<◌, map, length, get_or, drop, Option, Some, None, inl, inr, refl, sym, ap, ◌∙◌}
use Rattle.std.specs.Prelude.{◌⊎◌, option_map, option_and_then}
use Rattle.std.proofs.lemmas.List.{drop_more}
use Rattle.std.proofs.lemmas.Simd.{map-map}
use Rattle.pan_base.specs.declared.operators.BinOp.{BinOp}
use Rattle.pan_base.specs.declared.operators.ShOp.{ShOp}
use Rattle.pan_base.specs.declared.operators.Cmp.{Cmp}
use Rattle.pan_base.specs.Words.{operate, negate, truth}
use Rattle.pan_control.specs.Memory.{byte_at}
use Rattle.pan_tree.specs.declared.shape.Shape.{Shape}
use Rattle.pan_tree.specs.Value.{Value as Meant, Word, Struct, values_of, part_of_part}
use Rattle.pan_tree.specs.Meaning.{as_word, all_given, shifted}
use Rattle.source_resolver.specs.declared.resolved.Expr.{Expr, Expr-F, fold-roll-Expr, roll-Expr, map-Expr}
use Rattle.source_resolver.specs.declared.resolved.Expr.TheOpen as open_expr
use Rattle.source_resolver.specs.declared.resolved.Expr.TheVariants as e
use Rattle.source_resolver.specs.Slots.{Variables, Giving, variable, chain, value_layer, value, word, values}
use Rattle.pan_runner.specs.Evaluating.{term, loaded}

roll : (x : Expr-F Expr) (u : Variables) (m : List ℕ) → value (roll-Expr x) u m ≡ value_layer (map-Expr Expr Giving value x) u m
unfolding value
roll x u m = ap (λ f. f u m) (fold-roll-Expr Giving value_layer x)

-- a word that is given as a value is given as a word
given_word : (o : Option ℕ) → as_word (option_map (λ n. Word n) o) ≡ o
given_word None = refl
given_word (Some n) = refl

made_word : (f : ℕ → ℕ) (o : Option ℕ) → option_map (λ n. Word (f n)) o ≡ option_map (λ n. Word n) (option_map f o)
made_word f None = refl
made_word f (Some n) = refl

-- the word that a comparison of two words gives
abbrev pub compared : Cmp → Option ℕ → Option ℕ → Option ℕ
compared c a b = option_and_then (λ x. option_map (λ y. truth c x y) b) a

compared_word : (c : Cmp) (a b : Option ℕ) → option_and_then (λ x. option_map (λ y. Word (truth c x y)) b) a ≡ option_map (λ n. Word n) (compared c a b)
compared_word c None b = refl
compared_word c (Some x) b = made_word (truth c x) b

-- values that follow these
abbrev pub behind : List Meant → Option (List Meant) → Option (List Meant)
behind vs o = option_map (λ others. vs ++ others) o

-- with these variables and this local memory
module _ (u : Variables) (m : List ℕ) where
  abbrev pub at : Expr → Option Meant
  at x = value x u m

  abbrev pub word_at : Expr → Option ℕ
  word_at x = word x u m

  pub value_number : (n : ℕ) → at (e.Number n) ≡ option_map (λ n. Word n) (Some n)
  value_number n = ap at (sym (e.rolls-Number n)) ∙ roll (open_expr.Number n) u m

  pub value_variable : (place : Option ℕ) → at (e.Variable place) ≡ variable place u
  value_variable place = ap at (sym (e.rolls-Variable place)) ∙ roll (open_expr.Variable place) u m

  pub value_struct : (parts : List Expr) → at (e.Struct parts) ≡ option_map (λ vs. Struct (values_of vs)) (values parts u m)
  value_struct parts =
      ap at (sym (e.rolls-Struct parts)) ∙ roll (open_expr.Struct parts) u m
      ∙ ap (λ os. option_map (λ vs. Struct (values_of vs)) (all_given os)) (map-map (λ (f : Giving). f u m) value parts)

  pub value_field : (x : Expr) (is : List ℕ) → at (e.Field x is) ≡ part_of_part (at x) is
  value_field x is = ap at (sym (e.rolls-Field x is)) ∙ roll (open_expr.Field x is) u m

  pub value_load : (s : Shape) (x : Expr) → at (e.Load s x) ≡ loaded s m (word_at x)
  value_load s x = ap at (sym (e.rolls-Load s x)) ∙ roll (open_expr.Load s x) u m

  pub value_load_byte : (x : Expr) → at (e.LoadByte x) ≡ option_map (λ n. Word n) (option_and_then (byte_at m) (word_at x))
  value_load_byte x = ap at (sym (e.rolls-LoadByte x)) ∙ roll (open_expr.LoadByte x) u m

  pub value_neg : (x : Expr) → at (e.Neg x) ≡ option_map (λ n. Word n) (option_map negate (word_at x))
  value_neg x = ap at (sym (e.rolls-Neg x)) ∙ roll (open_expr.Neg x) u m ∙ made_word negate (word_at x)

  pub value_chain : (first : Expr) (rest : List (BinOp × Expr)) → at (e.Chain first rest) ≡ option_map (λ n. Word n) (chain (word_at first) (map term rest) u m)
  value_chain first rest = ap at (sym (e.rolls-Chain first rest)) ∙ roll (open_expr.Chain first rest) u m

  pub value_shift : (x : Expr) (shifts : List (ShOp × ℕ)) → at (e.Shift x shifts) ≡ option_map (λ n. Word n) (option_map (shifted shifts) (word_at x))
  value_shift x shifts = ap at (sym (e.rolls-Shift x shifts)) ∙ roll (open_expr.Shift x shifts) u m ∙ made_word (shifted shifts) (word_at x)

  pub value_compare : (c : Cmp) (x y : Expr) → at (e.Compare c x y) ≡ option_map (λ n. Word n) (compared c (word_at x) (word_at y))
  value_compare c x y = ap at (sym (e.rolls-Compare c x y)) ∙ roll (open_expr.Compare c x y) u m ∙ compared_word c (word_at x) (word_at y)

-- ---- as the code finds them

no_word : (o : Option (List Meant)) → as_word (option_map (λ vs. Struct (values_of vs)) o) ≡ None
no_word None = refl
no_word (Some vs) = refl

chain_none : (ps : List (BinOp × Giving)) (u : Variables) (m : List ℕ) → chain None ps u m ≡ None
chain_none [] u m = refl
chain_none (p ∷ ps) u m = refl

module _ (u : Variables) (m : List ℕ) (x : Expr) where
  abbrev here : Expr → Option Meant
  here x = value x u m

  abbrev word_here : Expr → Option ℕ
  word_here x = word x u m

  pub variable_is : (place : Option ℕ) → x ≡ e.Variable place → value x u m ≡ variable place u
  variable_is place is = ap here is ∙ value_variable u m place

  pub struct_is : (parts : List Expr) → x ≡ e.Struct parts → value x u m ≡ option_map (λ vs. Struct (values_of vs)) (values parts u m)
  struct_is parts is = ap here is ∙ value_struct u m parts

  pub struct_no_word : (parts : List Expr) → x ≡ e.Struct parts → word x u m ≡ None
  struct_no_word parts is = ap as_word (struct_is parts is) ∙ no_word (values parts u m)

  pub field_is : (y : Expr) (path : List ℕ) → x ≡ e.Field y path → value x u m ≡ part_of_part (value y u m) path
  field_is y path is = ap here is ∙ value_field u m y path

  pub load_is : (s : Shape) (y : Expr) → x ≡ e.Load s y → value x u m ≡ loaded s m (word y u m)
  load_is s y is = ap here is ∙ value_load u m s y

  pub number_word : (n : ℕ) → x ≡ e.Number n → word x u m ≡ Some n
  number_word n is = ap word_here is ∙ ap as_word (value_number u m n)

  pub load_byte_word : (y : Expr) → x ≡ e.LoadByte y → word x u m ≡ option_and_then (byte_at m) (word y u m)
  load_byte_word y is = ap word_here is ∙ ap as_word (value_load_byte u m y) ∙ given_word _

  pub neg_word : (y : Expr) → x ≡ e.Neg y → word x u m ≡ option_map negate (word y u m)
  neg_word y is = ap word_here is ∙ ap as_word (value_neg u m y) ∙ given_word _

  pub chain_word : (first : Expr) (rest : List (BinOp × Expr)) → x ≡ e.Chain first rest → word x u m ≡ chain (word first u m) (map term rest) u m
  chain_word first rest is = ap word_here is ∙ ap as_word (value_chain u m first rest) ∙ given_word _

  pub shift_word : (y : Expr) (shifts : List (ShOp × ℕ)) → x ≡ e.Shift y shifts → word x u m ≡ option_map (shifted shifts) (word y u m)
  shift_word y shifts is = ap word_here is ∙ ap as_word (value_shift u m y shifts) ∙ given_word _

  pub compare_word : (c : Cmp) (y z : Expr) → x ≡ e.Compare c y z → word x u m ≡ compared c (word y u m) (word z u m)
  compare_word c y z is = ap word_here is ∙ ap as_word (value_compare u m c y z) ∙ given_word _

  -- the value of an expression that is a word is made of that word
  abbrev IsWrapped : Type 0
  IsWrapped = option_map (λ n. Word n) (word x u m) ≡ value x u m

  wrapped : (o : Option ℕ) → value x u m ≡ option_map (λ n. Word n) o → IsWrapped
  wrapped o is = ap (option_map (λ n. Word n)) (ap as_word is ∙ given_word o) ∙ sym is

  pub wraps : ((n : ℕ) × (x ≡ e.Number n))
      ⊎ (((y : Expr) × (x ≡ e.LoadByte y))
      ⊎ (((y : Expr) × (x ≡ e.Neg y))
      ⊎ (((first : Expr) × (rest : List (BinOp × Expr)) × (x ≡ e.Chain first rest))
      ⊎ (((y : Expr) × (shifts : List (ShOp × ℕ)) × (x ≡ e.Shift y shifts))
      ⊎ ((c : Cmp) × (y : Expr) × (z : Expr) × (x ≡ e.Compare c y z))))))
      → option_map (λ n. Word n) (word x u m) ≡ value x u m
  wraps (inl h) = wrapped (Some h.0) (ap here h.1 ∙ value_number u m h.0)
  wraps (inr (inl h)) = wrapped (option_and_then (byte_at m) (word h.0 u m)) (ap here h.1 ∙ value_load_byte u m h.0)
  wraps (inr (inr (inl h))) = wrapped (option_map negate (word h.0 u m)) (ap here h.1 ∙ value_neg u m h.0)
  wraps (inr (inr (inr (inl h)))) = wrapped (chain (word h.0 u m) (map term h.1) u m) (ap here h.2 ∙ value_chain u m h.0 h.1)
  wraps (inr (inr (inr (inr (inl h))))) = wrapped (option_map (shifted h.1) (word h.0 u m)) (ap here h.2 ∙ value_shift u m h.0 h.1)
  wraps (inr (inr (inr (inr (inr h))))) = wrapped (compared h.0 (word h.1 u m) (word h.2 u m)) (ap here h.3 ∙ value_compare u m h.0 h.1 h.2)

-- ---- chains

module _ (u : Variables) (m : List ℕ) where
  pub chain_of_none : (first : Option ℕ) (rest : List (BinOp × Expr)) → first ≡ None → chain first (map term rest) u m ≡ None
  chain_of_none first rest none = ap (λ o. chain o (map term rest) u m) none ∙ chain_none (map term rest) u m

  -- a term that gives no word ends the chain
  pub chain_stopped : (a : ℕ) (rest : List (BinOp × Expr)) (i : ℕ) (p : BinOp × Expr) → i < length rest → p ≡ get_or rest i p → word p.1 u m ≡ None → chain (Some a) (map term (drop i rest)) u m ≡ None
  chain_stopped a rest i p within is none =
      ap (λ ps. chain (Some a) (map term ps) u m) (drop_more rest i p within ∙ ap (λ q. q ∷ drop (i + 1) rest) (sym is))
      ∙ ap (λ o. chain (option_map (operate p.0 a) o) (map term (drop (i + 1) rest)) u m) none
      ∙ chain_none (map term (drop (i + 1) rest)) u m

  -- nor are there all values where one is missing
  pub all_stopped : (vs : List Meant) (es : List Expr) (i : ℕ) (x : Expr) → i < length es → x ≡ get_or es i x → value x u m ≡ None → behind vs (values (drop i es) u m) ≡ None
  all_stopped vs es i x within is none =
      ap (λ es. behind vs (values es u m)) (drop_more es i x within ∙ ap (λ q. q ∷ drop (i + 1) es) (sym is))
      ∙ ap (λ o. behind vs (all_given (o ∷ map (λ e. value e u m) (drop (i + 1) es)))) none
