-- What a program weighs and which rules it breaks, in the order in which the check looks at its parts.
-- An expression's parts come before the whole, a statement's expressions before its own rules and those before its blocks.
use Rattle.std.specs.Prelude.{◌≡◌, ℕ, ◌+◌, ◌*◌, nat_lt, nat_eq, ◌&&◌, ◌||◌, not, Bool, true, false, if◌then◌else◌, List, [], ◌∷◌, ◌++◌, map, sum, flat_map, length, codes, find, Option, Some, None, option_map, IsTrue}
use Rattle.std.specs.List.{list_any, list_all}
use Rattle.std.specs.Option.{option_map_or, is_some}
use Rattle.std.specs.Str.{bytes_eq}
pub use Rattle.pan_tree.specs.Scopes.{in_scope, is_declared, declare}
use Rattle.pan_base.specs.Names.{is_foreign_name}
use Rattle.pan_tree.specs.Scopes.{ScopeOf, ScopesOf, innermost}
use Rattle.pan_tree.specs.Shapes.{words_of, Part, APart, OfWord, NoPart, part_at, is_word, same}
use Rattle.pan_tree.specs.declared.rule.Rule.{Rule}
use Rattle.pan_tree.specs.declared.rule.Rule.TheVariants.{TwoNames, NoMain, MainShape, UnknownName, UnknownFunction, UnknownException, WrongShape, WrongCount, NotStruct, NoField, NotWord, BadShift, LoopOutside, NoReturn, ShapeTooWide, TooMany, FunctionTooHeavy, ProgramTooHeavy}
use Rattle.pan_tree.specs.declared.shape.Shape.{Shape}
use Rattle.pan_tree.specs.declared.shape.Shape.TheVariants as shape
use Rattle.pan_tree.specs.declared.spanned.Spanned.{Spanned}
use Rattle.pan_tree.specs.declared.syntax.ExprKind.{ExprKind, ExprKind-F, fold-ExprKind}
use Rattle.pan_tree.specs.declared.syntax.ExprKind.TheOpen as expr
use Rattle.pan_tree.specs.declared.syntax.StmtKind.{StmtKind, StmtKind-F, fold-StmtKind}
use Rattle.pan_tree.specs.declared.syntax.StmtKind.TheOpen as stmt
use Rattle.pan_tree.specs.declared.syntax.Target.{Target}
use Rattle.pan_tree.specs.declared.syntax.Target.TheVariants as target
use Rattle.pan_tree.specs.declared.syntax.BlockOf.{BlockOf}
use Rattle.pan_tree.specs.declared.syntax.HandlerOf.{HandlerOf}
use Rattle.pan_tree.specs.declared.program.Param.{Param}
use Rattle.pan_tree.specs.declared.program.Exception.{Exception}
use Rattle.pan_tree.specs.declared.program.Function.{Function}
use Rattle.pan_tree.specs.declared.program.Program.{Program}

-- ---- breaks

-- a rule that is broken, and the first byte of the part that breaks it
pub record Break : Type 0 where
  pub rule : Rule
  pub place : ℕ

-- of some rules, in their order, those of the part at this place that are broken
abbrev pub broken : ℕ → List (Rule × Bool) → List Break
broken place [] = []
broken place ((rule, true) ∷ rules) = record { rule = rule; place = place } ∷ broken place rules
broken place ((rule, false) ∷ rules) = broken place rules

abbrev pub max_words : ℕ
max_words = 64

abbrev pub is_wide : Shape → Bool
is_wide s = nat_lt max_words (words_of s)

-- ---- variables

-- the variables of a block with their shapes
abbrev pub Scope : Type 0
Scope = ScopeOf Shape

-- those of the blocks that are open
abbrev pub Scopes : Type 0
Scopes = ScopesOf Shape

-- the shape of the innermost variable of this name
abbrev pub shape_of : List ℕ → Scopes → Option Shape
shape_of = innermost

-- a variable that isn't known counts as a word
abbrev pub or_word : Option Shape → Shape
or_word None = shape.Word
or_word (Some s) = s

-- ---- expressions

-- the shape of an expression, what it weighs, and what it breaks
pub record Judged : Type 0 where
  pub shape : Shape
  pub weight : ℕ
  pub breaks : List Break

-- by its place and the variables that it sees
abbrev pub Judging : Type 0
Judging = ℕ → Scopes → Judged

abbrev pub judge : Spanned Judging → Scopes → Judged
judge x v = x.kind x.span.start v

abbrev pub weights : List Judged → ℕ
weights js = sum (map (λ j. j.weight) js)

abbrev pub breaks_of : List Judged → List Break
breaks_of js = flat_map (λ j. j.breaks) js

-- some of these are no word
abbrev pub has_no_word : List Judged → Bool
has_no_word js = list_any (λ j. not (is_word j.shape)) js

-- an expression of one value, with its parts and its own rules: it weighs 1, its words and its parts
abbrev pub whole : ℕ → Shape → List Judged → List (Rule × Bool) → Judged
whole place s parts rules = record { shape = s; weight = 1 + words_of s + weights parts; breaks = breaks_of parts ++ broken place rules }

-- a chain or shift: it weighs 2 for each operator and its parts
abbrev pub operators : ℕ → ℕ → List Judged → List (Rule × Bool) → Judged
operators place count parts rules = record { shape = shape.Word; weight = 2 * count + weights parts; breaks = breaks_of parts ++ broken place rules }

abbrev pub part_shape : Part → Shape
part_shape (APart s) = s
part_shape _ = shape.Word

abbrev pub is_of_word : Part → Bool
is_of_word OfWord = true
is_of_word _ = false

abbrev pub is_no_part : Part → Bool
is_no_part NoPart = true
is_no_part _ = false

abbrev pub judge_layer : ExprKind-F Judging → Judging
judge_layer (expr.Number n) place v = whole place shape.Word [] []
judge_layer expr.Base place v = whole place shape.Word [] []
judge_layer expr.Biw place v = whole place shape.Word [] []
judge_layer (expr.Var x) place v = whole place (or_word (shape_of x v)) [] ((UnknownName, not (is_some (shape_of x v))) ∷ [])
judge_layer (expr.Struct xs) place v =
    let parts = map (λ x. judge x v) xs in
    let s = shape.Group (map (λ j. j.shape) parts) in
    whole place s parts ((ShapeTooWide, is_wide s) ∷ [])
judge_layer (expr.Field x is) place v =
    let j = judge x v in
    let part = part_at (APart j.shape) is in
    whole place (part_shape part) (j ∷ []) ((NotStruct, is_of_word part) ∷ (NoField, is_no_part part) ∷ [])
judge_layer (expr.Load s a) place v = let parts = judge a v ∷ [] in whole place s parts ((NotWord, has_no_word parts) ∷ (ShapeTooWide, is_wide s) ∷ [])
judge_layer (expr.LoadByte a) place v = let parts = judge a v ∷ [] in whole place shape.Word parts ((NotWord, has_no_word parts) ∷ [])
judge_layer (expr.Neg x) place v = let parts = judge x v ∷ [] in whole place shape.Word parts ((NotWord, has_no_word parts) ∷ [])
judge_layer (expr.Compare o x y) place v = let parts = judge x v ∷ judge y v ∷ [] in whole place shape.Word parts ((NotWord, has_no_word parts) ∷ [])
judge_layer (expr.Chain x ys) place v =
    let parts = judge x v ∷ map (λ y. judge y.1 v) ys in
    operators place (length ys) parts ((NotWord, has_no_word parts) ∷ [])
judge_layer (expr.Shift x ns) place v =
    let parts = judge x v ∷ [] in
    operators place (length ns) parts ((NotWord, has_no_word parts) ∷ (BadShift, list_any (λ n. nat_lt 63 n.1) ns) ∷ [])

unfoldable pub judge_kind : ExprKind → Judging
judge_kind = fold-ExprKind Judging judge_layer

abbrev pub judged : Spanned ExprKind → Scopes → Judged
judged x v = judge_kind x.kind x.span.start v

-- ---- statements

-- what a statement stands in: the program, the shape of the function's result, and whether a loop of the function encloses it
pub record Context : Type 0 where
  pub program : Program
  pub result : Shape
  pub in_loop : Bool

-- what the statements before leave: the variables, and the foreign names of the whole text up to here, each once
pub record State : Type 0 where
  pub scopes : Scopes
  pub names : List (List ℕ)

pub record Done : Type 0 where
  pub weight : ℕ
  pub breaks : List Break
  pub state : State

-- by the context, its place, and what the statements before leave
abbrev pub Doing : Type 0
Doing = Context → ℕ → State → Done

-- one after another
abbrev pub in_order : List (Spanned Doing) → Context → State → Done
in_order [] c s = record { weight = 0; breaks = []; state = s }
in_order (x ∷ xs) c s =
    let one = x.kind c x.span.start s in
    let others = in_order xs c one.state in
    record { weight = one.weight + others.weight; breaks = one.breaks ++ others.breaks; state = others.state }

-- a block, which begins with these variables
abbrev pub block : Scope → BlockOf (Spanned Doing) → Context → State → Done
block scope b c s =
    let inner = in_order b.stmts c (record s { scopes = scope ∷ s.scopes }) in
    record inner { state = record { scopes = s.scopes; names = (inner.state).names } }

-- a statement without blocks: it weighs 4, its expressions, and so many words
abbrev pub plain : ℕ → ℕ → List Judged → List (Rule × Bool) → State → Done
plain place words parts rules s = record { weight = 4 + weights parts + words; breaks = breaks_of parts ++ broken place rules; state = s }

-- a statement goes on with a block
abbrev pub and_block : Done → (State → Done) → Done
and_block d b =
    let inner = b d.state in
    record { weight = d.weight + inner.weight; breaks = d.breaks ++ inner.breaks; state = inner.state }

abbrev pub function_of : List ℕ → Program → Option Function
function_of f p = find (λ g. bytes_eq g.name f) p.functions

abbrev pub exception_of : List ℕ → Program → Option Exception
exception_of i p = find (λ x. bytes_eq x.name i) p.exceptions

-- how many arguments go with how many parameters, and whether one has another shape than its parameter
abbrev pub wrong_count : Option Function → List Judged → Bool
wrong_count None args = false
wrong_count (Some f) args = not (nat_eq (length f.params) (length args))

abbrev pub differ : List Param → List Judged → Bool
differ (p ∷ ps) (j ∷ js) = not (same p.shape j.shape) || differ ps js
differ _ _ = false

abbrev pub wrong_shape : Option Function → List Judged → Bool
wrong_shape None args = false
wrong_shape (Some f) args = nat_eq (length f.params) (length args) && differ f.params args

abbrev pub result_of : Option Function → Shape
result_of f = option_map_or (λ (g : Function). g.result) f shape.Word

-- a known variable, or the result of a known function, has another shape than this
abbrev pub is_other : Option Shape → Shape → Bool
is_other None s = false
is_other (Some r) s = not (same r s)

abbrev pub no_value : {X : Type 0} → Option X → Bool
no_value o = not (is_some o)

-- where a call's result goes: the variable's own rules, whether its shape is another, its words, and the variables afterwards
abbrev pub is_new_twice : Target → Scopes → Bool
is_new_twice (target.New x) v = is_declared x v
is_new_twice _ v = false

abbrev pub is_old_unknown : Target → Scopes → Bool
is_old_unknown (target.Old x) v = no_value (shape_of x v)
is_old_unknown _ v = false

abbrev pub is_old_other : Target → Option Function → Scopes → Bool
is_old_other (target.Old x) (Some f) v = is_other (shape_of x v) f.result
is_old_other _ _ v = false

abbrev pub target_words : Target → Shape → Scopes → ℕ
target_words target.Nothing s v = 0
target_words (target.Old x) s v = words_of (or_word (shape_of x v))
target_words (target.New x) s v = words_of s

abbrev pub after_target : Target → Shape → Scopes → Scopes
after_target (target.New x) s v = declare x s v
after_target _ s v = v

abbrev pub handler_unknown : Option (HandlerOf (Spanned Doing)) → Program → Bool
handler_unknown None p = false
handler_unknown (Some h) p = no_value (exception_of h.exception p)

-- a handler weighs 4, the words of its value and its block
abbrev pub handle : Option (HandlerOf (Spanned Doing)) → Context → State → Done
handle None c s = record { weight = 0; breaks = []; state = s }
handle (Some h) c s =
    let value = option_map_or (λ (x : Exception). x.shape) (exception_of h.exception c.program) shape.Word in
    let inner = block ((h.name, value) ∷ []) h.body c s in
    record inner { weight = 4 + words_of value + inner.weight }

-- the names with one more, where it is new
abbrev pub with_name : List ℕ → List (List ℕ) → List (List ℕ)
with_name x names = if list_any (λ y. bytes_eq y x) names then names else names ++ x ∷ []

abbrev pub is_too_many : List ℕ → List (List ℕ) → Bool
is_too_many x names = nat_lt 64 (length x) || nat_lt 1024 (length (with_name x names))

abbrev pub do_layer : StmtKind-F Doing → Doing
do_layer stmt.Skip c place s = plain place 0 [] [] s
do_layer (stmt.Decl x e) c place s =
    let j = judged e s.scopes in
    plain place (words_of j.shape) (j ∷ []) ((TwoNames, is_declared x s.scopes) ∷ []) (record s { scopes = declare x j.shape s.scopes })
do_layer (stmt.Assign x e) c place s =
    let j = judged e s.scopes in
    let known = shape_of x s.scopes in
    plain place (words_of (or_word known)) (j ∷ []) ((UnknownName, no_value known) ∷ (WrongShape, is_other known j.shape) ∷ []) s
do_layer (stmt.StoreWords a e) c place s =
    let address = judged a s.scopes in
    plain place 0 (address ∷ judged e s.scopes ∷ []) ((NotWord, not (is_word address.shape)) ∷ []) s
do_layer (stmt.StoreByte a e) c place s = let parts = judged a s.scopes ∷ judged e s.scopes ∷ [] in plain place 0 parts ((NotWord, has_no_word parts) ∷ []) s
do_layer (stmt.If e first second) c place s =
    let parts = judged e s.scopes ∷ [] in
    and_block (and_block (plain place 0 parts ((NotWord, has_no_word parts) ∷ []) s) (block [] first c)) (block [] second c)
do_layer (stmt.While e body) c place s =
    let parts = judged e s.scopes ∷ [] in
    and_block (plain place 0 parts ((NotWord, has_no_word parts) ∷ []) s) (block [] body (record c { in_loop = true }))
do_layer stmt.Break c place s = plain place 0 [] ((LoopOutside, not c.in_loop) ∷ []) s
do_layer stmt.Continue c place s = plain place 0 [] ((LoopOutside, not c.in_loop) ∷ []) s
do_layer (stmt.Call call) c place s =
    let args = map (λ x. judged x s.scopes) call.args in
    let f = function_of call.function c.program in
    let result = result_of f in
    and_block
    (plain place (target_words call.into result s.scopes + words_of result) args
    ((TwoNames, is_new_twice call.into s.scopes) ∷ (UnknownName, is_old_unknown call.into s.scopes) ∷ (UnknownFunction, no_value f)
    ∷ (UnknownException, handler_unknown call.handler c.program) ∷ (WrongShape, wrong_shape f args || is_old_other call.into f s.scopes) ∷ (WrongCount, wrong_count f args) ∷ [])
    (record s { scopes = after_target call.into result s.scopes }))
    (handle call.handler c)
do_layer (stmt.Return e) c place s = let j = judged e s.scopes in plain place 0 (j ∷ []) ((WrongShape, not (same c.result j.shape)) ∷ []) s
do_layer (stmt.TailCall name xs) c place s =
    let args = map (λ x. judged x s.scopes) xs in
    let f = function_of name c.program in
    plain place (words_of (result_of f)) args
    ((UnknownFunction, no_value f) ∷ (WrongShape, wrong_shape f args || is_other (option_map (λ (g : Function). g.result) f) c.result) ∷ (WrongCount, wrong_count f args) ∷ []) s
do_layer (stmt.Raise i e) c place s =
    let j = judged e s.scopes in
    let known = exception_of i c.program in
    plain place 0 (j ∷ []) ((UnknownException, no_value known) ∷ (WrongShape, is_other (option_map (λ (x : Exception). x.shape) known) j.shape) ∷ []) s
do_layer (stmt.SharedLoad size x a) c place s =
    let parts = judged a s.scopes ∷ [] in
    let known = shape_of x s.scopes in
    plain place (words_of (or_word known)) parts ((UnknownName, no_value known) ∷ (WrongShape, not (is_word (or_word known))) ∷ (NotWord, has_no_word parts) ∷ []) s
do_layer (stmt.SharedStore size a e) c place s = let parts = judged a s.scopes ∷ judged e s.scopes ∷ [] in plain place 0 parts ((NotWord, has_no_word parts) ∷ []) s
do_layer (stmt.Foreign x a b d e) c place s =
    let parts = map (λ y. judged y s.scopes) (a ∷ b ∷ d ∷ e ∷ []) in
    plain place 0 parts ((NotWord, has_no_word parts) ∷ (TooMany, is_too_many x s.names) ∷ []) (record s { names = with_name x s.names })

unfoldable pub do_kind : StmtKind → Doing
do_kind = fold-StmtKind Doing do_layer

abbrev pub doing : Spanned StmtKind → Spanned Doing
doing x = record { kind = do_kind x.kind; span = x.span }

-- ---- functions

abbrev pub last_of : {X : Type 0} → List X → Option X
last_of [] = None
last_of (x ∷ []) = Some x
last_of (x ∷ y ∷ ys) = last_of (y ∷ ys)

-- A block closes where its last statement is a return, a raise, or an `if` both of whose blocks close.
abbrev pub block_closes : BlockOf (Spanned Bool) → Bool
block_closes b = option_map_or (λ (x : Spanned Bool). x.kind) (last_of b.stmts) false

abbrev pub closes_layer : StmtKind-F Bool → Bool
closes_layer (stmt.Return e) = true
closes_layer (stmt.TailCall f xs) = true
closes_layer (stmt.Raise i e) = true
closes_layer (stmt.If e first second) = block_closes first && block_closes second
closes_layer _ = false

unfoldable pub closes_kind : StmtKind → Bool
closes_kind = fold-StmtKind Bool closes_layer

abbrev pub closes : BlockOf (Spanned StmtKind) → Bool
closes b = option_map_or (λ (x : Spanned StmtKind). closes_kind x.kind) (last_of b.stmts) false

abbrev pub parameters : List Param → Scope
parameters ps = map (λ p. (p.name, p.shape)) ps

abbrev pub parameter_words : List Param → ℕ
parameter_words ps = sum (map (λ p. words_of p.shape) ps)

-- a function's body, after the foreign names of the functions before
abbrev pub body : Program → Function → List (List ℕ) → Done
body p f names =
    block (parameters f.params) (record { stmts = map doing (f.body).stmts }) (record { program = p; result = f.result; in_loop = false }) (record { scopes = []; names = names })

-- a function weighs 4, the words of its parameters and of its result, and its body
abbrev pub function_weight : Program → Function → ℕ
function_weight p f = 4 + parameter_words f.params + words_of f.result + (body p f []).weight

abbrev pub program_weight : Program → ℕ
program_weight p = sum (map (function_weight p) p.functions)

-- what an active call of the function costs, in bytes of stack
abbrev pub cost : Program → Function → ℕ
cost p f = 16 * (4 + function_weight p f)

-- the foreign names of the functions, in the order of their first use
abbrev pub names_after : Program → List Function → List (List ℕ) → List (List ℕ)
names_after p [] names = names
names_after p (f ∷ fs) names = names_after p fs ((body p f names).state).names

abbrev pub foreign_names : Program → List (List ℕ)
foreign_names p = names_after p p.functions []

-- the bodies one after another, each with the rule that it closes
abbrev pub bodies : Program → List Function → List (List ℕ) → List Break
bodies p [] names = []
bodies p (f ∷ fs) names =
    let one = body p f names in
    one.breaks ++ broken f.span.start ((NoReturn, not (closes f.body)) ∷ []) ++ bodies p fs (one.state).names

-- ---- heads

-- some name comes twice
abbrev pub repeats : List (List ℕ) → Bool
repeats [] = false
repeats (x ∷ xs) = list_any (λ y. bytes_eq y x) xs || repeats xs

-- exceptions and functions in order, each after those before it
abbrev pub exception_heads : List Exception → List Exception → List Break
exception_heads before [] = []
exception_heads before (x ∷ xs) =
    broken x.span.start ((TwoNames, list_any (λ (y : Exception). bytes_eq y.name x.name) before) ∷ (ShapeTooWide, is_wide x.shape) ∷ (TooMany, not (nat_lt (length before) 1024)) ∷ [])
    ++ exception_heads (before ++ x ∷ []) xs

abbrev pub function_heads : List Function → List Function → List Break
function_heads before [] = []
function_heads before (f ∷ fs) =
    broken f.span.start
    ((TwoNames, list_any (λ (g : Function). bytes_eq g.name f.name) before || repeats (map (λ (p : Param). p.name) f.params))
    ∷ (ShapeTooWide, is_wide f.result || nat_lt max_words (parameter_words f.params)) ∷ (TooMany, not (nat_lt (length before) 4096)) ∷ [])
    ++ function_heads (before ++ f ∷ []) fs

-- the function `main`
abbrev pub main_breaks : Option Function → List Break
main_breaks None = broken 0 ((NoMain, true) ∷ [])
main_breaks (Some f) = broken f.span.start ((MainShape, nat_lt 0 (length f.params) || not (is_word f.result)) ∷ [])

abbrev pub weight_breaks : Program → List Break
weight_breaks p =
    flat_map (λ f. broken f.span.start ((FunctionTooHeavy, nat_lt 16384 (function_weight p f)) ∷ [])) p.functions
    ++ broken 0 ((ProgramTooHeavy, nat_lt 262144 (program_weight p)) ∷ [])

-- ---- programs

-- all that a program breaks: heads, main, bodies, weights
abbrev pub breaks : Program → List Break
breaks p = exception_heads [] p.exceptions ++ function_heads [] p.functions ++ main_breaks (function_of (codes "main") p) ++ bodies p p.functions [] ++ weight_breaks p

abbrev pub IsWellShaped : Program → Type 0
IsWellShaped p = breaks p ≡ []

-- the first that it breaks
abbrev pub IsFirst : Program → Break → Type 0
IsFirst p b = (others : List Break) × (breaks p ≡ b ∷ others)

-- ---- lawful names

abbrev pub block_lawful : BlockOf (Spanned Bool) → Bool
block_lawful b = list_all (λ (x : Spanned Bool). x.kind) b.stmts

abbrev pub handler_lawful : Option (HandlerOf (Spanned Bool)) → Bool
handler_lawful None = true
handler_lawful (Some h) = block_lawful h.body

-- each foreign name in a statement is so
abbrev pub lawful_layer : StmtKind-F Bool → Bool
lawful_layer (stmt.Foreign x a b c d) = is_foreign_name x
lawful_layer (stmt.If e first second) = block_lawful first && block_lawful second
lawful_layer (stmt.While e body) = block_lawful body
lawful_layer (stmt.Call call) = handler_lawful call.handler
lawful_layer _ = true

unfoldable pub lawful_kind : StmtKind → Bool
lawful_kind = fold-StmtKind Bool lawful_layer

-- each foreign name in the program is so
abbrev pub HasLawfulNames : Program → Type 0
HasLawfulNames p = IsTrue (list_all (λ (f : Function). list_all (λ (x : Spanned StmtKind). lawful_kind x.kind) (f.body).stmts) p.functions)
