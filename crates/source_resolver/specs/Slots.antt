-- What a resolved program means: what it does as the source does it, with the variables in one list, in the order of their declarations.
-- Costs and work, which no behaviour shows, aren't counted.
use Rattle.std.specs.Prelude.{ℕ, suc, ◌*◌, ◌%◌, ◌^◌, nat_eq, false, if◌then◌else◌, List, [], ◌∷◌, ◌++◌, map, length, take, Option, Some, None, option_and_then, option_map, slice_get, slice_set}
use Rattle.std.specs.Option.{option_map_or}
use Rattle.pan_base.specs.declared.operators.BinOp.{BinOp}
use Rattle.pan_base.specs.Words.{operate, negate, truth}
use Rattle.pan_base.specs.Events.{Load, Store, Replied, Behaviour, byte_count}
use Rattle.pan_control.specs.Memory.{is_shared, byte_at, with_byte, words_at, with_words}
use Rattle.pan_control.specs.Control.{Normal, Broken, Continued, Returned, Raised, in_turn, with_value, where_true, if_not_zero, ask, turns, call, tail_call, left, on_variables}
use Rattle.pan_control.specs.Runs as runs
use Rattle.pan_control.specs.Runs.{number, nested}
use Rattle.pan_tree.specs.Running.{World, Outcome, Meaning, Callee}
use Rattle.pan_tree.specs.Value.{Value, Word, Struct, values_of, part_of_part, words_in}
use Rattle.pan_tree.specs.Shapes.{words_of, filled, zero_of}
use Rattle.pan_tree.specs.Meaning.{as_word, all_given, shifted, seen, start}
use Rattle.source_resolver.specs.declared.resolved.Expr.{Expr, Expr-F, fold-Expr}
use Rattle.source_resolver.specs.declared.resolved.Expr.TheOpen as expr
use Rattle.source_resolver.specs.declared.resolved.Stmt.{Stmt, Stmt-F, fold-Stmt}
use Rattle.source_resolver.specs.declared.resolved.Stmt.TheOpen as stmt
use Rattle.source_resolver.specs.declared.resolved.Target.{Target}
use Rattle.source_resolver.specs.declared.resolved.Target.TheVariants as target
use Rattle.source_resolver.specs.declared.resolved.HandlerOf.{HandlerOf}
use Rattle.source_resolver.specs.declared.resolved.Function.{Function}
use Rattle.source_resolver.specs.declared.resolved.Program.{Program}

-- the variables that are declared, the function's first at place 0
abbrev pub Variables : Type 0
Variables = List Value

abbrev pub variable : Option ℕ → Variables → Option Value
variable place u = option_and_then (slice_get u) place

-- another value for the variable at this place, where there is one
abbrev pub assigned : Option ℕ → Value → Variables → Variables
assigned None a u = u
assigned (Some i) a u = slice_set u i a

-- ---- expressions

abbrev pub Giving : Type 0
Giving = Variables → List ℕ → Option Value

abbrev pub chain : Option ℕ → List (BinOp × Giving) → Variables → List ℕ → Option ℕ
chain a [] u m = a
chain None (p ∷ ps) u m = None
chain (Some a) (p ∷ ps) u m = chain (option_map (operate p.0 a) (as_word (p.1 u m))) ps u m

abbrev pub value_layer : Expr-F Giving → Giving
value_layer (expr.Number n) u m = Some (Word n)
value_layer (expr.Variable place) u m = variable place u
value_layer (expr.Struct parts) u m = option_map (λ vs. Struct (values_of vs)) (all_given (map (λ e. e u m) parts))
value_layer (expr.Field e is) u m = part_of_part (e u m) is
value_layer (expr.Load s a) u m = option_and_then (λ addr. option_map (filled s) (words_at m addr (words_of s))) (as_word (a u m))
value_layer (expr.LoadByte a) u m = option_map Word (option_and_then (byte_at m) (as_word (a u m)))
value_layer (expr.Neg e) u m = option_map (λ n. Word (negate n)) (as_word (e u m))
value_layer (expr.Chain first rest) u m = option_map Word (chain (as_word (first u m)) rest u m)
value_layer (expr.Shift e shifts) u m = option_map (λ n. Word (shifted shifts n)) (as_word (e u m))
value_layer (expr.Compare c a b) u m = option_and_then (λ x. option_map (λ y. Word (truth c x y)) (as_word (b u m))) (as_word (a u m))

unfoldable pub value : Expr → Giving
value = fold-Expr Giving value_layer

abbrev pub word : Expr → Variables → List ℕ → Option ℕ
word e u m = as_word (value e u m)

abbrev pub values : List Expr → Variables → List ℕ → Option (List Value)
values es u m = all_given (map (λ e. value e u m) es)

-- ---- statements

abbrev pub Does : Type 0
Does = Meaning Variables Value

-- a block, which begins with these variables; they and those that it declares end with it
abbrev pub scoped : List Value → List Does → Does
scoped first b u w = on_variables (take (length u)) (in_turn b (u ++ first) w)

abbrev pub into : Target → Value → Variables → Variables
into target.Nothing a u = u
into (target.Old place) a u = assigned place a u
into (target.New s) a u = u ++ a ∷ []

abbrev pub into_nothing : Target → Variables → Variables
into_nothing target.Nothing u = u
into_nothing (target.Old place) u = u
into_nothing (target.New s) u = u ++ zero_of s ∷ []

abbrev pub caught : Option (HandlerOf (List Does)) → Variables → ℕ → Value → World → Outcome Variables Value
caught None u i a w = Raised i a w
caught (Some h) u i a w = if option_map_or (nat_eq i) h.exception false then scoped (a ∷ []) h.body u w else Raised i a w

-- with the foreign names of the program
module _ (names : List (List ℕ)) where
  -- a foreign call, by the number of its name
  abbrev pub foreign : ℕ → ℕ → ℕ → ℕ → ℕ → Does
  foreign i conf conf_len array array_len u w = with_value (slice_get names i) w (λ name. runs.foreign i name conf conf_len array array_len u w)

  module _ (d : ℕ) (callee : Callee (List Value) Value) where
    abbrev pub act_layer : Stmt-F Does → Does
    act_layer stmt.Skip u w = Normal u w
    act_layer (stmt.Declare e) u w = with_value (value e u w.memory) w (λ a. Normal (u ++ a ∷ []) w)
    act_layer (stmt.Assign place e) u w = with_value (value e u w.memory) w (λ a. Normal (assigned place a u) w)
    act_layer (stmt.StoreWords a e) u w =
        with_value (word a u w.memory) w (λ addr. with_value (value e u w.memory) w (λ x.
        with_value (with_words w.memory addr (words_in x)) w (λ m. Normal u (record w { memory = m }))))
    act_layer (stmt.StoreByte a e) u w =
        with_value (word a u w.memory) w (λ addr. with_value (word e u w.memory) w (λ n.
        with_value (with_byte w.memory addr (n % 256)) w (λ m. Normal u (record w { memory = m }))))
    act_layer (stmt.If e first second) u w = with_value (word e u w.memory) w (λ n. if_not_zero n (scoped [] first u w) (scoped [] second u w))
    act_layer (stmt.While e body) u w = turns d (λ u w. Normal u w) (λ u w. word e u w.memory) (scoped [] body) u w
    act_layer stmt.Break u w = Broken u w
    act_layer stmt.Continue u w = Continued u w
    act_layer (stmt.Call c) u w =
        with_value c.function w (λ f.
        call callee f (values c.args u w.memory) w (λ a w. Normal (into c.into a u) w) (caught c.handler (into_nothing c.into u)))
    act_layer (stmt.Return e) u w = with_value (value e u w.memory) w (λ a. Returned a w)
    act_layer (stmt.TailCall function args) u w = with_value function w (λ f. tail_call callee f (values args u w.memory) w)
    act_layer (stmt.Raise exception e) u w = with_value exception w (λ i. with_value (value e u w.memory) w (λ a. Raised i a w))
    act_layer (stmt.SharedLoad size place a) u w =
        with_value (word a u w.memory) w (λ addr.
        where_true (is_shared size addr) w (ask (Load size addr) w (λ r w. Normal (assigned place (Word (number r)) u) w)))
    act_layer (stmt.SharedStore size a e) u w =
        with_value (word a u w.memory) w (λ addr. with_value (word e u w.memory) w (λ n.
        where_true (is_shared size addr) w (ask (Store size addr (n % 2 ^ (8 * byte_count size))) w (λ r w. Normal u w))))
    act_layer (stmt.Foreign name conf conf_len array array_len) u w =
        with_value name w (λ i.
        with_value (word conf u w.memory) w (λ c. with_value (word conf_len u w.memory) w (λ l.
        with_value (word array u w.memory) w (λ a. with_value (word array_len u w.memory) w (λ m. foreign i c l a m u w)))))

    unfoldable pub run : Stmt → Does
    run = fold-Stmt Does act_layer

  -- a function's body runs on these arguments, and leaves; another number of arguments than parameters fails
  abbrev pub body_of : ℕ → Callee (List Value) Value → Function → List Value → World → Outcome (Unit {0}) Value
  body_of d callee f xs w = where_true (nat_eq (length xs) f.params) w (left (in_turn (map (run d callee) f.body) xs w))

  -- the function of this number is entered
  abbrev pub enter : Program → ℕ → Callee (List Value) Value → Callee (List Value) Value
  enter p d callee f xs w = with_value (slice_get p.functions f) w (λ g. body_of d callee g xs w)

  -- what a function does, with calls nested no deeper than the number
  abbrev pub calls : Program → ℕ → Callee (List Value) Value
  calls p = nested (enter p)

  -- the trace and the end of function main
  abbrev pub behaviour : Program → List ℕ → List Replied → ℕ → Behaviour
  behaviour p m r n = (seen (with_value p.main (start m r n) (λ f. calls p (suc n) f [] (start m r n)))).behaviour
