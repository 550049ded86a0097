-- The meaning of a program whose runs end ill where something isn't as the check says.
use Rattle.std.specs.Prelude.{ℕ, zero, suc, ◌&&◌, Bool, true, false, List, [], ◌∷◌, map, Option, Some, None, slice_get, codes}
use Rattle.std.specs.Option.{is_some}
use Rattle.pan_base.specs.Events.{Replied, Ending, Spent, Fails}
use Rattle.pan_control.specs.World.{entered, tolled}
use Rattle.pan_control.specs.Seen.{Seen}
use Rattle.pan_control.specs.Control.{Normal, Broken, Continued, Returned, Raised, Over, in_turn, turns}
use Rattle.pan_control.specs.Runs.{tested_again}
use Rattle.pan_tree.specs.Running.{World, Outcome, Callee}
use Rattle.pan_tree.specs.Value.{Value, word_of}
use Rattle.pan_tree.specs.Shapes.{shaped}
use Rattle.pan_tree.specs.Check as check
use Rattle.pan_tree.specs.Check.{Break, cost}
use Rattle.pan_tree.specs.Meaning.{Does, Scopes, shapes, weightless, own_weight, expr_weight, scoped, word, function_index, foreign_index, act_layer, parameters, entry_weight, seen, start}
use Rattle.pan_tree.specs.declared.shape.Shape.{Shape}
use Rattle.pan_tree.specs.declared.syntax.StmtKind.{StmtKind, StmtKind-F, fold-StmtKind, map-StmtKind}
use Rattle.pan_tree.specs.declared.syntax.StmtKind.TheOpen as stmt
use Rattle.pan_tree.specs.declared.program.Function.{Function}
use Rattle.pan_tree.specs.declared.program.Program.{Program}

-- what the check makes of a statement without its blocks
abbrev pub own_done : {A : Type 0} → StmtKind-F A → check.Doing
own_done {A} y = check.do_layer (map-StmtKind A check.Doing (λ _. weightless) y)

-- What a statement of a function with this result breaks without its blocks, from the shapes that its variables have when it is reached.
-- Not looked at here are whether a `break` or a `continue` stands in a loop, and how many foreign names the program has.
abbrev pub own_breaks : {A : Type 0} → Program → Shape → StmtKind-F A → Scopes → List Break
own_breaks p result y v = (own_done y (record { program = p; result = result; in_loop = true }) 0 (record { scopes = shapes v; names = [] })).breaks

abbrev pub is_empty : {A : Type 0} → List A → Bool
is_empty [] = true
is_empty (x ∷ xs) = false

-- a foreign name is among the program's
abbrev pub has_number : {A : Type 0} → Program → StmtKind-F A → Bool
has_number p (stmt.Foreign x a b c d) = is_some (foreign_index x p)
has_number p _ = true

abbrev pub breaks_nothing : {A : Type 0} → Program → Shape → StmtKind-F A → Scopes → Bool
breaks_nothing p result y v = is_empty (own_breaks p result y v) && has_number p y

-- what a statement does by itself, where its blocks, its turns and the functions that it calls find no fuel
abbrev pub alone : {A : Type 0} → Program → StmtKind-F A → Does
alone {A} p y = act_layer p 0 (λ f xs w. Over Spent w) (map-StmtKind A Does (λ _ v w. Over Spent w) y)

-- runs that end `ill` where something isn't as the check says, and `halt` where a statement by itself fails
module _ (ill halt : Ending) where
  -- goes on where this holds
  abbrev pub unless_ill : {V : Type 0} → Bool → World → Outcome V Value → Outcome V Value
  unless_ill false w o = Over ill w
  unless_ill true w o = o

  -- goes on with what is there
  abbrev pub with_sound : {V A : Type 0} → Option A → World → (A → Outcome V Value) → Outcome V Value
  with_sound None w go = Over ill w
  with_sound (Some a) w go = go a

  -- goes on unless this fails
  abbrev pub unless_failed : {V : Type 0} → Outcome V Value → Outcome V Value → Outcome V Value
  unless_failed (Over Fails w) o = Over halt w
  unless_failed _ o = o

  -- what a body leaves that doesn't fall off, and returns a value of this shape
  abbrev pub soundly_left : Shape → Outcome Scopes Value → Outcome (Unit {0}) Value
  soundly_left s (Normal v w) = Over ill w
  soundly_left s (Broken v w) = Over ill w
  soundly_left s (Continued v w) = Over ill w
  soundly_left s (Returned x w) = unless_ill (shaped s x) w (Returned x w)
  soundly_left s (Raised i x w) = Raised i x w
  soundly_left s (Over e w) = Over e w

  module _ (p : Program) (result : Shape) (d : ℕ) (callee : Callee (List Value) Value) where
    -- a statement, or a loop each time when it is tested, breaks nothing and doesn't fail by itself
    abbrev pub reached : {A : Type 0} → StmtKind-F A → Scopes → World → Outcome Scopes Value → Outcome Scopes Value
    reached y v w o = unless_ill (breaks_nothing p result y v) w (unless_failed (alone p y v w) o)

    abbrev pub guarded_act : StmtKind-F Does → Does
    guarded_act (stmt.While e body) v w =
        turns d (λ v w. reached (stmt.While e body) v w (Normal v w)) (λ v w. word e v w.memory) (λ v w. tested_again (expr_weight e) (scoped [] body v w)) v w
    guarded_act y v w = reached y v w (act_layer p d callee y v w)

    -- the same, with the work of the statement
    abbrev pub guarded_layer : StmtKind-F Does → Does
    guarded_layer y v w = guarded_act y v (tolled (own_weight p y v) w)

    unfoldable pub guarded_kind : StmtKind → Does
    guarded_kind = fold-StmtKind Does guarded_layer

  -- a function's body runs on as many arguments as it has parameters
  abbrev pub guarded_body : Program → ℕ → Callee (List Value) Value → Function → List Value → World → Outcome (Unit {0}) Value
  guarded_body p d callee f xs w =
      with_sound (parameters f.params xs) w (λ scope.
      soundly_left f.result (in_turn (map (λ s. guarded_kind p f.result d callee s.kind) (f.body).stmts) (scope ∷ []) (entered (cost p f) (tolled (entry_weight f) w))))

  abbrev pub guarded_calls : Program → ℕ → Callee (List Value) Value
  guarded_calls p zero f xs w = Over Spent w
  guarded_calls p (suc d) f xs w = with_sound (slice_get p.functions f) w (λ g. guarded_body p d (guarded_calls p d) g xs w)

  -- main leaves a word, where it returns
  abbrev pub word_left : Outcome (Unit {0}) Value → Outcome (Unit {0}) Value
  word_left (Returned x w) = unless_ill (is_some (word_of x)) w (Returned x w)
  word_left o = o

  -- What is seen of a program, as `source` says, but a run ends `ill` where it comes to what the check rules out: a statement or a
  -- loop's test that breaks a rule with the shapes that the variables then have, an unknown function or foreign name, a wrong number
  -- of arguments, a body that falls off or returns a value of another shape, or a main that returns no word. It ends `halt` where a
  -- statement that breaks no rule fails by itself. A `break` or a `continue` outside every loop is not found at the statement: the
  -- body that leaves by one ends `ill`, by `soundly_left`. How many foreign names there are is nowhere looked at.
  abbrev pub guarded : Program → List ℕ → List Replied → ℕ → Seen
  guarded p m r n = seen (word_left (with_sound (function_index (codes "main") p) (start m r n) (λ f. guarded_calls p (suc n) f [] (start m r n))))

-- an end, with this one in the place of a failure
abbrev pub failing_so : Ending → Ending → Ending
failing_so halt Fails = halt
failing_so halt e = e

abbrev pub seen_so : Ending → Seen → Seen
seen_so halt s = record s { behaviour = record { events = (s.behaviour).events; ending = failing_so halt (s.behaviour).ending } }
