-- What checking statements answers.
use Rattle.std.specs.Prelude.{◌≡◌, ℕ, ◌+◌, ◌-◌, ◌^◌, min, ◌||◌, Bool, List, [], ◌∷◌, map, Option, Some, None, Result}
use Rattle.pan_tree.specs.declared.rule.Rule.TheVariants.{NotWord, TwoNames, UnknownName, UnknownFunction, UnknownException, WrongShape, WrongCount}
use Rattle.pan_tree.specs.declared.spanned.Spanned.{Spanned}
use Rattle.pan_tree.specs.declared.syntax.BlockOf.{BlockOf}
use Rattle.pan_tree.specs.declared.syntax.HandlerOf.{HandlerOf}
use Rattle.pan_tree.specs.declared.syntax.CallOf.{CallOf}
use Rattle.pan_tree.specs.declared.syntax.ExprKind.{ExprKind}
use Rattle.pan_tree.specs.declared.syntax.StmtKind.{StmtKind, StmtKind-F}
use Rattle.pan_tree.specs.declared.syntax.Target.{Target}
use Rattle.pan_tree.specs.Shapes.{words_of}
use Rattle.pan_tree.specs.Check.{Context, State, Done, Doing, doing, do_layer, plain, judged, has_no_word, function_of, result_of, no_value, is_new_twice, is_old_unknown, is_old_other, target_words, after_target, wrong_shape, wrong_count}
use Rattle.pan_shapes.specs.declared.error.CheckError.{CheckError}
use Rattle.pan_shapes.specs.declared.walking.Around.{Around}
use Rattle.pan_shapes.specs.declared.walking.Walk.{Walk}
use Rattle.pan_shapes.specs.Answers.{IsAnswer}

abbrev pub context : Around → Context
context a = record { program = a.heads.now; result = a.result.now; in_loop = a.in_loop }

abbrev pub state : Walk → State
state w = record { scopes = w.scopes; names = w.names }

-- the weight, or the greatest number of 64 bits where that is less, and what the statements after see
abbrev pub IsDone : Done → Walk → Result ℕ CheckError → Type 0
IsDone d after result = IsAnswer d.breaks (λ weight. (weight ≡ min d.weight (2 ^ 64 - 1)) × (state after ≡ d.state)) result

-- a statement of this kind, from its parts, is done at this place
abbrev pub Does : StmtKind-F Doing → Around → ℕ → Walk → Walk → Result ℕ CheckError → Type 0
Does y around place before after result = IsDone (do_layer y (context around) place (state before)) after result

-- the statements of a block, as what they do
abbrev pub doings : BlockOf (Spanned StmtKind) → BlockOf (Spanned Doing)
doings b = record { stmts = map doing b.stmts }

abbrev pub handler_doings : Option (HandlerOf (Spanned StmtKind)) → Option (HandlerOf (Spanned Doing))
handler_doings None = None
handler_doings (Some h) = Some (record { exception = h.exception; name = h.name; body = doings h.body })

abbrev pub call_doings : CallOf (Spanned StmtKind) → CallOf (Spanned Doing)
call_doings k = record { into = k.into; function = k.function; args = k.args; handler = handler_doings k.handler }

-- the word that `if` and `while` ask for, before their blocks
abbrev pub condition_alone : Spanned ExprKind → ℕ → State → Done
condition_alone e place s = let parts = judged e s.scopes ∷ [] in plain place 0 parts ((NotWord, has_no_word parts) ∷ []) s

-- a call but for its handler, which may name an exception that isn't known
abbrev pub call_alone : Target → List ℕ → List (Spanned ExprKind) → Bool → Context → ℕ → State → Done
call_alone into name xs no_exception c place s =
    let args = map (λ x. judged x s.scopes) xs in
    let f = function_of name c.program in
    let result = result_of f in
    plain place (target_words into result s.scopes + words_of result) args
    ((TwoNames, is_new_twice into s.scopes) ∷ (UnknownName, is_old_unknown into s.scopes) ∷ (UnknownFunction, no_value f)
    ∷ (UnknownException, no_exception) ∷ (WrongShape, wrong_shape f args || is_old_other into f s.scopes) ∷ (WrongCount, wrong_count f args) ∷ [])
    (record s { scopes = after_target into result s.scopes })
