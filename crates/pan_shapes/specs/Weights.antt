-- What functions weigh, as the check keeps it, and what a body breaks with the end of the function.
use Rattle.std.specs.Prelude.{◌≡◌, ℕ, ◌-◌, ◌^◌, min, not, List, [], ◌∷◌, ◌++◌, map, flat_map, nat_lt, Result}
use Rattle.pan_tree.specs.declared.rule.Rule.TheVariants.{NoReturn, FunctionTooHeavy}
use Rattle.pan_tree.specs.declared.program.Function.{Function}
use Rattle.pan_tree.specs.declared.program.Program.{Program}
use Rattle.pan_tree.specs.Check.{Break, broken, body, closes, function_weight}
use Rattle.pan_shapes.specs.declared.error.CheckError.{CheckError}
use Rattle.pan_shapes.specs.declared.walking.Walk.{Walk}
use Rattle.pan_shapes.specs.Answers.{IsAnswer}
use Rattle.pan_shapes.specs.Doings.{state}

-- what each function weighs, or the greatest number of 64 bits where that is less
abbrev pub are_weights : Program → List Function → List ℕ
are_weights p fs = map (λ f. min (function_weight p f) (2 ^ 64 - 1)) fs

-- what a function breaks behind its head
abbrev pub body_breaks : Program → Function → List (List ℕ) → List Break
body_breaks p f names = (body p f names).breaks ++ broken f.span.start ((NoReturn, not (closes f.body)) ∷ [])

abbrev pub IsFunctionDone : Program → Function → List (List ℕ) → Walk → Result ℕ CheckError → Type 0
IsFunctionDone p f names after result = IsAnswer (body_breaks p f names) (λ weight. (weight ≡ min (function_weight p f) (2 ^ 64 - 1)) × (state after ≡ (body p f names).state)) result

-- the functions that weigh too much
abbrev pub heavy_functions : Program → List Function → List Break
heavy_functions p fs = flat_map (λ f. broken f.span.start ((FunctionTooHeavy, nat_lt 16384 (function_weight p f)) ∷ [])) fs
