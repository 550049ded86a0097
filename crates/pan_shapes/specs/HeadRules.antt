-- The rules of one head.
use Rattle.std.specs.Prelude.{ℕ, Bool, nat_lt, ◌||◌, not, List, [], ◌∷◌, ◌++◌, map, length}
use Rattle.std.specs.List.{list_any}
use Rattle.std.specs.Str.{bytes_eq}
use Rattle.pan_tree.specs.declared.rule.Rule.TheVariants.{TwoNames, ShapeTooWide, TooMany}
use Rattle.pan_tree.specs.declared.program.Param.{Param}
use Rattle.pan_tree.specs.declared.program.Exception.{Exception}
use Rattle.pan_tree.specs.declared.program.Function.{Function}
use Rattle.pan_tree.specs.declared.program.Program.{Program}
use Rattle.pan_tree.specs.Check.{exception_heads, function_heads, Break, broken, max_words, is_wide, parameter_words, repeats}

-- what an exception breaks, after exceptions of these names
abbrev pub exception_head : List (List ℕ) → Exception → List Break
exception_head names x =
    broken x.span.start
    ((TwoNames, list_any (λ y. bytes_eq y x.name) names) ∷ (ShapeTooWide, is_wide x.shape) ∷ (TooMany, not (nat_lt (length names) 1024)) ∷ [])

abbrev pub head_repeats : List (List ℕ) → Function → Bool
head_repeats names f = list_any (λ y. bytes_eq y f.name) names || repeats (map (λ (p : Param). p.name) f.params)

abbrev pub head_is_wide : Function → Bool
head_is_wide f = is_wide f.result || nat_lt max_words (parameter_words f.params)

-- what the head of a function breaks, after functions of these names
abbrev pub function_head : List (List ℕ) → Function → List Break
function_head names f =
    broken f.span.start ((TwoNames, head_repeats names f) ∷ (ShapeTooWide, head_is_wide f) ∷ (TooMany, not (nat_lt (length names) 4096)) ∷ [])

-- what all heads of a program break
abbrev pub heads : Program → List Break
heads p = exception_heads [] p.exceptions ++ function_heads [] p.functions
