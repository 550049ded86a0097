-- What is kept of a program, from its parts.
use Rattle.std.proofs.Common.{◌≡◌, ℕ, ◌-◌, ◌^◌, ◌≤◌, min, nat_lt, not, ◌&&◌, true, false, List, [], ◌∷◌, ◌++◌, map, codes, arith, refl, ap, ◌∙◌, append_assoc}
use Rattle.std.specs.List.{list_all}
use Rattle.std.proofs.lemmas.Bool.Decides.{nat_tests}
use Rattle.pan_tree.specs.declared.rule.Rule.TheVariants.{FunctionTooHeavy}
use Rattle.pan_tree.specs.declared.program.Function.{Function}
use Rattle.pan_tree.specs.declared.program.Program.{Program}
use Rattle.pan_tree.specs.Check.{Break, broken, breaks, HasLawfulNames, function_of, function_weight, program_weight, foreign_names, main_breaks, bodies, weight_breaks}
use Rattle.pan_shapes.specs.HeadRules.{heads}
use Rattle.pan_shapes.specs.Kept.{Kept, IsMainAt, is_short_foreign}
use Rattle.pan_shapes.specs.Weights.{are_weights, heavy_functions}
use Rattle.pan_shapes.proofs.Answering.{one_holds}
use Rattle.pan_shapes.proofs.BodyLemmas.{no_front, no_back}
use Rattle.pan_shapes.proofs.GoodNames.{names_good}

-- ---- the parts of a program, in their order

abbrev main_part : Program → List Break
main_part p = main_breaks (function_of (codes "main") p)

pub heads_first : (p : Program) → breaks p ≡ heads p ++ (main_part p ++ (bodies p p.functions [] ++ weight_breaks p))
heads_first p = append_assoc (heads p ++ main_part p) (bodies p p.functions []) (weight_breaks p) ∙ append_assoc (heads p) (main_part p) (bodies p p.functions [] ++ weight_breaks p)

pub main_first : (p : Program) → heads p ≡ [] → breaks p ≡ main_part p ++ (bodies p p.functions [] ++ weight_breaks p)
main_first p none = heads_first p ∙ ap (λ bs. bs ++ (main_part p ++ (bodies p p.functions [] ++ weight_breaks p))) none

pub bodies_first : (p : Program) → heads p ≡ [] → main_part p ≡ [] → breaks p ≡ bodies p p.functions [] ++ weight_breaks p
bodies_first p none main = main_first p none ∙ ap (λ bs. bs ++ (bodies p p.functions [] ++ weight_breaks p)) main

-- ---- weights

cut_light : (n m bound : ℕ) → bound ≤ m → nat_lt bound n ≡ false → min n m ≡ n
cut_light n m bound small light = let at_most : n ≤ bound = grind (arith, nat_tests) in omega arith

light_weights : (p : Program) (fs : List Function) → heavy_functions p fs ≡ [] → are_weights p fs ≡ map (function_weight p) fs
light_weights p [] none = refl
light_weights p (f ∷ fs) none =
    let rules = broken (f.span).start ((FunctionTooHeavy, nat_lt 16384 (function_weight p f)) ∷ []) in
    let light = one_holds (f.span).start FunctionTooHeavy (nat_lt 16384 (function_weight p f)) [] (no_front rules (heavy_functions p fs) none) in
    let first = cut_light (function_weight p f) (2 ^ 64 - 1) 16384 (omega arith) light in
    ap (λ n. n ∷ are_weights p fs) first ∙ ap (λ ns. function_weight p f ∷ ns) (light_weights p fs (no_back rules (heavy_functions p fs) none))

all_light : (p : Program) (fs : List Function) → heavy_functions p fs ≡ [] → list_all (λ w. not (nat_lt 16384 w)) (map (function_weight p) fs) ≡ true
all_light p [] none = refl
all_light p (f ∷ fs) none =
    let rules = broken (f.span).start ((FunctionTooHeavy, nat_lt 16384 (function_weight p f)) ∷ []) in
    let light = one_holds (f.span).start FunctionTooHeavy (nat_lt 16384 (function_weight p f)) [] (no_front rules (heavy_functions p fs) none) in
    ap (λ b. not b && list_all (λ w. not (nat_lt 16384 w)) (map (function_weight p) fs)) light ∙ all_light p fs (no_back rules (heavy_functions p fs) none)

-- ---- all together

pub is_kept : (p : Program) (main : ℕ) (weights : List ℕ) (weight : ℕ) (names : List (List ℕ)) → HasLawfulNames p → heads p ≡ [] → main_part p ≡ [] → IsMainAt p main → bodies p p.functions [] ≡ []
    → weights ≡ are_weights p p.functions → names ≡ foreign_names p → weight_breaks p ≡ [] → weight ≡ program_weight p → (breaks p ≡ []) × Kept p main weights weight names
is_kept p main weights weight names lawful no_head no_main at no_body weights_are names_are no_weight weight_is =
    let all : breaks p ≡ [] = bodies_first p no_head no_main ∙ ap (λ bs. bs ++ weight_breaks p) no_body ∙ no_weight in
    let heavy = no_front (heavy_functions p p.functions) _ no_weight in
    let are : weights ≡ map (function_weight p) p.functions = weights_are ∙ light_weights p p.functions heavy in (
      all,
      record {
        shaped = all;
        lawful = lawful;
        main_is = at;
        weights_are = are;
        light = ap (list_all (λ w. not (nat_lt 16384 w))) are ∙ all_light p p.functions heavy;
        weight_is = weight_is;
        names_are = names_are;
        names_good = ap (list_all is_short_foreign) names_are ∙ names_good p p.functions [] lawful no_body refl;
      },
    )
