use Rattle.std.proofs.Common.{◌≡◌, ◌∷◌, ◌++◌, ◌-◌, ◌^◌, [], min, sum, nat_lt, arith, refl, sym, ap, ◌∙◌}
use Rattle.pan_tree.specs.declared.rule.Rule.TheVariants.{ProgramTooHeavy}
use Rattle.pan_tree.specs.Check.{broken, program_weight, function_weight}
use Rattle.pan_shapes.specs.Weights.{heavy_functions}
use Rattle.pan_shapes.proofs.Answering.{refused, refused_alone, one_holds}
use Rattle.pan_shapes.proofs.Sums.{cut_sum, heavier, light_is}
use Rattle.pan_shapes.proofs.weights.refuse_heavy.Goals as goal

pub returns-in_err-refuse_heavy_functions : goal.returns-in_err-refuse_heavy_functions
returns-in_err-refuse_heavy_functions c =
    let p = c.args.program.now in
    refused _ c.from_residual.result (heavy_functions p p.functions) _ c.in_err-refuse_heavy_functions.field-0.0 refl c.from_residual.ensures.1 c.in_err-refuse_heavy_functions.ensures

pub returns-in_err-refuse : goal.returns-in_err-refuse
returns-in_err-refuse c =
    let p = c.args.program.now in
    let total = c.total_of-total.result in
    let known : total ≡ min (program_weight p) (2 ^ 64 - 1) = c.total_of-total.ensures ∙ ap (λ ws. min (sum ws) (2 ^ 64 - 1)) c.requires ∙ cut_sum (function_weight p) p.functions (2 ^ 64 - 1) in
    refused_alone _ c.from_residual-in_err-refuse.result (broken 0 ((ProgramTooHeavy, nat_lt 262144 total) ∷ [])) c.in_err-refuse.field-0.0
    (ap (λ bs. bs ++ broken 0 ((ProgramTooHeavy, nat_lt 262144 (program_weight p)) ∷ [])) c.in_ok-refuse_heavy_functions.ensures.0
    ∙ ap (λ b. broken 0 ((ProgramTooHeavy, b) ∷ [])) (sym (heavier 262144 total (program_weight p) (2 ^ 64 - 1) known (omega arith))))
    c.from_residual-in_err-refuse.ensures.1 c.in_err-refuse.ensures

pub returns : goal.returns
returns c =
    let p = c.args.program.now in
    let total = c.total_of-total.result in
    let known : total ≡ min (program_weight p) (2 ^ 64 - 1) = c.total_of-total.ensures ∙ ap (λ ws. min (sum ws) (2 ^ 64 - 1)) c.requires ∙ cut_sum (function_weight p) p.functions (2 ^ 64 - 1) in
    let light : broken 0 ((ProgramTooHeavy, nat_lt 262144 total) ∷ []) ≡ [] = c.in_ok-refuse.ensures.0 in (
      ap (λ bs. bs ++ broken 0 ((ProgramTooHeavy, nat_lt 262144 (program_weight p)) ∷ [])) c.in_ok-refuse_heavy_functions.ensures.0
          ∙ ap (λ b. broken 0 ((ProgramTooHeavy, b) ∷ [])) (sym (heavier 262144 total (program_weight p) (2 ^ 64 - 1) known (omega arith))) ∙ light,
      light_is 262144 total (program_weight p) (2 ^ 64 - 1) known (omega arith) (one_holds 0 ProgramTooHeavy (nat_lt 262144 total) [] light),
    )
