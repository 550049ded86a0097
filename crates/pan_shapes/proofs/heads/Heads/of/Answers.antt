use Rattle.std.proofs.Common.{◌++◌, List, [], sym, ap}
use Rattle.pan_tree.specs.declared.program.Exception.{Exception}
use Rattle.pan_tree.specs.declared.program.Function.{Function}
use Rattle.pan_tree.specs.Check.{exception_heads, function_heads}
use Rattle.pan_shapes.proofs.Answering.{refused}
use Rattle.pan_shapes.proofs.heads.Heads.of.Goals as goal

pub returns-in_err-exceptions : goal.returns-in_err-exceptions
returns-in_err-exceptions c =
    let fs : List Function = (c.args.program.now).functions in
    refused _ c.from_residual.result (exception_heads [] c.as_slice.result.now) (function_heads [] fs) c.in_err-exceptions.field-0.0
    (ap (λ (xs : List Exception). exception_heads [] xs ++ function_heads [] fs) (sym c.as_slice.ensures)) c.from_residual.ensures.1 c.in_err-exceptions.ensures
