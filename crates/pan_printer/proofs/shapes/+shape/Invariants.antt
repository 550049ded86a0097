use Rattle.std.proofs.Common.{◌≡◌, ◌∷◌, ◌++◌, drop}
use Rattle.std.specs.Prelude.{flat_map}
use Rattle.pan_base.specs.declared.tokens.Sign.TheVariants as signs
use Rattle.pan_printer.specs.Pieces.{sign, text_of}
use Rattle.pan_printer.specs.Expressions.{shape_pieces}
use Rattle.pan_printer.proofs.shapes.+shape.Given as goal

-- what is left to do completes what is done
abbrev pub invariant-put_shapes-loop-shape : goal.invariant-put_shapes-loop-shape
invariant-put_shapes-loop-shape l =
    l.out ++ text_of (flat_map (λ x. sign signs.Comma ∷ shape_pieces x) (drop l.shape-index l.more)) ≡ l.initial.out ++ text_of (flat_map (λ x. sign signs.Comma ∷ shape_pieces x) l.more)
