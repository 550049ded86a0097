use Rattle.std.proofs.Common.{◌≡◌, ◌∷◌, ◌++◌, drop}
use Rattle.std.specs.Prelude.{flat_map}
use Rattle.pan_base.specs.declared.tokens.Sign.TheVariants as signs
use Rattle.pan_printer.specs.Pieces.{sign, text_of}
use Rattle.pan_printer.specs.Canonical.{param_pieces}
use Rattle.pan_printer.proofs.programs.put_params.Given as goal

-- what is left to do completes what is done
abbrev pub invariant-loop-param : goal.invariant-loop-param
invariant-loop-param l =
    l.out ++ text_of (flat_map (λ x. sign signs.Comma ∷ param_pieces x) (drop l.param-index l.more)) ≡ l.initial.out ++ text_of (flat_map (λ x. sign signs.Comma ∷ param_pieces x) l.more)
