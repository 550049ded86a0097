-- The arguments of a call, by their shapes.
use Rattle.std.specs.Prelude.{ℕ, nat_eq, ◌&&◌, ◌||◌, not, Bool, false, List, [], ◌∷◌, length, Option, Some, None, option_map}
use Rattle.pan_tree.specs.declared.rule.Rule.TheVariants.{TwoNames, UnknownName, UnknownFunction, UnknownException, WrongShape, WrongCount}
use Rattle.pan_tree.specs.declared.syntax.Target.{Target}
use Rattle.pan_tree.specs.declared.shape.Shape.{Shape}
use Rattle.pan_tree.specs.declared.program.Param.{Param}
use Rattle.pan_tree.specs.declared.program.Function.{Function}
use Rattle.pan_tree.specs.Shapes.{same}
use Rattle.pan_tree.specs.Check.{Scopes, Break, broken, no_value, is_other, is_new_twice, is_old_unknown, is_old_other}

-- one has another shape than its parameter
abbrev pub differing : List Param → List Shape → Bool
differing (p ∷ ps) (s ∷ ss) = not (same p.shape s) || differing ps ss
differing _ _ = false

-- the function is known, and has another number of parameters
abbrev pub counted : Option Function → List Shape → Bool
counted None ss = false
counted (Some f) ss = not (nat_eq (length f.params) (length ss))

-- the function is known, and has as many parameters, of which one has another shape
abbrev pub misshapen : Option Function → List Shape → Bool
misshapen None ss = false
misshapen (Some f) ss = nat_eq (length f.params) (length ss) && differing f.params ss

-- what a call breaks, but for its arguments and its handler's block, from the shapes of the arguments
abbrev pub call_breaks : ℕ → Target → Option Function → List Shape → Bool → Scopes → List Break
call_breaks place into f ss no_exception v =
    broken place
    ((TwoNames, is_new_twice into v) ∷ (UnknownName, is_old_unknown into v) ∷ (UnknownFunction, no_value f)
    ∷ (UnknownException, no_exception) ∷ (WrongShape, misshapen f ss || is_old_other into f v) ∷ (WrongCount, counted f ss) ∷ [])

-- the same of a call whose result a function of this result returns
abbrev pub tail_breaks : ℕ → Option Function → List Shape → Shape → List Break
tail_breaks place f ss result =
    broken place
    ((UnknownFunction, no_value f) ∷ (WrongShape, misshapen f ss || is_other (option_map (λ (g : Function). g.result) f) result) ∷ (WrongCount, counted f ss) ∷ [])
