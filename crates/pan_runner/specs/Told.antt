-- The values of the runner as those of the source.
use Rattle.std.specs.Prelude.{List, map}
use Rattle.pan_tree.specs.Value.{Value as Meant, Word, Struct, values_of}
use Rattle.pan_runner.specs.declared.value.Value.{Value, Value-F, fold-Value}
use Rattle.pan_runner.specs.declared.value.Value.TheOpen as value

abbrev pub told_layer : Value-F Meant → Meant
told_layer (value.Word n) = Word n
told_layer (value.Struct parts) = Struct (values_of parts)

unfoldable pub told : Value → Meant
told = fold-Value Meant told_layer

abbrev pub all_told : List Value → List Meant
all_told vs = map told vs
