-- Shapes in which a struct of words is a group, and variables that have the shapes of the check's.
use Rattle.std.specs.Prelude.{◌≡◌, map, replicate}
use Rattle.pan_tree.specs.Check as check
use Rattle.pan_tree.specs.Meaning.{Scopes, shapes}
use Rattle.pan_tree.specs.declared.shape.Shape.{Shape, Shape-F, fold-Shape}
use Rattle.pan_tree.specs.declared.shape.Shape.TheOpen as open_shape
use Rattle.pan_tree.specs.declared.shape.Shape.TheVariants as shape

abbrev pub spread_layer : Shape-F Shape → Shape
spread_layer open_shape.Word = shape.Word
spread_layer (open_shape.Words n) = shape.Group (replicate n shape.Word)
spread_layer (open_shape.Group parts) = shape.Group parts

-- the same shape, with a group of words for each struct of so many words
unfoldable pub spread : Shape → Shape
spread = fold-Shape Shape spread_layer

-- the variables have the names and the shapes that the check gives them
abbrev pub HaveShapes : check.Scopes → Scopes → Type 0
HaveShapes s v = shapes v ≡ map (λ (scope : check.Scope). map (λ q. (q.0, spread q.1)) scope) s
