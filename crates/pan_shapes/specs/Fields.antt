-- What is found at numbers of parts.
use Rattle.pan_tree.specs.Shapes.{Part, APart, OfWord, NoPart}
use Rattle.pan_shapes.specs.declared.fields.Found.{Found}
use Rattle.pan_shapes.specs.declared.fields.Found.TheVariants as found

abbrev pub as_part : Found → Part
as_part (found.Part s) = APart s
as_part found.OfWord = OfWord
as_part found.NoPart = NoPart
