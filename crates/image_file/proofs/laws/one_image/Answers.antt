use Rattle.image_file.proofs.WrittenLaws.{same_image}
use Rattle.image_file.proofs.Faultless.{faultless, exact}
use Rattle.image_file.proofs.laws.one_image.Goals as goal

pub returns : goal.returns
returns c = record { same = same_image; faultless = faultless; exact = exact }
