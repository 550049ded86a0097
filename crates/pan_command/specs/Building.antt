-- What is built of a source.
use Rattle.std.specs.Prelude.{ℕ, List}
use Rattle.pan_agree.specs.Faithful.{Faithful}
use Rattle.pan_driver.specs.Bounded.{IsBoundOf}
use Rattle.pan_driver.specs.Chained.{parts, Chained}
use Rattle.pan_driver.specs.InTime.{IsInTime, IsShort}
use Rattle.pan_driver.specs.declared.built.Stages.{Stages}
use Rattle.pan_command.specs.Outside.{Outside, Holds}
use Rattle.pan_command.specs.Reading.{IsSource}

-- The bytes are a source of the program of the stages and of no other, each stage is what its pass may give for the one before, and the image that ends them is faithful to the program, in time and short. Its bound is one on its stack.
pub record IsBuilt (bytes : List ℕ) (stages : Stages) (image : List ℕ) : Type 0 where
  pub source : IsSource bytes stages.checked
  pub chained : Chained bytes stages image
  pub faithful : Faithful stages.checked image (parts stages)
  pub in_time : IsInTime stages.checked (parts stages)
  pub short : IsShort stages.checked (parts stages)
  pub bounded : IsBoundOf stages.checked (parts stages) stages.bound

-- the file was read, and its bytes are a source that was built
pub record SourceBuilt (before : Outside) (name : List ℕ) : Type 0 where
  pub bytes : List ℕ
  pub held : Holds (before.files).files name bytes
  pub stages : Stages
  pub image : List ℕ
  pub built : IsBuilt bytes stages image
