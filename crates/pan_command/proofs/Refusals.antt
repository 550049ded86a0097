-- What was read of a source or of an image, and what one that is refused leaves, by what was answered.
use Rattle.std.proofs.Common.{◌≡◌, ℕ, List, Some, Ok, Err}
use Rattle.std.specs.Prelude.{◌⊎◌}
use Rattle.pan_tree.specs.declared.program.Program.{Program}
use Rattle.front_end.specs.Sources.{IsChecked, Unchecked}
use Rattle.front_end.specs.declared.error.SourceError.{SourceError}
use Rattle.front_end.specs.declared.error.SourceError.TheVariants as wrong
use Rattle.riscv_isa.specs.Image.{ImageParts, ImageOf}
use Rattle.image_file.specs.Faults.{fault_of}
use Rattle.image_file.specs.declared.error.ImageError.{ImageError}
use Rattle.image_file.specs.declared.error.ImageError.TheVariants as fault
use Rattle.pan_agree.specs.Faithful.{Faithful}
use Rattle.pan_driver.specs.Bounded.{IsBoundOf}
use Rattle.pan_driver.specs.Chained.{parts, Chained}
use Rattle.pan_driver.specs.Errors.{source_error, Unbuilt}
use Rattle.pan_driver.specs.InTime.{IsInTime, IsShort}
use Rattle.pan_driver.specs.declared.built.Stages.{Stages}
use Rattle.pan_driver.specs.declared.error.BuildError.{BuildError}
use Rattle.pan_driver.specs.declared.error.BuildError.TheVariants.{NoMemory}
use Rattle.pan_command.specs.Building.{IsBuilt}
use Rattle.pan_command.specs.Outside.{Outside, Holds}
use Rattle.pan_command.specs.Check.{Unpassed}
use Rattle.pan_command.specs.Reading.{IsImage, IsSource, source_line}
use Rattle.pan_command.specs.Run.{NoImage, image_line}
use Rattle.pan_command.proofs.Results.{Gives, no_error, same_value, no_value, same_error, not_memory}

-- bytes are a source of one program or refused for one reason, and never both
pub record OneReading : Type 0 where
  pub program : (bytes : List ℕ) (p q : Program) → IsChecked bytes p → IsChecked bytes q → p ≡ q
  pub reason : (bytes : List ℕ) (d e : SourceError) → Unchecked bytes d → Unchecked bytes e → d ≡ e
  pub apart : (bytes : List ℕ) (p : Program) (e : SourceError) → IsChecked bytes p → ¬ Unchecked bytes e

-- the source was built
pub built_so : OneReading → (bytes : List ℕ) (stages : Stages) (image : List ℕ) → Chained bytes stages image → Faithful stages.checked image (parts stages) → IsInTime stages.checked (parts stages)
    → IsShort stages.checked (parts stages) → IsBoundOf stages.checked (parts stages) stages.bound → IsBuilt bytes stages image
built_so one bytes stages image chained faithful in_time short bounded = record {
  source = record {
    checked = chained.checked;
    only = λ p s. one.program bytes p stages.checked s chained.checked;
    accepted = λ e h. one.apart bytes stages.checked e chained.checked h;
  };
  chained = chained;
  faithful = faithful;
  in_time = in_time;
  short = short;
  bounded = bounded;
}

-- it was not built
pub unbuilt_so : OneReading → (before : Outside) (name bytes : List ℕ) → Holds (before.files).files name bytes → (e : BuildError) → (e ≡ NoMemory → ⊥) → (e ≡ NoMemory) ⊎ Unbuilt bytes e
    → (Prints : List ℕ → Type 0) → Prints (source_line (source_error e)) → Unpassed Prints before name
unbuilt_so one before name bytes held e other refused Prints line =
    let why = not_memory (Unbuilt bytes) NoMemory e other refused in
    record {
      bytes = bytes;
      held = held;
      reason = source_error e;
      refused = why;
      only = λ d h. one.reason bytes d (source_error e) h why;
      unchecked = λ p s. one.apart bytes p (source_error e) s why;
      line = line;
    }

module _ (before : Outside) (source bytes : List ℕ) (held : Holds (before.files).files source bytes) (Prints : List ℕ → Type 0) where
  -- the source was not read
  pub unpassed_so : (error : SourceError) → (error ≡ wrong.NoMemory → ⊥) → (error ≡ wrong.NoMemory) ⊎ Unchecked bytes error
      → ((p : Program) → IsChecked bytes p → Gives {A = Program} wrong.NoMemory (Err error) (Ok p)) → ((e : SourceError) → Unchecked bytes e → Gives {A = Program} wrong.NoMemory (Err error) (Err e))
      → Prints (source_line error) → Unpassed Prints before source
  unpassed_so error other refused passes exact line = record {
    bytes = bytes;
    held = held;
    reason = error;
    refused = not_memory (Unchecked bytes) wrong.NoMemory error other refused;
    only = λ e h. same_error {A = Program} wrong.NoMemory e error other (exact e h);
    unchecked = λ p s. no_value wrong.NoMemory error p other (passes p s);
    line = line;
  }

-- it was read to this program
pub source_so : (bytes : List ℕ) (q : Program) → IsChecked bytes q
    → ((p : Program) → IsChecked bytes p → Gives {A = Program} wrong.NoMemory (Ok q) (Ok p)) → ((e : SourceError) → Unchecked bytes e → Gives {A = Program} wrong.NoMemory (Ok q) (Err e)) → IsSource bytes q
source_so bytes q checked passes exact = record {
  checked = checked;
  only = λ p s. same_value wrong.NoMemory q p (passes p s);
  accepted = λ e h. no_error wrong.NoMemory e q (exact e h);
}

-- ---- images

-- the bytes were read to these parts
pub image_so : (bytes : List ℕ) (q : ImageParts) → ImageOf bytes q → ((p : ImageParts) → ImageOf bytes p → Gives fault.NoMemory (Ok q) (Ok p)) → IsImage bytes q
image_so bytes q layout complete = record { layout = layout; only = λ p s. same_value fault.NoMemory q p (complete p s) }

-- the bytes are no image
pub no_image_so : (before : Outside) (image bytes : List ℕ) (e : ImageError) → Holds (before.files).files image bytes → (e ≡ fault.NoMemory → ⊥) → fault_of bytes ≡ Some e
    → ((p : ImageParts) → ImageOf bytes p → Gives fault.NoMemory (Err e) (Ok p)) → (Prints : List ℕ → Type 0) → Prints (image_line e) → NoImage Prints before image
no_image_so before image bytes e held other first complete Prints line = record {
  bytes = bytes;
  held = held;
  never = λ p s. no_value fault.NoMemory e p other (complete p s);
  fault = e;
  first = first;
  line = line;
}
