-- When bytes are lines at a layout.
use Rattle.std.specs.Prelude.{◌≡◌, ℕ, ◌≤◌, List, [], ◌∷◌, length, map}
use Rattle.pan_stage.specs.Room.{allowed}
use Rattle.pan_stage.specs.Stage.{Executes}
use Rattle.pan_stage.specs.declared.program.Program.{Program}
use Rattle.riscv_isa.specs.Held.{IsAt}
use Rattle.riscv_isa.specs.Image.{ImageParts}
use Rattle.riscv_isa.specs.Machine.{machine}
use Rattle.lab_lang.specs.Layout.{IsLayout, address_of}
use Rattle.lab_lang.specs.Stage.{stage}
use Rattle.lab_lang.specs.declared.syntax.LabFun.{LabFun}
use Rattle.lab_lang.specs.declared.syntax.Line.{Line}
use Rattle.lab_lang.specs.declared.syntax.Line.TheVariants.{Plain}
use Rattle.lab_link.specs.Lengths.{AreFit}

-- a line that is an instruction has its word at the address
abbrev pub HasWord : Line → List ℕ → ℕ → Type 0
HasWord (Plain i) code at = IsAt i code at
HasWord _ code at = Unit {0}

abbrev pub HaveWords : List Line → List (ℕ × ℕ) → List ℕ → Type 0
HaveWords [] ys code = Unit {0}
HaveWords (x ∷ xs) [] code = Unit {0}
HaveWords (x ∷ xs) (y ∷ ys) code = HasWord x code (address_of y.0) × HaveWords xs ys code

-- the bytes are the lines of a program at a layout
pub record IsLinked (p : Program LabFun) (lines : List Line) (layout : List (ℕ × ℕ)) (code : List ℕ) : Type 0 where
  -- the layout is one of the lines
  pub laid : IsLayout 0 lines layout
  -- each line is as short as it can be: a short one reaches its label, and a long one wouldn't, if it alone were short
  pub fit : AreFit lines layout
  -- the word at the place of each plain line is that of its instruction
  pub words : HaveWords lines layout code
  -- The machine of an image with this code and the program's names does what the lines do, wherever these don't fail. Since the machine has no globals, the program must have none.
  pub executed : (parts : ImageParts) → parts.code ≡ code → parts.names ≡ p.names → p.globals ≡ [] → Executes (stage p lines layout) (λ size m r k. machine parts m size r k)
  -- there are at most as many bytes as the functions' costs allow
  pub most : length code ≤ (allowed (map (λ (f : LabFun). f.cost) p.functions)).code
