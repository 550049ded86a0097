-- Layouts of lines: the place and the number of instructions of each line.
use Rattle.std.specs.Prelude.{◌≡◌, ◌⊎◌, ℕ, ◌+◌, ◌*◌, ◌==◌, ◌&&◌, nat_lt, Bool, false, List, [], ◌∷◌, Option, Some, None, if◌then◌else◌}
use Rattle.lab_lang.specs.declared.syntax.Line.{Line}
use Rattle.lab_lang.specs.declared.syntax.Line.TheVariants.{Label, Plain, Jump, Branch, CallTo, Address, JumpReg}

-- how many instructions a line has at least
abbrev pub shortest : Line → ℕ
shortest (Label l) = 0
shortest (Plain i) = 1
shortest (Jump l) = 1
shortest (Branch c a b l) = 1
shortest (CallTo l) = 1
shortest (Address rd l) = 2
shortest (JumpReg r) = 1

-- how many it has at most; a line that has more than its least number is long
abbrev pub longest : Line → ℕ
longest (Label l) = 0
longest (Plain i) = 1
longest (Jump l) = 2
longest (Branch c a b l) = 3
longest (CallTo l) = 2
longest (Address rd l) = 2
longest (JumpReg r) = 1

-- From this place on, the layout is one of the lines: each stands 4 times the instructions before it further on, and has one of its two numbers of instructions.
abbrev pub IsLayout : ℕ → List Line → List (ℕ × ℕ) → Type 0
IsLayout place [] [] = Unit {0}
IsLayout place [] (y ∷ ys) = ⊥
IsLayout place (x ∷ xs) [] = ⊥
IsLayout place (x ∷ xs) (y ∷ ys) = (y.0 ≡ place) × ((y.1 ≡ shortest x) ⊎ (y.1 ≡ longest x)) × IsLayout (place + 4 * y.1) xs ys

-- ---- at a layout

-- the address of a place
abbrev pub address_of : ℕ → ℕ
address_of place = 0x100000000 + place

-- a line and the number of its instructions
pub record Laid : Type 0 where
  pub line : Line
  pub count : ℕ

-- the line whose first instruction is at the address
abbrev pub found : List Line → List (ℕ × ℕ) → ℕ → Option Laid
found [] ys at = None
found (x ∷ xs) [] at = None
found (x ∷ xs) (y ∷ ys) at = if nat_lt 0 y.1 && address_of y.0 == at then Some (record { line = x; count = y.1 }) else found xs ys at

-- the line is the label
abbrev pub is_label : Line → ℕ → Bool
is_label (Label k) l = k == l
is_label _ l = false

-- The address of a label. Where it stands twice, the first one counts.
abbrev pub address : List Line → List (ℕ × ℕ) → ℕ → Option ℕ
address [] ys l = None
address (x ∷ xs) [] l = None
address (x ∷ xs) (y ∷ ys) l = if is_label x l then Some (address_of y.0) else address xs ys l
