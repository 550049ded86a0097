-- A program, and the parts of an image that isn't faithful to it.
use Rattle.std.specs.Prelude.{ℕ, [], ◌∷◌, codes, Option}
use Rattle.pan_base.specs.declared.span.Span.{Span}
use Rattle.pan_tree.specs.declared.shape.Shape.TheVariants as shape
use Rattle.pan_tree.specs.declared.syntax.ExprKind.TheVariants as expr
use Rattle.pan_tree.specs.declared.syntax.StmtKind.TheVariants as stmt
use Rattle.pan_tree.specs.declared.program.Function.{Function}
use Rattle.pan_tree.specs.declared.program.Program.{Program}
use Rattle.riscv_isa.specs.Image.{ImageParts}

abbrev pub nowhere : Span
nowhere = record { start = 0; end = 0 }

-- fun main() { return 7; }
abbrev pub main_of_seven : Function
main_of_seven = record {
  name = codes "main";
  params = [];
  result = shape.Word;
  body = record { stmts = record { kind = stmt.Return (record { kind = expr.Number 7; span = nowhere }); span = nowhere } ∷ [] };
  span = nowhere;
}

abbrev pub returns_seven : Program
returns_seven = record { exceptions = []; functions = main_of_seven ∷ [] }

-- the parts of an image with `ecall` alone, which at the start of a run exits with 0
abbrev pub exits_at_once : Option ℕ → ImageParts
exits_at_once bound = record { code = 0x73 ∷ 0 ∷ 0 ∷ 0 ∷ []; names = []; bound = bound }
