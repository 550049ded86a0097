-- The operations of steps. Each takes what is known of its operands; a step whose variable is then read no more still stands here (`Pruned`).
use Rattle.std.specs.Prelude.{ℕ, pos, zero, suc, ◌-◌, nat_eq, if◌then◌else◌, List, [], ◌∷◌, map, Option, Some, None}
use Rattle.pan_base.specs.declared.operators.BinOp.{BinOp}
use Rattle.pan_base.specs.declared.operators.BinOp.TheVariants as bin_op
use Rattle.pan_base.specs.declared.operators.ShOp.{ShOp}
use Rattle.pan_base.specs.declared.operators.ShOp.TheVariants as sh_op
use Rattle.pan_base.specs.declared.operators.Cmp.{Cmp}
use Rattle.pan_base.specs.declared.operators.Cmp.TheVariants as cmp
use Rattle.pan_base.specs.declared.operators.ROp.{ROp}
use Rattle.pan_base.specs.declared.operators.ROp.TheVariants as rop
use Rattle.pan_base.specs.declared.operators.IOp.{IOp}
use Rattle.pan_base.specs.declared.operators.IOp.TheVariants as iop
use Rattle.pan_base.specs.declared.operators.ShiftOp.TheVariants as shift_op
use Rattle.pan_base.specs.declared.operators.LOp.TheVariants as lop
use Rattle.pan_base.specs.declared.operators.SOp.TheVariants as sop
use Rattle.pan_flow.specs.Functions.{variables, above}
use Rattle.pan_stage.specs.Locals.{numbers_from}
use Rattle.pan_stage.specs.Programs.{with_functions}
use Rattle.pan_stage.specs.declared.program.Handler.{Handler}
use Rattle.pan_stage.specs.declared.program.Program.{Program}
use Rattle.loop_lang.specs.Text.{flow_of_function}
use Rattle.loop_lang.specs.declared.syntax.LoopFun.{LoopFun}
use Rattle.loop_lang.specs.declared.syntax.Stmt.{Stmt as Loop, Stmt-F as Loop-F, fold-Stmt as fold-Loop}
use Rattle.loop_lang.specs.declared.syntax.Stmt.TheOpen as o
use Rattle.word_lang.specs.declared.syntax.WordFun.{WordFun}
use Rattle.word_lang.specs.declared.syntax.Test.{Test}
use Rattle.word_lang.specs.declared.syntax.Stmt.{Stmt}
use Rattle.word_lang.specs.declared.syntax.Stmt.TheVariants as s
use Rattle.word_select.specs.declared.facts.Fact.{Fact}
use Rattle.word_select.specs.declared.facts.Fact.TheVariants.{Number, Sum, Compared}
use Rattle.word_select.specs.declared.operands.Address.{Address}
use Rattle.word_select.specs.declared.selection.Selection.{Selection}
use Rattle.word_select.specs.declared.selection.Row.{Row}
use Rattle.word_select.specs.Facts.{Facts, forget, learn, found, when, number_at, immediate_of, immediate_at, negated, negated_at, exponent_at}

-- ---- operators

-- with an immediate on the right, or with two variables
abbrev pub right_side : IOp → ROp → ℕ → ℕ → ℕ → Facts → Stmt
right_side i r x a b ps = when (immediate_at b ps) (λ n. s.Imm i x a n) (s.Reg r x a b)

-- with an immediate on either side, or with two variables
abbrev pub either_side : IOp → ROp → ℕ → ℕ → ℕ → Facts → Stmt
either_side i r x a b ps = when (immediate_at b ps) (λ n. s.Imm i x a n) (right_side i r x b a ps)

-- with a difference's number turned round, or with two variables
abbrev pub difference : ℕ → ℕ → ℕ → Facts → Stmt
difference x a b ps = when (negated_at b ps) (λ n. s.Imm iop.Addi x a n) (s.Reg rop.Sub x a b)

-- with a power of two on the right as a shift, or with two variables
abbrev pub right_product : ℕ → ℕ → ℕ → Facts → Stmt
right_product x a b ps = when (exponent_at b ps) (λ n. s.Sh shift_op.Slli x a n) (s.Reg rop.Mul x a b)

abbrev pub product : ℕ → ℕ → ℕ → Facts → Stmt
product x a b ps = when (exponent_at b ps) (λ n. s.Sh shift_op.Slli x a n) (right_product x b a ps)

abbrev pub operation : BinOp → ℕ → ℕ → ℕ → Facts → Stmt
operation bin_op.Add x a b ps = either_side iop.Addi rop.Add x a b ps
operation bin_op.Sub x a b ps = difference x a b ps
operation bin_op.Mul x a b ps = product x a b ps
operation bin_op.And x a b ps = either_side iop.Andi rop.And x a b ps
operation bin_op.Or x a b ps = either_side iop.Ori rop.Or x a b ps
operation bin_op.Xor x a b ps = either_side iop.Xori rop.Xor x a b ps

-- a sum with a number on the right is known, or nothing
abbrev pub right_sum : ℕ → ℕ → ℕ → Facts → Facts
right_sum x a b ps = when (number_at b ps) (λ c. learn x (Sum a c) ps) (forget x ps)

-- a sum with a number on either side, or nothing
abbrev pub sum_facts : ℕ → ℕ → ℕ → Facts → Facts
sum_facts x a b ps = when (number_at b ps) (λ c. learn x (Sum a c) ps) (right_sum x b a ps)

-- a difference's number turned round makes a sum
abbrev pub difference_facts : ℕ → ℕ → ℕ → Facts → Facts
difference_facts x a b ps = when (number_at b ps) (λ c. learn x (Sum a (negated c)) ps) (forget x ps)

-- sums and differences with numbers are known: they are addresses
abbrev pub operation_facts : BinOp → ℕ → ℕ → ℕ → Facts → Facts
operation_facts bin_op.Add x a b ps = sum_facts x a b ps
operation_facts bin_op.Sub x a b ps = difference_facts x a b ps
operation_facts o x a b ps = forget x ps

-- ---- comparisons as values

-- 1 in place of 0, and 0 in place of another number; 1 in place of 0, and 0 in place of 1
abbrev pub is_zero : ℕ → Stmt
is_zero x = s.Imm iop.Sltiu x x (pos 1)

abbrev pub turned : ℕ → Stmt
turned x = s.Imm iop.Xori x x (pos 1)

-- whether two variables are the same, with one of them by the number that it is known to have
abbrev pub equal_by : Option ℕ → ℕ → ℕ → ℕ → Facts → List Stmt → List Stmt
equal_by (Some zero) x a b ps others = s.Imm iop.Sltiu x a (pos 1) ∷ others
equal_by _ x a b ps others = either_side iop.Xori rop.Xor x a b ps ∷ (is_zero x ∷ others)

abbrev pub comparison : Cmp → ℕ → ℕ → ℕ → Facts → List Stmt
comparison cmp.Eq x a b ps = equal_by (number_at b ps) x a b ps []
comparison cmp.Ne x a b ps = equal_by (number_at b ps) x a b ps (turned x ∷ [])
comparison cmp.Lt x a b ps = right_side iop.Slti rop.Slt x a b ps ∷ []
comparison cmp.Ge x a b ps = right_side iop.Slti rop.Slt x a b ps ∷ turned x ∷ []
comparison cmp.Ltu x a b ps = right_side iop.Sltiu rop.Sltu x a b ps ∷ []
comparison cmp.Geu x a b ps = right_side iop.Sltiu rop.Sltu x a b ps ∷ turned x ∷ []

-- ---- tests

abbrev pub operand_of : Option ℕ → ℕ → Option ℕ
operand_of None x = Some x
operand_of (Some zero) x = None
operand_of (Some (suc n)) x = Some x

-- a variable, or 0 where it is known to be that
abbrev pub operand : ℕ → Facts → Option ℕ
operand x ps = operand_of (number_at x ps) x

-- whether a number isn't 0: never, or always
abbrev pub test_of_number : ℕ → Test
test_of_number zero = record { comparison = cmp.Ne; left = None; right = None }
test_of_number (suc n) = record { comparison = cmp.Eq; left = None; right = None }

abbrev pub test_by : Option Fact → ℕ → Facts → Test
test_by (Some (Number n)) x ps = test_of_number n
test_by (Some (Compared c a b)) x ps = record { comparison = c; left = operand a ps; right = operand b ps }
test_by _ x ps = record { comparison = cmp.Ne; left = Some x; right = None }

-- whether a variable isn't 0: by its number or the comparison that gave it, where that is known
abbrev pub test_at : ℕ → Facts → Test
test_at x ps = test_by (found x ps) x ps

-- ---- addresses

-- the variable itself
abbrev pub at_itself : ℕ → Address
at_itself x = record { base = x; offset = pos 0 }

abbrev pub address_by : Option Fact → ℕ → Address
address_by (Some (Sum a c)) x = when (immediate_of c) (λ i. record { base = a; offset = i }) (at_itself x)
address_by _ x = at_itself x

-- the variable as an address: a sum with an immediate where that is known
abbrev pub address_at : ℕ → Facts → Address
address_at x ps = address_by (found x ps) x

-- ---- statements

abbrev pub Selects : Type 0
Selects = Facts → Selection

-- one after another
abbrev pub in_row : List Selects → Facts → Row
in_row [] ps = record { stmts = []; facts = ps }
in_row (f ∷ fs) ps = let one = f ps in let others = in_row fs one.facts in record { stmts = one.stmt ∷ others.stmts; facts = others.facts }

-- nothing is known where an exception is caught
abbrev pub handler_of : Option (Handler Selects) → Option (Handler Stmt)
handler_of None = None
handler_of (Some h) = Some (record { exception = h.exception; variables = h.variables; body = (h.body []).stmt })

-- with t free for the other half of a word that is rotated
module _ (t : ℕ) where
  -- a word rotated by 0 is moved; else its halves are shifted apart, and then put together
  abbrev pub rotation_steps : ℕ → ℕ → ℕ → List Stmt
  rotation_steps x a n =
      if nat_eq n 0 then s.Imm iop.Ori x a (pos 0) ∷ []
      else s.Sh shift_op.Srli t a n ∷ s.Sh shift_op.Slli x a (64 - n) ∷ s.Reg rop.Or x t x ∷ []

  abbrev pub shift_steps : ShOp → ℕ → ℕ → ℕ → List Stmt
  shift_steps sh_op.Shl x a n = s.Sh shift_op.Slli x a n ∷ []
  shift_steps sh_op.Shr x a n = s.Sh shift_op.Srli x a n ∷ []
  shift_steps sh_op.Sar x a n = s.Sh shift_op.Srai x a n ∷ []
  shift_steps sh_op.Ror x a n = rotation_steps x a n

  abbrev pub select_layer : Loop-F Selects → Selects
  select_layer o.Skip ps = record { stmt = s.Skip; facts = ps }
  select_layer (o.Seq all) ps = let row = in_row all ps in record { stmt = s.Seq row.stmts; facts = row.facts }
  select_layer (o.Const x n) ps = record { stmt = s.Const x n; facts = learn x (Number n) ps }
  select_layer (o.Move x a) ps = record { stmt = s.Imm iop.Ori x a (pos 0); facts = forget x ps }
  select_layer (o.Bin o x a b) ps = record { stmt = operation o x a b ps; facts = operation_facts o x a b ps }
  select_layer (o.Shift o x a n) ps = record { stmt = s.Seq (shift_steps o x a n); facts = forget x (forget t ps) }
  select_layer (o.Compare c x a b) ps = record { stmt = s.Seq (comparison c x a b ps); facts = learn x (Compared c a b) ps }
  select_layer (o.LoadWord x a) ps = let at = address_at a ps in record { stmt = s.Load lop.Ld x at.base at.offset; facts = forget x ps }
  select_layer (o.LoadByte x a) ps = let at = address_at a ps in record { stmt = s.Load lop.Lbu x at.base at.offset; facts = forget x ps }
  select_layer (o.StoreWord a x) ps = let at = address_at a ps in record { stmt = s.Store sop.Sd x at.base at.offset; facts = ps }
  select_layer (o.StoreByte a x) ps = let at = address_at a ps in record { stmt = s.Store sop.Sb x at.base at.offset; facts = ps }
  select_layer (o.If x first second) ps = record { stmt = s.If (test_at x ps) (first ps).stmt (second ps).stmt; facts = [] }
  select_layer (o.While live before x body) ps = let row = in_row before [] in record { stmt = s.While row.stmts (test_at x row.facts) (body row.facts).stmt; facts = [] }
  select_layer o.Break ps = record { stmt = s.Break; facts = [] }
  select_layer o.Continue ps = record { stmt = s.Continue; facts = [] }
  select_layer (o.Call live results f arguments handler) ps = record { stmt = s.Call results f arguments (handler_of handler); facts = [] }
  select_layer (o.TailCall f arguments) ps = record { stmt = s.TailCall f arguments; facts = [] }
  select_layer (o.Return xs) ps = record { stmt = s.Return xs; facts = [] }
  select_layer (o.Raise i xs) ps = record { stmt = s.Raise i xs; facts = [] }
  select_layer (o.SharedLoad size x a) ps = let at = address_at a ps in record { stmt = s.SharedLoad size x at.base at.offset; facts = forget x ps }
  select_layer (o.SharedStore size a x) ps = let at = address_at a ps in record { stmt = s.SharedStore size x at.base at.offset; facts = ps }
  select_layer (o.Foreign live i conf conf_len array array_len) ps = record { stmt = s.Foreign i conf conf_len array array_len; facts = [] }

  unfoldable pub selected : Loop → Selects
  selected = fold-Loop Selects select_layer

  abbrev pub selected_handler : Option (Handler Loop) → Option (Handler Stmt)
  selected_handler None = None
  selected_handler (Some h) = Some (record { exception = h.exception; variables = h.variables; body = (selected h.body []).stmt })

-- ---- functions and programs

-- the temporary of a function's rotations stands behind its variables
abbrev pub first_free : LoopFun → ℕ
first_free f = above (variables (flow_of_function f))

abbrev pub select_function : LoopFun → WordFun
select_function f = record { name = f.name; cost = f.cost; params = numbers_from 0 f.params; results = f.results; body = (selected (first_free f) f.body []).stmt }

abbrev pub select_program : Program LoopFun → Program WordFun
select_program p = with_functions p (map select_function p.functions)
