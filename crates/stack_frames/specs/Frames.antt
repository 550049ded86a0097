-- The frames of a program over homes: what each of its statements becomes. x5 and x6 hold the words of slots while they are used.
use Rattle.std.specs.Prelude.{◌≡◌, ℕ, pos, true, ◌+◌, ◌-◌, ◌*◌, ◌/◌, nat_lt, nat_le, ◌&&◌, not, if◌then◌else◌, List, [], ◌∷◌, ◌++◌, length, map, Option, Some, None}
use Rattle.pan_base.specs.declared.operators.IOp.TheVariants.{Addi}
use Rattle.pan_base.specs.declared.operators.LOp.TheVariants.{Ld}
use Rattle.pan_base.specs.declared.operators.SOp.TheVariants.{Sd}
use Rattle.pan_flow.specs.Flow.{has}
use Rattle.pan_flow.specs.Functions.{variables}
use Rattle.pan_stage.specs.Programs.{with_functions}
use Rattle.pan_stage.specs.declared.program.Handler.{Handler}
use Rattle.pan_stage.specs.declared.program.Program.{Program}
use Rattle.riscv_isa.specs.declared.instr.Instr.TheVariants as instr
use Rattle.word_lang.specs.Homes.{first_slot}
use Rattle.word_lang.specs.Text.{flow_of, flow_of_function}
use Rattle.word_lang.specs.declared.syntax.WordFun.{WordFun}
use Rattle.word_lang.specs.declared.syntax.Stmt.{Stmt as WordStmt, Stmt-F, fold-Stmt}
use Rattle.word_lang.specs.declared.syntax.Stmt.TheOpen as word
use Rattle.stack_lang.specs.Frames.{front}
use Rattle.stack_lang.specs.declared.syntax.Catch.{Catch}
use Rattle.stack_lang.specs.declared.syntax.StackFun.{StackFun}
use Rattle.stack_lang.specs.declared.syntax.Stmt.{Stmt}
use Rattle.stack_lang.specs.declared.syntax.Stmt.TheVariants as stack
use Rattle.stack_frames.specs.Constants.{constant}

-- ---- slots

-- the slots among these homes, each once
abbrev pub slots_of : List ℕ → List ℕ
slots_of [] = []
slots_of (x ∷ xs) = if nat_le first_slot x && not (has xs x) then x ∷ slots_of xs else slots_of xs

-- How many of these are below the number: the number that a slot has among those of a frame.
abbrev pub below : ℕ → List ℕ → ℕ
below x [] = 0
below x (y ∷ ys) = if nat_lt y x then 1 + below x ys else below x ys

-- the slots of a function
abbrev pub slots : WordFun → List ℕ
slots f = slots_of (variables (flow_of_function f))

-- the number of a home among these slots
abbrev pub number_in : List ℕ → ℕ → ℕ
number_in among x = below x among

-- The number that a home has among the slots of its frame: the slots that a function uses are numbered without gaps.
abbrev pub slot_in : WordFun → ℕ → ℕ
slot_in f x = below x (slots f)

-- These are the different slots among those homes, in any order: each home has the same number among them.
pub record AreSlots (among homes : List ℕ) : Type 0 where
  pub count : length among ≡ length (slots_of homes)
  pub numbers : (x : ℕ) → number_in among x ≡ number_in (slots_of homes) x
  pub members : (x : ℕ) → nat_le first_slot x ≡ true → has among x ≡ has homes x

-- the variables of a handler, as they occur
abbrev pub handler_variables : Option (Handler WordStmt) → List ℕ
handler_variables None = []
handler_variables (Some h) = h.variables ++ variables (flow_of h.body)

-- ---- registers

-- the register of a home, or the one that stands in for its slot
abbrev pub register_of : ℕ → ℕ → ℕ
register_of r x = if nat_lt x first_slot then x else r

-- the register of an operand of a test, which may be 0
abbrev pub operand : ℕ → Option ℕ → ℕ
operand r None = 0
operand r (Some x) = register_of r x

-- the distance of a word of the block that is passed from x3
abbrev pub distance : ℕ → ℕ
distance k = 8 * (k - 5)

-- ---- homes

-- in a function whose slots are numbered so
module _ (slot : ℕ → ℕ) where
  -- the word of a slot to the register that stands in for it
  abbrev pub gets : ℕ → ℕ → List Stmt
  gets r x = if nat_lt x first_slot then [] else stack.Get r (slot x) ∷ []

  -- and back
  abbrev pub puts : ℕ → ℕ → List Stmt
  puts x r = if nat_lt x first_slot then [] else stack.Put (slot x) r ∷ []

  -- a home's word to another register
  abbrev pub load : ℕ → ℕ → Stmt
  load r x = if nat_lt x first_slot then stack.Plain (instr.I Addi r x (pos 0)) else stack.Get r (slot x)

  -- another register's word to a home
  abbrev pub save : ℕ → ℕ → Stmt
  save x r = if nat_lt x first_slot then stack.Plain (instr.I Addi x r (pos 0)) else stack.Put (slot x) r

  -- ---- operations

  -- a home gets what an instruction makes of another one
  abbrev pub of_one : (ℕ → ℕ → Stmt) → (x a : ℕ) → Stmt
  of_one i x a = stack.Seq (gets 5 a ++ i (register_of 5 x) (register_of 5 a) ∷ puts x 5)

  -- and of two
  abbrev pub of_two : (ℕ → ℕ → ℕ → Stmt) → (x a b : ℕ) → Stmt
  of_two i x a b = stack.Seq ((gets 5 a ++ gets 6 b) ++ i (register_of 5 x) (register_of 5 a) (register_of 6 b) ∷ puts x 5)

  -- an instruction uses two homes
  abbrev pub uses_two : (ℕ → ℕ → Stmt) → (a b : ℕ) → Stmt
  uses_two i a b = stack.Seq ((gets 5 a ++ gets 6 b) ++ i (register_of 5 a) (register_of 6 b) ∷ [])

  abbrev pub gets_operand : ℕ → Option ℕ → List Stmt
  gets_operand r None = []
  gets_operand r (Some x) = gets r x

  -- the operands of a test
  abbrev pub gets_both : Option ℕ → Option ℕ → List Stmt
  gets_both a b = gets_operand 5 a ++ gets_operand 6 b

  -- ---- what is passed

  -- a home's word to the k-th place where words are passed: x10 to x14, then the block
  abbrev pub pass : ℕ → ℕ → List Stmt
  pass k x = if nat_lt k 5 then load (10 + k) x ∷ [] else gets 5 x ++ stack.Plain (instr.S Sd 3 (register_of 5 x) (pos (distance k))) ∷ []

  -- the word of the k-th such place to a home
  abbrev pub fetch : ℕ → ℕ → List Stmt
  fetch k x = if nat_lt k 5 then save x (10 + k) ∷ [] else stack.Plain (instr.L Ld (register_of 5 x) 3 (pos (distance k))) ∷ puts x 5

  abbrev pub passes : ℕ → List ℕ → List Stmt
  passes k [] = []
  passes k (x ∷ xs) = pass k x ++ passes (k + 1) xs

  abbrev pub fetches : ℕ → List ℕ → List Stmt
  fetches k [] = []
  fetches k (x ∷ xs) = fetch k x ++ fetches (k + 1) xs

  -- ---- statements

  -- what a statement becomes, from what its parts become
  abbrev pub framed_handler : Option (Handler Stmt) → Option (Catch Stmt)
  framed_handler None = None
  framed_handler (Some h) = Some (record { exception = h.exception; body = stack.Seq (fetches 0 h.variables ++ h.body ∷ []) })

  abbrev pub framed_layer : Stmt-F Stmt → Stmt
  framed_layer word.Skip = stack.Seq []
  framed_layer (word.Seq all) = stack.Seq all
  framed_layer (word.Const x n) = stack.Seq (map stack.Plain (constant (register_of 5 x) n) ++ puts x 5)
  framed_layer (word.Reg o x a b) = of_two (λ d r s. stack.Plain (instr.R o d r s)) x a b
  framed_layer (word.Imm o x a i) = of_one (λ d r. stack.Plain (instr.I o d r i)) x a
  framed_layer (word.Sh o x a n) = of_one (λ d r. stack.Plain (instr.Sh o d r n)) x a
  framed_layer (word.Load o x a i) = of_one (λ d r. stack.Plain (instr.L o d r i)) x a
  framed_layer (word.Store o x a i) = uses_two (λ r s. stack.Plain (instr.S o r s i)) a x
  framed_layer (word.If y first second) = stack.Seq (gets_both y.left y.right ++ stack.If y.comparison (operand 5 y.left) (operand 6 y.right) first second ∷ [])
  framed_layer (word.While before y body) = stack.While (before ++ gets_both y.left y.right) y.comparison (operand 5 y.left) (operand 6 y.right) body
  framed_layer word.Break = stack.Break
  framed_layer word.Continue = stack.Continue
  framed_layer (word.Call results f arguments handler) = stack.Seq (passes 0 arguments ++ stack.Call f (stack.Seq (fetches 0 results)) (framed_handler handler) ∷ [])
  framed_layer (word.TailCall f arguments) = stack.Seq (passes 0 arguments ++ stack.TailCall f ∷ [])
  framed_layer (word.Return xs) = stack.Seq (passes 0 xs ++ stack.Return ∷ [])
  framed_layer (word.Raise i xs) = stack.Seq (passes 0 xs ++ stack.Raise i ∷ [])
  framed_layer (word.SharedLoad size x a i) = of_one (λ d r. stack.SharedLoad size d r i) x a
  framed_layer (word.SharedStore size x a i) = uses_two (λ r s. stack.SharedStore size r s i) a x
  framed_layer (word.Foreign i conf conf_len array array_len) = stack.Seq (passes 0 (conf ∷ conf_len ∷ array ∷ array_len ∷ []) ++ stack.Foreign i ∷ [])

  unfoldable pub framed : WordStmt → Stmt
  framed = fold-Stmt Stmt framed_layer

-- ---- functions and programs

-- what a function's body becomes, behind what brings the words that are passed to its parameters
abbrev pub body_of : WordFun → Stmt
body_of f = stack.Seq (fetches (slot_in f) 0 f.params ++ framed (slot_in f) f.body ∷ [])

-- the bytes of a frame with so many slots: a multiple of 16
abbrev pub bytes_of : (front count : ℕ) → ℕ
bytes_of front count = 16 * ((front + count + 1) / 2)

-- the bytes of a function's frame: none where it has no slots and calls nothing but by tail calls
abbrev pub frame_bytes : WordFun → ℕ
frame_bytes f = bytes_of (front (body_of f)) (length (slots f))

abbrev pub framed_function : WordFun → StackFun
framed_function f = record { name = f.name; cost = f.cost; frame = frame_bytes f; body = body_of f }

abbrev pub framed_program : Program WordFun → Program StackFun
framed_program p = with_functions p (map framed_function p.functions)
