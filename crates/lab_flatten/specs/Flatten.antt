-- How structured code over frames becomes lines. x9 is the pass's own register. Where a function calls, other than by a tail call, its frame has the return address at x2; where it catches also a record (the former x8, and where its handler's code begins) from x2 + 8 on; then come the slots. Any other function keeps the return address in x1, and without slots it has no frame.
use Rattle.std.specs.Prelude.{ℕ, ℤ, pos, negsuc, ◌+◌, ◌-◌, ◌*◌, ◌/◌, ◌%◌, ◌^◌, ◌&&◌, nat_eq, nat_lt, Bool, true, false, if◌then◌else◌, List, [], ◌∷◌, ◌++◌, Option, Some, None, length, map}
use Rattle.pan_base.specs.Words.{signed}
use Rattle.pan_base.specs.declared.operators.LOp.TheVariants.{Ld}
use Rattle.pan_base.specs.declared.operators.SOp.TheVariants.{Sd}
use Rattle.pan_base.specs.declared.operators.Cmp.{Cmp}
use Rattle.pan_base.specs.declared.operators.Cmp.TheVariants.{Eq, Ne, Lt, Ge, Ltu, Geu}
use Rattle.pan_base.specs.declared.operators.IOp.TheVariants.{Addi}
use Rattle.pan_base.specs.declared.operators.ROp.TheVariants.{Add, Sub}
use Rattle.pan_base.specs.declared.operators.UOp.TheVariants.{Lui}
use Rattle.riscv_isa.specs.declared.instr.Instr.TheVariants as instr
use Rattle.pan_stage.specs.Programs.{with_functions}
use Rattle.pan_stage.specs.declared.program.Program.{Program}
use Rattle.lab_lang.specs.declared.syntax.LabFun.{LabFun}
use Rattle.lab_lang.specs.declared.syntax.Line.{Line}
use Rattle.lab_lang.specs.declared.syntax.Line.TheVariants as line
use Rattle.stack_lang.specs.Frames.{front_words}
use Rattle.stack_lang.specs.Shown.{load_of, store_of}
use Rattle.stack_lang.specs.declared.syntax.Catch.{Catch}
use Rattle.stack_lang.specs.declared.syntax.StackFun.{StackFun}
use Rattle.stack_lang.specs.declared.syntax.Stmt.{Stmt, Stmt-F, fold-Stmt}
use Rattle.stack_lang.specs.declared.syntax.Stmt.TheOpen as stmt

-- ---- places at an offset from x2

-- the 20 bits of a LUI for an offset, and what is left
abbrev pub high : ℕ → ℕ
high d = (d + 2 ^ 11) / 2 ^ 12

abbrev pub low : ℕ → ℤ
low d = signed 12 (d % 2 ^ 12)

-- an offset that an instruction can hold
abbrev pub is_near : ℕ → Bool
is_near d = nat_lt d (2 ^ 11)

-- the lines that bring a far place into reach, its base register, and the offset from it
abbrev pub reach : ℕ → List Line
reach d = if is_near d then [] else line.Plain (instr.U Lui 9 (high d)) ∷ line.Plain (instr.R Add 9 9 2) ∷ []

abbrev pub base : ℕ → ℕ
base d = if is_near d then 2 else 9

abbrev pub rest : ℕ → ℤ
rest d = if is_near d then pos d else low d

-- where a slot lies in a frame with so many words before the slots
abbrev pub slot_at : ℕ → ℕ → ℕ
slot_at front k = 8 * (front + k)

-- with x9 so far below x2
abbrev pub below : ℕ → List Line
below n = if is_near n then line.Plain (instr.I Addi 9 2 (negsuc (n - 1))) ∷ [] else line.Plain (instr.U Lui 9 (high n)) ∷ line.Plain (instr.I Addi 9 9 (low n)) ∷ line.Plain (instr.R Sub 9 2 9) ∷ []

-- lines that stand where there are some of something
abbrev pub where_some : ℕ → List Line → List Line
where_some n xs = if nat_eq n 0 then [] else xs

-- The frame of this size is made, where the stack has room for it; else to the stub. The return address goes into it, where it has a word for it.
abbrev pub front_lines : (front size stub : ℕ) → List Line
front_lines front size stub = where_some size (below size ++ line.Branch Ltu 9 4 stub ∷ line.Plain (instr.I Addi 2 9 (pos 0)) ∷ []) ++ where_some front (line.Plain (instr.S Sd 2 1 (pos 0)) ∷ [])

-- the frame is given up, and the return address is in x1
abbrev pub off : (front size : ℕ) → List Line → List Line
off front size last = where_some front (line.Plain (instr.L Ld 1 2 (pos 0)) ∷ []) ++ (where_some size (reach size ++ line.Plain (instr.I Addi 2 (base size) (rest size)) ∷ []) ++ last)

-- ---- statements

-- How many labels a statement may have, whether it has no lines, and its lines: from the first label that is free, the label where the loop ends, and the one where its next turn begins. It is told whether that turn begins right behind it.
pub record Flat : Type 0 where
  pub labels : ℕ
  pub none : Bool → Bool
  pub lines : ℕ → ℕ → ℕ → Bool → List Line

-- lines without labels
abbrev pub bare : List Line → Flat
bare xs = record { labels = 0; none = λ last. false; lines = λ n b c last. xs }

-- the labels of all
abbrev pub labels_of : List Flat → ℕ
labels_of [] = 0
labels_of (f ∷ fs) = f.labels + labels_of fs

-- what is right behind a row is right behind its last one
abbrev pub ends : {A : Type 0} → List A → Bool → Bool
ends [] last = last
ends (f ∷ fs) last = false

-- none of them has lines
abbrev pub none_of : List Flat → Bool → Bool
none_of [] last = true
none_of (f ∷ fs) last = f.none (ends fs last) && none_of fs last

-- the lines of one after another
abbrev pub row : List Flat → ℕ → ℕ → ℕ → Bool → List Line
row [] n b c last = []
row (f ∷ fs) n b c last = f.lines n b c (ends fs last) ++ row fs (n + f.labels) b c last

-- ---- choices, where either side may have no lines

-- the comparison that holds where another doesn't
abbrev pub inverse : Cmp → Cmp
inverse Eq = Ne
inverse Ne = Eq
inverse Lt = Ge
inverse Ge = Lt
inverse Ltu = Geu
inverse Geu = Ltu

-- the branch over the second side, or over the first one where the second has no lines
abbrev pub choice_head : (no_first no_second : Bool) → Cmp → ℕ → ℕ → ℕ → List Line
choice_head true true c a b n = []
choice_head true false c a b n = line.Branch c a b n ∷ []
choice_head false true c a b n = line.Branch (inverse c) a b n ∷ []
choice_head false false c a b n = line.Branch c a b n ∷ []

-- what stands between the sides, where both have lines
abbrev pub choice_middle : (no_first no_second : Bool) → ℕ → List Line
choice_middle false false n = line.Jump (n + 1) ∷ line.Label n ∷ []
choice_middle _ _ n = []

abbrev pub choice_end : (no_first no_second : Bool) → ℕ → List Line
choice_end true true n = []
choice_end true false n = line.Label n ∷ []
choice_end false true n = line.Label n ∷ []
choice_end false false n = line.Label (n + 1) ∷ []

-- what is behind the choice is behind the second side too, unless both have lines
abbrev pub choice_last : (no_first no_second : Bool) → Bool → Bool
choice_last false false last = false
choice_last _ _ last = last

-- ---- loops, whose body may have no lines

-- from the begin to the test, which stands behind the body
abbrev pub loop_head : (no_body : Bool) → ℕ → List Line
loop_head true n = []
loop_head false n = line.Jump n ∷ line.Label (n + 2) ∷ []

-- the label of the body, or of the test
abbrev pub loop_turn : (no_body : Bool) → ℕ → ℕ
loop_turn true n = n
loop_turn false n = n + 2

-- ---- calls

-- a record in the frame becomes the newest one
abbrev pub pushed : ℕ → List Line → List Line
pushed handler last = line.Plain (instr.S Sd 2 8 (pos 8)) ∷ line.Address 9 handler ∷ line.Plain (instr.S Sd 2 9 (pos 16)) ∷ line.Plain (instr.I Addi 8 2 (pos 8)) ∷ last

-- with the words before the slots, the size of the frame, and the label of the code that goes to the newest record
module _ (front size unwind : ℕ) where
  abbrev pub flat_call : ℕ → Flat → Option (Catch Flat) → Flat
  flat_call f s None = record { labels = s.labels; none = λ last. false; lines = λ n b c last. line.CallTo f ∷ s.lines n b c last }
  flat_call f s (Some h) = record {
    labels = 2 + s.labels + h.body.labels;
    none = λ last. false;
    lines = λ n b c last.
        pushed n (line.CallTo f ∷ line.Plain (instr.L Ld 8 2 (pos 8)) ∷ (s.lines (n + 2) b c false ++ line.Jump (n + 1) ∷ line.Label n ∷ line.Plain (instr.I Addi 9 0 (pos h.exception)) ∷ line.Branch Ne 1 9 unwind ∷ (h.body.lines (n + 2 + s.labels) b c last ++ line.Label (n + 1) ∷ [])));
  }

  abbrev pub flat_layer : Stmt-F Flat → Flat
  flat_layer (stmt.Seq all) = record { labels = labels_of all; none = none_of all; lines = row all }
  flat_layer (stmt.Plain i) = bare (line.Plain i ∷ [])
  flat_layer (stmt.Get r k) = bare (reach (slot_at front k) ++ line.Plain (instr.L Ld r (base (slot_at front k)) (rest (slot_at front k))) ∷ [])
  flat_layer (stmt.Put k r) = bare (reach (slot_at front k) ++ line.Plain (instr.S Sd (base (slot_at front k)) r (rest (slot_at front k))) ∷ [])
  flat_layer (stmt.SharedLoad size rd rs1 imm) = bare (line.Plain (load_of size rd rs1 imm) ∷ [])
  flat_layer (stmt.SharedStore size rs1 rs2 imm) = bare (line.Plain (store_of size rs1 rs2 imm) ∷ [])
  flat_layer (stmt.Foreign i) = bare (line.Plain (instr.I Addi 14 0 (pos i)) ∷ line.Plain (instr.I Addi 17 0 (pos 1)) ∷ line.Plain instr.Ecall ∷ [])
  flat_layer (stmt.If op rs1 rs2 s t) = record {
    labels = 2 + s.labels + t.labels;
    none = λ last. s.none last && t.none last;
    lines = λ n b c last.
        choice_head (s.none last) (t.none last) op rs1 rs2 n
        ++ (t.lines (n + 2) b c (choice_last (s.none last) (t.none last) last)
        ++ (choice_middle (s.none last) (t.none last) n ++ (s.lines (n + 2 + t.labels) b c last ++ choice_end (s.none last) (t.none last) n)));
  }
  flat_layer (stmt.While before op rs1 rs2 t) = record {
    labels = 3 + labels_of before + t.labels;
    none = λ last. false;
    lines = λ n b c last. loop_head (t.none true) n ++ (t.lines (n + 3) (n + 1) n true ++ line.Label n ∷ (row before (n + 3 + t.labels) b c false ++ line.Branch op rs1 rs2 (loop_turn (t.none true) n) ∷ line.Label (n + 1) ∷ []));
  }
  flat_layer stmt.Break = record { labels = 0; none = λ last. false; lines = λ n b c last. line.Jump b ∷ [] }
  flat_layer stmt.Continue = record { labels = 0; none = λ last. last; lines = λ n b c last. if last then [] else line.Jump c ∷ [] }
  flat_layer (stmt.Call f returned handler) = flat_call f returned handler
  flat_layer (stmt.TailCall f) = bare (off front size (line.Jump f ∷ []))
  flat_layer stmt.Return = bare (off front size (line.JumpReg 1 ∷ []))
  flat_layer (stmt.Raise i) = bare (line.Plain (instr.I Addi 1 0 (pos i)) ∷ line.Jump unwind ∷ [])

  unfoldable pub flat : Stmt → Flat
  flat = fold-Stmt Flat flat_layer

  abbrev pub flat_handler : Option (Catch Stmt) → Option (Catch Flat)
  flat_handler None = None
  flat_handler (Some h) = Some (record { exception = h.exception; body = flat h.body })

-- ---- statements without lines

abbrev pub all_empty : List (Bool → Bool) → Bool → Bool
all_empty [] last = true
all_empty (e ∷ es) last = e (ends es last) && all_empty es last

abbrev pub empty_layer : Stmt-F (Bool → Bool) → Bool → Bool
empty_layer (stmt.Seq all) last = all_empty all last
empty_layer (stmt.If op rs1 rs2 first second) last = first last && second last
empty_layer stmt.Continue last = last
empty_layer _ last = false

-- whether a statement has no lines, where it is told whether the loop's next turn begins right behind it
unfoldable pub empty : Stmt → Bool → Bool
empty = fold-Stmt (Bool → Bool) empty_layer

-- ---- functions and programs

-- the lines of a function, whose label is its number, where `stub` is the label of the end for want of stack
abbrev pub function_lines : ℕ → ℕ → ℕ → ℕ → StackFun → List Line
function_lines f n stub unwind g =
    line.Label f ∷ (front_lines (front_words g) g.frame stub ++ (flat (front_words g) g.frame unwind g.body).lines n stub stub false)

-- what stands first: main's call, and the end that it gives
abbrev pub start_lines : ℕ → List Line
start_lines main = line.CallTo main ∷ line.Plain (instr.I Addi 11 10 (pos 0)) ∷ line.Plain (instr.I Addi 10 0 (pos 0)) ∷ line.Plain (instr.I Addi 17 0 (pos 0)) ∷ line.Plain instr.Ecall ∷ []

-- the end for want of stack
abbrev pub stub_lines : ℕ → List Line
stub_lines stub = line.Label stub ∷ line.Plain (instr.I Addi 17 0 (pos 0)) ∷ line.Plain (instr.I Addi 10 0 (pos 2)) ∷ line.Plain instr.Ecall ∷ []

-- to the newest record, with the exception in x1, or to the end where there is none
abbrev pub unwind_lines : ℕ → ℕ → List Line
unwind_lines unwind uncaught =
    line.Label unwind ∷ line.Branch Eq 8 0 uncaught ∷ line.Plain (instr.L Ld 9 8 (pos 8)) ∷ line.Plain (instr.I Addi 2 8 (negsuc 7)) ∷ line.Plain (instr.L Ld 8 8 (pos 0)) ∷ line.JumpReg 9
    ∷ line.Label uncaught ∷ line.Plain (instr.I Addi 17 0 (pos 0)) ∷ line.Plain (instr.I Addi 10 0 (pos 1)) ∷ line.Plain (instr.I Addi 11 1 (pos 0)) ∷ line.Plain instr.Ecall ∷ []

-- the functions one after another, from a number on, with the first label that is free for their statements
abbrev pub functions_lines : ℕ → ℕ → List StackFun → ℕ → ℕ → List Line
functions_lines stub unwind [] f n = []
functions_lines stub unwind (g ∷ gs) f n = function_lines f n stub unwind g ++ functions_lines stub unwind gs (f + 1) (n + (flat (front_words g) g.frame unwind g.body).labels)

-- how many labels the functions' statements have
abbrev pub labels_in : ℕ → List StackFun → ℕ
labels_in unwind [] = 0
labels_in unwind (g ∷ gs) = (flat (front_words g) g.frame unwind g.body).labels + labels_in unwind gs

-- a program's lines: labels 0 to F - 1 are the functions', then come those of the two ends and of unwinding
abbrev pub program_lines : List StackFun → ℕ → List Line
program_lines fs main =
    start_lines main ++ (stub_lines (length fs) ++ (unwind_lines (length fs + 1) (length fs + 2) ++ functions_lines (length fs) (length fs + 1) fs 0 (length fs + 3)))

-- what is left of a function beside its lines
abbrev pub lab_function : StackFun → LabFun
lab_function f = record { name = f.name; cost = f.cost }

abbrev pub lab_program : Program StackFun → Program LabFun
lab_program p = with_functions p (map lab_function p.functions)
