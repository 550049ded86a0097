-- What stands in the text of a function: sites, and mentions.
use Rattle.std.specs.Prelude.{ℕ, List, [], ◌∷◌, ◌++◌, flat_map, Option, Some, None}
use Rattle.pan_stage.specs.Stage.{Site}
use Rattle.pan_stage.specs.Stage as site
use Rattle.riscv_isa.specs.declared.instr.Instr.{Instr}
use Rattle.stack_lang.specs.Shown.{load_of, store_of}
use Rattle.stack_lang.specs.declared.syntax.Catch.{Catch}
use Rattle.stack_lang.specs.declared.syntax.Stmt.{Stmt, Stmt-F, fold-Stmt}
use Rattle.stack_lang.specs.declared.syntax.Stmt.TheOpen as stmt

-- what is said of a handler's body, or nothing
abbrev pub in_handler : {A : Type 0} → Option (Catch (List A)) → List A
in_handler None = []
in_handler (Some h) = h.body

-- ---- sites

abbrev pub sites_layer : Stmt-F (List Site) → List Site
sites_layer (stmt.Seq all) = flat_map (λ s. s) all
sites_layer (stmt.SharedLoad n rd rs1 imm) = site.Loaded n ∷ []
sites_layer (stmt.SharedStore n rs1 rs2 imm) = site.Stored n ∷ []
sites_layer (stmt.Foreign i) = site.Foreign i ∷ []
sites_layer (stmt.If c a b first second) = first ++ second
sites_layer (stmt.While before c a b body) = flat_map (λ s. s) before ++ body
sites_layer (stmt.Call f returned handler) = site.Called f ∷ (returned ++ in_handler handler)
sites_layer (stmt.TailCall f) = site.TailCalled f ∷ []
sites_layer _ = []

-- the sites of a statement, in the order of the text
unfoldable pub sites : Stmt → List Site
sites = fold-Stmt (List Site) sites_layer

-- ---- mentions

pub data Mention : Type 0 where
  Instruction : (instruction : Instr) → Mention
  -- a register that is read
  Read : (register : ℕ) → Mention
  -- a register that is written
  Written : (register : ℕ) → Mention
  Slot : (slot : ℕ) → Mention
  -- a function that is called
  Function : (number : ℕ) → Mention
  -- an exception that is raised or caught
  Exception : (number : ℕ) → Mention
  Foreign : (name : ℕ) → Mention

-- a handler mentions its exception, and what its body does
abbrev pub handler_mentions : Option (Catch (List Mention)) → List Mention
handler_mentions None = []
handler_mentions (Some h) = Exception h.exception ∷ h.body

abbrev pub mentions_layer : Stmt-F (List Mention) → List Mention
mentions_layer (stmt.Seq all) = flat_map (λ s. s) all
mentions_layer (stmt.Plain i) = Instruction i ∷ []
mentions_layer (stmt.Get r k) = Written r ∷ Slot k ∷ []
mentions_layer (stmt.Put k r) = Read r ∷ Slot k ∷ []
mentions_layer (stmt.SharedLoad n rd rs1 imm) = Instruction (load_of n rd rs1 imm) ∷ []
mentions_layer (stmt.SharedStore n rs1 rs2 imm) = Instruction (store_of n rs1 rs2 imm) ∷ []
mentions_layer (stmt.Foreign i) = Foreign i ∷ []
mentions_layer (stmt.If c a b first second) = Read a ∷ Read b ∷ (first ++ second)
mentions_layer (stmt.While before c a b body) = flat_map (λ s. s) before ++ (Read a ∷ Read b ∷ body)
mentions_layer stmt.Break = []
mentions_layer stmt.Continue = []
mentions_layer (stmt.Call f returned handler) = Function f ∷ (returned ++ handler_mentions handler)
mentions_layer (stmt.TailCall f) = Function f ∷ []
mentions_layer stmt.Return = []
mentions_layer (stmt.Raise i) = Exception i ∷ []

unfoldable pub mentions : Stmt → List Mention
mentions = fold-Stmt (List Mention) mentions_layer
