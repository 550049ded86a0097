-- What stands in the text of a function: sites, mentions, and the ways through it.
use Rattle.std.specs.Prelude.{ℕ, List, [], ◌∷◌, ◌++◌, length, flat_map, Option, Some, None}
use Rattle.pan_base.specs.declared.operators.ShiftOp.{ShiftOp}
use Rattle.pan_base.specs.declared.operators.ShiftOp.TheVariants as shift_op
use Rattle.pan_stage.specs.Mentions.{Mention, Arity}
pub use Rattle.pan_stage.specs.Mentions.{handler_mentions}
use Rattle.pan_stage.specs.Mentions as mention
pub use Rattle.pan_stage.specs.Programs.{in_handler}
use Rattle.pan_stage.specs.Stage.{Site}
use Rattle.pan_stage.specs.Stage as site
use Rattle.pan_flow.specs.Flow.{Writes, AtEnd, AtBreak, AtContinue, Flow, Does, Ends, Then, Either, Loop}
use Rattle.pan_flow.specs.Functions.{all_in_turn, reads, sets, leaves, calls, asks, of_function}
use Rattle.word_lang.specs.declared.syntax.Test.{Test}
use Rattle.word_lang.specs.declared.syntax.WordFun.{WordFun}
use Rattle.word_lang.specs.declared.syntax.Stmt.{Stmt, Stmt-F, fold-Stmt}
use Rattle.word_lang.specs.declared.syntax.Stmt.TheOpen as stmt

-- ---- sites

abbrev pub sites_layer : Stmt-F (List Site) → List Site
sites_layer (stmt.Seq all) = flat_map (λ s. s) all
sites_layer (stmt.If y first second) = first ++ second
sites_layer (stmt.While before y body) = flat_map (λ s. s) before ++ body
sites_layer (stmt.Call results f arguments handler) = site.Called f ∷ in_handler handler
sites_layer (stmt.TailCall f arguments) = site.TailCalled f ∷ []
sites_layer (stmt.SharedLoad size x a i) = site.Loaded size ∷ []
sites_layer (stmt.SharedStore size x a i) = site.Stored size ∷ []
sites_layer (stmt.Foreign i conf conf_len array array_len) = site.Foreign i ∷ []
sites_layer _ = []

-- the sites of a statement, in the order of the text
unfoldable pub sites : Stmt → List Site
sites = fold-Stmt (List Site) sites_layer

-- ---- mentions

-- the number of bits that an operation shifts, which is above each amount
abbrev pub shifted_bits : ShiftOp → ℕ
shifted_bits shift_op.Slli = 64
shifted_bits shift_op.Srli = 64
shifted_bits shift_op.Srai = 64
shifted_bits shift_op.Slliw = 32
shifted_bits shift_op.Srliw = 32
shifted_bits shift_op.Sraiw = 32

abbrev pub mentions_layer : Stmt-F (List Mention) → List Mention
mentions_layer stmt.Skip = []
mentions_layer (stmt.Seq all) = flat_map (λ s. s) all
mentions_layer (stmt.Const x n) = mention.Number n ∷ []
mentions_layer (stmt.Reg o x a b) = []
mentions_layer (stmt.Imm o x a i) = mention.Immediate i ∷ []
mentions_layer (stmt.Sh o x a n) = mention.Amount (shifted_bits o) n ∷ []
mentions_layer (stmt.Load o x a i) = mention.Immediate i ∷ []
mentions_layer (stmt.Store o x a i) = mention.Immediate i ∷ []
mentions_layer (stmt.If y first second) = first ++ second
mentions_layer (stmt.While before y body) = flat_map (λ s. s) before ++ body
mentions_layer stmt.Break = []
mentions_layer stmt.Continue = []
mentions_layer (stmt.Call results f arguments handler) = mention.Called f (length arguments) (length results) ∷ handler_mentions handler
mentions_layer (stmt.TailCall f arguments) = mention.TailCalled f (length arguments) ∷ []
mentions_layer (stmt.Return xs) = mention.Returned (length xs) ∷ []
mentions_layer (stmt.Raise i xs) = mention.Raised i (length xs) ∷ []
mentions_layer (stmt.SharedLoad size x a i) = mention.Immediate i ∷ []
mentions_layer (stmt.SharedStore size x a i) = mention.Immediate i ∷ []
mentions_layer (stmt.Foreign i conf conf_len array array_len) = mention.Foreign i ∷ []

unfoldable pub mentions : Stmt → List Mention
mentions = fold-Stmt (List Mention) mentions_layer

abbrev pub arity : WordFun → Arity
arity f = record { parameters = length f.params; results = f.results }

-- ---- ways

-- the operands that are variables
abbrev pub variables_of : List (Option ℕ) → List ℕ
variables_of [] = []
variables_of (None ∷ os) = variables_of os
variables_of (Some x ∷ os) = x ∷ variables_of os

-- the variables of a test
abbrev pub variables_read : Test → List ℕ
variables_read y = variables_of (y.left ∷ y.right ∷ [])

abbrev pub flow_layer : Stmt-F Flow → Flow
flow_layer stmt.Skip = Ends AtEnd
flow_layer (stmt.Seq all) = all_in_turn all
flow_layer (stmt.Const x n) = Does (Writes (x ∷ []))
flow_layer (stmt.Reg o x a b) = sets x (a ∷ b ∷ [])
flow_layer (stmt.Imm o x a i) = sets x (a ∷ [])
flow_layer (stmt.Sh o x a n) = sets x (a ∷ [])
flow_layer (stmt.Load o x a i) = sets x (a ∷ [])
flow_layer (stmt.Store o x a i) = reads (a ∷ x ∷ [])
flow_layer (stmt.If y first second) = Then (reads (variables_read y)) (Either first second)
flow_layer (stmt.While before y body) = Loop (Then (all_in_turn before) (reads (variables_read y))) body
flow_layer stmt.Break = Ends AtBreak
flow_layer stmt.Continue = Ends AtContinue
flow_layer (stmt.Call results f arguments handler) = calls arguments results handler
flow_layer (stmt.TailCall f arguments) = leaves arguments
flow_layer (stmt.Return xs) = leaves xs
flow_layer (stmt.Raise i xs) = leaves xs
flow_layer (stmt.SharedLoad size x a i) = sets x (a ∷ [])
flow_layer (stmt.SharedStore size x a i) = reads (a ∷ x ∷ [])
flow_layer (stmt.Foreign i conf conf_len array array_len) = asks (conf ∷ conf_len ∷ array ∷ array_len ∷ [])

unfoldable pub flow_of : Stmt → Flow
flow_of = fold-Stmt Flow flow_layer

abbrev pub flow_of_function : WordFun → Flow
flow_of_function f = of_function f.params (flow_of f.body)
