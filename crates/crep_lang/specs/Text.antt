-- What stands in the text of a function: sites, mentions, and the ways through it.
use Rattle.std.specs.Prelude.{ℕ, List, [], ◌∷◌, ◌++◌, length, flat_map}
use Rattle.pan_stage.specs.Locals.{numbers_from}
use Rattle.pan_stage.specs.Mentions.{Mention, Arity}
pub use Rattle.pan_stage.specs.Mentions.{handler_mentions}
use Rattle.pan_stage.specs.Mentions as mention
pub use Rattle.pan_stage.specs.Programs.{in_handler}
use Rattle.pan_stage.specs.Stage.{Site}
use Rattle.pan_stage.specs.Stage as site
use Rattle.pan_flow.specs.Flow.{AtEnd, AtBreak, AtContinue, Flow, Ends, Then, Either, Loop}
use Rattle.pan_flow.specs.Functions.{all_in_turn, reads, sets, leaves, calls, asks, of_function}
use Rattle.crep_lang.specs.declared.syntax.CrepFun.{CrepFun}
use Rattle.crep_lang.specs.declared.syntax.Expr.{Expr, Expr-F, fold-Expr}
use Rattle.crep_lang.specs.declared.syntax.Expr.TheOpen as expr
use Rattle.crep_lang.specs.declared.syntax.Stmt.{Stmt, Stmt-F, fold-Stmt}
use Rattle.crep_lang.specs.declared.syntax.Stmt.TheOpen as stmt

-- ---- sites

abbrev pub sites_layer : Stmt-F (List Site) → List Site
sites_layer (stmt.Seq all) = flat_map (λ s. s) all
sites_layer (stmt.If e first second) = first ++ second
sites_layer (stmt.While before e body) = flat_map (λ s. s) before ++ body
sites_layer (stmt.Call results f arguments handler) = site.Called f ∷ in_handler handler
sites_layer (stmt.TailCall f arguments) = site.TailCalled f ∷ []
sites_layer (stmt.SharedLoad size x a) = site.Loaded size ∷ []
sites_layer (stmt.SharedStore size a e) = site.Stored size ∷ []
sites_layer (stmt.Foreign i conf conf_len array array_len) = site.Foreign i ∷ []
sites_layer _ = []

-- the sites of a statement, in the order of the text
unfoldable pub sites : Stmt → List Site
sites = fold-Stmt (List Site) sites_layer

-- ---- mentions

abbrev pub mentioned_layer : Expr-F (List Mention) → List Mention
mentioned_layer (expr.Num n) = mention.Number n ∷ []
mentioned_layer (expr.Var x) = []
mentioned_layer (expr.LoadWord a) = a
mentioned_layer (expr.LoadByte a) = a
mentioned_layer (expr.Bin o a b) = a ++ b
mentioned_layer (expr.Shift o a n) = mention.Amount 64 n ∷ a
mentioned_layer (expr.Compare c a b) = a ++ b

unfoldable pub mentioned : Expr → List Mention
mentioned = fold-Expr (List Mention) mentioned_layer

abbrev pub all_mentioned : List Expr → List Mention
all_mentioned es = flat_map mentioned es

abbrev pub mentions_layer : Stmt-F (List Mention) → List Mention
mentions_layer stmt.Skip = []
mentions_layer (stmt.Seq all) = flat_map (λ s. s) all
mentions_layer (stmt.Assign x e) = mentioned e
mentions_layer (stmt.StoreWord a e) = mentioned a ++ mentioned e
mentions_layer (stmt.StoreByte a e) = mentioned a ++ mentioned e
mentions_layer (stmt.If e first second) = mentioned e ++ (first ++ second)
mentions_layer (stmt.While before e body) = flat_map (λ s. s) before ++ (mentioned e ++ body)
mentions_layer stmt.Break = []
mentions_layer stmt.Continue = []
mentions_layer (stmt.Call results f arguments handler) = mention.Called f (length arguments) (length results) ∷ (all_mentioned arguments ++ handler_mentions handler)
mentions_layer (stmt.TailCall f arguments) = mention.TailCalled f (length arguments) ∷ all_mentioned arguments
mentions_layer (stmt.Return es) = mention.Returned (length es) ∷ all_mentioned es
mentions_layer (stmt.Raise i es) = mention.Raised i (length es) ∷ all_mentioned es
mentions_layer (stmt.SharedLoad size x a) = mentioned a
mentions_layer (stmt.SharedStore size a e) = mentioned a ++ mentioned e
mentions_layer (stmt.Foreign i conf conf_len array array_len) = mention.Foreign i ∷ all_mentioned (conf ∷ conf_len ∷ array ∷ array_len ∷ [])

unfoldable pub mentions : Stmt → List Mention
mentions = fold-Stmt (List Mention) mentions_layer

abbrev pub arity : CrepFun → Arity
arity f = record { parameters = f.params; results = f.results }

-- ---- ways

abbrev pub read_layer : Expr-F (List ℕ) → List ℕ
read_layer (expr.Num n) = []
read_layer (expr.Var x) = x ∷ []
read_layer (expr.LoadWord a) = a
read_layer (expr.LoadByte a) = a
read_layer (expr.Bin o a b) = a ++ b
read_layer (expr.Shift o a n) = a
read_layer (expr.Compare c a b) = a ++ b

-- the variables of an expression, in the order of the text
unfoldable pub variables_read : Expr → List ℕ
variables_read = fold-Expr (List ℕ) read_layer

abbrev pub all_read : List Expr → List ℕ
all_read es = flat_map variables_read es

abbrev pub flow_layer : Stmt-F Flow → Flow
flow_layer stmt.Skip = Ends AtEnd
flow_layer (stmt.Seq all) = all_in_turn all
flow_layer (stmt.Assign x e) = sets x (variables_read e)
flow_layer (stmt.StoreWord a e) = reads (all_read (a ∷ e ∷ []))
flow_layer (stmt.StoreByte a e) = reads (all_read (a ∷ e ∷ []))
flow_layer (stmt.If e first second) = Then (reads (variables_read e)) (Either first second)
flow_layer (stmt.While before e body) = Loop (Then (all_in_turn before) (reads (variables_read e))) body
flow_layer stmt.Break = Ends AtBreak
flow_layer stmt.Continue = Ends AtContinue
flow_layer (stmt.Call results f arguments handler) = calls (all_read arguments) results handler
flow_layer (stmt.TailCall f arguments) = leaves (all_read arguments)
flow_layer (stmt.Return es) = leaves (all_read es)
flow_layer (stmt.Raise i es) = leaves (all_read es)
flow_layer (stmt.SharedLoad size x a) = sets x (variables_read a)
flow_layer (stmt.SharedStore size a e) = reads (all_read (a ∷ e ∷ []))
flow_layer (stmt.Foreign i conf conf_len array array_len) = asks (all_read (conf ∷ conf_len ∷ array ∷ array_len ∷ []))

unfoldable pub flow_of : Stmt → Flow
flow_of = fold-Stmt Flow flow_layer

abbrev pub flow_of_function : CrepFun → Flow
flow_of_function f = of_function (numbers_from 0 f.params) (flow_of f.body)
