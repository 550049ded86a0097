-- What stands in the text of a function: sites, mentions, and the ways through it.
use Rattle.std.specs.Prelude.{List, [], ◌∷◌, ◌++◌, length, flat_map}
use Rattle.pan_stage.specs.Locals.{numbers_from}
use Rattle.pan_stage.specs.Mentions.{Mention, Arity}
pub use Rattle.pan_stage.specs.Mentions.{handler_mentions}
use Rattle.pan_stage.specs.Mentions as mention
pub use Rattle.pan_stage.specs.Programs.{in_handler}
use Rattle.pan_stage.specs.Stage.{Site}
use Rattle.pan_stage.specs.Stage as site
use Rattle.pan_flow.specs.Flow.{AtEnd, AtBreak, AtContinue, Flow, Ends, Then, Either, Loop}
use Rattle.pan_flow.specs.Functions.{all_in_turn, reads, sets, leaves, calls, asks, of_function}
use Rattle.loop_lang.specs.declared.syntax.LoopFun.{LoopFun}
use Rattle.loop_lang.specs.declared.syntax.Stmt.{Stmt, Stmt-F, fold-Stmt}
use Rattle.loop_lang.specs.declared.syntax.Stmt.TheOpen as stmt

-- ---- sites

abbrev pub sites_layer : Stmt-F (List Site) → List Site
sites_layer (stmt.Seq all) = flat_map (λ s. s) all
sites_layer (stmt.If x first second) = first ++ second
sites_layer (stmt.While live before x body) = flat_map (λ s. s) before ++ body
sites_layer (stmt.Call live results f arguments handler) = site.Called f ∷ in_handler handler
sites_layer (stmt.TailCall f arguments) = site.TailCalled f ∷ []
sites_layer (stmt.SharedLoad size x a) = site.Loaded size ∷ []
sites_layer (stmt.SharedStore size a x) = site.Stored size ∷ []
sites_layer (stmt.Foreign live i conf conf_len array array_len) = site.Foreign i ∷ []
sites_layer _ = []

-- the sites of a statement, in the order of the text
unfoldable pub sites : Stmt → List Site
sites = fold-Stmt (List Site) sites_layer

-- ---- mentions

abbrev pub mentions_layer : Stmt-F (List Mention) → List Mention
mentions_layer stmt.Skip = []
mentions_layer (stmt.Seq all) = flat_map (λ s. s) all
mentions_layer (stmt.Const x n) = mention.Number n ∷ []
mentions_layer (stmt.Move x a) = []
mentions_layer (stmt.Bin o x a b) = []
mentions_layer (stmt.Shift o x a n) = mention.Amount 64 n ∷ []
mentions_layer (stmt.Compare c x a b) = []
mentions_layer (stmt.LoadWord x a) = []
mentions_layer (stmt.LoadByte x a) = []
mentions_layer (stmt.StoreWord a x) = []
mentions_layer (stmt.StoreByte a x) = []
mentions_layer (stmt.If x first second) = first ++ second
mentions_layer (stmt.While live before x body) = flat_map (λ s. s) before ++ body
mentions_layer stmt.Break = []
mentions_layer stmt.Continue = []
mentions_layer (stmt.Call live results f arguments handler) = mention.Called f (length arguments) (length results) ∷ handler_mentions handler
mentions_layer (stmt.TailCall f arguments) = mention.TailCalled f (length arguments) ∷ []
mentions_layer (stmt.Return xs) = mention.Returned (length xs) ∷ []
mentions_layer (stmt.Raise i xs) = mention.Raised i (length xs) ∷ []
mentions_layer (stmt.SharedLoad size x a) = []
mentions_layer (stmt.SharedStore size a x) = []
mentions_layer (stmt.Foreign live i conf conf_len array array_len) = mention.Foreign i ∷ []

unfoldable pub mentions : Stmt → List Mention
mentions = fold-Stmt (List Mention) mentions_layer

abbrev pub arity : LoopFun → Arity
arity f = record { parameters = f.params; results = f.results }

-- ---- ways

abbrev pub flow_layer : Stmt-F Flow → Flow
flow_layer stmt.Skip = Ends AtEnd
flow_layer (stmt.Seq all) = all_in_turn all
flow_layer (stmt.Const x n) = sets x []
flow_layer (stmt.Move x a) = sets x (a ∷ [])
flow_layer (stmt.Bin o x a b) = sets x (a ∷ b ∷ [])
flow_layer (stmt.Shift o x a n) = sets x (a ∷ [])
flow_layer (stmt.Compare c x a b) = sets x (a ∷ b ∷ [])
flow_layer (stmt.LoadWord x a) = sets x (a ∷ [])
flow_layer (stmt.LoadByte x a) = sets x (a ∷ [])
flow_layer (stmt.StoreWord a x) = reads (a ∷ x ∷ [])
flow_layer (stmt.StoreByte a x) = reads (a ∷ x ∷ [])
flow_layer (stmt.If x first second) = Then (reads (x ∷ [])) (Either first second)
flow_layer (stmt.While live before x body) = Loop (Then (all_in_turn before) (reads (x ∷ []))) body
flow_layer stmt.Break = Ends AtBreak
flow_layer stmt.Continue = Ends AtContinue
flow_layer (stmt.Call live results f arguments handler) = calls arguments results handler
flow_layer (stmt.TailCall f arguments) = leaves arguments
flow_layer (stmt.Return xs) = leaves xs
flow_layer (stmt.Raise i xs) = leaves xs
flow_layer (stmt.SharedLoad size x a) = sets x (a ∷ [])
flow_layer (stmt.SharedStore size a x) = reads (a ∷ x ∷ [])
flow_layer (stmt.Foreign live i conf conf_len array array_len) = asks (conf ∷ conf_len ∷ array ∷ array_len ∷ [])

unfoldable pub flow_of : Stmt → Flow
flow_of = fold-Stmt Flow flow_layer

abbrev pub flow_of_function : LoopFun → Flow
flow_of_function f = of_function (numbers_from 0 f.params) (flow_of f.body)
