-- The source as a stage: its face, and its sites in the order of the text.
use Rattle.std.specs.Prelude.{List, [], ◌∷◌, ◌++◌, map, flat_map, codes, Option, Some, None}
use Rattle.pan_stage.specs.Stage.{Site, Face, Stage}
use Rattle.pan_stage.specs.Stage as site
use Rattle.pan_tree.specs.Shapes.{words_of}
use Rattle.pan_tree.specs.Check.{cost, foreign_names}
use Rattle.pan_tree.specs.Meaning.{source, function_index, foreign_index}
use Rattle.pan_tree.specs.declared.spanned.Spanned.{Spanned}
use Rattle.pan_tree.specs.declared.syntax.StmtKind.{StmtKind, StmtKind-F, fold-StmtKind}
use Rattle.pan_tree.specs.declared.syntax.StmtKind.TheOpen as stmt
use Rattle.pan_tree.specs.declared.syntax.BlockOf.{BlockOf}
use Rattle.pan_tree.specs.declared.syntax.HandlerOf.{HandlerOf}
use Rattle.pan_tree.specs.declared.program.Exception.{Exception}
use Rattle.pan_tree.specs.declared.program.Function.{Function}
use Rattle.pan_tree.specs.declared.program.Program.{Program}
use Rattle.pan_chain.specs.Whole.{source_stage}
use Rattle.crep_flatten.specs.Flattened.{numbered}

-- what a source shows: an active call of a function costs 16 times 4 and the function's weight
abbrev pub face : Program → Face
face p =
    record {
      main = numbered (function_index (codes "main") p);
      functions = map (λ (f : Function). f.name) p.functions;
      costs = map (cost p) p.functions;
      widths = map (λ (x : Exception). words_of x.shape) p.exceptions;
      foreign_names = foreign_names p;
      globals = [];
    }

-- ---- sites

abbrev pub block_sites : BlockOf (Spanned (Program → List Site)) → Program → List Site
block_sites b p = flat_map (λ (s : Spanned (Program → List Site)). s.kind p) b.stmts

abbrev pub handler_sites : Option (HandlerOf (Spanned (Program → List Site))) → Program → List Site
handler_sites None p = []
handler_sites (Some h) p = block_sites h.body p

abbrev pub sites_layer : StmtKind-F (Program → List Site) → Program → List Site
sites_layer (stmt.If e first second) p = block_sites first p ++ block_sites second p
sites_layer (stmt.While e body) p = block_sites body p
sites_layer (stmt.Call c) p = site.Called (numbered (function_index c.function p)) ∷ handler_sites c.handler p
sites_layer (stmt.TailCall f args) p = site.TailCalled (numbered (function_index f p)) ∷ []
sites_layer (stmt.SharedLoad size x a) p = site.Loaded size ∷ []
sites_layer (stmt.SharedStore size a e) p = site.Stored size ∷ []
sites_layer (stmt.Foreign x a b c d) p = site.Foreign (numbered (foreign_index x p)) ∷ []
sites_layer _ p = []

-- the sites of a statement
unfoldable pub sites : StmtKind → Program → List Site
sites = fold-StmtKind (Program → List Site) sites_layer

abbrev pub function_sites : Program → Function → List Site
function_sites p f = flat_map (λ (s : Spanned StmtKind). sites s.kind p) (f.body).stmts

-- the source as the first stage
abbrev pub stage : Program → Stage
stage p = source_stage (face p) (map (function_sites p) p.functions) (source p)
