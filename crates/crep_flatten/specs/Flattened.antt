-- A program in words.
use Rattle.std.specs.Prelude.{ℕ, suc, ◌+◌, nat_le, if◌then◌else◌, List, [], ◌∷◌, ◌++◌, map, flat_map, length, replicate, codes, Option, Some, None}
use Rattle.std.specs.List.{list_any}
use Rattle.pan_stage.specs.Locals.{numbers_from}
use Rattle.pan_stage.specs.declared.program.Handler.{Handler}
use Rattle.pan_stage.specs.declared.program.Program.{Program}
use Rattle.pan_tree.specs.Scopes.{ScopeOf, innermost, declare}
use Rattle.pan_tree.specs.Shapes.{words_of}
use Rattle.pan_tree.specs.Check.{function_of, result_of, exception_of, cost, foreign_names, parameter_words}
use Rattle.pan_tree.specs.Meaning.{function_index, exception_index, foreign_index}
use Rattle.pan_tree.specs.declared.shape.Shape.{Shape}
use Rattle.pan_tree.specs.declared.shape.Shape.TheVariants as shape
use Rattle.pan_tree.specs.declared.spanned.Spanned.{Spanned}
use Rattle.pan_tree.specs.declared.syntax.StmtKind.{StmtKind, StmtKind-F, fold-StmtKind}
use Rattle.pan_tree.specs.declared.syntax.StmtKind.TheOpen as source
use Rattle.pan_tree.specs.declared.syntax.Target.{Target}
use Rattle.pan_tree.specs.declared.syntax.Target.TheVariants as target
use Rattle.pan_tree.specs.declared.syntax.BlockOf.{BlockOf}
use Rattle.pan_tree.specs.declared.syntax.HandlerOf.{HandlerOf}
use Rattle.pan_tree.specs.declared.program.Param.{Param}
use Rattle.pan_tree.specs.declared.program.Exception.{Exception}
use Rattle.pan_tree.specs.declared.program.Function.{Function}
use Rattle.pan_tree.specs.declared.program.Program.{Program as Source}
use Rattle.check_soundness.specs.Spread.{spread}
use Rattle.crep_lang.specs.declared.syntax.CrepFun.{CrepFun}
use Rattle.crep_lang.specs.declared.syntax.Expr.{Expr}
use Rattle.crep_lang.specs.declared.syntax.Expr.TheVariants as e
use Rattle.crep_lang.specs.declared.syntax.Stmt.{Stmt}
use Rattle.crep_lang.specs.declared.syntax.Stmt.TheVariants as stmt
use Rattle.crep_flatten.specs.declared.rows.Row.{Row}
use Rattle.crep_flatten.specs.Rows.{far, variables, settle}
use Rattle.crep_flatten.specs.Flat.{Place, Places, count, Flat, word_in, flat}
use Rattle.crep_flatten.specs.Reads.{is_variable, go_straight, reads_memory}

-- ---- rows of statements

-- each word to the next variable
abbrev pub assign_row : ℕ → List Expr → List Stmt
assign_row x [] = []
assign_row x (w ∷ ws) = stmt.Assign x w ∷ assign_row (suc x) ws

-- each word to the next address behind one
abbrev pub store_row : Expr → ℕ → List Expr → List Stmt
store_row a i [] = []
store_row a i (w ∷ ws) = stmt.StoreWord (far a i) w ∷ store_row a (suc i) ws

-- a word to a variable, which isn't given what it has
abbrev pub one_move : ℕ → Expr → List Stmt
one_move x w = if is_variable w x then [] else stmt.Assign x w ∷ []

-- each word to the next variable, from this one on
abbrev pub moves : ℕ → List Expr → List Stmt
moves x [] = []
moves x (w ∷ ws) = one_move x w ++ moves (suc x) ws

-- words to variables, one after another; through others from a free one on, where a word reads a variable that one before it goes to
abbrev pub moved : ℕ → List Expr → ℕ → List Stmt
moved x ws t = if go_straight x 0 ws then moves x ws else assign_row t ws ++ assign_row x (variables t (length ws))

abbrev pub assigned : ℕ → List Row → ℕ → List Stmt
assigned x rs t = let g = settle rs t in g.before ++ moved x g.words g.next

-- words to memory from the address in a variable on, one after another; through variables from a free one on, where a word reads memory
abbrev pub stored_words : ℕ → List Expr → ℕ → List Stmt
stored_words a ws t = if list_any reads_memory ws then assign_row t ws ++ store_row (e.Var a) 0 (variables t (length ws)) else store_row (e.Var a) 0 ws

-- words to memory, whose address is computed once, if there is more than one
abbrev pub stored : Expr → List Row → ℕ → List Stmt
stored a rs t =
    let g = settle rs (suc t) in
    if nat_le (length g.words) 1 then g.before ++ store_row a 0 g.words
    else stmt.Assign t a ∷ (g.before ++ stored_words t g.words g.next)

-- the rows of several
abbrev pub rows_of : List Flat → List Row
rows_of fs = flat_map (λ f. f.rows) fs

-- ---- statements

-- a statement in words, and the places behind it
abbrev pub Flattening : Type 0
Flattening = Source → Places → Stmt × Places

abbrev pub flat_all : List (Spanned Flattening) → Source → Places → List Stmt × Places
flat_all [] p here = ([], here)
flat_all (s ∷ ss) p here =
    let one = s.kind p here in
    let others = flat_all ss p one.1 in
    (one.0 ∷ others.0, others.1)

-- a block, which begins with these variables, behind these statements
abbrev pub block : ScopeOf Place → List Stmt → BlockOf (Spanned Flattening) → Source → Places → Stmt
block first before b p here = stmt.Seq (before ++ (flat_all b.stmts p (first ∷ here)).0)

abbrev pub place_at : Option Place → Place
place_at None = record { first = 0; shape = shape.Word }
place_at (Some q) = q

abbrev pub numbered : Option ℕ → ℕ
numbered None = 0
numbered (Some i) = i

abbrev pub new_place : Shape → Places → Place
new_place s here = record { first = count here; shape = s }

-- the variables that get a result, and the places behind the call
abbrev pub results : Target → Shape → Places → List ℕ
results target.Nothing s here = []
results (target.Old x) s here = numbers_from (place_at (innermost x here)).first (words_of s)
results (target.New x) s here = numbers_from (count here) (words_of s)

abbrev pub after_target : Target → Shape → Places → Places
after_target (target.New x) s here = declare x (new_place s here) here
after_target _ s here = here

-- a new variable has all words 0 in the handler
abbrev pub cleared : Target → Shape → Places → List Stmt
cleared (target.New x) s here = assign_row (count here) (replicate (words_of s) (e.Num 0))
cleared _ s here = []

abbrev pub exception_shape : Option Exception → Shape
exception_shape None = shape.Word
exception_shape (Some x) = spread x.shape

-- a handler, before whose block these statements stand
abbrev pub caught : HandlerOf (Spanned Flattening) → List Stmt → Source → Places → Handler Stmt
caught h before p here =
    let s = exception_shape (exception_of h.exception p) in
    record { exception = numbered (exception_index h.exception p); variables = numbers_from (count here) (words_of s); body = block ((h.name, new_place s here) ∷ []) before h.body p here }

abbrev pub handler : Option (HandlerOf (Spanned Flattening)) → List Stmt → Source → Places → Option (Handler Stmt)
handler None before p here = None
handler (Some h) before p here = Some (caught h before p here)

abbrev pub flat_layer : StmtKind-F Flattening → Flattening
flat_layer source.Skip p here = (stmt.Skip, here)
flat_layer (source.Decl x v) p here =
    let f = flat v here in
    let g = settle f.rows (count here + words_of f.shape) in
    (stmt.Seq (g.before ++ assign_row (count here) g.words), declare x (new_place f.shape here) here)
flat_layer (source.Assign x v) p here = (stmt.Seq (assigned (place_at (innermost x here)).first (flat v here).rows (count here)), here)
flat_layer (source.StoreWords a v) p here = (stmt.Seq (stored (word_in (flat a here)) (flat v here).rows (count here)), here)
flat_layer (source.StoreByte a v) p here = (stmt.StoreByte (word_in (flat a here)) (word_in (flat v here)), here)
flat_layer (source.If v a b) p here = (stmt.If (word_in (flat v here)) (block [] [] a p here) (block [] [] b p here), here)
flat_layer (source.While v b) p here = (stmt.While [] (word_in (flat v here)) (block [] [] b p here), here)
flat_layer source.Break p here = (stmt.Break, here)
flat_layer source.Continue p here = (stmt.Continue, here)
flat_layer (source.Call c) p here =
    let s = spread (result_of (function_of c.function p)) in
    let behind = after_target c.into s here in
    let g = settle (rows_of (map (λ v. flat v here) c.args)) (count here) in
    (stmt.Seq (g.before ++ stmt.Call (results c.into s here) (numbered (function_index c.function p)) g.words (handler c.handler (cleared c.into s here) p behind) ∷ []), behind)
flat_layer (source.Return v) p here = let g = settle (flat v here).rows (count here) in (stmt.Seq (g.before ++ stmt.Return g.words ∷ []), here)
flat_layer (source.TailCall name args) p here =
    let g = settle (rows_of (map (λ v. flat v here) args)) (count here) in
    (stmt.Seq (g.before ++ stmt.TailCall (numbered (function_index name p)) g.words ∷ []), here)
flat_layer (source.Raise name v) p here =
    let g = settle (flat v here).rows (count here) in
    (stmt.Seq (g.before ++ stmt.Raise (numbered (exception_index name p)) g.words ∷ []), here)
flat_layer (source.SharedLoad size x a) p here = (stmt.SharedLoad size (place_at (innermost x here)).first (word_in (flat a here)), here)
flat_layer (source.SharedStore size a v) p here = (stmt.SharedStore size (word_in (flat a here)) (word_in (flat v here)), here)
flat_layer (source.Foreign name a b c d) p here =
    (stmt.Foreign (numbered (foreign_index name p)) (word_in (flat a here)) (word_in (flat b here)) (word_in (flat c here)) (word_in (flat d here)), here)

unfoldable pub flat_stmt : StmtKind → Flattening
flat_stmt = fold-StmtKind Flattening flat_layer

abbrev pub flattening : Spanned StmtKind → Spanned Flattening
flattening x = record { kind = flat_stmt x.kind; span = x.span }

-- the parts of a statement
abbrev pub block_flattening : BlockOf (Spanned StmtKind) → BlockOf (Spanned Flattening)
block_flattening b = record { stmts = map flattening b.stmts }

abbrev pub caught_flattening : HandlerOf (Spanned StmtKind) → HandlerOf (Spanned Flattening)
caught_flattening h = record { exception = h.exception; name = h.name; body = block_flattening h.body }

abbrev pub handler_flattening : Option (HandlerOf (Spanned StmtKind)) → Option (HandlerOf (Spanned Flattening))
handler_flattening None = None
handler_flattening (Some h) = Some (caught_flattening h)

-- ---- programs

abbrev pub with_parameters : List Param → Places → Places
with_parameters [] here = here
with_parameters (q ∷ qs) here = with_parameters qs (declare q.name (new_place (spread q.shape) here) here)

abbrev pub flat_function : Source → Function → CrepFun
flat_function p f =
    record {
      name = f.name;
      cost = cost p f;
      params = parameter_words f.params;
      results = words_of f.result;
      body = stmt.Seq (flat_all (map flattening (f.body).stmts) p (with_parameters f.params ([] ∷ []))).0;
    }

abbrev pub flattened : Source → Program CrepFun
flattened p =
    record {
      functions = map (flat_function p) p.functions;
      main = numbered (function_index (codes "main") p);
      exceptions = map (λ (x : Exception). words_of x.shape) p.exceptions;
      names = foreign_names p;
      globals = [];
    }
