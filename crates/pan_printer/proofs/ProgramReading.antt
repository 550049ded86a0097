-- Printed programs are read as they are.
use Rattle.std.proofs.Common.{◌≡◌, ℕ, List, [], ◌∷◌, ◌++◌, map, refl, sym, ap, ◌∙◌, subst}
use Rattle.std.specs.Prelude.{flat_map}
use Rattle.pan_base.specs.declared.tokens.Keyword.TheVariants as keyword
use Rattle.pan_base.specs.declared.tokens.Sign.TheVariants as signs
use Rattle.pan_base.specs.Tokens.{Placed, Name}
use Rattle.pan_base.specs.Lexing.{Lexes}
use Rattle.pan_tree.specs.declared.shape.Shape.{Shape}
use Rattle.pan_tree.specs.declared.shape.Shape.TheVariants as shape
use Rattle.pan_tree.specs.declared.program.Param.{Param}
use Rattle.pan_tree.specs.declared.program.Exception.{Exception}
use Rattle.pan_tree.specs.declared.program.Function.{Function}
use Rattle.pan_tree.specs.declared.program.Program.{Program}
use Rattle.pan_tree.specs.Nodes.{between}
use Rattle.pan_tree.specs.Grammar.{IsWord, AShape, one_word, many_words, group, AParam, param, MoreParams, no_param, next_param, Params, no_params, params, Result, no_result, result, AnException, exception, AFunction, function, Items, no_item, next_exception, next_function}
use Rattle.pan_printer.specs.Pieces.{Piece, sign, word, name, semicolon, with_commas, text_of}
use Rattle.pan_printer.specs.Expressions.{shape_pieces}
use Rattle.pan_printer.specs.Canonical.{stmt_pieces, result_pieces, param_pieces, exception_pieces, function_pieces, program_pieces, canonical}
use Rattle.pan_printer.specs.Canonical as canon
use Rattle.pan_printer.specs.Unspanned.{no_span, unspanned_exception, unspanned_function, unspanned}
use Rattle.pan_printer.specs.ReadsBack.{ReadsAs, Spellable}
use Rattle.pan_printer.proofs.Begins.{Begins, done, next, split}
use Rattle.pan_printer.proofs.TokenTexts.{IsPrintable, Printable, row_prints, Good, good_append, reads_pieces}
use Rattle.pan_printer.proofs.Layers.{is_word_word, is_word_words, is_word_group}
use Rattle.pan_printer.proofs.ShapeReading.{May, ReadsShape, shape_again}
use Rattle.pan_printer.proofs.PartReading.{BlockAgain}
use Rattle.pan_printer.proofs.StmtsAgain.{block_stmts_again}
use Rattle.pan_printer.proofs.StmtAlike.{same_pieces}

-- ---- parameters

abbrev param_of : List ℕ → Shape → Param
param_of x z = record { name = x; shape = z }

record ReadsParam (p : Param) : Type 0 where
  good : Good (param_pieces p)
  reads : (k : ℕ) (a c : List Placed) → Begins (param_pieces p) a c → AParam May k a c p

record ReadsMore (ps : List Param) : Type 0 where
  good : Good (flat_map (λ p. sign signs.Comma ∷ param_pieces p) ps)
  reads : (k : ℕ) (a c : List Placed) → Begins (flat_map (λ p. sign signs.Comma ∷ param_pieces p) ps) a c → MoreParams May k a c ps

record ReadsParams (ps : List Param) : Type 0 where
  good : Good (with_commas param_pieces ps)
  reads : (k : ℕ) (a c : List Placed) → Begins (with_commas param_pieces ps) a c → Params May k a c ps

record ParamAgain (p : Param) (b : List Placed) : Type 0 where
  param : ReadsParam p
  behind : Printable b

record MoreAgain (ps : List Param) (b : List Placed) : Type 0 where
  others : ReadsMore ps
  behind : Printable b

record ParamsAgain (ps : List Param) (b : List Placed) : Type 0 where
  params : ReadsParams ps
  behind : Printable b

param_close : (x : List ℕ) (z : Shape) (k : ℕ) (a m c : List Placed) → AShape May k a m z → Begins (name x ∷ []) m c → AParam May k a c (param_of x z)
param_close x z k a _ _ d (next _ t _ _ _ named (done c)) = param k t a c z x d named

param_read : (x : List ℕ) (z : Shape) → ReadsShape z (shape_pieces z) → (k : ℕ) (a c : List Placed) → Begins (param_pieces (param_of x z)) a c → AParam May k a c (param_of x z)
param_read x z r k a c h =
    let s = split (shape_pieces z) (name x ∷ []) a c h in
    param_close x z k a s.middle c (r.reads k a s.middle s.front) s.back

param_again : (k : ℕ) (a b : List Placed) (p : Param) → AParam May k a b p → Printable a → ParamAgain p b
param_again k a b _ (param _ t _ _ z x d named) h =
    let s = shape_again k a (t ∷ b) z d h in
    record {
      param = record { good = good_append (shape_pieces z) (name x ∷ []) (s.shape).good (subst IsPrintable named (s.behind).0, tt); reads = param_read x z s.shape };
      behind = (s.behind).1;
    }

none_read : (k : ℕ) (a c : List Placed) → Begins [] a c → MoreParams May k a c []
none_read k _ _ (done c) = no_param k c

more_read : (p : Param) (ps : List Param) → ReadsParam p → ReadsMore ps → (k : ℕ) (a c : List Placed) → Begins (flat_map (λ p. sign signs.Comma ∷ param_pieces p) (p ∷ ps)) a c → MoreParams May k a c (p ∷ ps)
more_read p ps first others k _ c (next _ t _ a _ is h) =
    let s = split (param_pieces p) (flat_map (λ p. sign signs.Comma ∷ param_pieces p) ps) a c h in
    next_param k t a s.middle c p ps is (first.reads k a s.middle s.front) (others.reads k s.middle c s.back)

more_again : (k : ℕ) (a b : List Placed) (ps : List Param) → MoreParams May k a b ps → Printable a → MoreAgain ps b
more_again k _ b _ (no_param _ _) h = record { others = record { good = tt; reads = none_read }; behind = h }
more_again k _ c _ (next_param _ t a b _ p ps is first others) h =
    let r = param_again k a b p first h.1 in
    let rs = more_again k b c ps others r.behind in
    record {
      others = record { good = (refl, good_append (param_pieces p) (flat_map (λ p. sign signs.Comma ∷ param_pieces p) ps) (r.param).good (rs.others).good); reads = more_read p ps r.param rs.others };
      behind = rs.behind;
    }

no_params_read : (k : ℕ) (a c : List Placed) → Begins [] a c → Params May k a c []
no_params_read k _ _ (done c) = no_params k c

params_read : (p : Param) (ps : List Param) → ReadsParam p → ReadsMore ps → (k : ℕ) (a c : List Placed) → Begins (with_commas param_pieces (p ∷ ps)) a c → Params May k a c (p ∷ ps)
params_read p ps first others k a c h =
    let s = split (param_pieces p) (flat_map (λ p. sign signs.Comma ∷ param_pieces p) ps) a c h in
    params k a s.middle c p ps (first.reads k a s.middle s.front) (others.reads k s.middle c s.back)

params_again : (k : ℕ) (a b : List Placed) (ps : List Param) → Params May k a b ps → Printable a → ParamsAgain ps b
params_again k _ b _ (no_params _ _) h = record { params = record { good = tt; reads = no_params_read }; behind = h }
params_again k a c _ (params _ _ b _ p ps first others) h =
    let r = param_again k a b p first h in
    let rs = more_again k b c ps others r.behind in
    record {
      params = record { good = good_append (param_pieces p) (flat_map (λ p. sign signs.Comma ∷ param_pieces p) ps) (r.param).good (rs.others).good; reads = params_read p ps r.param rs.others };
      behind = rs.behind;
    }

-- ---- results

record ReadsResult (z : Shape) (ps : List Piece) : Type 0 where
  good : Good ps
  reads : (k : ℕ) (a c : List Placed) → Begins ps a c → Result May k a c z

record ResultAgain (z : Shape) (b : List Placed) : Type 0 where
  result : ReadsResult z (result_pieces z)
  behind : Printable b

left_out_read : (k : ℕ) (a c : List Placed) → Begins [] a c → Result May k a c shape.Word
left_out_read k _ _ (done c) = no_result k c

left_out : ReadsResult shape.Word (result_pieces shape.Word)
left_out = rw is_word_word (record { good = tt; reads = left_out_read })

shown : (z : Shape) → ReadsShape z (shape_pieces z) → ReadsResult z (shape_pieces z)
shown z r = record { good = r.good; reads = λ k a c h. result k a c z (r.reads k a c h) }

-- a shape that is read is one word or is shown
by_shape : (k : ℕ) (a b : List Placed) (z : Shape) → AShape May k a b z → ReadsShape z (shape_pieces z) → ReadsResult z (result_pieces z)
by_shape k _ _ _ (one_word _ t _ is) r = left_out
by_shape k _ _ _ (many_words _ t _ n is large) r = rw is_word_words (shown (shape.Words n) r)
by_shape k _ _ _ (group _ t u a b _ z zs opens may first others closes) r = rw is_word_group (shown (shape.Group (z ∷ zs)) r)

result_again : (k : ℕ) (a b : List Placed) (z : Shape) → Result May k a b z → Printable a → ResultAgain z b
result_again k _ b _ (no_result _ _) h = record { result = left_out; behind = h }
result_again k a b z (result _ _ _ _ d) h =
    let s = shape_again k a b z d h in
    record { result = by_shape k a b z d s.shape; behind = s.behind }

-- ---- exceptions

abbrev exception_of : List ℕ → Shape → List Placed → List Placed → Exception
exception_of x z a b = record { name = x; shape = z; span = between a b }

record ReadsException (a c : List Placed) (x : Exception) : Type 0 where
  tree : Exception
  derives : AnException May a c tree
  same : unspanned_exception tree ≡ unspanned_exception x

record ExceptionAgain (x : Exception) (b : List Placed) : Type 0 where
  good : Good (exception_pieces x)
  reads : (a c : List Placed) → Begins (exception_pieces x) a c → ReadsException a c x
  behind : Printable b

exception_close : (x : Exception) (t u : Placed) (a m c : List Placed) → IsWord keyword.Exception t → u.kind ≡ Name x.name → AShape May 0 a m x.shape → Begins (semicolon ∷ []) m c → ReadsException (t ∷ u ∷ a) c x
exception_close x t u a _ _ is named d (next _ v _ _ _ ends (done c)) = record { tree = exception_of x.name x.shape (t ∷ u ∷ a) c; derives = exception t u v a c x.name x.shape is named d ends; same = refl }

exception_read : (x : Exception) → ReadsShape x.shape (shape_pieces x.shape) → (a c : List Placed) → Begins (exception_pieces x) a c → ReadsException a c x
exception_read x r _ c (next _ t _ _ _ is (next _ u _ a _ named h)) =
    let s = split (shape_pieces x.shape) (semicolon ∷ []) a c h in
    exception_close x t u a s.middle c is named (r.reads 0 a s.middle s.front) s.back

exception_again : (a b : List Placed) (x : Exception) → AnException May a b x → Printable a → ExceptionAgain x b
exception_again _ _ _ (exception t u v a b x z is named d ends) h =
    let s = shape_again 0 a (v ∷ b) z d (h.1).1 in
    record {
      good = (refl, (subst IsPrintable named (h.1).0, good_append (shape_pieces z) (semicolon ∷ []) (s.shape).good (refl, tt)));
      reads = exception_read (exception_of x z (t ∷ u ∷ a) b) s.shape;
      behind = (s.behind).1;
    }

-- ---- functions

record ReadsFunction (a c : List Placed) (f : Function) : Type 0 where
  tree : Function
  derives : AFunction May a c tree
  same : unspanned_function tree ≡ unspanned_function f

record FunctionAgain (f : Function) (b : List Placed) : Type 0 where
  good : Good (function_pieces f)
  reads : (a c : List Placed) → Begins (function_pieces f) a c → ReadsFunction a c f
  behind : Printable b

abbrev head_pieces : Function → List Piece
head_pieces f = word keyword.Fun ∷ result_pieces f.result

abbrev middle_pieces : Function → List Piece
middle_pieces f = name f.name ∷ sign signs.OpenParen ∷ with_commas param_pieces f.params

abbrev body_pieces : Function → List Piece
body_pieces f = sign signs.CloseParen ∷ canon.block stmt_pieces f.body

function_close : (f : Function) → ReadsParams f.params → BlockAgain f.body → (t : Placed) (a m n e : List Placed) → IsWord keyword.Fun t → Result May 0 a m f.result → Begins (middle_pieces f) m n → Begins (body_pieces f) n e → ReadsFunction (t ∷ a) e f
function_close f ps body t a _ _ e is shaped (next _ u _ _ _ named (next _ v _ b _ opens inside)) (next _ w _ c _ closes h) =
    let d = body.reads 0 c e h in
    record {
      tree = record { name = f.name; params = f.params; result = f.result; body = d.tree; span = between (t ∷ a) e };
      derives = function t u v w a b c e f.result f.name f.params d.tree is shaped named opens (ps.reads 0 b (w ∷ c) inside) closes d.derives;
      same = ap (λ b. record { name = f.name; params = f.params; result = f.result; body = b; span = no_span }) d.same;
    }

function_read : (f : Function) → ReadsResult f.result (result_pieces f.result) → ReadsParams f.params → BlockAgain f.body → (a c : List Placed) → Begins (function_pieces f) a c → ReadsFunction a c f
function_read f shaped ps body _ c (next _ t _ a _ is h) =
    let inside = split (result_pieces f.result ++ middle_pieces f) (body_pieces f) a c h in
    let s = split (result_pieces f.result) (middle_pieces f) a inside.middle inside.front in
    function_close f ps body t a s.middle inside.middle c is (shaped.reads 0 a s.middle s.front) s.back inside.back

function_again : (a b : List Placed) (f : Function) → AFunction May a b f → Printable a → FunctionAgain f b
function_again _ _ _ (function t u v w a b c d z f xs y is shaped named opens inside closes body) h =
    let r = result_again 0 a (u ∷ v ∷ b) z shaped h.1 in
    let ps = params_again 0 b (w ∷ c) xs inside ((r.behind).1).1 in
    let x = block_stmts_again 0 c d y body (ps.behind).1 in
    let whole : Function = record { name = f; params = xs; result = z; body = y; span = between (t ∷ a) d } in
    record {
      good = (refl, good_append (result_pieces z ++ middle_pieces whole) (body_pieces whole) (good_append (result_pieces z) (middle_pieces whole) (r.result).good (subst IsPrintable named (r.behind).0, (refl, (ps.params).good))) (refl, (x.inside).good));
      reads = function_read whole r.result ps.params x.inside;
      behind = x.behind;
    }

-- ---- items

record ReadsExceptions (a c : List Placed) (xs : List Exception) : Type 0 where
  trees : List Exception
  derives : (fs : List Function) → Items May c [] fs → Items May a trees fs
  same : map unspanned_exception trees ≡ map unspanned_exception xs

record ReadsFunctions (a : List Placed) (fs : List Function) : Type 0 where
  trees : List Function
  derives : Items May a [] trees
  same : map unspanned_function trees ≡ map unspanned_function fs

record ItemsAgain (xs : List Exception) (fs : List Function) : Type 0 where
  good_exceptions : Good (flat_map exception_pieces xs)
  good_functions : Good (flat_map function_pieces fs)
  exceptions : (a c : List Placed) → Begins (flat_map exception_pieces xs) a c → ReadsExceptions a c xs
  functions : (a : List Placed) → Begins (flat_map function_pieces fs) a [] → ReadsFunctions a fs

no_exceptions_read : (a c : List Placed) → Begins [] a c → ReadsExceptions a c []
no_exceptions_read _ _ (done c) = record { trees = []; derives = λ fs d. d; same = refl }

no_functions_read : (a : List Placed) → Begins [] a [] → ReadsFunctions a []
no_functions_read _ (done _) = record { trees = []; derives = no_item; same = refl }

exceptions_read : (x : Exception) (xs : List Exception) → ((a c : List Placed) → Begins (exception_pieces x) a c → ReadsException a c x) → ((a c : List Placed) → Begins (flat_map exception_pieces xs) a c → ReadsExceptions a c xs) → (a c : List Placed) → Begins (flat_map exception_pieces (x ∷ xs)) a c → ReadsExceptions a c (x ∷ xs)
exceptions_read x xs first others a c h =
    let s = split (exception_pieces x) (flat_map exception_pieces xs) a c h in
    let y = first a s.middle s.front in
    let ys = others s.middle c s.back in
    record {
      trees = y.tree ∷ ys.trees;
      derives = λ fs d. next_exception a s.middle y.tree ys.trees fs y.derives (ys.derives fs d);
      same = ap (λ z. z ∷ map unspanned_exception ys.trees) y.same ∙ ap (λ zs. unspanned_exception x ∷ zs) ys.same;
    }

functions_read : (f : Function) (fs : List Function) → ((a c : List Placed) → Begins (function_pieces f) a c → ReadsFunction a c f) → ((a : List Placed) → Begins (flat_map function_pieces fs) a [] → ReadsFunctions a fs) → (a : List Placed) → Begins (flat_map function_pieces (f ∷ fs)) a [] → ReadsFunctions a (f ∷ fs)
functions_read f fs first others a h =
    let s = split (function_pieces f) (flat_map function_pieces fs) a [] h in
    let y = first a s.middle s.front in
    let ys = others s.middle s.back in
    record {
      trees = y.tree ∷ ys.trees;
      derives = next_function a s.middle y.tree [] ys.trees y.derives ys.derives;
      same = ap (λ z. z ∷ map unspanned_function ys.trees) y.same ∙ ap (λ zs. unspanned_function f ∷ zs) ys.same;
    }

items_again : (a : List Placed) (xs : List Exception) (fs : List Function) → Items May a xs fs → Printable a → ItemsAgain xs fs
items_again _ _ _ no_item h = record { good_exceptions = tt; good_functions = tt; exceptions = no_exceptions_read; functions = no_functions_read }
items_again a _ fs (next_exception _ b x xs _ first others) h =
    let r = exception_again a b x first h in
    let rs = items_again b xs fs others r.behind in
    record {
      good_exceptions = good_append (exception_pieces x) (flat_map exception_pieces xs) r.good rs.good_exceptions;
      good_functions = rs.good_functions;
      exceptions = exceptions_read x xs r.reads rs.exceptions;
      functions = rs.functions;
    }
items_again a xs _ (next_function _ b f _ fs first others) h =
    let r = function_again a b f first h in
    let rs = items_again b xs fs others r.behind in
    record {
      good_exceptions = rs.good_exceptions;
      good_functions = good_append (function_pieces f) (flat_map function_pieces fs) r.good rs.good_functions;
      exceptions = rs.exceptions;
      functions = functions_read f fs r.reads rs.functions;
    }

-- ---- programs

items_read : (q : Program) → ItemsAgain q.exceptions q.functions → ReadsAs (canonical q) q
items_read q r =
    let row = reads_pieces 0 (program_pieces q) (good_append (flat_map exception_pieces q.exceptions) (flat_map function_pieces q.functions) r.good_exceptions r.good_functions) in
    let s = split (flat_map exception_pieces q.exceptions) (flat_map function_pieces q.functions) row.tokens [] row.begins in
    let xs = r.exceptions row.tokens s.middle s.front in
    let fs = r.functions s.middle s.back in
    let again : Program = record { exceptions = xs.trees; functions = fs.trees } in
    let same : unspanned again ≡ unspanned q = ap (λ ys. record { exceptions = ys; functions = map unspanned_function fs.trees }) xs.same ∙ ap (λ gs. record { exceptions = map unspanned_exception q.exceptions; functions = gs }) fs.same in
    (row.tokens, again, row.row, xs.derives fs.trees fs.derives, sym same)

-- the canonical text of a program that some text reads as reads as it
pub canonical_reads : (p : Program) → Spellable p → ReadsAs (canonical p) p
canonical_reads p h =
    let r = h.1 in
    let again = items_read r.1 (items_again r.0 (r.1).exceptions (r.1).functions r.3 (row_prints 0 h.0 [] r.0 r.2)) in
    let text : canonical r.1 ≡ canonical p = ap text_of (sym (same_pieces p r.1 r.4)) in
    (again.0, again.1, subst (λ text. Lexes text again.0) text again.2, again.3, r.4 ∙ again.4)

-- ---- a sample

-- a function without parameters whose result is one word and whose body is a block that is read, alone
pub one_function : (f : Function) → IsPrintable (Name f.name) → f.params ≡ [] → f.result ≡ shape.Word → BlockAgain f.body → Spellable (record { exceptions = []; functions = f ∷ [] })
one_function f g empty one body =
    let r : ReadsResult f.result (result_pieces f.result) = subst (λ z. ReadsResult z (result_pieces z)) (sym one) left_out in
    let ps : ReadsParams f.params = subst ReadsParams (sym empty) (record { good = tt; reads = no_params_read }) in
    let good : Good (function_pieces f) = (refl, good_append (result_pieces f.result ++ middle_pieces f) (body_pieces f) (good_append (result_pieces f.result) (middle_pieces f) r.good (g, (refl, ps.good))) (refl, body.good)) in
    let alone : Program = record { exceptions = []; functions = f ∷ [] } in (
      canonical alone,
      items_read alone (record {
        good_exceptions = tt;
        good_functions = good_append (function_pieces f) [] good tt;
        exceptions = no_exceptions_read;
        functions = functions_read f [] (function_read f r ps body) no_functions_read;
      }),
    )
