-- Each kind of printed statement is read as it is.
use Rattle.std.proofs.Common.{◌≡◌, ℕ, List, [], ◌∷◌, ◌++◌, map, Option, refl, sym, ap, ◌∙◌}
use Rattle.pan_base.specs.declared.events.Size.{Size}
use Rattle.pan_base.specs.declared.tokens.Keyword.TheVariants as keyword
use Rattle.pan_base.specs.declared.tokens.Sign.TheVariants as signs
use Rattle.pan_base.specs.Tokens.{Placed, Name, Load, Store, Foreign, ASign}
use Rattle.pan_tree.specs.declared.syntax.Target.{Target}
use Rattle.pan_tree.specs.declared.syntax.Target.TheVariants as target
use Rattle.pan_tree.specs.declared.syntax.StmtKind.TheVariants as s
use Rattle.pan_tree.specs.Nodes.{Expr, node}
use Rattle.pan_tree.specs.Grammar.{Block, Handler, IsWord, AnExpr, MoreExprs, no_expr, next_expr, skip, declaration, declaration_call, assignment, assignment_call, shared_load, call, store_words, store_byte, branch, loop, break, continue, return, tail_call, raise, shared_store, foreign}
use Rattle.pan_printer.specs.Pieces.{Piece, spaced, sign, word, name, semicolon, with_commas}
use Rattle.pan_printer.specs.Expressions.{kind_written, expr_pieces}
use Rattle.pan_printer.specs.Canonical.{plain_call, target_pieces, two_exprs, stmt_pieces}
use Rattle.pan_printer.specs.Canonical as canonical
use Rattle.pan_printer.specs.Unspanned.{unspanned_kind, unspanned_expr, unspanned_stmt_kind, unspanned_block}
use Rattle.pan_printer.proofs.Begins.{Begins, done, next, split}
use Rattle.pan_printer.proofs.TokenTexts.{IsPrintable, Good, good_append}
use Rattle.pan_printer.proofs.ShapeReading.{May}
use Rattle.pan_printer.proofs.Places.{read_anywhere}
use Rattle.pan_printer.proofs.ExprReading.{Again, bare_part, more_exprs, MoreAgain}
use Rattle.pan_printer.proofs.PartReading.{end_read, good_end, two_read, good_two, PlainAgain, ReadsPlain, ReadsStmt, StmtAgain, ReadsBlock, BlockAgain, HandlerAgain, ReadsCall, call_close}
use Rattle.pan_printer.proofs.StmtSpans.{unspanned_handler, call_of, bare_decl, bare_assign, bare_store_words, bare_store_byte, bare_if, bare_while, bare_call_at, bare_return, bare_tail_call, bare_raise, bare_shared_load, bare_shared_store, bare_foreign}

-- ---- words alone

skip_read : (k : ℕ) (a c : List Placed) → Begins (word keyword.Skip ∷ semicolon ∷ []) a c → ReadsStmt k a c s.Skip
skip_read k _ _ (next _ t _ _ _ is (next _ u _ _ _ ends (done c))) = record { tree = node (t ∷ u ∷ c) c s.Skip; derives = skip k t u c is ends; same = refl }

pub skip_again : StmtAgain (word keyword.Skip ∷ semicolon ∷ []) s.Skip
skip_again = record { good = (refl, (refl, tt)); reads = skip_read }

break_read : (k : ℕ) (a c : List Placed) → Begins (word keyword.Break ∷ semicolon ∷ []) a c → ReadsStmt k a c s.Break
break_read k _ _ (next _ t _ _ _ is (next _ u _ _ _ ends (done c))) = record { tree = node (t ∷ u ∷ c) c s.Break; derives = break k t u c is ends; same = refl }

pub break_again : StmtAgain (word keyword.Break ∷ semicolon ∷ []) s.Break
break_again = record { good = (refl, (refl, tt)); reads = break_read }

continue_read : (k : ℕ) (a c : List Placed) → Begins (word keyword.Continue ∷ semicolon ∷ []) a c → ReadsStmt k a c s.Continue
continue_read k _ _ (next _ t _ _ _ is (next _ u _ _ _ ends (done c))) = record { tree = node (t ∷ u ∷ c) c s.Continue; derives = continue k t u c is ends; same = refl }

pub continue_again : StmtAgain (word keyword.Continue ∷ semicolon ∷ []) s.Continue
continue_again = record { good = (refl, (refl, tt)); reads = continue_read }

-- ---- one expression

decl_read : (x : List ℕ) (y : Expr) → Again y.kind → (k : ℕ) (a c : List Placed) → Begins (word keyword.Var ∷ name x ∷ sign signs.Assign ∷ expr_pieces y ++ semicolon ∷ []) a c → ReadsStmt k a c (s.Decl x y)
decl_read x y r k _ c (next _ t _ _ _ is (next _ u _ _ _ named (next _ v _ a _ assigns h))) =
    let z = end_read y r k a c h in
    record {
      tree = node (t ∷ u ∷ v ∷ a) c (s.Decl x z.tree);
      derives = declaration k t u v a c x z.tree is named assigns z.derives;
      same = bare_decl x z.tree ∙ ap (λ k. s.Decl x (bare_part k)) z.same ∙ sym (bare_decl x y);
    }

pub decl_again : (x : List ℕ) (y : Expr) → IsPrintable (Name x) → Again y.kind → StmtAgain (word keyword.Var ∷ name x ∷ sign signs.Assign ∷ expr_pieces y ++ semicolon ∷ []) (s.Decl x y)
decl_again x y g r = record { good = (refl, (g, (refl, good_end y r))); reads = decl_read x y r }

assign_read : (x : List ℕ) (y : Expr) → Again y.kind → (k : ℕ) (a c : List Placed) → Begins (name x ∷ sign signs.Assign ∷ expr_pieces y ++ semicolon ∷ []) a c → ReadsStmt k a c (s.Assign x y)
assign_read x y r k _ c (next _ t _ _ _ named (next _ u _ a _ assigns h)) =
    let z = end_read y r k a c h in
    record {
      tree = node (t ∷ u ∷ a) c (s.Assign x z.tree);
      derives = assignment k t u a c x z.tree named assigns z.derives;
      same = bare_assign x z.tree ∙ ap (λ k. s.Assign x (bare_part k)) z.same ∙ sym (bare_assign x y);
    }

pub assign_again : (x : List ℕ) (y : Expr) → IsPrintable (Name x) → Again y.kind → StmtAgain (name x ∷ sign signs.Assign ∷ expr_pieces y ++ semicolon ∷ []) (s.Assign x y)
assign_again x y g r = record { good = (g, (refl, good_end y r)); reads = assign_read x y r }

shared_load_read : (n : Size) (x : List ℕ) (y : Expr) → Again y.kind → (k : ℕ) (a c : List Placed) → Begins (name x ∷ sign signs.Assign ∷ spaced (Load n) ∷ expr_pieces y ++ semicolon ∷ []) a c → ReadsStmt k a c (s.SharedLoad n x y)
shared_load_read n x y r k _ c (next _ t _ _ _ named (next _ u _ _ _ assigns (next _ v _ a _ loads h))) =
    let z = end_read y r k a c h in
    record {
      tree = node (t ∷ u ∷ v ∷ a) c (s.SharedLoad n x z.tree);
      derives = shared_load k t u v a c x n z.tree named assigns loads z.derives;
      same = bare_shared_load n x z.tree ∙ ap (λ k. s.SharedLoad n x (bare_part k)) z.same ∙ sym (bare_shared_load n x y);
    }

pub shared_load_again : (n : Size) (x : List ℕ) (y : Expr) → IsPrintable (Name x) → Again y.kind → StmtAgain (name x ∷ sign signs.Assign ∷ spaced (Load n) ∷ expr_pieces y ++ semicolon ∷ []) (s.SharedLoad n x y)
shared_load_again n x y g r = record { good = (g, (refl, (refl, good_end y r))); reads = shared_load_read n x y r }

return_read : (y : Expr) → Again y.kind → (k : ℕ) (a c : List Placed) → Begins (word keyword.Return ∷ expr_pieces y ++ semicolon ∷ []) a c → ReadsStmt k a c (s.Return y)
return_read y r k _ c (next _ t _ a _ is h) =
    let z = end_read y r k a c h in
    record {
      tree = node (t ∷ a) c (s.Return z.tree);
      derives = return k t a c z.tree is z.derives;
      same = bare_return z.tree ∙ ap (λ k. s.Return (bare_part k)) z.same ∙ sym (bare_return y);
    }

pub return_again : (y : Expr) → Again y.kind → StmtAgain (word keyword.Return ∷ expr_pieces y ++ semicolon ∷ []) (s.Return y)
return_again y r = record { good = (refl, good_end y r); reads = return_read y r }

raise_read : (x : List ℕ) (y : Expr) → Again y.kind → (k : ℕ) (a c : List Placed) → Begins (word keyword.Raise ∷ name x ∷ expr_pieces y ++ semicolon ∷ []) a c → ReadsStmt k a c (s.Raise x y)
raise_read x y r k _ c (next _ t _ _ _ is (next _ u _ a _ named h)) =
    let z = end_read y r k a c h in
    record {
      tree = node (t ∷ u ∷ a) c (s.Raise x z.tree);
      derives = raise k t u a c x z.tree is named z.derives;
      same = bare_raise x z.tree ∙ ap (λ k. s.Raise x (bare_part k)) z.same ∙ sym (bare_raise x y);
    }

pub raise_again : (x : List ℕ) (y : Expr) → IsPrintable (Name x) → Again y.kind → StmtAgain (word keyword.Raise ∷ name x ∷ expr_pieces y ++ semicolon ∷ []) (s.Raise x y)
raise_again x y g r = record { good = (refl, (g, good_end y r)); reads = raise_read x y r }

-- ---- two expressions

store_words_read : (x y : Expr) → Again x.kind → Again y.kind → (k : ℕ) (a c : List Placed) → Begins (word keyword.St ∷ two_exprs x y) a c → ReadsStmt k a c (s.StoreWords x y)
store_words_read x y left right k _ c (next _ t _ a _ is h) =
    let z = two_read x y left right k a c h in
    record {
      tree = node (t ∷ a) c (s.StoreWords z.left z.right);
      derives = store_words k t a c z.left z.right is z.derives;
      same = bare_store_words z.left z.right ∙ ap (λ k. s.StoreWords (bare_part k) (unspanned_expr z.right)) z.same_left ∙ ap (λ k. s.StoreWords (unspanned_expr x) (bare_part k)) z.same_right ∙ sym (bare_store_words x y);
    }

pub store_words_again : (x y : Expr) → Again x.kind → Again y.kind → StmtAgain (word keyword.St ∷ two_exprs x y) (s.StoreWords x y)
store_words_again x y left right = record { good = (refl, good_two x y left right); reads = store_words_read x y left right }

store_byte_read : (x y : Expr) → Again x.kind → Again y.kind → (k : ℕ) (a c : List Placed) → Begins (word keyword.Stb ∷ two_exprs x y) a c → ReadsStmt k a c (s.StoreByte x y)
store_byte_read x y left right k _ c (next _ t _ a _ is h) =
    let z = two_read x y left right k a c h in
    record {
      tree = node (t ∷ a) c (s.StoreByte z.left z.right);
      derives = store_byte k t a c z.left z.right is z.derives;
      same = bare_store_byte z.left z.right ∙ ap (λ k. s.StoreByte (bare_part k) (unspanned_expr z.right)) z.same_left ∙ ap (λ k. s.StoreByte (unspanned_expr x) (bare_part k)) z.same_right ∙ sym (bare_store_byte x y);
    }

pub store_byte_again : (x y : Expr) → Again x.kind → Again y.kind → StmtAgain (word keyword.Stb ∷ two_exprs x y) (s.StoreByte x y)
store_byte_again x y left right = record { good = (refl, good_two x y left right); reads = store_byte_read x y left right }

shared_store_read : (n : Size) (x y : Expr) → Again x.kind → Again y.kind → (k : ℕ) (a c : List Placed) → Begins (spaced (Store n) ∷ two_exprs x y) a c → ReadsStmt k a c (s.SharedStore n x y)
shared_store_read n x y left right k _ c (next _ t _ a _ is h) =
    let z = two_read x y left right k a c h in
    record {
      tree = node (t ∷ a) c (s.SharedStore n z.left z.right);
      derives = shared_store k t a c n z.left z.right is z.derives;
      same = bare_shared_store n z.left z.right ∙ ap (λ k. s.SharedStore n (bare_part k) (unspanned_expr z.right)) z.same_left ∙ ap (λ k. s.SharedStore n (unspanned_expr x) (bare_part k)) z.same_right ∙ sym (bare_shared_store n x y);
    }

pub shared_store_again : (n : Size) (x y : Expr) → Again x.kind → Again y.kind → StmtAgain (spaced (Store n) ∷ two_exprs x y) (s.SharedStore n x y)
shared_store_again n x y left right = record { good = (refl, good_two x y left right); reads = shared_store_read n x y left right }

-- ---- blocks

while_read : (x : Expr) (b : Block) → Again x.kind → BlockAgain b → (k : ℕ) (a c : List Placed) → Begins (word keyword.While ∷ expr_pieces x ++ canonical.block stmt_pieces b) a c → ReadsStmt k a c (s.While x b)
while_read x b r body k _ c (next _ t _ a _ is h) =
    let p = split (expr_pieces x) (canonical.block stmt_pieces b) a c h in
    let y = read_anywhere (kind_written x.kind) x.kind r k a p.middle p.front in
    let d = body.reads k p.middle c p.back in
    record {
      tree = node (t ∷ a) c (s.While y.tree d.tree);
      derives = loop k t a p.middle c y.tree d.tree is y.derives d.derives;
      same = bare_while y.tree d.tree ∙ ap (λ k. s.While (bare_part k) (unspanned_block d.tree)) y.same ∙ ap (s.While (unspanned_expr x)) d.same ∙ sym (bare_while x b);
    }

pub while_again : (x : Expr) (b : Block) → Again x.kind → BlockAgain b → StmtAgain (word keyword.While ∷ expr_pieces x ++ canonical.block stmt_pieces b) (s.While x b)
while_again x b r body = record { good = (refl, good_append (expr_pieces x) (canonical.block stmt_pieces b) r.good body.good); reads = while_read x b r body }

else_read : (x : Expr) (y z : Block) (k : ℕ) (t : Placed) (a b m c : List Placed) (x' : Expr) → IsWord keyword.If t → AnExpr May k a b x' → unspanned_kind x'.kind ≡ unspanned_kind x.kind → ReadsBlock k b m y → BlockAgain z
    → Begins (word keyword.Else ∷ canonical.block stmt_pieces z) m c → ReadsStmt k (t ∷ a) c (s.If x y z)
else_read x y z k t a b _ c x' is first same then_do other (next _ u _ d _ elses h) =
    let else_do = other.reads k d c h in
    record {
      tree = node (t ∷ a) c (s.If x' then_do.tree else_do.tree);
      derives = branch k t u a b d c x' then_do.tree else_do.tree is first then_do.derives elses else_do.derives;
      same = bare_if x' then_do.tree else_do.tree ∙ ap (λ k. s.If (bare_part k) (unspanned_block then_do.tree) (unspanned_block else_do.tree)) same ∙ ap (λ b. s.If (unspanned_expr x) b (unspanned_block else_do.tree)) then_do.same ∙ ap (s.If (unspanned_expr x) (unspanned_block y)) else_do.same ∙ sym (bare_if x y z);
    }

if_read : (x : Expr) (y z : Block) → Again x.kind → BlockAgain y → BlockAgain z → (k : ℕ) (a c : List Placed) → Begins (word keyword.If ∷ expr_pieces x ++ canonical.block stmt_pieces y ++ word keyword.Else ∷ canonical.block stmt_pieces z) a c → ReadsStmt k a c (s.If x y z)
if_read x y z r first second k _ c (next _ t _ a _ is h) =
    let q = split (expr_pieces x ++ canonical.block stmt_pieces y) (word keyword.Else ∷ canonical.block stmt_pieces z) a c h in
    let p = split (expr_pieces x) (canonical.block stmt_pieces y) a q.middle q.front in
    let x' = read_anywhere (kind_written x.kind) x.kind r k a p.middle p.front in
    else_read x y z k t a p.middle q.middle c x'.tree is x'.derives x'.same (first.reads k p.middle q.middle p.back) second q.back

pub if_again : (x : Expr) (y z : Block) → Again x.kind → BlockAgain y → BlockAgain z → StmtAgain (word keyword.If ∷ expr_pieces x ++ canonical.block stmt_pieces y ++ word keyword.Else ∷ canonical.block stmt_pieces z) (s.If x y z)
if_again x y z r first second = record {
  good = (refl, good_append (expr_pieces x ++ canonical.block stmt_pieces y) (word keyword.Else ∷ canonical.block stmt_pieces z) (good_append (expr_pieces x) (canonical.block stmt_pieces y) r.good first.good) (refl, second.good));
  reads = if_read x y z r first second;
}

-- ---- calls

tail_close : (f : List ℕ) (xs : List Expr) (k : ℕ) (t : Placed) (a m c : List Placed) → IsWord keyword.Return t → ReadsPlain k a m f xs → Begins (semicolon ∷ []) m c → ReadsStmt k (t ∷ a) c (s.TailCall f xs)
tail_close f xs k t a _ _ is r (next _ u _ _ _ ends (done c)) = record {
  tree = node (t ∷ a) c (s.TailCall f r.trees);
  derives = tail_call k t u a c f r.trees is r.derives ends;
  same = bare_tail_call f r.trees ∙ ap (s.TailCall f) r.same ∙ sym (bare_tail_call f xs);
}

tail_read : (f : List ℕ) (xs : List Expr) → PlainAgain f xs → (k : ℕ) (a c : List Placed) → Begins (word keyword.Return ∷ plain_call f xs ++ semicolon ∷ []) a c → ReadsStmt k a c (s.TailCall f xs)
tail_read f xs r k _ c (next _ t _ a _ is h) =
    let p = split (plain_call f xs) (semicolon ∷ []) a c h in
    tail_close f xs k t a p.middle c is (r.reads k a p.middle p.front) p.back

pub tail_again : (f : List ℕ) (xs : List Expr) → PlainAgain f xs → StmtAgain (word keyword.Return ∷ plain_call f xs ++ semicolon ∷ []) (s.TailCall f xs)
tail_again f xs r = record { good = (refl, good_append (plain_call f xs) (semicolon ∷ []) r.good (refl, tt)); reads = tail_read f xs r }

-- the names of a target can be printed
abbrev pub GoodTarget : Target → Type 0
GoodTarget target.Nothing = Unit {0}
GoodTarget (target.Old x) = IsPrintable (Name x)
GoodTarget (target.New x) = IsPrintable (Name x)

good_target : (into : Target) → GoodTarget into → Good (target_pieces into)
good_target target.Nothing g = tt
good_target (target.Old x) g = (g, (refl, tt))
good_target (target.New x) g = (refl, (g, (refl, tt)))

same_call : (into : Target) (f : List ℕ) (xs : List Expr) (h : Option Handler) (k : ℕ) (a c : List Placed) (r : ReadsCall k a c f xs h) → unspanned_stmt_kind (s.Call (call_of into f r.trees r.caught)) ≡ unspanned_stmt_kind (s.Call (call_of into f xs h))
same_call into f xs h k a c r =
    bare_call_at (call_of into f r.trees r.caught)
    ∙ ap (λ ys. s.Call (call_of into f ys (unspanned_handler r.caught))) r.same
    ∙ ap (λ h. s.Call (call_of into f (map unspanned_expr xs) h)) r.same_caught
    ∙ sym (bare_call_at (call_of into f xs h))

target_read : (into : Target) (f : List ℕ) (xs : List Expr) (h : Option Handler) (k : ℕ) (a m c : List Placed) → Begins (target_pieces into) a m → ReadsCall k m c f xs h → ReadsStmt k a c (s.Call (call_of into f xs h))
target_read target.Nothing f xs h k _ _ c (done a) r = record {
  tree = node a c (s.Call (call_of target.Nothing f r.trees r.caught));
  derives = call k a c f r.trees r.caught r.derives;
  same = same_call target.Nothing f xs h k a c r;
}
target_read (target.Old x) f xs h k _ _ c (next _ t _ _ _ named (next _ u _ _ _ assigns (done a))) r = record {
  tree = node (t ∷ u ∷ a) c (s.Call (call_of (target.Old x) f r.trees r.caught));
  derives = assignment_call k t u a c x f r.trees r.caught named assigns r.derives;
  same = same_call (target.Old x) f xs h k a c r;
}
target_read (target.New x) f xs h k _ _ c (next _ t _ _ _ is (next _ u _ _ _ named (next _ v _ _ _ assigns (done a)))) r = record {
  tree = node (t ∷ u ∷ v ∷ a) c (s.Call (call_of (target.New x) f r.trees r.caught));
  derives = declaration_call k t u v a c x f r.trees r.caught is named assigns r.derives;
  same = same_call (target.New x) f xs h k a c r;
}

abbrev call_pieces : Target → List ℕ → List Expr → Option Handler → List Piece
call_pieces into f xs h = target_pieces into ++ plain_call f xs ++ canonical.handler stmt_pieces h ++ semicolon ∷ []

call_read : (into : Target) (f : List ℕ) (xs : List Expr) (h : Option Handler) → PlainAgain f xs → HandlerAgain h → (k : ℕ) (a c : List Placed) → Begins (call_pieces into f xs h) a c → ReadsStmt k a c (s.Call (call_of into f xs h))
call_read into f xs h called caught k a c b =
    let ends = split (target_pieces into ++ plain_call f xs ++ canonical.handler stmt_pieces h) (semicolon ∷ []) a c b in
    let handled = split (target_pieces into ++ plain_call f xs) (canonical.handler stmt_pieces h) a ends.middle ends.front in
    let targeted = split (target_pieces into) (plain_call f xs) a handled.middle handled.front in
    target_read into f xs h k a targeted.middle c targeted.front
    (call_close f xs h k targeted.middle handled.middle ends.middle c (called.reads k targeted.middle handled.middle targeted.back) (caught.reads k handled.middle ends.middle handled.back) ends.back)

pub call_again : (into : Target) (f : List ℕ) (xs : List Expr) (h : Option Handler) → GoodTarget into → PlainAgain f xs → HandlerAgain h → StmtAgain (call_pieces into f xs h) (s.Call (call_of into f xs h))
call_again into f xs h g called caught = record {
  good =
      good_append (target_pieces into ++ plain_call f xs ++ canonical.handler stmt_pieces h) (semicolon ∷ [])
      (good_append (target_pieces into ++ plain_call f xs) (canonical.handler stmt_pieces h) (good_append (target_pieces into) (plain_call f xs) (good_target into g) called.good) caught.good) (refl, tt);
  reads = call_read into f xs h called caught;
}

-- ---- foreign calls

foreign_close : (f : List ℕ) (p q r z : Expr) (k : ℕ) (t u : Placed) (a b m c : List Placed) (x : Expr) (xs : List Expr) → t.kind ≡ Foreign f → u.kind ≡ ASign signs.OpenParen → AnExpr May k a b x → MoreExprs May k b m xs
    → unspanned_kind x.kind ≡ unspanned_kind p.kind → map unspanned_expr xs ≡ map unspanned_expr (q ∷ r ∷ z ∷ []) → Begins (sign signs.CloseParen ∷ semicolon ∷ []) m c → ReadsStmt k (t ∷ u ∷ a) c (s.Foreign f p q r z)
foreign_close f p q r z k t u a _ _ _ x _ is opens first (next_expr _ v b _ _ x1 _ v_is d1 (next_expr _ w d _ _ x2 _ w_is d2 (next_expr _ m e _ _ x3 _ m_is d3 (no_expr _ _)))) same all (next _ n _ _ _ closes (next _ o _ _ _ ends (done c))) =
    let e1 : unspanned_expr x1 ≡ unspanned_expr q = cc in
    let e2 : unspanned_expr x2 ≡ unspanned_expr r = cc in
    let e3 : unspanned_expr x3 ≡ unspanned_expr z = cc in
    record {
      tree = node (t ∷ u ∷ a) c (s.Foreign f x x1 x2 x3);
      derives = foreign k t u v w m n o a b d e c f x x1 x2 x3 is opens first v_is d1 w_is d2 m_is d3 closes ends;
      same = bare_foreign f x x1 x2 x3 ∙ ap (λ k. s.Foreign f (bare_part k) (unspanned_expr x1) (unspanned_expr x2) (unspanned_expr x3)) same ∙ ap (λ y. s.Foreign f (unspanned_expr p) y (unspanned_expr x2) (unspanned_expr x3)) e1 ∙ ap (λ y. s.Foreign f (unspanned_expr p) (unspanned_expr q) y (unspanned_expr x3)) e2 ∙ ap (s.Foreign f (unspanned_expr p) (unspanned_expr q) (unspanned_expr r)) e3 ∙ sym (bare_foreign f p q r z);
    }
foreign_close f p q r z k t u a b m c x _ is opens first (no_expr _ _) same all h = absurd (cc)
foreign_close f p q r z k t u a b m c x _ is opens first (next_expr _ v _ _ _ x1 _ v_is d1 (no_expr _ _)) same all h = absurd (cc)
foreign_close f p q r z k t u a b m c x _ is opens first (next_expr _ v _ _ _ x1 _ v_is d1 (next_expr _ w _ _ _ x2 _ w_is d2 (no_expr _ _))) same all h = absurd (cc)
foreign_close f p q r z k t u a b m c x _ is opens first (next_expr _ v _ _ _ x1 _ v_is d1 (next_expr _ w _ _ _ x2 _ w_is d2 (next_expr _ m' _ _ _ x3 _ m_is d3 (next_expr _ n _ _ _ x4 _ n_is d4 _)))) same all h = absurd (cc)

abbrev foreign_pieces : List ℕ → Expr → List Expr → List Piece
foreign_pieces f p xs = spaced (Foreign f) ∷ sign signs.OpenParen ∷ with_commas expr_pieces (p ∷ xs) ++ sign signs.CloseParen ∷ semicolon ∷ []

foreign_read : (f : List ℕ) (p q r z : Expr) → Again p.kind → MoreAgain (q ∷ r ∷ z ∷ []) → (k : ℕ) (a c : List Placed) → Begins (foreign_pieces f p (q ∷ r ∷ z ∷ [])) a c → ReadsStmt k a c (s.Foreign f p q r z)
foreign_read f p q r z first others k _ c (next _ t _ _ _ is (next _ u _ a _ opens h)) =
    let inside = split (with_commas expr_pieces (p ∷ q ∷ r ∷ z ∷ [])) (sign signs.CloseParen ∷ semicolon ∷ []) a c h in
    let parts = split (expr_pieces p) (more_exprs (q ∷ r ∷ z ∷ [])) a inside.middle inside.front in
    let x = read_anywhere (kind_written p.kind) p.kind first k a parts.middle parts.front in
    let xs = others.reads k parts.middle inside.middle parts.back in
    foreign_close f p q r z k t u a parts.middle inside.middle c x.tree xs.trees is opens x.derives xs.derives x.same xs.same inside.back

pub foreign_again : (f : List ℕ) (p q r z : Expr) → IsPrintable (Foreign f) → Again p.kind → MoreAgain (q ∷ r ∷ z ∷ []) → StmtAgain (foreign_pieces f p (q ∷ r ∷ z ∷ [])) (s.Foreign f p q r z)
foreign_again f p q r z g first others = record {
  good = (g, (refl, good_append (with_commas expr_pieces (p ∷ q ∷ r ∷ z ∷ [])) (sign signs.CloseParen ∷ semicolon ∷ []) (good_append (expr_pieces p) (more_exprs (q ∷ r ∷ z ∷ [])) first.good others.good) (refl, (refl, tt))));
  reads = foreign_read f p q r z first others;
}
