-- Which statements close a block, at each variant.
use Rattle.std.proofs.Common.{◌≡◌, ℕ, suc, ◌-◌, ◌≤◌, length, get_or, arith, Bool, true, false, ◌&&◌, List, [], ◌∷◌, map, Some, refl, sym, ap, ◌∙◌}
use Rattle.std.specs.Option.{option_map_or}
use Rattle.pan_base.specs.declared.events.Size.{Size}
use Rattle.pan_tree.specs.declared.spanned.Spanned.{Spanned}
use Rattle.pan_tree.specs.declared.syntax.ExprKind.{ExprKind}
use Rattle.pan_tree.specs.declared.syntax.BlockOf.{BlockOf}
use Rattle.pan_tree.specs.declared.syntax.CallOf.{CallOf}
use Rattle.pan_tree.specs.declared.syntax.StmtKind.{StmtKind, StmtKind-F, fold-roll-StmtKind, roll-StmtKind, map-StmtKind}
use Rattle.pan_tree.specs.declared.syntax.StmtKind.TheOpen as open_stmt
use Rattle.pan_tree.specs.declared.syntax.StmtKind.TheVariants as s
use Rattle.pan_tree.specs.Check.{last_of, block_closes, closes_layer, closes_kind, closes}
use Rattle.pan_tree.proofs.CheckLayers.{closes_at}

abbrev closing : Spanned StmtKind → Spanned Bool
closing x = record { kind = closes_kind x.kind; span = x.span }

last_closes : (xs : List (Spanned StmtKind)) → option_map_or (λ (x : Spanned Bool). x.kind) (last_of (map closing xs)) false ≡ option_map_or (λ (x : Spanned StmtKind). closes_kind x.kind) (last_of xs) false
last_closes [] = refl
last_closes (x ∷ []) = refl
last_closes (x ∷ y ∷ ys) = last_closes (y ∷ ys)

pub closes_skip : closes_kind s.Skip ≡ false
closes_skip = closes_at open_stmt.Skip s.Skip s.rolls-Skip

pub closes_decl : (x : List ℕ) (e : Spanned ExprKind) → closes_kind (s.Decl x e) ≡ false
closes_decl x e = closes_at (open_stmt.Decl x e) (s.Decl x e) (s.rolls-Decl x e)

pub closes_assign : (x : List ℕ) (e : Spanned ExprKind) → closes_kind (s.Assign x e) ≡ false
closes_assign x e = closes_at (open_stmt.Assign x e) (s.Assign x e) (s.rolls-Assign x e)

pub closes_store_words : (a e : Spanned ExprKind) → closes_kind (s.StoreWords a e) ≡ false
closes_store_words a e = closes_at (open_stmt.StoreWords a e) (s.StoreWords a e) (s.rolls-StoreWords a e)

pub closes_store_byte : (a e : Spanned ExprKind) → closes_kind (s.StoreByte a e) ≡ false
closes_store_byte a e = closes_at (open_stmt.StoreByte a e) (s.StoreByte a e) (s.rolls-StoreByte a e)

pub closes_if : (e : Spanned ExprKind) (a b : BlockOf (Spanned StmtKind)) → closes_kind (s.If e a b) ≡ (closes a && closes b)
closes_if e a b =
    closes_at (open_stmt.If e a b) (s.If e a b) (s.rolls-If e a b)
    ∙ ap (λ c. c && block_closes (record { stmts = map closing b.stmts })) (last_closes a.stmts)
    ∙ ap (λ c. closes a && c) (last_closes b.stmts)

pub closes_while : (e : Spanned ExprKind) (b : BlockOf (Spanned StmtKind)) → closes_kind (s.While e b) ≡ false
closes_while e b = closes_at (open_stmt.While e b) (s.While e b) (s.rolls-While e b)

pub closes_break : closes_kind s.Break ≡ false
closes_break = closes_at open_stmt.Break s.Break s.rolls-Break

pub closes_continue : closes_kind s.Continue ≡ false
closes_continue = closes_at open_stmt.Continue s.Continue s.rolls-Continue

pub closes_call : (c : CallOf (Spanned StmtKind)) → closes_kind (s.Call c) ≡ false
closes_call c = closes_at (open_stmt.Call c) (s.Call c) (s.rolls-Call c)

pub closes_return : (e : Spanned ExprKind) → closes_kind (s.Return e) ≡ true
closes_return e = closes_at (open_stmt.Return e) (s.Return e) (s.rolls-Return e)

pub closes_tail_call : (f : List ℕ) (args : List (Spanned ExprKind)) → closes_kind (s.TailCall f args) ≡ true
closes_tail_call f args = closes_at (open_stmt.TailCall f args) (s.TailCall f args) (s.rolls-TailCall f args)

pub closes_raise : (x : List ℕ) (e : Spanned ExprKind) → closes_kind (s.Raise x e) ≡ true
closes_raise x e = closes_at (open_stmt.Raise x e) (s.Raise x e) (s.rolls-Raise x e)

pub closes_shared_load : (n : Size) (x : List ℕ) (a : Spanned ExprKind) → closes_kind (s.SharedLoad n x a) ≡ false
closes_shared_load n x a = closes_at (open_stmt.SharedLoad n x a) (s.SharedLoad n x a) (s.rolls-SharedLoad n x a)

pub closes_shared_store : (n : Size) (a e : Spanned ExprKind) → closes_kind (s.SharedStore n a e) ≡ false
closes_shared_store n a e = closes_at (open_stmt.SharedStore n a e) (s.SharedStore n a e) (s.rolls-SharedStore n a e)

pub closes_foreign : (f : List ℕ) (a b c d : Spanned ExprKind) → closes_kind (s.Foreign f a b c d) ≡ false
closes_foreign f a b c d = closes_at (open_stmt.Foreign f a b c d) (s.Foreign f a b c d) (s.rolls-Foreign f a b c d)

pub ruleset closing_rules = (closes_skip, closes_decl, closes_assign, closes_store_words, closes_store_byte, closes_if, closes_while, closes_break, closes_continue, closes_call, closes_return, closes_tail_call, closes_raise, closes_shared_load, closes_shared_store, closes_foreign)

-- ---- the last of a row

pub last_is : {X : Type 0} (xs : List X) (d x : X) → 1 ≤ length xs → x ≡ get_or xs (length xs - 1) d → last_of xs ≡ Some x
last_is [] d x some e = absurd (omega arith)
last_is (y ∷ []) d x some e = ap Some (sym e)
last_is (y ∷ z ∷ zs) d x some e =
    let before : length (y ∷ z ∷ zs) - 1 ≡ suc (length (z ∷ zs) - 1) = omega arith in
    last_is (z ∷ zs) d x (omega arith) (e ∙ ap (λ n. get_or (y ∷ z ∷ zs) n d) before)
