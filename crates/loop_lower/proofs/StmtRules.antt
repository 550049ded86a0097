-- What a statement becomes, at each variant.
use Rattle.std.proofs.Common.{◌≡◌, ℕ, List, [], ◌∷◌, ◌++◌, map, Option, Some, None, append_assoc, refl, sym, ap, ◌∙◌}
use Rattle.pan_base.specs.declared.events.Size.{Size}
use Rattle.pan_stage.specs.declared.program.Handler.{Handler}
use Rattle.crep_lang.specs.declared.syntax.Expr.{Expr}
use Rattle.crep_lang.specs.declared.syntax.Stmt.{Stmt as Crep, Stmt-F as Crep-F, roll-Stmt as roll-Crep, map-Stmt as map-Crep}
use Rattle.crep_lang.specs.declared.syntax.Stmt.TheOpen as o
use Rattle.crep_lang.specs.declared.syntax.Stmt.TheVariants as c
use Rattle.loop_lang.specs.declared.syntax.Stmt.TheVariants as s
use Rattle.loop_lower.specs.declared.places.Placed.{Placed}
use Rattle.loop_lower.specs.Lowered.{nth, lower, planned, row_before, row_operands, behind, placed_behind, placed_row, placed_layer, placed, handler_placed}
use Rattle.loop_lower.proofs.Layers.{placed_roll}

module _ (limit base : ℕ) where
  at : (y : Crep-F Crep) (x : Crep) → roll-Crep y ≡ x → (t : ℕ) → placed limit base x t ≡ placed_layer limit base (map-Crep Crep (ℕ → Placed) (placed limit base) y) t
  at y x is t = ap (λ x. placed limit base x t) (sym is) ∙ ap (λ (f : ℕ → Placed). f t) (placed_roll limit base y)

  pub placed_skip : (t : ℕ) → placed limit base c.Skip t ≡ (record { stmt = s.Skip; next = t })
  placed_skip t = at o.Skip _ c.rolls-Skip t

  pub placed_seq : (all : List Crep) (t : ℕ) → placed limit base (c.Seq all) t ≡ (let r = placed_row limit base (map (placed limit base) all) t in record { stmt = s.Seq r.stmts; next = r.next })
  placed_seq all t = at (o.Seq all) _ (c.rolls-Seq all) t

  pub placed_assign : (x : ℕ) (e : Expr) (t : ℕ) → placed limit base (c.Assign x e) t ≡ (let p = planned limit base (e ∷ []) t in record { stmt = s.Seq ((lower p.apart e).into x p.start); next = p.next })
  placed_assign x e t = at (o.Assign x e) _ (c.rolls-Assign x e) t

  pub placed_store_word : (a : Expr) (e : Expr) (t : ℕ) → placed limit base (c.StoreWord a e) t ≡ (placed_behind limit base (a ∷ e ∷ []) t (λ xs. s.StoreWord (nth 0 xs) (nth 1 xs)))
  placed_store_word a e t = at (o.StoreWord a e) _ (c.rolls-StoreWord a e) t

  pub placed_store_byte : (a : Expr) (e : Expr) (t : ℕ) → placed limit base (c.StoreByte a e) t ≡ (placed_behind limit base (a ∷ e ∷ []) t (λ xs. s.StoreByte (nth 0 xs) (nth 1 xs)))
  placed_store_byte a e t = at (o.StoreByte a e) _ (c.rolls-StoreByte a e) t

  pub placed_if : (e : Expr) (p : Crep) (q : Crep) (t : ℕ) → placed limit base (c.If e p q) t ≡ (let a = placed limit base p (planned limit base (e ∷ []) t).next in let b = placed limit base q a.next in record { stmt = behind limit base (e ∷ []) t (λ xs. s.If (nth 0 xs) a.stmt b.stmt); next = b.next })
  placed_if e p q t = at (o.If e p q) _ (c.rolls-If e p q) t

  pub placed_while : (all : List Crep) (e : Expr) (p : Crep) (t : ℕ) → placed limit base (c.While all e p) t ≡ (let r = placed_row limit base (map (placed limit base) all) t in let a = placed limit base p (planned limit base (e ∷ []) r.next).next in record { stmt = s.While [] (r.stmts ++ row_before limit base (e ∷ []) r.next) (nth 0 (row_operands limit base (e ∷ []) r.next)) a.stmt; next = a.next })
  placed_while all e p t = at (o.While all e p) _ (c.rolls-While all e p) t

  pub placed_break : (t : ℕ) → placed limit base c.Break t ≡ (record { stmt = s.Break; next = t })
  placed_break t = at o.Break _ c.rolls-Break t

  pub placed_continue : (t : ℕ) → placed limit base c.Continue t ≡ (record { stmt = s.Continue; next = t })
  placed_continue t = at o.Continue _ c.rolls-Continue t

  pub placed_call : (results : List ℕ) (f : ℕ) (es : List Expr) (h : Option (Handler Crep)) (t : ℕ) → placed limit base (c.Call results f es h) t ≡ (let g = handler_placed limit base h (planned limit base es t).next in record { stmt = behind limit base es t (λ xs. s.Call [] results f xs g.handler); next = g.next })
  placed_call results f es None t = at (o.Call results f es None) _ (c.rolls-Call results f es None) t
  placed_call results f es (Some h) t = at (o.Call results f es (Some h)) _ (c.rolls-Call results f es (Some h)) t

  pub placed_tail_call : (f : ℕ) (es : List Expr) (t : ℕ) → placed limit base (c.TailCall f es) t ≡ (placed_behind limit base es t (λ xs. s.TailCall f xs))
  placed_tail_call f es t = at (o.TailCall f es) _ (c.rolls-TailCall f es) t

  pub placed_return : (es : List Expr) (t : ℕ) → placed limit base (c.Return es) t ≡ (placed_behind limit base es t (λ xs. s.Return xs))
  placed_return es t = at (o.Return es) _ (c.rolls-Return es) t

  pub placed_raise : (i : ℕ) (es : List Expr) (t : ℕ) → placed limit base (c.Raise i es) t ≡ (placed_behind limit base es t (λ xs. s.Raise i xs))
  placed_raise i es t = at (o.Raise i es) _ (c.rolls-Raise i es) t

  pub placed_shared_load : (size : Size) (x : ℕ) (a : Expr) (t : ℕ) → placed limit base (c.SharedLoad size x a) t ≡ (placed_behind limit base (a ∷ []) t (λ xs. s.SharedLoad size x (nth 0 xs)))
  placed_shared_load size x a t = at (o.SharedLoad size x a) _ (c.rolls-SharedLoad size x a) t

  pub placed_shared_store : (size : Size) (a : Expr) (e : Expr) (t : ℕ) → placed limit base (c.SharedStore size a e) t ≡ (placed_behind limit base (a ∷ e ∷ []) t (λ xs. s.SharedStore size (nth 0 xs) (nth 1 xs)))
  placed_shared_store size a e t = at (o.SharedStore size a e) _ (c.rolls-SharedStore size a e) t

  pub placed_foreign : (i : ℕ) (a b e d : Expr) (t : ℕ) → placed limit base (c.Foreign i a b e d) t ≡ placed_behind limit base (a ∷ b ∷ e ∷ d ∷ []) t (λ xs. s.Foreign [] i (nth 0 xs) (nth 1 xs) (nth 2 xs) (nth 3 xs))
  placed_foreign i a b e d t = at (o.Foreign i a b e d) _ (c.rolls-Foreign i a b e d) t

pub ruleset block_rules = (append_assoc, placed_skip, placed_seq, placed_if, placed_while, placed_break, placed_continue, placed_call)
