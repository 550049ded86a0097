-- The calls of a statement, at each variant.
use Rattle.std.proofs.Common.{◌≡◌, ℕ, ℤ, List, [], ◌∷◌, ◌++◌, map, true, false, Some, None, append_assoc, refl, sym, ap, ◌∙◌}
use Rattle.std.specs.List.{flat_map}
use Rattle.std.proofs.lemmas.List.{append-nil}
use Rattle.pan_base.specs.declared.events.Size.{Size}
use Rattle.pan_base.specs.declared.operators.Cmp.{Cmp}
use Rattle.pan_stage.specs.Stage.{Site, Called, TailCalled, Loaded, Stored, Foreign}
use Rattle.riscv_isa.specs.declared.instr.Instr.{Instr}
use Rattle.stack_lang.specs.Text.{sites_layer, sites}
use Rattle.stack_lang.specs.declared.syntax.Catch.{Catch}
use Rattle.stack_lang.specs.declared.syntax.Stmt.{Stmt, Stmt-F, roll-Stmt, map-Stmt}
use Rattle.stack_lang.specs.declared.syntax.Stmt.TheVariants as s
use Rattle.stack_lang.specs.declared.syntax.Stmt.TheOpen as stmt
use Rattle.stack_lang.proofs.Equations.{sites_roll}
use Rattle.stack_bound.specs.Calls.{calls_of, calls_in}

pub calls_append : (xs ys : List Site) → calls_of (xs ++ ys) ≡ calls_of xs ++ calls_of ys
calls_append [] ys = refl
calls_append (Called f ∷ xs) ys = ap (λ cs. record { function = f; tail = false } ∷ cs) (calls_append xs ys)
calls_append (TailCalled f ∷ xs) ys = ap (λ cs. record { function = f; tail = true } ∷ cs) (calls_append xs ys)
calls_append (Loaded size ∷ xs) ys = calls_append xs ys
calls_append (Stored size ∷ xs) ys = calls_append xs ys
calls_append (Foreign i ∷ xs) ys = calls_append xs ys

calls_at : (y : Stmt-F Stmt) (x : Stmt) → roll-Stmt y ≡ x → calls_in x ≡ calls_of (sites_layer (map-Stmt Stmt (List Site) sites y))
unfolding calls_in
calls_at y x is = ap (λ x. calls_of (sites x)) (sym is) ∙ ap calls_of (sites_roll y)

pub calls_roll : (y : Stmt-F Stmt) → calls_in (roll-Stmt y) ≡ calls_of (sites_layer (map-Stmt Stmt (List Site) sites y))
unfolding calls_in
calls_roll y = ap calls_of (sites_roll y)

row_calls : (all : List Stmt) → calls_of (flat_map (λ ss. ss) (map sites all)) ≡ flat_map calls_in all
unfolding calls_in
row_calls [] = refl
row_calls (x ∷ xs) = calls_append (sites x) (flat_map (λ ss. ss) (map sites xs)) ∙ ap (λ cs. calls_of (sites x) ++ cs) (row_calls xs)

-- ---- at a tree whose parts are known

pub calls_seq_at : (all : List Stmt) → calls_in (roll-Stmt (stmt.Seq all)) ≡ flat_map calls_in all
unfolding calls_in
calls_seq_at all = ap calls_of (sites_roll (stmt.Seq all)) ∙ row_calls all

pub calls_if_at : (op : Cmp) (a b : ℕ) (x y : Stmt) → calls_in (roll-Stmt (stmt.If op a b x y)) ≡ calls_in x ++ calls_in y
unfolding calls_in
calls_if_at op a b x y = ap calls_of (sites_roll (stmt.If op a b x y)) ∙ calls_append (sites x) (sites y)

pub calls_while_at : (before : List Stmt) (op : Cmp) (a b : ℕ) (y : Stmt) → calls_in (roll-Stmt (stmt.While before op a b y)) ≡ flat_map calls_in before ++ calls_in y
unfolding calls_in
calls_while_at before op a b y = ap calls_of (sites_roll (stmt.While before op a b y)) ∙ calls_append (flat_map (λ ss. ss) (map sites before)) (sites y) ∙ ap (λ cs. cs ++ calls_of (sites y)) (row_calls before)

pub calls_called_at : (f : ℕ) (x : Stmt) → calls_in (roll-Stmt (stmt.Call f x None)) ≡ record { function = f; tail = false } ∷ calls_in x
unfolding calls_in
calls_called_at f x = ap calls_of (sites_roll (stmt.Call f x None)) ∙ ap (λ cs. record { function = f; tail = false } ∷ calls_of cs) (append-nil (sites x))

pub calls_guarded_at : (f : ℕ) (x : Stmt) (h : Catch Stmt) → calls_in (roll-Stmt (stmt.Call f x (Some h))) ≡ record { function = f; tail = false } ∷ (calls_in x ++ calls_in h.body)
unfolding calls_in
calls_guarded_at f x h = ap calls_of (sites_roll (stmt.Call f x (Some h))) ∙ ap (λ cs. record { function = f; tail = false } ∷ cs) (calls_append (sites x) (sites h.body))

pub calls_tail_at : (f : ℕ) → calls_in (roll-Stmt (stmt.TailCall f)) ≡ record { function = f; tail = true } ∷ []
unfolding calls_in
calls_tail_at f = ap calls_of (sites_roll (stmt.TailCall f))

-- ---- at each variant

pub calls_seq : (all : List Stmt) → calls_in (s.Seq all) ≡ flat_map calls_in all
calls_seq all = ap calls_in (sym (s.rolls-Seq all)) ∙ calls_seq_at all

pub calls_plain : (i : Instr) → calls_in (s.Plain i) ≡ []
calls_plain i = calls_at (stmt.Plain i) (s.Plain i) (s.rolls-Plain i)

pub calls_get : (r k : ℕ) → calls_in (s.Get r k) ≡ []
calls_get r k = calls_at (stmt.Get r k) (s.Get r k) (s.rolls-Get r k)

pub calls_put : (k r : ℕ) → calls_in (s.Put k r) ≡ []
calls_put k r = calls_at (stmt.Put k r) (s.Put k r) (s.rolls-Put k r)

pub calls_shared_load : (z : Size) (rd rs1 : ℕ) (imm : ℤ) → calls_in (s.SharedLoad z rd rs1 imm) ≡ []
calls_shared_load z rd rs1 imm = calls_at (stmt.SharedLoad z rd rs1 imm) (s.SharedLoad z rd rs1 imm) (s.rolls-SharedLoad z rd rs1 imm)

pub calls_shared_store : (z : Size) (rs1 rs2 : ℕ) (imm : ℤ) → calls_in (s.SharedStore z rs1 rs2 imm) ≡ []
calls_shared_store z rs1 rs2 imm = calls_at (stmt.SharedStore z rs1 rs2 imm) (s.SharedStore z rs1 rs2 imm) (s.rolls-SharedStore z rs1 rs2 imm)

pub calls_foreign : (i : ℕ) → calls_in (s.Foreign i) ≡ []
calls_foreign i = calls_at (stmt.Foreign i) (s.Foreign i) (s.rolls-Foreign i)

pub calls_if : (op : Cmp) (a b : ℕ) (x y : Stmt) → calls_in (s.If op a b x y) ≡ calls_in x ++ calls_in y
calls_if op a b x y = ap calls_in (sym (s.rolls-If op a b x y)) ∙ calls_if_at op a b x y

pub calls_while : (before : List Stmt) (op : Cmp) (a b : ℕ) (y : Stmt) → calls_in (s.While before op a b y) ≡ flat_map calls_in before ++ calls_in y
calls_while before op a b y = ap calls_in (sym (s.rolls-While before op a b y)) ∙ calls_while_at before op a b y

pub calls_break : calls_in s.Break ≡ []
calls_break = calls_at stmt.Break s.Break s.rolls-Break

pub calls_continue : calls_in s.Continue ≡ []
calls_continue = calls_at stmt.Continue s.Continue s.rolls-Continue

pub calls_called : (f : ℕ) (x : Stmt) → calls_in (s.Call f x None) ≡ record { function = f; tail = false } ∷ calls_in x
calls_called f x = ap calls_in (sym (s.rolls-Call f x None)) ∙ calls_called_at f x

pub calls_guarded : (f : ℕ) (x : Stmt) (h : Catch Stmt) → calls_in (s.Call f x (Some h)) ≡ record { function = f; tail = false } ∷ (calls_in x ++ calls_in h.body)
calls_guarded f x h = ap calls_in (sym (s.rolls-Call f x (Some h))) ∙ calls_guarded_at f x h

pub calls_tail : (f : ℕ) → calls_in (s.TailCall f) ≡ record { function = f; tail = true } ∷ []
calls_tail f = ap calls_in (sym (s.rolls-TailCall f)) ∙ calls_tail_at f

pub calls_return : calls_in s.Return ≡ []
calls_return = calls_at stmt.Return s.Return s.rolls-Return

pub calls_raise : (i : ℕ) → calls_in (s.Raise i) ≡ []
calls_raise i = calls_at (stmt.Raise i) (s.Raise i) (s.rolls-Raise i)

pub ruleset calls_rules = (append_assoc, append-nil, calls_seq, calls_plain, calls_get, calls_put, calls_shared_load, calls_shared_store, calls_foreign, calls_if, calls_while, calls_break, calls_continue, calls_called, calls_guarded, calls_tail, calls_return, calls_raise)
