-- The words before the slots, at each variant; they are at most three.
use Rattle.std.proofs.Common.{◌≡◌, ℕ, ℤ, ◌+◌, ◌<◌, ◌≤◌, suc, List, [], ◌∷◌, map, max, length, get_or, drop, drop-cons, Some, None, sym, ap, ◌∙◌, subst, arith}
use Rattle.pan_base.specs.declared.events.Size.{Size}
use Rattle.pan_base.specs.declared.operators.Cmp.{Cmp}
use Rattle.pan_stage.specs.Sums.{most}
use Rattle.riscv_isa.specs.declared.instr.Instr.{Instr}
use Rattle.stack_lang.specs.Frames.{front_layer, front}
use Rattle.stack_lang.specs.declared.syntax.Catch.{Catch}
use Rattle.stack_lang.specs.declared.syntax.Stmt.{Stmt, Stmt-F, roll-Stmt, map-Stmt}
use Rattle.stack_lang.specs.declared.syntax.Stmt.TheVariants as s
use Rattle.stack_lang.specs.declared.syntax.Stmt.TheOpen as stmt
use Rattle.stack_lang.proofs.Equations.{stmt_induct, front_roll}

front_at : (y : Stmt-F Stmt) (x : Stmt) → roll-Stmt y ≡ x → front x ≡ front_layer (map-Stmt Stmt ℕ front y)
front_at y x is = ap front (sym is) ∙ front_roll y

pub front_seq : (all : List Stmt) → front (s.Seq all) ≡ most (map front all)
front_seq all = front_at (stmt.Seq all) (s.Seq all) (s.rolls-Seq all)

pub front_plain : (i : Instr) → front (s.Plain i) ≡ 0
front_plain i = front_at (stmt.Plain i) (s.Plain i) (s.rolls-Plain i)

pub front_get : (r k : ℕ) → front (s.Get r k) ≡ 0
front_get r k = front_at (stmt.Get r k) (s.Get r k) (s.rolls-Get r k)

pub front_put : (k r : ℕ) → front (s.Put k r) ≡ 0
front_put k r = front_at (stmt.Put k r) (s.Put k r) (s.rolls-Put k r)

pub front_shared_load : (z : Size) (rd rs1 : ℕ) (imm : ℤ) → front (s.SharedLoad z rd rs1 imm) ≡ 0
front_shared_load z rd rs1 imm = front_at (stmt.SharedLoad z rd rs1 imm) (s.SharedLoad z rd rs1 imm) (s.rolls-SharedLoad z rd rs1 imm)

pub front_shared_store : (z : Size) (rs1 rs2 : ℕ) (imm : ℤ) → front (s.SharedStore z rs1 rs2 imm) ≡ 0
front_shared_store z rs1 rs2 imm = front_at (stmt.SharedStore z rs1 rs2 imm) (s.SharedStore z rs1 rs2 imm) (s.rolls-SharedStore z rs1 rs2 imm)

pub front_foreign : (i : ℕ) → front (s.Foreign i) ≡ 0
front_foreign i = front_at (stmt.Foreign i) (s.Foreign i) (s.rolls-Foreign i)

pub front_if : (op : Cmp) (a b : ℕ) (x y : Stmt) → front (s.If op a b x y) ≡ max (front x) (front y)
front_if op a b x y = front_at (stmt.If op a b x y) (s.If op a b x y) (s.rolls-If op a b x y)

pub front_while : (before : List Stmt) (op : Cmp) (a b : ℕ) (y : Stmt) → front (s.While before op a b y) ≡ max (most (map front before)) (front y)
front_while before op a b y = front_at (stmt.While before op a b y) (s.While before op a b y) (s.rolls-While before op a b y)

pub front_break : front s.Break ≡ 0
front_break = front_at stmt.Break s.Break s.rolls-Break

pub front_continue : front s.Continue ≡ 0
front_continue = front_at stmt.Continue s.Continue s.rolls-Continue

pub front_called : (f : ℕ) (x : Stmt) → front (s.Call f x None) ≡ max 1 (front x)
front_called f x = front_at (stmt.Call f x None) (s.Call f x None) (s.rolls-Call f x None)

pub front_guarded : (f : ℕ) (x : Stmt) (h : Catch Stmt) → front (s.Call f x (Some h)) ≡ 3
front_guarded f x h = front_at (stmt.Call f x (Some h)) (s.Call f x (Some h)) (s.rolls-Call f x (Some h))

pub front_tail : (f : ℕ) → front (s.TailCall f) ≡ 0
front_tail f = front_at (stmt.TailCall f) (s.TailCall f) (s.rolls-TailCall f)

pub front_return : front s.Return ≡ 0
front_return = front_at stmt.Return s.Return s.rolls-Return

pub front_raise : (i : ℕ) → front (s.Raise i) ≡ 0
front_raise i = front_at (stmt.Raise i) (s.Raise i) (s.rolls-Raise i)

pub ruleset front_rules = (front_seq, front_plain, front_get, front_put, front_shared_load, front_shared_store, front_foreign, front_if, front_while, front_break, front_continue, front_called, front_guarded, front_tail, front_return, front_raise)

-- ---- one after another

pub most_more : (all : List Stmt) (i so_far next whole : ℕ) (x : Stmt) → i < length all → x ≡ get_or all i x → next ≡ max so_far (front x) → max so_far (most (map front (drop i all))) ≡ whole → max next (most (map front (drop (i + 1) all))) ≡ whole
most_more all i so_far next whole x below is is_next h =
    let of : List Stmt → ℕ = λ ss. most (map front ss) in
    let after : suc i ≡ i + 1 = omega arith in
    let first : of (drop i all) ≡ of (x ∷ drop (i + 1) all) = ap of (drop-cons all i x below ∙ ap (λ y. y ∷ drop (suc i) all) (sym is) ∙ ap (λ j. x ∷ drop j all) after) in
    omega (arith, first, is_next, h)

-- ---- at most three

abbrev IsSmall : Stmt → Type 0
IsSmall x = front x ≤ 3

abbrev parts : Stmt-F ((x : Stmt) × IsSmall x) → Stmt-F Stmt
parts y = map-Stmt ((x : Stmt) × IsSmall x) Stmt (λ p. p.0) y

all_small : (xs : List ((x : Stmt) × IsSmall x)) → most (map front (map (λ p. p.0) xs)) ≤ 3
all_small [] = omega arith
all_small (x ∷ xs) = let a = x.1 in let b = all_small xs in omega (arith, a, b)

layer_small : (y : Stmt-F ((x : Stmt) × IsSmall x)) → front_layer (map-Stmt Stmt ℕ front (parts y)) ≤ 3
layer_small (stmt.Seq all) = all_small all
layer_small (stmt.Plain i) = omega arith
layer_small (stmt.Get r k) = omega arith
layer_small (stmt.Put k r) = omega arith
layer_small (stmt.SharedLoad z rd rs1 imm) = omega arith
layer_small (stmt.SharedStore z rs1 rs2 imm) = omega arith
layer_small (stmt.Foreign i) = omega arith
layer_small (stmt.If op a b x y) = let p = x.1 in let q = y.1 in omega (arith, p, q)
layer_small (stmt.While before op a b y) = let p = all_small before in let q = y.1 in omega (arith, p, q)
layer_small stmt.Break = omega arith
layer_small stmt.Continue = omega arith
layer_small (stmt.Call f x None) = let p = x.1 in omega (arith, p)
layer_small (stmt.Call f x (Some h)) = omega arith
layer_small (stmt.TailCall f) = omega arith
layer_small stmt.Return = omega arith
layer_small (stmt.Raise i) = omega arith

pub front_small : (x : Stmt) → front x ≤ 3
front_small = stmt_induct IsSmall (λ y. subst (λ n. n ≤ 3) (sym (front_roll (parts y))) (layer_small y))
