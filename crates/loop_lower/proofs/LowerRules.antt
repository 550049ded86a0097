-- What an expression becomes, at each variant.
use Rattle.std.proofs.Common.{◌≡◌, ℕ, suc, Bool, List, [], ◌∷◌, ◌++◌, Option, Some, None, append_assoc, refl, sym, ap, ◌∙◌}
use Rattle.pan_base.specs.declared.operators.BinOp.{BinOp}
use Rattle.pan_base.specs.declared.operators.ShOp.{ShOp}
use Rattle.pan_base.specs.declared.operators.Cmp.{Cmp}
use Rattle.crep_lang.specs.declared.syntax.Expr.{Expr, Expr-F, roll-Expr, map-Expr}
use Rattle.crep_lang.specs.declared.syntax.Expr.TheOpen as open_expr
use Rattle.crep_lang.specs.declared.syntax.Expr.TheVariants as e
use Rattle.loop_lang.specs.declared.syntax.Stmt.{Stmt}
use Rattle.loop_lang.specs.declared.syntax.Stmt.TheVariants as s
use Rattle.loop_lower.specs.Lowered.{Lowered, before, operand, next, spot_of, lower_layer, lower, steps_at, place_at, or_spot}
use Rattle.loop_lower.proofs.Layers.{lower_roll, append_none}

lower_as : (apart : Bool) (y : Expr-F Expr) (x : Expr) → roll-Expr y ≡ x → lower apart x ≡ lower_layer apart (map-Expr Expr Lowered (lower apart) y)
lower_as apart y x is = ap (lower apart) (sym is) ∙ lower_roll apart y

pub number_steps : (apart : Bool) (target : Option ℕ) (n : ℕ) (t : ℕ) → steps_at apart target (e.Num n) t ≡ s.Const (or_spot target t) n ∷ []
number_steps apart None n t = ap (λ f. before f t) (lower_as apart (open_expr.Num n) _ (e.rolls-Num n))
number_steps apart (Some x) n t = ap (λ (f : Lowered). f.into x t) (lower_as apart (open_expr.Num n) _ (e.rolls-Num n))

pub number_place : (apart : Bool) (target : Option ℕ) (n : ℕ) (t : ℕ) → place_at apart target (e.Num n) t ≡ or_spot target t
number_place apart None n t = ap (λ f. operand f t) (lower_as apart (open_expr.Num n) _ (e.rolls-Num n))
number_place apart (Some x) n t = refl

pub number_next : (apart : Bool) (n : ℕ) (t : ℕ) → next (lower apart (e.Num n)) t ≡ suc t
number_next apart n t = ap (λ f. next f t) (lower_as apart (open_expr.Num n) _ (e.rolls-Num n))

pub word_steps : (apart : Bool) (target : Option ℕ) (a : Expr) (t : ℕ) → steps_at apart target (e.LoadWord a) t ≡ before (lower apart a) t ++ s.LoadWord (or_spot target (spot_of apart (next (lower apart a) t) t)) (operand (lower apart a) t) ∷ []
word_steps apart None a t = ap (λ f. before f t) (lower_as apart (open_expr.LoadWord a) _ (e.rolls-LoadWord a))
word_steps apart (Some x) a t = ap (λ (f : Lowered). f.into x t) (lower_as apart (open_expr.LoadWord a) _ (e.rolls-LoadWord a))

pub word_place : (apart : Bool) (target : Option ℕ) (a : Expr) (t : ℕ) → place_at apart target (e.LoadWord a) t ≡ or_spot target (spot_of apart (next (lower apart a) t) t)
word_place apart None a t = ap (λ f. operand f t) (lower_as apart (open_expr.LoadWord a) _ (e.rolls-LoadWord a))
word_place apart (Some x) a t = refl

pub word_next : (apart : Bool) (a : Expr) (t : ℕ) → next (lower apart (e.LoadWord a)) t ≡ suc (spot_of apart (next (lower apart a) t) t)
word_next apart a t = ap (λ f. next f t) (lower_as apart (open_expr.LoadWord a) _ (e.rolls-LoadWord a))

pub byte_steps : (apart : Bool) (target : Option ℕ) (a : Expr) (t : ℕ) → steps_at apart target (e.LoadByte a) t ≡ before (lower apart a) t ++ s.LoadByte (or_spot target (spot_of apart (next (lower apart a) t) t)) (operand (lower apart a) t) ∷ []
byte_steps apart None a t = ap (λ f. before f t) (lower_as apart (open_expr.LoadByte a) _ (e.rolls-LoadByte a))
byte_steps apart (Some x) a t = ap (λ (f : Lowered). f.into x t) (lower_as apart (open_expr.LoadByte a) _ (e.rolls-LoadByte a))

pub byte_place : (apart : Bool) (target : Option ℕ) (a : Expr) (t : ℕ) → place_at apart target (e.LoadByte a) t ≡ or_spot target (spot_of apart (next (lower apart a) t) t)
byte_place apart None a t = ap (λ f. operand f t) (lower_as apart (open_expr.LoadByte a) _ (e.rolls-LoadByte a))
byte_place apart (Some x) a t = refl

pub byte_next : (apart : Bool) (a : Expr) (t : ℕ) → next (lower apart (e.LoadByte a)) t ≡ suc (spot_of apart (next (lower apart a) t) t)
byte_next apart a t = ap (λ f. next f t) (lower_as apart (open_expr.LoadByte a) _ (e.rolls-LoadByte a))

pub bin_steps : (apart : Bool) (target : Option ℕ) (f : BinOp) (a : Expr) (b : Expr) (t : ℕ) → steps_at apart target (e.Bin f a b) t ≡ before (lower apart a) t ++ (before (lower apart b) (next (lower apart a) t) ++ s.Bin f (or_spot target (spot_of apart (next (lower apart b) (next (lower apart a) t)) t)) (operand (lower apart a) t) (operand (lower apart b) (next (lower apart a) t)) ∷ [])
bin_steps apart None f a b t = ap (λ f. before f t) (lower_as apart (open_expr.Bin f a b) _ (e.rolls-Bin f a b))
bin_steps apart (Some x) f a b t = ap (λ (f : Lowered). f.into x t) (lower_as apart (open_expr.Bin f a b) _ (e.rolls-Bin f a b))

pub bin_place : (apart : Bool) (target : Option ℕ) (f : BinOp) (a : Expr) (b : Expr) (t : ℕ) → place_at apart target (e.Bin f a b) t ≡ or_spot target (spot_of apart (next (lower apart b) (next (lower apart a) t)) t)
bin_place apart None f a b t = ap (λ f. operand f t) (lower_as apart (open_expr.Bin f a b) _ (e.rolls-Bin f a b))
bin_place apart (Some x) f a b t = refl

pub bin_next : (apart : Bool) (f : BinOp) (a : Expr) (b : Expr) (t : ℕ) → next (lower apart (e.Bin f a b)) t ≡ suc (spot_of apart (next (lower apart b) (next (lower apart a) t)) t)
bin_next apart f a b t = ap (λ f. next f t) (lower_as apart (open_expr.Bin f a b) _ (e.rolls-Bin f a b))

pub shift_steps : (apart : Bool) (target : Option ℕ) (f : ShOp) (a : Expr) (n : ℕ) (t : ℕ) → steps_at apart target (e.Shift f a n) t ≡ before (lower apart a) t ++ s.Shift f (or_spot target (spot_of apart (next (lower apart a) t) t)) (operand (lower apart a) t) n ∷ []
shift_steps apart None f a n t = ap (λ f. before f t) (lower_as apart (open_expr.Shift f a n) _ (e.rolls-Shift f a n))
shift_steps apart (Some x) f a n t = ap (λ (f : Lowered). f.into x t) (lower_as apart (open_expr.Shift f a n) _ (e.rolls-Shift f a n))

pub shift_place : (apart : Bool) (target : Option ℕ) (f : ShOp) (a : Expr) (n : ℕ) (t : ℕ) → place_at apart target (e.Shift f a n) t ≡ or_spot target (spot_of apart (next (lower apart a) t) t)
shift_place apart None f a n t = ap (λ f. operand f t) (lower_as apart (open_expr.Shift f a n) _ (e.rolls-Shift f a n))
shift_place apart (Some x) f a n t = refl

pub shift_next : (apart : Bool) (f : ShOp) (a : Expr) (n : ℕ) (t : ℕ) → next (lower apart (e.Shift f a n)) t ≡ suc (spot_of apart (next (lower apart a) t) t)
shift_next apart f a n t = ap (λ f. next f t) (lower_as apart (open_expr.Shift f a n) _ (e.rolls-Shift f a n))

pub compare_steps : (apart : Bool) (target : Option ℕ) (f : Cmp) (a : Expr) (b : Expr) (t : ℕ) → steps_at apart target (e.Compare f a b) t ≡ before (lower apart a) t ++ (before (lower apart b) (next (lower apart a) t) ++ s.Compare f (or_spot target (spot_of apart (next (lower apart b) (next (lower apart a) t)) t)) (operand (lower apart a) t) (operand (lower apart b) (next (lower apart a) t)) ∷ [])
compare_steps apart None f a b t = ap (λ f. before f t) (lower_as apart (open_expr.Compare f a b) _ (e.rolls-Compare f a b))
compare_steps apart (Some x) f a b t = ap (λ (f : Lowered). f.into x t) (lower_as apart (open_expr.Compare f a b) _ (e.rolls-Compare f a b))

pub compare_place : (apart : Bool) (target : Option ℕ) (f : Cmp) (a : Expr) (b : Expr) (t : ℕ) → place_at apart target (e.Compare f a b) t ≡ or_spot target (spot_of apart (next (lower apart b) (next (lower apart a) t)) t)
compare_place apart None f a b t = ap (λ f. operand f t) (lower_as apart (open_expr.Compare f a b) _ (e.rolls-Compare f a b))
compare_place apart (Some x) f a b t = refl

pub compare_next : (apart : Bool) (f : Cmp) (a : Expr) (b : Expr) (t : ℕ) → next (lower apart (e.Compare f a b)) t ≡ suc (spot_of apart (next (lower apart b) (next (lower apart a) t)) t)
compare_next apart f a b t = ap (λ f. next f t) (lower_as apart (open_expr.Compare f a b) _ (e.rolls-Compare f a b))

pub var_steps : (apart : Bool) (x y t : ℕ) → steps_at apart (Some x) (e.Var y) t ≡ s.Move x y ∷ []
var_steps apart x y t = ap (λ (f : Lowered). f.into x t) (lower_as apart (open_expr.Var y) _ (e.rolls-Var y))

pub var_none : (apart : Bool) (ss : List Stmt) (y t : ℕ) → ss ++ steps_at apart None (e.Var y) t ≡ ss
var_none apart ss y t = ap (λ f. ss ++ before f t) (lower_as apart (open_expr.Var y) _ (e.rolls-Var y)) ∙ append_none ss

pub var_place : (apart : Bool) (y t : ℕ) → place_at apart None (e.Var y) t ≡ y
var_place apart y t = ap (λ f. operand f t) (lower_as apart (open_expr.Var y) _ (e.rolls-Var y))

pub var_next : (apart : Bool) (y t : ℕ) → next (lower apart (e.Var y)) t ≡ t
var_next apart y t = ap (λ f. next f t) (lower_as apart (open_expr.Var y) _ (e.rolls-Var y))

pub ruleset leaf_rules = (number_steps, number_place, number_next, var_steps, var_none, var_place, var_next)

pub ruleset operation_rules = (append_assoc)
