-- Operations on first operands, and their steps.
use Rattle.std.proofs.Common.{◌≡◌, ℕ, suc, ◌≤◌, Bool, List, [], ◌∷◌, ◌++◌, Option, None, append_assoc, arith, refl, sym, ap, ◌∙◌}
use Rattle.crep_lang.specs.Steps.{expr_steps}
use Rattle.crep_lang.specs.declared.syntax.Expr.{Expr}
use Rattle.crep_lang.proofs.Exprs.{steps_load_word, steps_load_byte, steps_bin, steps_shift, steps_compare}
use Rattle.loop_lang.specs.declared.syntax.Stmt.{Stmt}
use Rattle.loop_lower.specs.declared.spine.Unary.TheVariants as unary
use Rattle.loop_lower.specs.declared.spine.Binary.TheVariants as binary
use Rattle.loop_lower.specs.declared.spine.Operation.{Operation}
use Rattle.loop_lower.specs.declared.spine.Operation.TheVariants as operation
use Rattle.loop_lower.specs.Lowered.{before, operand, next, lower, steps_at, place_at, or_spot}
use Rattle.loop_lower.specs.Spine.{applied, all_applied, steps_behind, spot_behind, target_before}
use Rattle.loop_lower.proofs.LowerRules.{word_steps, word_place, word_next, byte_steps, byte_place, byte_next, bin_steps, bin_place, bin_next, shift_steps, shift_place, shift_next, compare_steps, compare_place, compare_next}

-- the first operation done first
pub applied_first : (os : List Operation) (o : Operation) (a : Expr) → all_applied (os ++ o ∷ []) a ≡ all_applied os (applied o a)
applied_first [] o a = refl
applied_first (p ∷ os) o a = ap (applied p) (applied_first os o a)

pub target_earlier : (os : List Operation) (o : Operation) (target : Option ℕ) → target_before (os ++ o ∷ []) target ≡ None
target_earlier [] o target = refl
target_earlier (p ∷ os) o target = refl

-- ---- steps behind a first operand

pub steps_behind_are : (apart : Bool) (target : Option ℕ) (o : Operation) (a : Expr) (t : ℕ)
    → before (lower apart a) t ++ steps_behind apart target o (operand (lower apart a) t) (next (lower apart a) t) t ≡ steps_at apart target (applied o a) t
steps_behind_are apart target (operation.Unary unary.LoadWord) a t = sym (word_steps apart target a t)
steps_behind_are apart target (operation.Unary unary.LoadByte) a t = sym (byte_steps apart target a t)
steps_behind_are apart target (operation.Unary (unary.Shift o n)) a t = sym (shift_steps apart target o a n t)
steps_behind_are apart target (operation.Binary (binary.Bin o) b) a t = sym (bin_steps apart target o a b.now t)
steps_behind_are apart target (operation.Binary (binary.Compare c) b) a t = sym (compare_steps apart target c a b.now t)

pub spot_behind_is : (apart : Bool) (target : Option ℕ) (o : Operation) (a : Expr) (t : ℕ)
    → or_spot target (spot_behind apart o (next (lower apart a) t) t) ≡ place_at apart target (applied o a) t
spot_behind_is apart target (operation.Unary unary.LoadWord) a t = sym (word_place apart target a t)
spot_behind_is apart target (operation.Unary unary.LoadByte) a t = sym (byte_place apart target a t)
spot_behind_is apart target (operation.Unary (unary.Shift o n)) a t = sym (shift_place apart target o a n t)
spot_behind_is apart target (operation.Binary (binary.Bin o) b) a t = sym (bin_place apart target o a b.now t)
spot_behind_is apart target (operation.Binary (binary.Compare c) b) a t = sym (compare_place apart target c a b.now t)

pub next_behind_is : (apart : Bool) (o : Operation) (a : Expr) (t : ℕ) → suc (spot_behind apart o (next (lower apart a) t) t) ≡ next (lower apart (applied o a)) t
next_behind_is apart (operation.Unary unary.LoadWord) a t = sym (word_next apart a t)
next_behind_is apart (operation.Unary unary.LoadByte) a t = sym (byte_next apart a t)
next_behind_is apart (operation.Unary (unary.Shift o n)) a t = sym (shift_next apart o a n t)
next_behind_is apart (operation.Binary (binary.Bin o) b) a t = sym (bin_next apart o a b.now t)
next_behind_is apart (operation.Binary (binary.Compare c) b) a t = sym (compare_next apart c a b.now t)

-- ---- one operation more, of those that are left

module _ (apart : Bool) (target into : Option ℕ) (later rest : List Operation) (o : Operation) (done : Expr) (x n t : ℕ)
    (last : later ≡ rest ++ o ∷ []) (goes : into ≡ target_before rest target)
    (place : x ≡ place_at apart (target_before later target) done t) (free : n ≡ next (lower apart done) t) where
  -- an operation follows, so what is done is an operand
  none : target_before later target ≡ None
  none = ap (λ os. target_before os target) last ∙ target_earlier rest o target

  at : x ≡ operand (lower apart done) t
  at = place ∙ ap (λ g. place_at apart g done t) none

  pub steps_more : (start steps more : List Stmt) → steps ≡ start ++ steps_at apart (target_before later target) done t → more ≡ steps ++ steps_behind apart into o x n t
      → more ≡ start ++ steps_at apart (target_before rest target) (applied o done) t
  steps_more start steps more is adds =
      let b = before (lower apart done) t in
      adds
      ∙ ap (λ ss. ss ++ steps_behind apart into o x n t) (is ∙ ap (λ g. start ++ steps_at apart g done t) none)
      ∙ ap (λ g. (start ++ b) ++ steps_behind apart g o x n t) goes
      ∙ ap (λ y. (start ++ b) ++ steps_behind apart (target_before rest target) o y n t) at
      ∙ ap (λ m. (start ++ b) ++ steps_behind apart (target_before rest target) o (operand (lower apart done) t) m t) free
      ∙ append_assoc start b _
      ∙ ap (λ ss. start ++ ss) (steps_behind_are apart (target_before rest target) o done t)

  pub place_more : (y : ℕ) → y ≡ or_spot into (spot_behind apart o n t) → y ≡ place_at apart (target_before rest target) (applied o done) t
  place_more y is =
      is
      ∙ ap (λ g. or_spot g (spot_behind apart o n t)) goes
      ∙ ap (λ m. or_spot (target_before rest target) (spot_behind apart o m t)) free
      ∙ spot_behind_is apart (target_before rest target) o done t

  pub next_more : (m : ℕ) → m ≡ suc (spot_behind apart o n t) → m ≡ next (lower apart (applied o done)) t
  next_more m is = is ∙ ap (λ m. suc (spot_behind apart o m t)) free ∙ next_behind_is apart o done t

-- where none is left, the whole is done
pub all_done : (later : List Operation) (done e : Expr) → later ≡ [] → all_applied later done ≡ e → done ≡ e
all_done later done e none is = sym (ap (λ os. all_applied os done) none) ∙ is

-- ---- operands are smaller

-- how much a second operand counts
abbrev pub second_steps : Operation → ℕ
second_steps (operation.Unary o) = 0
second_steps (operation.Binary o b) = expr_steps b.now

second_smaller : (o : Operation) (a : Expr) → suc (second_steps o) ≤ expr_steps (applied o a)
second_smaller (operation.Unary unary.LoadWord) a = let e = steps_load_word a in omega (arith, e)
second_smaller (operation.Unary unary.LoadByte) a = let e = steps_load_byte a in omega (arith, e)
second_smaller (operation.Unary (unary.Shift o n)) a = let e = steps_shift o a n in omega (arith, e)
second_smaller (operation.Binary (binary.Bin o) b) a = let e = steps_bin o a b.now in omega (arith, e)
second_smaller (operation.Binary (binary.Compare c) b) a = let e = steps_compare c a b.now in omega (arith, e)

first_smaller : (o : Operation) (a : Expr) → suc (expr_steps a) ≤ expr_steps (applied o a)
first_smaller (operation.Unary unary.LoadWord) a = let e = steps_load_word a in omega (arith, e)
first_smaller (operation.Unary unary.LoadByte) a = let e = steps_load_byte a in omega (arith, e)
first_smaller (operation.Unary (unary.Shift o n)) a = let e = steps_shift o a n in omega (arith, e)
first_smaller (operation.Binary (binary.Bin o) b) a = let e = steps_bin o a b.now in omega (arith, e)
first_smaller (operation.Binary (binary.Compare c) b) a = let e = steps_compare c a b.now in omega (arith, e)

all_smaller : (os : List Operation) (a : Expr) → expr_steps a ≤ expr_steps (all_applied os a)
all_smaller [] a = omega arith
all_smaller (o ∷ os) a = let l = all_smaller os a in let k = first_smaller o (all_applied os a) in omega (arith, l, k)

pub operand_smaller : (os : List Operation) (o : Operation) (a : Expr) → suc (second_steps o) ≤ expr_steps (all_applied (os ++ o ∷ []) a)
operand_smaller os o a =
    let e = ap expr_steps (applied_first os o a) in
    let l = all_smaller os (applied o a) in let k = second_smaller o a in omega (arith, e, l, k)
