-- What is known of the functions of a well-formed program.
use Rattle.std.proofs.Common.{◌≡◌, ℕ, zero, suc, ◌≤◌, subst, List, [], ◌∷◌, map, Some, arith}
use Rattle.std.specs.Prelude.{slice_get}
use Rattle.std.specs.List.{All, AllByRecursion}
use Rattle.std.proofs.lemmas.List.Elements.{recursion_from_All}
use Rattle.pan_stage.specs.Room.{IsCost}
use Rattle.pan_stage.specs.Stage.{AtMost}
use Rattle.pan_stage.specs.declared.program.Program.{Program}
use Rattle.stack_lang.specs.Frames.{front_words}
use Rattle.stack_lang.specs.Text.{mentions}
use Rattle.stack_lang.specs.WellFormed.{IsRight, scope_of, IsFrame as IsAligned, IsWellFormed}
use Rattle.stack_lang.specs.declared.syntax.StackFun.{StackFun}
use Rattle.lab_flatten.proofs.Machine.{IsFrame}

some_same : {A : Type 0} (a b : A) → Some a ≡ Some b → a ≡ b
some_same a b e = cc

-- what holds of all holds of one
pub of_one : {A : Type 0} (P : A → Type 0) (xs : List A) (k : ℕ) (x : A) → AllByRecursion P xs → slice_get xs k ≡ Some x → P x
of_one P [] k x h is = absurd (cc)
of_one P (y ∷ ys) zero x h is = subst P (some_same y x is) h.0
of_one P (y ∷ ys) (suc k) x h is = of_one P ys k x h.1 is

frame_small : (fs : List StackFun) (k : ℕ) (f : StackFun) → AtMost (map (λ (f : StackFun). f.frame) fs) (map (λ (f : StackFun). f.cost) fs) → AllByRecursion IsCost (map (λ (f : StackFun). f.cost) fs) → slice_get fs k ≡ Some f → f.frame ≤ 0x7F000
frame_small [] k f le h is = absurd (cc)
frame_small (g ∷ gs) zero f le h is =
    let cost = h.0 in let whole = cost.whole in let light = cost.light in
    let below : g.frame ≤ 0x7F000 = (let fits = le.0 in omega arith) in
    subst (λ (f : StackFun). f.frame ≤ 0x7F000) (some_same g f is) below
frame_small (g ∷ gs) (suc k) f le h is = frame_small gs k f le.1 h.1 is

module _ (p : Program StackFun) (fine : IsWellFormed p) (k : ℕ) (f : StackFun) (is : slice_get p.functions k ≡ Some f) where
  -- its frame is in reach
  pub frame_of : IsFrame (front_words f) f.frame
  frame_of =
      let a = of_one (λ (f : StackFun). IsAligned (front_words f) f.frame) p.functions k f (recursion_from_All (λ (f : StackFun). IsAligned (front_words f) f.frame) p.functions fine.frames) is in
      let whole = a.whole in
      record {
        wide = a.wide;
        whole = omega arith;
        most = frame_small p.functions k f (((fine.room).within).frames) (recursion_from_All IsCost (map (λ (f : StackFun). f.cost) p.functions) (((fine.room).priced).each)) is;
      }

  -- what it mentions is right
  pub right_of : All (IsRight (scope_of p f)) (mentions f.body)
  right_of = of_one (λ (f : StackFun). All (IsRight (scope_of p f)) (mentions f.body)) p.functions k f (recursion_from_All (λ (f : StackFun). All (IsRight (scope_of p f)) (mentions f.body)) p.functions fine.right) is
