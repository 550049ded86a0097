-- How the answers of parts make the answer of the whole.
use Rattle.std.proofs.Common.{◌≡◌, ℕ, Bool, true, false, List, [], ◌∷◌, ◌++◌, Err, Result, refl, sym, ap, subst, ◌∙◌, append_assoc}
use Rattle.std.proofs.lemmas.List.{append-nil}
use Rattle.std.specs.Result.{IsErrAnd}
use Rattle.std.proofs.lemmas.Result.{err_from_is_err_and}
use Rattle.pan_tree.specs.declared.rule.Rule.{Rule}
use Rattle.pan_tree.specs.Check.{Break, broken}
use Rattle.pan_shapes.specs.declared.error.CheckError.{CheckError}
use Rattle.pan_shapes.specs.declared.error.CheckError.TheVariants as error
use Rattle.pan_shapes.specs.Answers.{IsAnswer}

-- a part that breaks these is refused so
abbrev pub Refuses : List Break → CheckError → Type 0
Refuses bs e = IsAnswer {X = Unit {0}} bs (λ _. Unit {0}) (Err e)

refuses_all : {X : Type 0} (bs cs all : List Break) (G : X → Type 0) (e : CheckError) → all ≡ bs ++ cs → Refuses bs e → IsAnswer all G (Err e)
refuses_all bs cs all G (error.Breaks rule place) is (others, e) = (others ++ cs, is ∙ ap (λ b. b ++ cs) e)
refuses_all bs cs all G error.NoMemory is a = tt

-- a part of the whole is refused, and nothing before it breaks a rule
pub refused : {X : Type 0} {all : List Break} (G : X → Type 0) (r : Result X CheckError) (bs cs : List Break) (e : CheckError) → all ≡ bs ++ cs → IsErrAnd r (λ y. y ≡ e) → Refuses bs e → IsAnswer all G r
refused {X} {all} G r bs cs e is gives a =
    let p = err_from_is_err_and r gives in
    subst (IsAnswer all G) (sym p.1) (subst (λ x. IsAnswer all G (Err x)) (sym p.2) (refuses_all bs cs all G e is a))

-- nothing but what is refused breaks a rule
pub refused_alone : {X : Type 0} {all : List Break} (G : X → Type 0) (r : Result X CheckError) (bs : List Break) (e : CheckError) → all ≡ bs → IsErrAnd r (λ y. y ≡ e) → Refuses bs e → IsAnswer all G r
refused_alone G r bs e is gives a = refused G r bs [] e (is ∙ sym (append-nil bs)) gives a

-- the first of some parts, and the second
pub first_part : (bs ms rs : List Break) → (bs ++ ms) ++ rs ≡ bs ++ (ms ++ rs)
first_part bs ms rs = append_assoc bs ms rs

pub second_part : (cs bs ms rs : List Break) → cs ≡ [] → (cs ++ (bs ++ ms)) ++ rs ≡ bs ++ (ms ++ rs)
second_part cs bs ms rs h = ap (λ b. (b ++ (bs ++ ms)) ++ rs) h ∙ append_assoc bs ms rs

-- of rules that hold, the first
pub one_holds : (place : ℕ) (rule : Rule) (b : Bool) (rules : List (Rule × Bool)) → broken place ((rule, b) ∷ rules) ≡ [] → b ≡ false
one_holds place rule true rules e = absurd cc
one_holds place rule false rules e = refl

-- and those after it
pub others_hold : (place : ℕ) (rule : Rule) (b : Bool) (rules : List (Rule × Bool)) → broken place ((rule, b) ∷ rules) ≡ [] → broken place rules ≡ []
others_hold place rule true rules e = absurd cc
others_hold place rule false rules e = e
