-- The labels of a statement's lines are distinct, and are those that were free for it.
use Rattle.std.proofs.Common.{◌≡◌, ℕ, suc, ◌+◌, ◌<◌, ◌≤◌, refl, sym, ap, ◌∙◌, subst, Bool, true, false, List, [], ◌∷◌, ◌++◌, append_assoc, map, inl, inr, arith, pos, negsuc, cond, ◌-◌, length, Some, None}
use Rattle.std.specs.Prelude.{◌⊎◌, ◌||◌, ◌==◌, nat_eq}
use Rattle.std.proofs.lemmas.Bool.Decides.{nat_tests}
use Rattle.pan_base.specs.declared.operators.LOp.TheVariants.{Ld}
use Rattle.pan_base.specs.declared.operators.SOp.TheVariants.{Sd}
use Rattle.pan_base.specs.declared.operators.Cmp.TheVariants.{Eq, Ne, Ltu}
use Rattle.pan_base.specs.declared.operators.IOp.TheVariants.{Addi}
use Rattle.pan_base.specs.declared.operators.ROp.TheVariants.{Add, Sub}
use Rattle.pan_base.specs.declared.operators.UOp.TheVariants.{Lui}
use Rattle.riscv_isa.specs.declared.instr.Instr.TheVariants as instr
use Rattle.lab_lang.specs.declared.syntax.Line.{Line}
use Rattle.lab_lang.specs.declared.syntax.Line.TheVariants as line
use Rattle.lab_lang.specs.Layout.{is_label}
use Rattle.pan_base.specs.declared.operators.Cmp.{Cmp}
use Rattle.lab_flatten.specs.Flatten.{Flat, row, labels_of, ends, inverse, choice_head, choice_middle, choice_end, choice_last, loop_head, loop_turn, flat_layer, flat, reach, base, rest, where_some, below, front_lines, off, high, low, is_near, slot_at, function_lines, functions_lines, start_lines, stub_lines, unwind_lines, program_lines, labels_in}
use Rattle.stack_lang.specs.Frames.{front_words}
use Rattle.stack_lang.specs.declared.syntax.StackFun.{StackFun}
use Rattle.stack_lang.specs.declared.syntax.Stmt.{Stmt, Stmt-F, map-Stmt}
use Rattle.stack_lang.specs.declared.syntax.Stmt.TheOpen as stmt
use Rattle.lab_flatten.proofs.Standing.{has_label, AreDistinct}
use Rattle.stack_lang.specs.Shown.{load_of, store_of}
use Rattle.stack_lang.proofs.Equations.{stmt_induct}
use Rattle.lab_flatten.proofs.Simulation.{flat_roll}

-- the labels of the lines are distinct, and P holds of each
pub record Tidy (P : ℕ → Type 0) (xs : List Line) : Type 0 where
  pub distinct : AreDistinct xs
  pub within : (l : ℕ) → has_label xs l ≡ true → P l

or_cases : (a b : Bool) → (a || b) ≡ true → (a ≡ true) ⊎ (b ≡ true)
or_cases true b h = inl refl
or_cases false b h = inr h

not_true : (b : Bool) → (b ≡ true → ⊥) → b ≡ false
not_true true h = absurd (h refl)
not_true false h = refl

true_or : (a b : Bool) → a ≡ true → (a || b) ≡ true
true_or true b h = refl
true_or false b h = absurd (cc)

or_true : (a b : Bool) → b ≡ true → (a || b) ≡ true
or_true true b h = refl
or_true false b h = h

has_append : (xs ys : List Line) (l : ℕ) → has_label (xs ++ ys) l ≡ true → (has_label xs l ≡ true) ⊎ (has_label ys l ≡ true)
has_append [] ys l h = inr h
has_append (x ∷ xs) ys l h = by_first (or_cases (is_label x l) (has_label (xs ++ ys) l) h) (has_append xs ys l)
  where
    by_rest : (has_label xs l ≡ true) ⊎ (has_label ys l ≡ true) → (has_label (x ∷ xs) l ≡ true) ⊎ (has_label ys l ≡ true)
    by_rest (inl a) = inl (or_true (is_label x l) (has_label xs l) a)
    by_rest (inr b) = inr b

    by_first : (is_label x l ≡ true) ⊎ (has_label (xs ++ ys) l ≡ true) → (has_label (xs ++ ys) l ≡ true → (has_label xs l ≡ true) ⊎ (has_label ys l ≡ true)) → (has_label (x ∷ xs) l ≡ true) ⊎ (has_label ys l ≡ true)
    by_first (inl a) later = inl (true_or (is_label x l) (has_label xs l) a)
    by_first (inr b) later = by_rest (later b)

distinct_append : (P Q : ℕ → Type 0) (xs ys : List Line) → AreDistinct xs → AreDistinct ys → ((l : ℕ) → has_label xs l ≡ true → has_label ys l ≡ true → ⊥) → AreDistinct (xs ++ ys)
distinct_append P Q [] ys a b apart = b
distinct_append P Q (x ∷ xs) ys a b apart = (
  λ l is. not_true (has_label (xs ++ ys) l) (λ h. by_side l is (has_append xs ys l h)),
  distinct_append P Q xs ys a.1 b (λ l h k. apart l (or_true (is_label x l) (has_label xs l) h) k),
)
  where
    by_side : (l : ℕ) → is_label x l ≡ true → (has_label xs l ≡ true) ⊎ (has_label ys l ≡ true) → ⊥
    by_side l is (inl h) = let e = a.0 l is in cc
    by_side l is (inr h) = apart l (true_or (is_label x l) (has_label xs l) is) h

tidy_append : (P Q : ℕ → Type 0) (xs ys : List Line) → Tidy P xs → Tidy Q ys → ((l : ℕ) → P l → Q l → ⊥) → Tidy (λ l. P l ⊎ Q l) (xs ++ ys)
tidy_append P Q xs ys a b apart = record {
  distinct = distinct_append P Q xs ys a.distinct b.distinct (λ l h k. apart l (a.within l h) (b.within l k));
  within = λ l h. sides l (has_append xs ys l h);
}
  where
    sides : (l : ℕ) → (has_label xs l ≡ true) ⊎ (has_label ys l ≡ true) → P l ⊎ Q l
    sides l (inl h) = inl (a.within l h)
    sides l (inr h) = inr (b.within l h)

tidy_weaken : (P Q : ℕ → Type 0) (xs : List Line) → Tidy P xs → ((l : ℕ) → P l → Q l) → Tidy Q xs
tidy_weaken P Q xs a more = record { distinct = a.distinct; within = λ l h. more l (a.within l h) }

tidy_none : Tidy (λ l. ⊥) []
tidy_none = record { distinct = tt; within = λ l h. absurd (cc) }

-- a line that is no label in front
tidy_other : (P : ℕ → Type 0) (x : Line) (xs : List Line) → ((l : ℕ) → is_label x l ≡ false) → Tidy P xs → Tidy P (x ∷ xs)
tidy_other P x xs no_one a = record {
  distinct = (λ l is. absurd (clash l is), a.distinct);
  within = λ l h. a.within l (ap (λ b. b || has_label xs l) (sym (no_one l)) ∙ h);
}
  where
    clash : (l : ℕ) → is_label x l ≡ true → ⊥
    clash l is = let e = no_one l in cc

tidy_label : (P : ℕ → Type 0) (k : ℕ) (xs : List Line) → Tidy P xs → (P k → ⊥) → Tidy (λ l. (l ≡ k) ⊎ P l) (line.Label k ∷ xs)
tidy_label P k xs a fresh =
    tidy_append (λ l. l ≡ k) P (line.Label k ∷ []) xs
    (record { distinct = (λ l is. refl, tt); within = λ l h. one l (or_cases (k == l) false h) }) a (λ l e p. fresh (subst P e p))
  where
    one : (l : ℕ) → ((k == l) ≡ true) ⊎ (false ≡ true) → l ≡ k
    one l (inl h) = grind (arith, nat_tests)
    one l (inr h) = absurd (cc)

-- numbers from one on, below another
abbrev pub Between : ℕ → ℕ → ℕ → Type 0
Between lo hi l = (lo ≤ l) × (l < hi)

abbrev pub IsTidy : Flat → Type 0
IsTidy f = (n b c : ℕ) (last : Bool) → Tidy (Between n (n + f.labels)) (f.lines n b c last)

bare_line : (x : Line) (n : ℕ) → ((l : ℕ) → is_label x l ≡ false) → Tidy (Between n (n + 0)) (x ∷ [])
bare_line x n no_one = tidy_weaken (λ l. ⊥) (Between n (n + 0)) (x ∷ []) (tidy_other (λ l. ⊥) x [] no_one tidy_none) (λ l h. absurd h)

-- lines without labels
pub bare : (xs : List Line) → ((l : ℕ) → has_label xs l ≡ false) → Tidy (λ l. ⊥) xs
bare [] none = tidy_none
bare (x ∷ xs) none = tidy_other (λ l. ⊥) x xs (λ l. (or_none (is_label x l) (has_label xs l) (none l)).0) (bare xs (λ l. (or_none (is_label x l) (has_label xs l) (none l)).1))
  where
    or_none : (a b : Bool) → (a || b) ≡ false → (a ≡ false) × (b ≡ false)
    or_none false b h = (refl, h)
    or_none true b h = absurd (cc)

reach_bare : (d : ℕ) (ys : List Line) → ((l : ℕ) → has_label ys l ≡ false) → (l : ℕ) → has_label (reach d ++ ys) l ≡ false
reach_bare d ys none l = by (is_near d)
  where
    by : (b : Bool) → has_label (cond b [] (line.Plain (instr.U Lui 9 (high d)) ∷ line.Plain (instr.R Add 9 9 2) ∷ []) ++ ys) l ≡ false
    by true = none l
    by false = none l

below_has : (n : ℕ) (ys : List Line) (l : ℕ) → has_label (below n ++ ys) l ≡ has_label ys l
below_has n ys l = by (is_near n)
  where
    by : (b : Bool) → has_label (cond b (line.Plain (instr.I Addi 9 2 (negsuc (n - 1))) ∷ []) (line.Plain (instr.U Lui 9 (high n)) ∷ line.Plain (instr.I Addi 9 9 (low n)) ∷ line.Plain (instr.R Sub 9 2 9) ∷ []) ++ ys) l ≡ has_label ys l
    by true = refl
    by false = refl

some_bare : (n : ℕ) (xs ys : List Line) (l : ℕ) → has_label (xs ++ ys) l ≡ false → has_label ys l ≡ false → has_label (where_some n xs ++ ys) l ≡ false
some_bare n xs ys l both one = by (nat_eq n 0)
  where
    by : (b : Bool) → has_label (cond b [] xs ++ ys) l ≡ false
    by true = one
    by false = both

off_bare : (front size : ℕ) (ys : List Line) → ((l : ℕ) → has_label ys l ≡ false) → (l : ℕ) → has_label (off front size ys) l ≡ false
off_bare front size ys none l =
    let sum = line.Plain (instr.I Addi 2 (base size) (rest size)) ∷ [] in
    let up = ap (λ xs. has_label xs l) (append_assoc (reach size) sum ys) ∙ reach_bare size (sum ++ ys) none l in
    let tail = some_bare size (reach size ++ sum) ys l up (none l) in
    some_bare front (line.Plain (instr.L Ld 1 2 (pos 0)) ∷ []) (where_some size (reach size ++ sum) ++ ys) l tail tail

none_between : (n : ℕ) (xs : List Line) → ((l : ℕ) → has_label xs l ≡ false) → Tidy (Between n (n + 0)) xs
none_between n xs none = tidy_weaken (λ l. ⊥) (Between n (n + 0)) xs (bare xs none) (λ l h. absurd h)

-- the lines of a choice, of those of its sides
choice_tidy : (f g : Bool) (op : Cmp) (a b n kx ky : ℕ) (xs ys : List Line) → Tidy (Between (n + 2 + ky) (n + 2 + ky + kx)) xs → Tidy (Between (n + 2) (n + 2 + ky)) ys
    → Tidy (Between n (n + (2 + kx + ky))) (choice_head f g op a b n ++ (ys ++ (choice_middle f g n ++ (xs ++ choice_end f g n))))
choice_tidy f g op a b n kx ky xs ys tx ty = by f g
  where
    X : ℕ → Type 0
    X l = Between (n + 2 + ky) (n + 2 + ky + kx) l

    Y : ℕ → Type 0
    Y l = Between (n + 2) (n + 2 + ky) l

    -- one side, and the label behind it
    one_label : Tidy (λ l. Y l ⊎ (X l ⊎ ((l ≡ n) ⊎ ⊥))) (ys ++ (xs ++ line.Label n ∷ []))
    one_label =
        let E : ℕ → Type 0 = λ l. (l ≡ n) ⊎ ⊥ in
        let end = tidy_label (λ l. ⊥) n [] tidy_none (λ h. h) in
        let first : Tidy (λ l. X l ⊎ E l) (xs ++ line.Label n ∷ []) = tidy_append X E xs (line.Label n ∷ []) tx end (λ l p q. omega arith) in
        tidy_append Y (λ l. X l ⊎ E l) ys (xs ++ line.Label n ∷ []) ty first (λ l p q. omega arith)

    by : (f g : Bool) → Tidy (Between n (n + (2 + kx + ky))) (choice_head f g op a b n ++ (ys ++ (choice_middle f g n ++ (xs ++ choice_end f g n))))
    by true true =
        let N : ℕ → Type 0 = λ l. ⊥ in
        let first : Tidy (λ l. X l ⊎ N l) (xs ++ []) = tidy_append X N xs [] tx tidy_none (λ l p q. q) in
        tidy_weaken (λ l. Y l ⊎ (X l ⊎ N l)) (Between n (n + (2 + kx + ky))) _ (tidy_append Y (λ l. X l ⊎ N l) ys (xs ++ []) ty first (λ l p q. omega arith)) (λ l h. (omega arith, omega arith))
    by true false =
        tidy_weaken (λ l. Y l ⊎ (X l ⊎ ((l ≡ n) ⊎ ⊥))) (Between n (n + (2 + kx + ky))) _ (tidy_other (λ l. Y l ⊎ (X l ⊎ ((l ≡ n) ⊎ ⊥))) (line.Branch op a b n) (ys ++ (xs ++ line.Label n ∷ [])) (λ l. refl) one_label) (λ l h. (omega arith, omega arith))
    by false true =
        tidy_weaken (λ l. Y l ⊎ (X l ⊎ ((l ≡ n) ⊎ ⊥))) (Between n (n + (2 + kx + ky))) _ (tidy_other (λ l. Y l ⊎ (X l ⊎ ((l ≡ n) ⊎ ⊥))) (line.Branch (inverse op) a b n) (ys ++ (xs ++ line.Label n ∷ [])) (λ l. refl) one_label) (λ l h. (omega arith, omega arith))
    by false false =
        let E : ℕ → Type 0 = λ l. (l ≡ n + 1) ⊎ ⊥ in
        let F : ℕ → Type 0 = λ l. X l ⊎ E l in
        let L : ℕ → Type 0 = λ l. (l ≡ n) ⊎ F l in
        let end = tidy_label (λ l. ⊥) (n + 1) [] tidy_none (λ h. h) in
        let first = tidy_append X E xs (line.Label (n + 1) ∷ []) tx end (λ l p q. omega arith) in
        let label = tidy_label F n (xs ++ line.Label (n + 1) ∷ []) first (λ h. omega arith) in
        let jumped = tidy_other L (line.Jump (n + 1)) (line.Label n ∷ (xs ++ line.Label (n + 1) ∷ [])) (λ l. refl) label in
        let other = tidy_append Y L ys (line.Jump (n + 1) ∷ line.Label n ∷ (xs ++ line.Label (n + 1) ∷ [])) ty jumped (λ l p q. omega arith) in
        tidy_weaken (λ l. Y l ⊎ L l) (Between n (n + (2 + kx + ky))) _ (tidy_other (λ l. Y l ⊎ L l) (line.Branch op a b n) (ys ++ line.Jump (n + 1) ∷ line.Label n ∷ (xs ++ line.Label (n + 1) ∷ [])) (λ l. refl) other) (λ l h. (omega arith, omega arith))

-- the lines of a loop, of those of its body and of what stands before the test
loop_tidy : (e : Bool) (op : Cmp) (a b n kx ky : ℕ) (xs ys : List Line) → Tidy (Between (n + 3 + ky) (n + 3 + ky + kx)) xs → Tidy (Between (n + 3) (n + 3 + ky)) ys
    → Tidy (Between n (n + (3 + kx + ky))) (loop_head e n ++ (ys ++ line.Label n ∷ (xs ++ line.Branch op a b (loop_turn e n) ∷ line.Label (n + 1) ∷ [])))
loop_tidy e op a b n kx ky xs ys tx ty =
    let X : ℕ → Type 0 = Between (n + 3 + ky) (n + 3 + ky + kx) in
    let Y : ℕ → Type 0 = Between (n + 3) (n + 3 + ky) in
    let E : ℕ → Type 0 = λ l. (l ≡ n + 1) ⊎ ⊥ in
    let F : ℕ → Type 0 = λ l. X l ⊎ E l in
    let H : ℕ → Type 0 = λ l. (l ≡ n) ⊎ F l in
    let branch = line.Branch op a b (loop_turn e n) in
    let end = tidy_other E branch (line.Label (n + 1) ∷ []) (λ l. refl) (tidy_label (λ l. ⊥) (n + 1) [] tidy_none (λ h. h)) in
    let test = xs ++ branch ∷ line.Label (n + 1) ∷ [] in
    let before = tidy_append X E xs (branch ∷ line.Label (n + 1) ∷ []) tx end (λ l p q. omega arith) in
    let head = tidy_label F n test before (λ h. omega arith) in
    let all = ys ++ line.Label n ∷ test in
    by e all (tidy_append Y H ys (line.Label n ∷ test) ty head (λ l p q. omega arith))
  where
    by : (e : Bool) (all : List Line) → Tidy (λ l. Between (n + 3) (n + 3 + ky) l ⊎ ((l ≡ n) ⊎ (Between (n + 3 + ky) (n + 3 + ky + kx) l ⊎ ((l ≡ n + 1) ⊎ ⊥)))) all → Tidy (Between n (n + (3 + kx + ky))) (loop_head e n ++ all)
    by true all body = tidy_weaken (λ l. Between (n + 3) (n + 3 + ky) l ⊎ ((l ≡ n) ⊎ (Between (n + 3 + ky) (n + 3 + ky + kx) l ⊎ ((l ≡ n + 1) ⊎ ⊥)))) (Between n (n + (3 + kx + ky))) _ body (λ l h. (omega arith, omega arith))
    by false all body =
        let P : ℕ → Type 0 = λ l. Between (n + 3) (n + 3 + ky) l ⊎ ((l ≡ n) ⊎ (Between (n + 3 + ky) (n + 3 + ky + kx) l ⊎ ((l ≡ n + 1) ⊎ ⊥))) in
        let L : ℕ → Type 0 = λ l. (l ≡ n + 2) ⊎ P l in
        tidy_weaken L (Between n (n + (3 + kx + ky))) _ (tidy_other L (line.Jump n) (line.Label (n + 2) ∷ all) (λ l. refl) (tidy_label P (n + 2) all body (λ h. omega arith))) (λ l h. (omega arith, omega arith))

guarded_tidy : (a1 a2 a3 a4 a5 a6 jump b1 b2 : Line) (n kx ky : ℕ) (xs ys : List Line) → ((l : ℕ) → is_label a1 l ≡ false) → ((l : ℕ) → is_label a2 l ≡ false) → ((l : ℕ) → is_label a3 l ≡ false) → ((l : ℕ) → is_label a4 l ≡ false) → ((l : ℕ) → is_label a5 l ≡ false) → ((l : ℕ) → is_label a6 l ≡ false)
    → ((l : ℕ) → is_label jump l ≡ false) → ((l : ℕ) → is_label b1 l ≡ false) → ((l : ℕ) → is_label b2 l ≡ false) → Tidy (Between (n + 2) (n + 2 + kx)) xs → Tidy (Between (n + 2 + kx) (n + 2 + kx + ky)) ys
    → Tidy (Between n (n + (2 + kx + ky))) (a1 ∷ a2 ∷ a3 ∷ a4 ∷ a5 ∷ a6 ∷ (xs ++ jump ∷ line.Label n ∷ b1 ∷ b2 ∷ (ys ++ line.Label (n + 1) ∷ [])))
guarded_tidy a1 a2 a3 a4 a5 a6 jump b1 b2 n kx ky xs ys p1 p2 p3 p4 p5 p6 pj q1 q2 tx ty =
    let E : ℕ → Type 0 = λ l. (l ≡ n + 1) ⊎ ⊥ in
    let Y : ℕ → Type 0 = λ l. Between (n + 2 + kx) (n + 2 + kx + ky) l ⊎ E l in
    let L : ℕ → Type 0 = λ l. (l ≡ n) ⊎ Y l in
    let X : ℕ → Type 0 = λ l. Between (n + 2) (n + 2 + kx) l ⊎ L l in
    let end = tidy_label (λ l. ⊥) (n + 1) [] tidy_none (λ h. h) in
    let handler = ys ++ line.Label (n + 1) ∷ [] in
    let last = tidy_append (Between (n + 2 + kx) (n + 2 + kx + ky)) E ys (line.Label (n + 1) ∷ []) ty end (λ l p q. omega arith) in
    let handled = tidy_other Y b1 (b2 ∷ handler) q1 (tidy_other Y b2 handler q2 last) in
    let label = tidy_label Y n (b1 ∷ b2 ∷ handler) handled (λ h. omega arith) in
    let jumped = tidy_other L jump (line.Label n ∷ b1 ∷ b2 ∷ handler) pj label in
    let all = xs ++ jump ∷ line.Label n ∷ b1 ∷ b2 ∷ handler in
    let first = tidy_append (Between (n + 2) (n + 2 + kx)) L xs (jump ∷ line.Label n ∷ b1 ∷ b2 ∷ handler) tx jumped (λ l p q. omega arith) in
    tidy_weaken X (Between n (n + (2 + kx + ky))) _
    (tidy_other X a1 (a2 ∷ a3 ∷ a4 ∷ a5 ∷ a6 ∷ all) p1 (tidy_other X a2 (a3 ∷ a4 ∷ a5 ∷ a6 ∷ all) p2 (tidy_other X a3 (a4 ∷ a5 ∷ a6 ∷ all) p3 (tidy_other X a4 (a5 ∷ a6 ∷ all) p4 (tidy_other X a5 (a6 ∷ all) p5 (tidy_other X a6 all p6 first)))))) (λ l h. (omega arith, omega arith))

module _ (front size unwind : ℕ) where
  row_tidy : (fs : List ((s : Stmt) × IsTidy (flat front size unwind s))) → (n b c : ℕ) (last : Bool) → Tidy (Between n (n + labels_of (map (flat front size unwind) (map (λ p. p.0) fs)))) (row (map (flat front size unwind) (map (λ p. p.0) fs)) n b c last)
  row_tidy [] n b c last = tidy_weaken (λ l. ⊥) (Between n (n + 0)) [] tidy_none (λ l h. absurd h)
  row_tidy (f ∷ fs) n b c last =
      let rest = labels_of (map (flat front size unwind) (map (λ p. p.0) fs)) in
      let mid = n + (flat front size unwind f.0).labels in
      let after = ends (map (flat front size unwind) (map (λ p. p.0) fs)) last in
      tidy_weaken (λ l. Between n mid l ⊎ Between mid (mid + rest) l) (Between n (n + ((flat front size unwind f.0).labels + rest))) _
      (tidy_append (Between n mid) (Between mid (mid + rest)) ((flat front size unwind f.0).lines n b c after) (row (map (flat front size unwind) (map (λ p. p.0) fs)) mid b c last) (f.1 n b c after) (row_tidy fs mid b c last) (λ l p q. omega arith))
      (λ l h. (omega arith, omega arith))

  abbrev parts : Stmt-F ((s : Stmt) × IsTidy (flat front size unwind s)) → Stmt-F Stmt
  parts y = map-Stmt ((s : Stmt) × IsTidy (flat front size unwind s)) Stmt (λ p. p.0) y

  layer_tidy : (y : Stmt-F ((s : Stmt) × IsTidy (flat front size unwind s))) → IsTidy (flat_layer front size unwind (map-Stmt Stmt Flat (flat front size unwind) (parts y)))
  layer_tidy (stmt.Seq all) n b c last = row_tidy all n b c last
  layer_tidy (stmt.Plain i) n b c last = bare_line (line.Plain i) n (λ l. refl)
  layer_tidy (stmt.Get r k) n b c last = none_between n _ (reach_bare (slot_at front k) _ (λ l. refl))
  layer_tidy (stmt.Put k r) n b c last = none_between n _ (reach_bare (slot_at front k) _ (λ l. refl))
  layer_tidy (stmt.SharedLoad z rd rs1 imm) n b c last = bare_line (line.Plain (load_of z rd rs1 imm)) n (λ l. refl)
  layer_tidy (stmt.SharedStore z rs1 rs2 imm) n b c last = bare_line (line.Plain (store_of z rs1 rs2 imm)) n (λ l. refl)
  layer_tidy (stmt.Foreign i) n b c last = none_between n _ (λ l. refl)
  layer_tidy (stmt.If op r1 r2 s t) n b c last =
      let f = (flat front size unwind s.0).none last in
      let g = (flat front size unwind t.0).none last in
      choice_tidy f g op r1 r2 n (flat front size unwind s.0).labels (flat front size unwind t.0).labels ((flat front size unwind s.0).lines (n + 2 + (flat front size unwind t.0).labels) b c last) ((flat front size unwind t.0).lines (n + 2) b c (choice_last f g last))
      (s.1 (n + 2 + (flat front size unwind t.0).labels) b c last) (t.1 (n + 2) b c (choice_last f g last))
  layer_tidy (stmt.While before op r1 r2 t) n b c last =
      let all = map (flat front size unwind) (map (λ p. p.0) before) in
      loop_tidy ((flat front size unwind t.0).none true) op r1 r2 n (labels_of all) (flat front size unwind t.0).labels (row all (n + 3 + (flat front size unwind t.0).labels) b c false) ((flat front size unwind t.0).lines (n + 3) (n + 1) n true)
      (row_tidy before (n + 3 + (flat front size unwind t.0).labels) b c false) (t.1 (n + 3) (n + 1) n true)
  layer_tidy stmt.Break n b c last = bare_line (line.Jump b) n (λ l. refl)
  layer_tidy stmt.Continue n b c true = none_between n [] (λ l. refl)
  layer_tidy stmt.Continue n b c false = bare_line (line.Jump c) n (λ l. refl)
  layer_tidy (stmt.Call f s None) n b c last = tidy_other (Between n (n + (flat front size unwind s.0).labels)) (line.CallTo f) ((flat front size unwind s.0).lines n b c last) (λ l. refl) (s.1 n b c last)
  layer_tidy (stmt.Call f s (Some h)) n b c last =
      guarded_tidy (line.Plain (instr.S Sd 2 8 (pos 8))) (line.Address 9 n) (line.Plain (instr.S Sd 2 9 (pos 16))) (line.Plain (instr.I Addi 8 2 (pos 8))) (line.CallTo f) (line.Plain (instr.L Ld 8 2 (pos 8)))
      (line.Jump (n + 1)) (line.Plain (instr.I Addi 9 0 (pos h.exception))) (line.Branch Ne 1 9 unwind) n (flat front size unwind s.0).labels (flat front size unwind (h.body).0).labels ((flat front size unwind s.0).lines (n + 2) b c false)
      ((flat front size unwind (h.body).0).lines (n + 2 + (flat front size unwind s.0).labels) b c last) (λ l. refl) (λ l. refl) (λ l. refl) (λ l. refl) (λ l. refl) (λ l. refl) (λ l. refl) (λ l. refl) (λ l. refl)
      (s.1 (n + 2) b c false) ((h.body).1 (n + 2 + (flat front size unwind s.0).labels) b c last)
  layer_tidy (stmt.TailCall f) n b c last = none_between n _ (off_bare front size _ (λ l. refl))
  layer_tidy stmt.Return n b c last = none_between n _ (off_bare front size _ (λ l. refl))
  layer_tidy (stmt.Raise i) n b c last = none_between n _ (λ l. refl)

  -- the labels of each statement's lines are distinct, from the first free one on
  pub flat_tidy : (s : Stmt) → IsTidy (flat front size unwind s)
  flat_tidy = stmt_induct (λ s. IsTidy (flat front size unwind s)) (λ y. subst IsTidy (sym (flat_roll front size unwind (parts y))) (layer_tidy y))

-- ---- functions

-- lines without labels in front
below_tidy : (P : ℕ → Type 0) (n : ℕ) (xs : List Line) → Tidy P xs → Tidy P (below n ++ xs)
below_tidy P n xs a = by (is_near n)
  where
    by : (b : Bool) → Tidy P (cond b (line.Plain (instr.I Addi 9 2 (negsuc (n - 1))) ∷ []) (line.Plain (instr.U Lui 9 (high n)) ∷ line.Plain (instr.I Addi 9 9 (low n)) ∷ line.Plain (instr.R Sub 9 2 9) ∷ []) ++ xs)
    by true = tidy_other P (line.Plain (instr.I Addi 9 2 (negsuc (n - 1)))) xs (λ l. refl) a
    by false =
        tidy_other P (line.Plain (instr.U Lui 9 (high n))) (line.Plain (instr.I Addi 9 9 (low n)) ∷ line.Plain (instr.R Sub 9 2 9) ∷ xs) (λ l. refl)
        (tidy_other P (line.Plain (instr.I Addi 9 9 (low n))) (line.Plain (instr.R Sub 9 2 9) ∷ xs) (λ l. refl) (tidy_other P (line.Plain (instr.R Sub 9 2 9)) xs (λ l. refl) a))

some_tidy : (P : ℕ → Type 0) (n : ℕ) (xs ys : List Line) → Tidy P (xs ++ ys) → Tidy P ys → Tidy P (where_some n xs ++ ys)
some_tidy P n xs ys both one = by (nat_eq n 0)
  where
    by : (b : Bool) → Tidy P (cond b [] xs ++ ys)
    by true = one
    by false = both

front_tidy : (P : ℕ → Type 0) (front size stub : ℕ) (ys : List Line) → Tidy P ys → Tidy P (front_lines front size stub ++ ys)
front_tidy P front size stub ys a =
    let branch = line.Branch Ltu 9 4 stub in
    let sum = line.Plain (instr.I Addi 2 9 (pos 0)) in
    let store = line.Plain (instr.S Sd 2 1 (pos 0)) in
    let rest = where_some front (store ∷ []) ++ ys in
    let linked = some_tidy P front (store ∷ []) ys (tidy_other P store ys (λ l. refl) a) a in
    let under = below_tidy P size (branch ∷ sum ∷ rest) (tidy_other P branch (sum ∷ rest) (λ l. refl) (tidy_other P sum rest (λ l. refl) linked)) in
    subst (Tidy P) (sym (append_assoc (where_some size (below size ++ branch ∷ sum ∷ [])) (where_some front (store ∷ [])) ys))
    (some_tidy P size (below size ++ branch ∷ sum ∷ []) rest (subst (Tidy P) (sym (append_assoc (below size) (branch ∷ sum ∷ []) rest)) under) linked)

-- the labels of a function's lines: its own, and those of its statements
abbrev pub OfFunction : ℕ → ℕ → ℕ → ℕ → Type 0
OfFunction f n m l = (l ≡ f) ⊎ Between n m l

function_tidy : (f n stub unwind : ℕ) (fn : StackFun) → f < n → Tidy (OfFunction f n (n + (flat (front_words fn) fn.frame unwind fn.body).labels)) (function_lines f n stub unwind fn)
function_tidy f n stub unwind fn less =
    let body = (flat (front_words fn) fn.frame unwind fn.body).lines n stub stub false in
    let P = Between n (n + (flat (front_words fn) fn.frame unwind fn.body).labels) in
    tidy_label P f (front_lines (front_words fn) fn.frame stub ++ body)
    (front_tidy P (front_words fn) fn.frame stub body (flat_tidy (front_words fn) fn.frame unwind fn.body n stub stub false))
    (λ h. omega arith)

functions_tidy : (stub unwind : ℕ) (gs : List StackFun) (f n : ℕ) → f + length gs ≤ n → Tidy (λ l. Between f (f + length gs) l ⊎ Between n (n + labels_in unwind gs) l) (functions_lines stub unwind gs f n)
functions_tidy stub unwind [] f n le = tidy_weaken (λ l. ⊥) (λ l. Between f (f + 0) l ⊎ Between n (n + 0) l) [] tidy_none (λ l h. absurd h)
functions_tidy stub unwind (g ∷ gs) f n le =
    let m = n + (flat (front_words g) g.frame unwind g.body).labels in
    let P = OfFunction f n m in
    let Q : ℕ → Type 0 = λ l. Between (f + 1) (f + 1 + length gs) l ⊎ Between m (m + labels_in unwind gs) l in
    let long : length (g ∷ gs) ≡ suc (length gs) = refl in
    tidy_weaken (λ l. P l ⊎ Q l) (λ l. Between f (f + length (g ∷ gs)) l ⊎ Between n (n + ((flat (front_words g) g.frame unwind g.body).labels + labels_in unwind gs)) l) (functions_lines stub unwind (g ∷ gs) f n)
    (tidy_append P Q (function_lines f n stub unwind g) (functions_lines stub unwind gs (f + 1) m) (function_tidy f n stub unwind g (omega arith)) (functions_tidy stub unwind gs (f + 1) m (omega arith)) (λ l p q. clash l p q))
    (λ l h. place l h)
  where
    clash : (l : ℕ) → OfFunction f n (n + (flat (front_words g) g.frame unwind g.body).labels) l
        → Between (f + 1) (f + 1 + length gs) l ⊎ Between (n + (flat (front_words g) g.frame unwind g.body).labels) (n + (flat (front_words g) g.frame unwind g.body).labels + labels_in unwind gs) l → ⊥
    clash l (inl a) (inl b) = omega arith
    clash l (inl a) (inr b) = omega arith
    clash l (inr a) (inl b) = omega arith
    clash l (inr a) (inr b) = omega arith

    place : (l : ℕ) → (OfFunction f n (n + (flat (front_words g) g.frame unwind g.body).labels) l)
        ⊎ (Between (f + 1) (f + 1 + length gs) l ⊎ Between (n + (flat (front_words g) g.frame unwind g.body).labels) (n + (flat (front_words g) g.frame unwind g.body).labels + labels_in unwind gs) l)
        → Between f (f + length (g ∷ gs)) l ⊎ Between n (n + ((flat (front_words g) g.frame unwind g.body).labels + labels_in unwind gs)) l
    place l (inl (inl a)) = inl (omega arith, omega arith)
    place l (inl (inr a)) = inr (omega arith, omega arith)
    place l (inr (inl a)) = inl (omega arith, omega arith)
    place l (inr (inr a)) = inr (omega arith, omega arith)

-- the labels of a program's lines are distinct
pub program_distinct : (fs : List StackFun) (main : ℕ) → AreDistinct (program_lines fs main)
program_distinct fs main =
    let F = length fs in
    let all = functions_lines F (F + 1) fs 0 (F + 3) in
    let A : ℕ → Type 0 = λ l. Between 0 (0 + F) l ⊎ Between (F + 3) (F + 3 + labels_in (F + 1) fs) l in
    let a = functions_tidy F (F + 1) fs 0 (F + 3) (omega arith) in
    let B : ℕ → Type 0 = λ l. (l ≡ F + 1) ⊎ ((l ≡ F + 2) ⊎ ⊥) in
    let ends = line.Plain (instr.I Addi 17 0 (pos 0)) ∷ line.Plain (instr.I Addi 10 0 (pos 1)) ∷ line.Plain (instr.I Addi 11 1 (pos 0)) ∷ line.Plain instr.Ecall ∷ [] in
    let uncaught = line.Label (F + 2) ∷ ends in
    let u = tidy_label (λ l. ⊥) (F + 2) ends (bare ends (λ l. refl)) (λ h. h) in
    let C : ℕ → Type 0 = λ l. (l ≡ F + 2) ⊎ ⊥ in
    let unwinding = line.Branch Eq 8 0 (F + 2) ∷ line.Plain (instr.L Ld 9 8 (pos 8)) ∷ line.Plain (instr.I Addi 2 8 (negsuc 7)) ∷ line.Plain (instr.L Ld 8 8 (pos 0)) ∷ line.JumpReg 9 ∷ uncaught in
    let v = tidy_other C (line.Branch Eq 8 0 (F + 2)) (line.Plain (instr.L Ld 9 8 (pos 8)) ∷ line.Plain (instr.I Addi 2 8 (negsuc 7)) ∷ line.Plain (instr.L Ld 8 8 (pos 0)) ∷ line.JumpReg 9 ∷ uncaught) (λ l. refl)
    (tidy_other C (line.Plain (instr.L Ld 9 8 (pos 8))) (line.Plain (instr.I Addi 2 8 (negsuc 7)) ∷ line.Plain (instr.L Ld 8 8 (pos 0)) ∷ line.JumpReg 9 ∷ uncaught) (λ l. refl)
    (tidy_other C (line.Plain (instr.I Addi 2 8 (negsuc 7))) (line.Plain (instr.L Ld 8 8 (pos 0)) ∷ line.JumpReg 9 ∷ uncaught) (λ l. refl)
    (tidy_other C (line.Plain (instr.L Ld 8 8 (pos 0))) (line.JumpReg 9 ∷ uncaught) (λ l. refl) (tidy_other C (line.JumpReg 9) uncaught (λ l. refl) u)))) in
    let w = tidy_label C (F + 1) unwinding v (λ h. omega arith) in
    let wa = tidy_append B A (unwind_lines (F + 1) (F + 2)) all w a (λ l p q. omega arith) in
    let D : ℕ → Type 0 = λ l. B l ⊎ A l in
    let stubs = line.Plain (instr.I Addi 17 0 (pos 0)) ∷ line.Plain (instr.I Addi 10 0 (pos 2)) ∷ line.Plain instr.Ecall ∷ [] in
    let s = tidy_label (λ l. ⊥) F stubs (bare stubs (λ l. refl)) (λ h. h) in
    let G : ℕ → Type 0 = λ l. (l ≡ F) ⊎ ⊥ in
    let swa = tidy_append G D (stub_lines F) (unwind_lines (F + 1) (F + 2) ++ all) s wa (λ l p q. omega arith) in
    (tidy_append (λ l. ⊥) (λ l. G l ⊎ D l) (start_lines main) (stub_lines F ++ (unwind_lines (F + 1) (F + 2) ++ all)) (bare (start_lines main) (λ l. refl)) swa (λ l p q. absurd p)).distinct
