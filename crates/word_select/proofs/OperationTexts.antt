-- The text of operations: each is one, reads what it may, and writes its variable.
use Rattle.std.proofs.Common.{Option, ◌≡◌, ◌⊎◌, inl, inr, ℕ, zero, suc, ◌+◌, ◌-◌, ◌%◌, ◌^◌, ◌≤◌, ◌<◌, Bool, true, false, List, [], ◌∷◌, ◌++◌, map, Some, None, arith, refl, ap, subst, ◌∙◌}
use Rattle.std.specs.Prelude.{ℤ, pos, negsuc, nat_eq, nat_lt, not, ◌&&◌, ◌||◌, if◌then◌else◌, flat_map}
use Rattle.std.specs.List.{list_all}
use Rattle.std.proofs.lemmas.Bool.Decides.{nat_tests}
use Rattle.std.proofs.lemmas.List.Folds.{list_all-append}
use Rattle.pan_base.specs.declared.operators.BinOp.{BinOp}
use Rattle.pan_base.specs.declared.operators.BinOp.TheVariants as bin_op
use Rattle.pan_base.specs.declared.operators.ShOp.{ShOp}
use Rattle.pan_base.specs.declared.operators.ShOp.TheVariants as sh_op
use Rattle.pan_base.specs.declared.operators.Cmp.{Cmp}
use Rattle.pan_base.specs.declared.operators.Cmp.TheVariants as cmp
use Rattle.pan_base.specs.declared.operators.ROp.{ROp}
use Rattle.pan_base.specs.declared.operators.ROp.TheVariants as rop
use Rattle.pan_base.specs.declared.operators.IOp.{IOp}
use Rattle.pan_base.specs.declared.operators.IOp.TheVariants as iop
use Rattle.pan_base.specs.declared.operators.ShiftOp.{ShiftOp}
use Rattle.pan_base.specs.declared.operators.ShiftOp.TheVariants as shift_op
use Rattle.pan_base.specs.declared.operators.LOp.{LOp}
use Rattle.pan_stage.specs.Mentions.{Mention, Scope, is_immediate, is_right}
use Rattle.pan_stage.specs.Stage.{Site}
use Rattle.pan_stage.specs.Sums.{sum_of}
use Rattle.pan_flow.specs.Flow.{Exit, AtEnd, with_end, has}
use Rattle.pan_flow.specs.Functions.{all_in_turn, sets, variables}
use Rattle.pan_flow.specs.Live.{live_before}
use Rattle.word_lang.specs.Needs.{code}
use Rattle.word_lang.specs.Text.{sites, shifted_bits, mentions, flow_of}
use Rattle.word_lang.specs.declared.syntax.Stmt.{Stmt}
use Rattle.word_lang.specs.declared.syntax.Stmt.TheVariants as s
use Rattle.word_lang.proofs.Equations.{sites_of_reg, sites_of_imm, sites_of_sh, sites_of_load, mentions_of_reg, mentions_of_imm, mentions_of_sh, mentions_of_load, flow_of_reg, flow_of_imm, flow_of_sh, flow_of_load, code_of_reg, code_of_imm, code_of_sh, code_of_load}
use Rattle.word_select.specs.Facts.{Facts, number_at, immediate_of, immediate_at, negated, negated_at, exponent_below, exponent_of, exponent_at}
use Rattle.word_select.specs.Selected.{right_side, either_side, right_product, operation, is_zero, turned, equal_by, comparison, shift_steps}
use Rattle.word_select.proofs.Above.{or_cases, has_here, has_there, has_cases, has_one, has_both}
use Rattle.word_select.proofs.FactLaws.{then_some, when_case}

-- each of these mentions is right
abbrev pub AllRight : List Mention → Type 0
AllRight ms = (scope : Scope) (own : ℕ) → list_all (is_right scope own) ms ≡ true

pub both_right : (ms ns : List Mention) (scope : Scope) (own : ℕ) → list_all (is_right scope own) ms ≡ true → list_all (is_right scope own) ns ≡ true → list_all (is_right scope own) (ms ++ ns) ≡ true
both_right ms ns scope own h k = list_all-append (is_right scope own) ms ns ∙ ap (λ b. b && list_all (is_right scope own) ns) h ∙ k

-- One operation, with these sites, which writes x, and reads variables of which P holds. It mentions nothing wrong, where Q holds.
pub record IsOperation (site : List Site) (Q : Type 0) (x : ℕ) (P : ℕ → Type 0) (stmt : Stmt) : Type 0 where
  pub sited : sites stmt ≡ site
  pub short : code stmt ≡ 1
  pub right : Q → AllRight (mentions stmt)
  pub reading : List ℕ
  pub flows : flow_of stmt ≡ sets x reading
  pub within : (z : ℕ) → has reading z ≡ true → P z

-- ---- immediates and amounts

pub immediate_right : (c : ℕ) (i : ℤ) → immediate_of c ≡ Some i → is_immediate i ≡ true
immediate_right c i h = by (nat_lt c 2048) (nat_lt c (2 ^ 64 - 2048)) (nat_lt c (2 ^ 64)) refl refl refl h
  where
    by : (b b2 b3 : Bool) → nat_lt c 2048 ≡ b → nat_lt c (2 ^ 64 - 2048) ≡ b2 → nat_lt c (2 ^ 64) ≡ b3 → (if b then Some (pos c) else if b2 then None else if b3 then Some (negsuc (2 ^ 64 - 1 - c)) else None) ≡ Some i → is_immediate i ≡ true
    by true b2 b3 e e2 e3 h = let is : pos c ≡ i = cc in subst (λ i. is_immediate i ≡ true) is e
    by false true b3 e e2 e3 h = absurd cc
    by false false false e e2 e3 h = absurd cc
    by false false true e e2 e3 h =
        let is : negsuc (2 ^ 64 - 1 - c) ≡ i = cc in
        let small : nat_lt (2 ^ 64 - 1 - c) 2048 ≡ true = small_of in
        subst (λ i. is_immediate i ≡ true) is small
      where
        small_of : nat_lt (2 ^ 64 - 1 - c) 2048 ≡ true
        small_of = decide (nat_lt (2 ^ 64 - 1 - c) 2048) refl
          where
            decide : (b : Bool) → nat_lt (2 ^ 64 - 1 - c) 2048 ≡ b → b ≡ true
            decide true k = refl
            decide false k = absurd (grind (arith, nat_tests))

pub immediate_at_right : (x : ℕ) (ps : Facts) (i : ℤ) → immediate_at x ps ≡ Some i → is_immediate i ≡ true
immediate_at_right x ps i e = let k = then_some immediate_of (number_at x ps) i e in immediate_right k.0 i k.2

negated_at_right : (x : ℕ) (ps : Facts) (i : ℤ) → negated_at x ps ≡ Some i → is_immediate i ≡ true
negated_at_right x ps i e = let k = then_some (λ c. immediate_of (negated c)) (number_at x ps) i e in immediate_right (negated k.0) i k.2

exponent_small : (k c n : ℕ) → exponent_below k c ≡ Some n → n < k
exponent_small zero c n h = absurd cc
exponent_small (suc k) c n h = by (nat_eq c (2 ^ k)) h (exponent_small k c n)
  where
    by : (b : Bool) → (if b then Some k else exponent_below k c) ≡ Some n → (exponent_below k c ≡ Some n → n < k) → n < suc k
    by true h others = let is : k ≡ n = cc in omega (arith, is)
    by false h others = let l = others h in omega (arith, l)

pub amount_right : (bound n : ℕ) → n < bound → nat_lt n bound ≡ true
amount_right bound n l = by (nat_lt n bound) refl
  where
    by : (b : Bool) → nat_lt n bound ≡ b → b ≡ true
    by true e = refl
    by false e = absurd (grind (arith, nat_tests))

exponent_at_right : (x : ℕ) (ps : Facts) (n : ℕ) → exponent_at x ps ≡ Some n → nat_lt n 64 ≡ true
exponent_at_right x ps n e = let k = then_some exponent_of (number_at x ps) n e in amount_right 64 n (exponent_small 64 k.0 n k.2)

and_nothing : (b : Bool) → b ≡ true → (b && true) ≡ true
and_nothing b h = ap (λ b. b && true) h

-- ---- one operation

abbrev Among : List ℕ → ℕ → Type 0
Among ys z = has ys z ≡ true

reg_is : (o : ROp) (x a b : ℕ) (Q : Type 0) (P : ℕ → Type 0) → ((z : ℕ) → has (a ∷ b ∷ []) z ≡ true → P z) → IsOperation [] Q x P (s.Reg o x a b)
reg_is o x a b Q P h = record {
  sited = sites_of_reg o x a b;
  short = code_of_reg o x a b;
  right = λ q scope own. ap (list_all (is_right scope own)) (mentions_of_reg o x a b);
  reading = a ∷ b ∷ [];
  flows = flow_of_reg o x a b;
  within = h;
}

pub imm_is : (o : IOp) (x a : ℕ) (i : ℤ) (Q : Type 0) (P : ℕ → Type 0) → is_immediate i ≡ true → ((z : ℕ) → has (a ∷ []) z ≡ true → P z) → IsOperation [] Q x P (s.Imm o x a i)
imm_is o x a i Q P r h = record {
  sited = sites_of_imm o x a i;
  short = code_of_imm o x a i;
  right = λ q scope own. ap (list_all (is_right scope own)) (mentions_of_imm o x a i) ∙ and_nothing (is_immediate i) r;
  reading = a ∷ [];
  flows = flow_of_imm o x a i;
  within = h;
}

sh_is : (o : ShiftOp) (x a n : ℕ) (Q : Type 0) (P : ℕ → Type 0) → (Q → nat_lt n (shifted_bits o) ≡ true) → ((z : ℕ) → has (a ∷ []) z ≡ true → P z) → IsOperation [] Q x P (s.Sh o x a n)
sh_is o x a n Q P r h = record {
  sited = sites_of_sh o x a n;
  short = code_of_sh o x a n;
  right = λ q scope own. ap (list_all (is_right scope own)) (mentions_of_sh o x a n) ∙ and_nothing (nat_lt n (shifted_bits o)) (r q);
  reading = a ∷ [];
  flows = flow_of_sh o x a n;
  within = h;
}

pub load_is : (o : LOp) (x a : ℕ) (i : ℤ) (Q : Type 0) (P : ℕ → Type 0) → is_immediate i ≡ true → ((z : ℕ) → has (a ∷ []) z ≡ true → P z) → IsOperation [] Q x P (s.Load o x a i)
load_is o x a i Q P r h = record {
  sited = sites_of_load o x a i;
  short = code_of_load o x a i;
  right = λ q scope own. ap (list_all (is_right scope own)) (mentions_of_load o x a i) ∙ and_nothing (is_immediate i) r;
  reading = a ∷ [];
  flows = flow_of_load o x a i;
  within = h;
}

-- the first of two operands, and the second
first_of : (a b z : ℕ) → has (a ∷ []) z ≡ true → has (a ∷ b ∷ []) z ≡ true
first_of a b z h = has_here a (b ∷ []) z (has_one a z h)

second_of : (a b z : ℕ) → has (b ∷ []) z ≡ true → has (a ∷ b ∷ []) z ≡ true
second_of a b z h = has_there a (b ∷ []) z h

turned_round : (a b z : ℕ) → has (b ∷ a ∷ []) z ≡ true → has (a ∷ b ∷ []) z ≡ true
turned_round a b z h = elim (has_cases b (a ∷ []) z h) [ inl e ↦ has_there a (b ∷ []) z (has_here b [] z e) | inr m ↦ first_of a b z m ]

module _ (x a b : ℕ) (ps : Facts) (Q : Type 0) where
  right_is : (i : IOp) (r : ROp) (P : ℕ → Type 0) → ((z : ℕ) → has (a ∷ b ∷ []) z ≡ true → P z) → IsOperation [] Q x P (right_side i r x a b ps)
  right_is i r P h = when_case (IsOperation [] Q x P) (immediate_at b ps) _ _ (λ n e. imm_is i x a n Q P (immediate_at_right b ps n e) (λ z k. h z (first_of a b z k))) (reg_is r x a b Q P h)

  right_product_is : (P : ℕ → Type 0) → ((z : ℕ) → has (a ∷ b ∷ []) z ≡ true → P z) → IsOperation [] Q x P (right_product x a b ps)
  right_product_is P h = when_case (IsOperation [] Q x P) (exponent_at b ps) _ _ (λ n e. sh_is shift_op.Slli x a n Q P (λ q. exponent_at_right b ps n e) (λ z k. h z (first_of a b z k))) (reg_is rop.Mul x a b Q P h)

module _ (x a b : ℕ) (ps : Facts) (Q : Type 0) where
  either_is : (i : IOp) (r : ROp) → IsOperation [] Q x (Among (a ∷ b ∷ [])) (either_side i r x a b ps)
  either_is i r = when_case (IsOperation [] Q x (Among (a ∷ b ∷ []))) (immediate_at b ps) _ _ (λ n e. imm_is i x a n Q (Among (a ∷ b ∷ [])) (immediate_at_right b ps n e) (first_of a b)) (right_is x b a ps Q i r (Among (a ∷ b ∷ [])) (turned_round a b))

  pub operation_is : (o : BinOp) → IsOperation [] Q x (Among (a ∷ b ∷ [])) (operation o x a b ps)
  operation_is bin_op.Add = either_is iop.Addi rop.Add
  operation_is bin_op.Sub = when_case (IsOperation [] Q x (Among (a ∷ b ∷ []))) (negated_at b ps) _ _ (λ n e. imm_is iop.Addi x a n Q (Among (a ∷ b ∷ [])) (negated_at_right b ps n e) (first_of a b)) (reg_is rop.Sub x a b Q (Among (a ∷ b ∷ [])) (λ z h. h))
  operation_is bin_op.Mul = when_case (IsOperation [] Q x (Among (a ∷ b ∷ []))) (exponent_at b ps) _ _ (λ n e. sh_is shift_op.Slli x a n Q (Among (a ∷ b ∷ [])) (λ q. exponent_at_right b ps n e) (first_of a b)) (right_product_is x b a ps Q (Among (a ∷ b ∷ [])) (turned_round a b))
  operation_is bin_op.And = either_is iop.Andi rop.And
  operation_is bin_op.Or = either_is iop.Ori rop.Or
  operation_is bin_op.Xor = either_is iop.Xori rop.Xor

-- ---- operations one after another

-- At most so many operations, of which the last writes x, and the others x or t. They read variables of which P holds, and what they wrote.
pub record AreOperations (Q : Type 0) (x t : ℕ) (P : ℕ → Type 0) (steps : ℕ) (ss : List Stmt) : Type 0 where
  pub silent : flat_map (λ s. s) (map sites ss) ≡ []
  pub short : sum_of (map code ss) ≤ steps
  pub right : Q → AllRight (flat_map (λ s. s) (map mentions ss))
  pub touched : (z : ℕ) → has (variables (all_in_turn (map flow_of ss))) z ≡ true → P z ⊎ ((z ≡ x) ⊎ (z ≡ t))
  pub live : (z : ℕ) (k : Exit → Bool) → live_before z (all_in_turn (map flow_of ss)) k ≡ true → P z ⊎ ((nat_eq z x ≡ false) × (k AtEnd ≡ true))

-- what is live before a variable is set
pub set_live : (x : ℕ) (ys : List ℕ) (z : ℕ) (k : Exit → Bool) → live_before z (sets x ys) k ≡ true → (has ys z ≡ true) ⊎ ((nat_eq z x ≡ false) × (k AtEnd ≡ true))
set_live x ys z k h = elim (or_cases (has ys z) _ h) [ inl m ↦ inl m | inr n ↦ inr (by (nat_eq z x) n) ]
  where
    by : (b : Bool) → (not (b || false) && k AtEnd) ≡ true → (b ≡ false) × (k AtEnd ≡ true)
    by true n = absurd (cc n)
    by false n = (refl, n)

pub set_variables : (x : ℕ) (ys : List ℕ) (z : ℕ) → has (ys ++ x ∷ []) z ≡ true → (has ys z ≡ true) ⊎ (z ≡ x)
set_variables x ys z h = elim (has_both ys (x ∷ []) z h) [ inl m ↦ inl m | inr n ↦ inr (has_one x z n) ]

more_are : (Q : Type 0) (x t y : ℕ) (P : ℕ → Type 0) (steps : ℕ) (stmt : Stmt) (ss : List Stmt) → (y ≡ x) ⊎ (y ≡ t) → IsOperation [] Q y P stmt → AreOperations Q x t (λ z. P z ⊎ (z ≡ y)) steps ss → AreOperations Q x t P (1 + steps) (stmt ∷ ss)
more_are Q x t y P steps stmt ss which one others = record {
  silent = ap (λ xs. xs ++ flat_map (λ s. s) (map sites ss)) one.sited ∙ others.silent;
  short = let a = one.short in let b = others.short in omega (arith, a, b);
  right = λ q scope own. both_right (mentions stmt) (flat_map (λ s. s) (map mentions ss)) scope own (one.right q scope own) (others.right q scope own);
  touched = λ z h. elim (has_both (variables (flow_of stmt)) (variables (all_in_turn (map flow_of ss))) z h) [
    | inl m ↦ own_touched z (set_variables y one.reading z (subst (λ f. has (variables f) z ≡ true) one.flows m))
    | inr n ↦ elim (others.touched z n) [ inl p ↦ elim p [ inl q ↦ inl q | inr e ↦ inr (written z e) ] | inr e ↦ inr e ]
  ];
  live = λ z k h. elim (set_live y one.reading z (with_end (live_before z (all_in_turn (map flow_of ss)) k) k) (subst (λ f. live_before z f (with_end (live_before z (all_in_turn (map flow_of ss)) k) k) ≡ true) one.flows h)) [
    | inl m ↦ inl (one.within z m)
    | inr n ↦ elim (others.live z k n.1) [ inl p ↦ elim p [ inl q ↦ inl q | inr e ↦ absurd (differ z e n.0) ] | inr e ↦ inr e ]
  ];
}
  where
    written : (z : ℕ) → z ≡ y → (z ≡ x) ⊎ (z ≡ t)
    written z e = elim which [ inl f ↦ inl (e ∙ f) | inr f ↦ inr (e ∙ f) ]

    own_touched : (z : ℕ) → (has one.reading z ≡ true) ⊎ (z ≡ y) → P z ⊎ ((z ≡ x) ⊎ (z ≡ t))
    own_touched z (inl m) = inl (one.within z m)
    own_touched z (inr e) = inr (written z e)

    differ : (z : ℕ) → z ≡ y → nat_eq z y ≡ false → ⊥
    differ z e n = grind (arith, nat_tests)

one_are : (Q : Type 0) (x t : ℕ) (P : ℕ → Type 0) (stmt : Stmt) → IsOperation [] Q x P stmt → AreOperations Q x t P 1 (stmt ∷ [])
one_are Q x t P stmt one = record {
  silent = ap (λ xs. xs ++ []) one.sited;
  short = let a = one.short in omega (arith, a);
  right = λ q scope own. both_right (mentions stmt) [] scope own (one.right q scope own) refl;
  touched = λ z h. elim (has_both (variables (flow_of stmt)) [] z h) [
    | inl m ↦ elim (set_variables x one.reading z (subst (λ f. has (variables f) z ≡ true) one.flows m)) [ inl n ↦ inl (one.within z n) | inr e ↦ inr (inl e) ]
    | inr n ↦ absurd (cc n)
  ];
  live = λ z k h. elim (set_live x one.reading z (with_end (k AtEnd) k) (subst (λ f. live_before z f (with_end (k AtEnd) k) ≡ true) one.flows h)) [ inl m ↦ inl (one.within z m) | inr n ↦ inr n ];
}

fewer : (Q : Type 0) (x t : ℕ) (P : ℕ → Type 0) (steps : ℕ) (ss : List Stmt) → AreOperations Q x t P steps ss → steps ≤ 3 → AreOperations Q x t P 3 ss
fewer Q x t P steps ss a l = record { silent = a.silent; short = let b = a.short in omega (arith, b, l); right = a.right; touched = a.touched; live = a.live }

-- a step on x itself, once it is written
on_itself : (o : IOp) (x : ℕ) (Q : Type 0) (P : ℕ → Type 0) → IsOperation [] Q x (λ z. P z ⊎ (z ≡ x)) (s.Imm o x x (pos 1))
on_itself o x Q P = imm_is o x x (pos 1) Q (λ z. P z ⊎ (z ≡ x)) refl (λ z h. inr (has_one x z h))

on_itself_again : (o : IOp) (x : ℕ) (Q : Type 0) (P : ℕ → Type 0) → IsOperation [] Q x (λ z. (P z ⊎ (z ≡ x)) ⊎ (z ≡ x)) (s.Imm o x x (pos 1))
on_itself_again o x Q P = imm_is o x x (pos 1) Q (λ z. (P z ⊎ (z ≡ x)) ⊎ (z ≡ x)) refl (λ z h. inr (has_one x z h))

equal_words : (x a b t : ℕ) (ps : Facts) (Q : Type 0) → AreOperations Q x t (Among (a ∷ b ∷ [])) 3 (either_side iop.Xori rop.Xor x a b ps ∷ (is_zero x ∷ []))
equal_words x a b t ps Q = let P = Among (a ∷ b ∷ []) in fewer Q x t P 2 _ (more_are Q x t x P 1 _ _ (inl refl) (either_is x a b ps Q iop.Xori rop.Xor) (one_are Q x t _ _ (on_itself iop.Sltiu x Q P))) (omega arith)

differ_words : (x a b t : ℕ) (ps : Facts) (Q : Type 0) → AreOperations Q x t (Among (a ∷ b ∷ [])) 3 (either_side iop.Xori rop.Xor x a b ps ∷ (is_zero x ∷ (turned x ∷ [])))
differ_words x a b t ps Q =
    let P = Among (a ∷ b ∷ []) in
    more_are Q x t x P 2 _ _ (inl refl) (either_is x a b ps Q iop.Xori rop.Xor) (more_are Q x t x _ 1 _ _ (inl refl) (on_itself iop.Sltiu x Q P) (one_are Q x t _ _ (on_itself_again iop.Xori x Q P)))

equal_are : (o : Option ℕ) (x a b t : ℕ) (ps : Facts) (Q : Type 0) → AreOperations Q x t (Among (a ∷ b ∷ [])) 3 (equal_by o x a b ps [])
equal_are (Some zero) x a b t ps Q = let P = Among (a ∷ b ∷ []) in fewer Q x t P 1 _ (one_are Q x t P _ (imm_is iop.Sltiu x a (pos 1) Q P refl (first_of a b))) (omega arith)
equal_are None x a b t ps Q = equal_words x a b t ps Q
equal_are (Some (suc n)) x a b t ps Q = equal_words x a b t ps Q

differ_are : (o : Option ℕ) (x a b t : ℕ) (ps : Facts) (Q : Type 0) → AreOperations Q x t (Among (a ∷ b ∷ [])) 3 (equal_by o x a b ps (turned x ∷ []))
differ_are (Some zero) x a b t ps Q =
    let P = Among (a ∷ b ∷ []) in fewer Q x t P 2 _ (more_are Q x t x P 1 _ _ (inl refl) (imm_is iop.Sltiu x a (pos 1) Q P refl (first_of a b)) (one_are Q x t _ _ (on_itself iop.Xori x Q P))) (omega arith)
differ_are None x a b t ps Q = differ_words x a b t ps Q
differ_are (Some (suc n)) x a b t ps Q = differ_words x a b t ps Q

pub comparison_are : (c : Cmp) (x a b t : ℕ) (ps : Facts) (Q : Type 0) → AreOperations Q x t (Among (a ∷ b ∷ [])) 3 (comparison c x a b ps)
comparison_are cmp.Eq x a b t ps Q = equal_are (number_at b ps) x a b t ps Q
comparison_are cmp.Ne x a b t ps Q = differ_are (number_at b ps) x a b t ps Q
comparison_are cmp.Lt x a b t ps Q = let P = Among (a ∷ b ∷ []) in fewer Q x t P 1 _ (one_are Q x t P _ (right_is x a b ps Q iop.Slti rop.Slt P (λ z h. h))) (omega arith)
comparison_are cmp.Ge x a b t ps Q = let P = Among (a ∷ b ∷ []) in fewer Q x t P 2 _ (more_are Q x t x P 1 _ _ (inl refl) (right_is x a b ps Q iop.Slti rop.Slt P (λ z h. h)) (one_are Q x t _ _ (on_itself iop.Xori x Q P))) (omega arith)
comparison_are cmp.Ltu x a b t ps Q = let P = Among (a ∷ b ∷ []) in fewer Q x t P 1 _ (one_are Q x t P _ (right_is x a b ps Q iop.Sltiu rop.Sltu P (λ z h. h))) (omega arith)
comparison_are cmp.Geu x a b t ps Q = let P = Among (a ∷ b ∷ []) in fewer Q x t P 2 _ (more_are Q x t x P 1 _ _ (inl refl) (right_is x a b ps Q iop.Sltiu rop.Sltu P (λ z h. h)) (one_are Q x t _ _ (on_itself iop.Xori x Q P))) (omega arith)

pub shift_are : (o : ShOp) (t x a n : ℕ) → AreOperations (nat_lt n 64 ≡ true) x t (Among (a ∷ [])) 3 (shift_steps t o x a n)
shift_are sh_op.Shl t x a n = let Q = nat_lt n 64 ≡ true in let P = Among (a ∷ []) in fewer Q x t P 1 _ (one_are Q x t P _ (sh_is shift_op.Slli x a n Q P (λ q. q) (λ z h. h))) (omega arith)
shift_are sh_op.Shr t x a n = let Q = nat_lt n 64 ≡ true in let P = Among (a ∷ []) in fewer Q x t P 1 _ (one_are Q x t P _ (sh_is shift_op.Srli x a n Q P (λ q. q) (λ z h. h))) (omega arith)
shift_are sh_op.Sar t x a n = let Q = nat_lt n 64 ≡ true in let P = Among (a ∷ []) in fewer Q x t P 1 _ (one_are Q x t P _ (sh_is shift_op.Srai x a n Q P (λ q. q) (λ z h. h))) (omega arith)
shift_are sh_op.Ror t x a n = by (nat_eq n 0) refl
  where
    Q : Type 0
    Q = nat_lt n 64 ≡ true

    P : ℕ → Type 0
    P = Among (a ∷ [])

    by : (b : Bool) → nat_eq n 0 ≡ b → AreOperations Q x t P 3 (if b then s.Imm iop.Ori x a (pos 0) ∷ [] else s.Sh shift_op.Srli t a n ∷ s.Sh shift_op.Slli x a (64 - n) ∷ s.Reg rop.Or x t x ∷ [])
    by true e = fewer Q x t P 1 _ (one_are Q x t P _ (imm_is iop.Ori x a (pos 0) Q P refl (λ z h. h))) (omega arith)
    by false e =
        let some : 1 ≤ n = grind (arith, nat_tests) in
        more_are Q x t t P 2 _ _ (inr refl) (sh_is shift_op.Srli t a n Q P (λ q. q) (λ z h. h))
        (more_are Q x t x _ 1 _ _ (inl refl) (sh_is shift_op.Slli x a (64 - n) Q (λ z. P z ⊎ (z ≡ t)) (λ q. amount_right 64 (64 - n) (omega (arith, some))) (λ z h. inl h))
        (one_are Q x t _ _ (reg_is rop.Or x t x Q (λ z. (P z ⊎ (z ≡ t)) ⊎ (z ≡ x)) (λ z h. elim (has_cases t (x ∷ []) z h) [ inl e ↦ inl (inr e) | inr m ↦ inr (has_one x z m) ]))))
