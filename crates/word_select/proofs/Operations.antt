-- The operations of a step compute its word.
use Rattle.std.proofs.Common.{◌≡◌, ◌≢◌, ℕ, zero, suc, ◌+◌, ◌-◌, ◌*◌, ◌/◌, ◌%◌, ◌^◌, ◌≤◌, Bool, true, false, List, [], ◌∷◌, map, Option, Some, None, arith, refl, sym, ap, subst, ◌∙◌}
use Rattle.std.specs.Prelude.{ℤ, pos, nat_eq, nat_lt, not, bit_and, bit_or, bit_xor, if◌then◌else◌}
use Rattle.std.specs.Int.Bits.{or_zero_r, or_add_and, and_self, xor_self, xor_assoc, xor_zero_l, xor_zero_r}
use Rattle.std.proofs.lemmas.Bool.Decides.{nat_tests}
use Rattle.std.proofs.lemmas.Nat.{and_comm, and_assoc, and_mask, or_comm, xor_comm}
use Rattle.std.proofs.Math.Nat.{mul_comm, add_comm}
use Rattle.pan_base.specs.Words.{operate, shift, truth, compare}
use Rattle.pan_base.specs.declared.operators.BinOp.{BinOp}
use Rattle.pan_base.specs.declared.operators.BinOp.TheVariants as bin_op
use Rattle.pan_base.specs.declared.operators.ShOp.{ShOp}
use Rattle.pan_base.specs.declared.operators.ShOp.TheVariants as sh_op
use Rattle.pan_base.specs.declared.operators.Cmp.{Cmp}
use Rattle.pan_base.specs.declared.operators.Cmp.TheVariants as cmp
use Rattle.pan_base.specs.declared.operators.ROp.{ROp}
use Rattle.pan_base.specs.declared.operators.ROp.TheVariants as rop
use Rattle.pan_base.specs.declared.operators.IOp.{IOp}
use Rattle.pan_base.specs.declared.operators.IOp.TheVariants as iop
use Rattle.pan_base.specs.declared.operators.ShiftOp.{ShiftOp}
use Rattle.pan_base.specs.declared.operators.ShiftOp.TheVariants as shift_op
use Rattle.pan_control.specs.Control.{Normal, and_then, in_turn}
use Rattle.pan_stage.specs.Data.{World, Callee, Meaning}
use Rattle.pan_stage.specs.Locals.{Locals, write}
use Rattle.pan_stage.proofs.Agreeing.{write_same, write_other}
use Rattle.pan_stage.proofs.Rows.{then_normal}
use Rattle.pan_stage.proofs.Words.{done}
use Rattle.pan_base.specs.Results.{r_result, i_result, sh_result}
use Rattle.word_lang.specs.Meaning.{run}
use Rattle.word_lang.specs.declared.syntax.Stmt.{Stmt}
use Rattle.word_lang.specs.declared.syntax.Stmt.TheVariants as s
use Rattle.word_lang.proofs.Equations.{run_reg, run_imm, run_sh}
use Rattle.word_select.specs.Facts.{Facts, Holds, number_at, immediate_at, negated_at, exponent_at}
use Rattle.word_select.specs.Selected.{either_side, right_side, right_product, operation, is_zero, turned, equal_by, comparison, shift_steps}
use Rattle.word_select.proofs.FactLaws.{when_case, number_holds, IsImmediate, immediate_holds, negated_holds, exponent_holds}

-- ---- rotations by 0

or_low : (a : ℕ) → bit_or a (a % 2 ^ 64) ≡ a
or_low a =
    let both : bit_and a (a % 2 ^ 64) ≡ a % 2 ^ 64 =
    ap (bit_and a) (sym (and_mask a 64)) ∙ sym (and_assoc (2 ^ 64 - 1) a a) ∙ ap (λ n. bit_and n (2 ^ 64 - 1)) (and_self a) ∙ and_mask a 64 in
    let all = or_add_and a (a % 2 ^ 64) in
    omega (arith, both, all)

rotated_by_none : (a : ℕ) → shift sh_op.Ror a 0 ≡ a
rotated_by_none a =
    let one : a / 2 ^ 0 ≡ a = omega arith in
    let other : a * 2 ^ 0 % 2 ^ 64 ≡ a % 2 ^ 64 = omega arith in
    ap (λ m. bit_or m (a * 2 ^ 0 % 2 ^ 64)) one ∙ ap (bit_or a) other ∙ or_low a

-- ---- comparisons

xor_zero : (a b : ℕ) → bit_xor a b ≡ 0 → a ≡ b
xor_zero a b h = sym (xor_zero_r a) ∙ ap (bit_xor a) (sym (xor_self b)) ∙ sym (xor_assoc a b b) ∙ ap (λ n. bit_xor n b) h ∙ xor_zero_l b

abbrev one_if : Bool → ℕ
one_if b = if b then 1 else 0

-- 1 exactly where two words are the same
same_word : (a b : ℕ) → one_if (nat_lt (bit_xor a b) 1) ≡ truth cmp.Eq a b
same_word a b = by (nat_lt (bit_xor a b) 1) (nat_eq a b) refl refl
  where
    by : (c e : Bool) → nat_lt (bit_xor a b) 1 ≡ c → nat_eq a b ≡ e → one_if c ≡ one_if e
    by true true p q = refl
    by false false p q = refl
    by true false p q = let z : bit_xor a b ≡ 0 = grind (arith, nat_tests) in let k = xor_zero a b z in absurd (grind (arith, nat_tests))
    by false true p q = let k : a ≡ b = grind (arith, nat_tests) in let z : bit_xor a b ≡ 0 = ap (λ n. bit_xor a n) (sym k) ∙ xor_self a in absurd (grind (arith, nat_tests))

-- 1 exactly where a word is 0
no_difference : (a : ℕ) → one_if (nat_lt a 1) ≡ truth cmp.Eq a 0
no_difference a = by (nat_lt a 1) (nat_eq a 0) refl refl
  where
    by : (c e : Bool) → nat_lt a 1 ≡ c → nat_eq a 0 ≡ e → one_if c ≡ one_if e
    by true true p q = refl
    by false false p q = refl
    by true false p q = absurd (grind (arith, nat_tests))
    by false true p q = absurd (grind (arith, nat_tests))

turned_truth : (b : Bool) → bit_xor (one_if b) 1 ≡ one_if (not b)
turned_truth true = refl
turned_truth false = refl

module _ (names : List (List ℕ)) (d : ℕ) (callee : Callee (List ℕ) (List ℕ)) where
  abbrev pub run' : Stmt → Meaning Locals (List ℕ)
  run' = run names d callee

  -- in a step the statement writes the word n to x
  pub record One (stmt : Stmt) (x n : ℕ) (u : Locals) : Type 0 where
    pub at : (did : ℕ) (w : World) → run' stmt u (done did w) ≡ Normal (write x n u) (done (did + 16) w)

  one_reg : (o : ROp) (x a b n : ℕ) (u : Locals) → r_result o (u a) (u b) ≡ n → One (s.Reg o x a b) x n u
  one_reg o x a b n u e = record { at = λ did w. run_reg names d callee o x a b u (done did w) ∙ ap (λ n. Normal (write x n u) (done (did + 16) w)) e }

  one_imm : (o : IOp) (x a n : ℕ) (i : ℤ) (u : Locals) → i_result o (u a) i ≡ n → One (s.Imm o x a i) x n u
  one_imm o x a n i u e = record { at = λ did w. run_imm names d callee o x a i u (done did w) ∙ ap (λ n. Normal (write x n u) (done (did + 16) w)) e }

  one_sh : (o : ShiftOp) (x a i n : ℕ) (u : Locals) → sh_result o (u a) i ≡ n → One (s.Sh o x a i) x n u
  one_sh o x a i n u e = record { at = λ did w. run_sh names d callee o x a i u (done did w) ∙ ap (λ n. Normal (write x n u) (done (did + 16) w)) e }

  -- ---- one operation

  right_one : (i : IOp) (r : ROp) (f : ℕ → ℕ → ℕ) (x a b : ℕ) (ps : Facts) (u : Locals) → Holds ps u → ((m c : ℕ) (n : ℤ) → IsImmediate c n → i_result i m n ≡ f m c) → ((m c : ℕ) → r_result r m c ≡ f m c)
      → One (right_side i r x a b ps) x (f (u a) (u b)) u
  right_one i r f x a b ps u h is rs =
      when_case (λ stmt. One stmt x (f (u a) (u b)) u) (immediate_at b ps) _ _
      (λ n e. one_imm i x a (f (u a) (u b)) n u (is (u a) (u b) n (immediate_holds ps b n u e h)))
      (one_reg r x a b (f (u a) (u b)) u (rs (u a) (u b)))

  either_one : (i : IOp) (r : ROp) (f : ℕ → ℕ → ℕ) (x a b : ℕ) (ps : Facts) (u : Locals) → Holds ps u → ((m c : ℕ) (n : ℤ) → IsImmediate c n → i_result i m n ≡ f m c) → ((m c : ℕ) → r_result r m c ≡ f m c) → ((m c : ℕ) → f m c ≡ f c m)
      → One (either_side i r x a b ps) x (f (u a) (u b)) u
  either_one i r f x a b ps u h is rs comm =
      when_case (λ stmt. One stmt x (f (u a) (u b)) u) (immediate_at b ps) _ _
      (λ n e. one_imm i x a (f (u a) (u b)) n u (is (u a) (u b) n (immediate_holds ps b n u e h)))
      (subst (λ m. One (right_side i r x b a ps) x m u) (comm (u b) (u a)) (right_one i r f x b a ps u h is rs))

  right_product_one : (x a b : ℕ) (ps : Facts) (u : Locals) → Holds ps u → One (right_product x a b ps) x (operate bin_op.Mul (u a) (u b)) u
  right_product_one x a b ps u h =
      when_case (λ stmt. One stmt x (operate bin_op.Mul (u a) (u b)) u) (exponent_at b ps) _ _
      (λ n e. one_sh shift_op.Slli x a n (operate bin_op.Mul (u a) (u b)) u (ap (λ c. u a * c % 2 ^ 64) (sym (exponent_holds ps b n u e h))))
      (one_reg rop.Mul x a b (operate bin_op.Mul (u a) (u b)) u refl)

  pub operation_one : (o : BinOp) (x a b : ℕ) (ps : Facts) (u : Locals) → Holds ps u → One (operation o x a b ps) x (operate o (u a) (u b)) u
  operation_one bin_op.Add x a b ps u h = either_one iop.Addi rop.Add (operate bin_op.Add) x a b ps u h (λ m c n is. is.sum m) (λ m c. refl) (λ m c. ap (λ n. n % 2 ^ 64) (add_comm m c))
  operation_one bin_op.Sub x a b ps u h =
      when_case (λ stmt. One stmt x (operate bin_op.Sub (u a) (u b)) u) (negated_at b ps) _ _
      (λ n e. one_imm iop.Addi x a (operate bin_op.Sub (u a) (u b)) n u (negated_holds ps b n u e h (u a)))
      (one_reg rop.Sub x a b (operate bin_op.Sub (u a) (u b)) u refl)
  operation_one bin_op.Mul x a b ps u h =
      when_case (λ stmt. One stmt x (operate bin_op.Mul (u a) (u b)) u) (exponent_at b ps) _ _
      (λ n e. one_sh shift_op.Slli x a n (operate bin_op.Mul (u a) (u b)) u (ap (λ c. u a * c % 2 ^ 64) (sym (exponent_holds ps b n u e h))))
      (subst (λ m. One (right_product x b a ps) x m u) (ap (λ n. n % 2 ^ 64) (mul_comm (u b) (u a))) (right_product_one x b a ps u h))
  operation_one bin_op.And x a b ps u h = either_one iop.Andi rop.And (operate bin_op.And) x a b ps u h (λ m c n is. ap (bit_and m) is.word) (λ m c. refl) and_comm
  operation_one bin_op.Or x a b ps u h = either_one iop.Ori rop.Or (operate bin_op.Or) x a b ps u h (λ m c n is. ap (bit_or m) is.word) (λ m c. refl) or_comm
  operation_one bin_op.Xor x a b ps u h = either_one iop.Xori rop.Xor (operate bin_op.Xor) x a b ps u h (λ m c n is. ap (bit_xor m) is.word) (λ m c. refl) xor_comm

  -- ---- operations one after another

  abbrev pub rows : List Stmt → Meaning Locals (List ℕ)
  rows ss = in_turn (map run' ss)

  -- in at most so many steps the statements write the word n to x, and none but x and t otherwise
  pub record Many (ss : List Stmt) (steps x n t : ℕ) (u : Locals) : Type 0 where
    pub at : (did : ℕ) (w : World) → (u' : Locals) × (k : ℕ) × (k ≤ 16 * steps) × (rows ss u (done did w) ≡ Normal u' (done (did + k) w)) × (u' x ≡ n) × ((y : ℕ) → y ≢ x → y ≢ t → u' y ≡ u y)

  many_one : (stmt : Stmt) (steps x n t : ℕ) (u : Locals) → 1 ≤ steps → One stmt x n u → Many (stmt ∷ []) steps x n t u
  many_one stmt steps x n t u l one = record {
    at = λ did w. (write x n u, 16, omega (arith, l), then_normal (run' stmt u (done did w)) ∙ one.at did w, write_same x n u, λ y ne ne2. write_other x n y u ne);
  }

  many_more : (stmt : Stmt) (ss : List Stmt) (steps z m x n t : ℕ) (u : Locals) → One stmt z m u → Many ss steps x n t (write z m u) → ((y : ℕ) → y ≢ x → y ≢ t → y ≢ z) → Many (stmt ∷ ss) (1 + steps) x n t u
  many_more stmt ss steps z m x n t u one more other = record {
    at = λ did w.
        let q = more.at (did + 16) w in
        let q2 = q.2 in
        (q.0, 16 + q.1, omega (arith, q2), ap (λ o. and_then o (rows ss)) (one.at did w) ∙ q.3 ∙ ap (λ n. Normal q.0 (done n w)) (omega arith), q.4, λ y ne ne2. q.5 y ne ne2 ∙ write_other z m y u (other y ne ne2));
  }

  -- a step on x itself, after another that wrote it
  on_itself : (o : IOp) (x m n : ℕ) (i : ℤ) (u : Locals) → i_result o m i ≡ n → One (s.Imm o x x i) x n (write x m u)
  on_itself o x m n i u e = one_imm o x x n i (write x m u) (ap (λ m. i_result o m i) (write_same x m u) ∙ e)

  abbrev less : ℕ → ℕ → Bool
  less a b = compare cmp.Lt a b

  abbrev below : ℕ → ℕ → Bool
  below a b = compare cmp.Ltu a b

  equal_words : (x a b t : ℕ) (ps : Facts) (u : Locals) → Holds ps u → Many (either_side iop.Xori rop.Xor x a b ps ∷ (is_zero x ∷ [])) 2 x (truth cmp.Eq (u a) (u b)) t u
  equal_words x a b t ps u h =
      let m = bit_xor (u a) (u b) in
      many_more _ _ 1 x m x (truth cmp.Eq (u a) (u b)) t u
      (either_one iop.Xori rop.Xor (operate bin_op.Xor) x a b ps u h (λ m c n is. ap (bit_xor m) is.word) (λ m c. refl) xor_comm)
      (many_one _ 1 x _ t (write x m u) (omega arith) (on_itself iop.Sltiu x m (truth cmp.Eq (u a) (u b)) (pos 1) u (same_word (u a) (u b)))) (λ y ne ne2. ne)

  differ_words : (x a b t : ℕ) (ps : Facts) (u : Locals) → Holds ps u → Many (either_side iop.Xori rop.Xor x a b ps ∷ (is_zero x ∷ (turned x ∷ []))) 3 x (truth cmp.Ne (u a) (u b)) t u
  differ_words x a b t ps u h =
      let m = bit_xor (u a) (u b) in
      let e = truth cmp.Eq (u a) (u b) in
      many_more _ _ 2 x m x (truth cmp.Ne (u a) (u b)) t u
      (either_one iop.Xori rop.Xor (operate bin_op.Xor) x a b ps u h (λ m c n is. ap (bit_xor m) is.word) (λ m c. refl) xor_comm)
      (many_more _ _ 1 x e x (truth cmp.Ne (u a) (u b)) t (write x m u) (on_itself iop.Sltiu x m e (pos 1) u (same_word (u a) (u b)))
      (many_one _ 1 x _ t (write x e (write x m u)) (omega arith) (on_itself iop.Xori x e (truth cmp.Ne (u a) (u b)) (pos 1) (write x m u) (turned_truth (nat_eq (u a) (u b))))) (λ y ne ne2. ne)) (λ y ne ne2. ne)

  more_steps : (ss : List Stmt) (x n t : ℕ) (u : Locals) → Many ss 2 x n t u → Many ss 3 x n t u
  more_steps ss x n t u m = record { at = λ did w. let r = m.at did w in let l = r.2 in (r.0, r.1, omega (arith, l), r.3, r.4, r.5) }

  -- by the number that the second is known to have
  equal_many : (o : Option ℕ) (x a b t : ℕ) (ps : Facts) (u : Locals) → ((c : ℕ) → o ≡ Some c → u b ≡ c) → Holds ps u → Many (equal_by o x a b ps []) 2 x (truth cmp.Eq (u a) (u b)) t u
  equal_many (Some zero) x a b t ps u is h =
      many_one _ 2 x _ t u (omega arith) (one_imm iop.Sltiu x a (truth cmp.Eq (u a) (u b)) (pos 1) u (no_difference (u a) ∙ ap (truth cmp.Eq (u a)) (sym (is 0 refl))))
  equal_many None x a b t ps u is h = equal_words x a b t ps u h
  equal_many (Some (suc n)) x a b t ps u is h = equal_words x a b t ps u h

  differ_many : (o : Option ℕ) (x a b t : ℕ) (ps : Facts) (u : Locals) → ((c : ℕ) → o ≡ Some c → u b ≡ c) → Holds ps u → Many (equal_by o x a b ps (turned x ∷ [])) 3 x (truth cmp.Ne (u a) (u b)) t u
  differ_many (Some zero) x a b t ps u is h =
      let e = truth cmp.Eq (u a) (u b) in
      many_more _ _ 2 x e x (truth cmp.Ne (u a) (u b)) t u (one_imm iop.Sltiu x a e (pos 1) u (no_difference (u a) ∙ ap (truth cmp.Eq (u a)) (sym (is 0 refl))))
      (many_one _ 2 x _ t (write x e u) (omega arith) (on_itself iop.Xori x e (truth cmp.Ne (u a) (u b)) (pos 1) u (turned_truth (nat_eq (u a) (u b))))) (λ y ne ne2. ne)
  differ_many None x a b t ps u is h = differ_words x a b t ps u h
  differ_many (Some (suc n)) x a b t ps u is h = differ_words x a b t ps u h

  pub comparison_many : (c : Cmp) (x a b t : ℕ) (ps : Facts) (u : Locals) → Holds ps u → Many (comparison c x a b ps) 3 x (truth c (u a) (u b)) t u
  comparison_many cmp.Eq x a b t ps u h = more_steps _ x _ t u (equal_many (number_at b ps) x a b t ps u (λ c e. number_holds ps b c u e h) h)
  comparison_many cmp.Ne x a b t ps u h = differ_many (number_at b ps) x a b t ps u (λ c e. number_holds ps b c u e h) h
  comparison_many cmp.Lt x a b t ps u h = many_one _ 3 x _ t u (omega arith) (right_one iop.Slti rop.Slt (truth cmp.Lt) x a b ps u h (λ m c n is. ap (truth cmp.Lt m) is.word) (λ m c. refl))
  comparison_many cmp.Ge x a b t ps u h =
      let m = truth cmp.Lt (u a) (u b) in
      many_more _ _ 2 x m x (truth cmp.Ge (u a) (u b)) t u (right_one iop.Slti rop.Slt (truth cmp.Lt) x a b ps u h (λ m c n is. ap (truth cmp.Lt m) is.word) (λ m c. refl))
      (many_one _ 2 x _ t (write x m u) (omega arith) (on_itself iop.Xori x m (truth cmp.Ge (u a) (u b)) (pos 1) u (turned_truth (less (u a) (u b))))) (λ y ne ne2. ne)
  comparison_many cmp.Ltu x a b t ps u h = many_one _ 3 x _ t u (omega arith) (right_one iop.Sltiu rop.Sltu (truth cmp.Ltu) x a b ps u h (λ m c n is. ap (truth cmp.Ltu m) is.word) (λ m c. refl))
  comparison_many cmp.Geu x a b t ps u h =
      let m = truth cmp.Ltu (u a) (u b) in
      many_more _ _ 2 x m x (truth cmp.Geu (u a) (u b)) t u (right_one iop.Sltiu rop.Sltu (truth cmp.Ltu) x a b ps u h (λ m c n is. ap (truth cmp.Ltu m) is.word) (λ m c. refl))
      (many_one _ 2 x _ t (write x m u) (omega arith) (on_itself iop.Xori x m (truth cmp.Geu (u a) (u b)) (pos 1) u (turned_truth (below (u a) (u b))))) (λ y ne ne2. ne)

  -- ---- shifts; the temporary of a rotation is none of its variables

  pub shift_many : (o : ShOp) (t x a n : ℕ) (u : Locals) → a ≢ t → t ≢ x → Many (shift_steps t o x a n) 3 x (shift o (u a) n) t u
  shift_many sh_op.Shl t x a n u ne ne2 = many_one _ 3 x _ t u (omega arith) (one_sh shift_op.Slli x a n _ u refl)
  shift_many sh_op.Shr t x a n u ne ne2 = many_one _ 3 x _ t u (omega arith) (one_sh shift_op.Srli x a n _ u refl)
  shift_many sh_op.Sar t x a n u ne ne2 = many_one _ 3 x _ t u (omega arith) (one_sh shift_op.Srai x a n _ u refl)
  shift_many sh_op.Ror t x a n u ne ne2 = by (nat_eq n 0) refl
    where
      whole : n ≡ 0 → bit_or (u a) 0 ≡ shift sh_op.Ror (u a) n
      whole none = or_zero_r (u a) ∙ sym (rotated_by_none (u a)) ∙ ap (shift sh_op.Ror (u a)) (sym none)

      halves : (m : ℕ) → (64 - n) % 64 ≡ m → Many (s.Sh shift_op.Srli t a n ∷ s.Sh shift_op.Slli x a m ∷ s.Reg rop.Or x t x ∷ []) 3 x (shift sh_op.Ror (u a) n) t u
      halves m is =
          let low = shift sh_op.Shr (u a) n in
          let high = shift sh_op.Shl (u a) m in
          let u1 = write t low u in
          let u2 = write x high u1 in
          many_more _ _ 2 t low x (shift sh_op.Ror (u a) n) t u (one_sh shift_op.Srli t a n low u refl)
          (many_more _ _ 1 x high x (shift sh_op.Ror (u a) n) t u1 (one_sh shift_op.Slli x a m high u1 (ap (λ l. shift sh_op.Shl l m) (write_other t low a u ne)))
          (many_one _ 1 x _ t u2 (omega arith) (one_reg rop.Or x t x (shift sh_op.Ror (u a) n) u2
          (ap (λ l. bit_or l (u2 x)) (write_other x high t u1 ne2 ∙ write_same t low u) ∙ ap (bit_or low) (write_same x high u1) ∙ ap (λ k. bit_or low (shift sh_op.Shl (u a) k)) (sym is))))
          (λ y ne ne2. ne)) (λ y ne ne2. ne2)

      by : (b : Bool) → nat_eq n 0 ≡ b
          → Many (if b then s.Imm iop.Ori x a (pos 0) ∷ [] else s.Sh shift_op.Srli t a n ∷ s.Sh shift_op.Slli x a (64 - n) ∷ s.Reg rop.Or x t x ∷ []) 3 x (shift sh_op.Ror (u a) n) t u
      by true e = many_one _ 3 x _ t u (omega arith) (one_imm iop.Ori x a (shift sh_op.Ror (u a) n) (pos 0) u (whole (grind (arith, nat_tests))))
      by false e = let some : 1 ≤ n = grind (arith, nat_tests) in halves (64 - n) (omega (arith, some))
