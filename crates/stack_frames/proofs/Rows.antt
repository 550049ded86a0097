-- Rows of code that end normally: what they take and what they leave.
use Rattle.std.proofs.Common.{◌≡◌, ℕ, zero, suc, ◌+◌, ◌*◌, ◌/◌, ◌%◌, ◌^◌, ◌<◌, ◌≤◌, List, [], ◌∷◌, ◌++◌, map, length, Some, Bool, true, false, refl, sym, ap, ◌∙◌, subst, arith}
use Rattle.std.specs.Prelude.{nat_eq, nat_lt, not, ◌&&◌, if◌then◌else◌}
use Rattle.std.proofs.lemmas.Bool.Decides.{nat_tests}
use Rattle.pan_base.specs.Results.{plus, upper, low_half}
use Rattle.pan_base.specs.Words.{IsWord}
use Rattle.pan_base.specs.declared.operators.IOp.TheVariants.{Addi, Addiw}
use Rattle.pan_base.specs.declared.operators.ShiftOp.TheVariants.{Slli}
use Rattle.pan_base.specs.declared.operators.UOp.TheVariants.{Lui}
use Rattle.pan_control.specs.World.{tolled}
use Rattle.pan_control.specs.Control.{Normal, and_then, in_turn, with_value}
use Rattle.pan_stage.proofs.Rows.{in_turn_append, then_normal}
use Rattle.riscv_isa.specs.declared.instr.Instr.{Instr}
use Rattle.riscv_isa.specs.declared.instr.Instr.TheVariants as instr
use Rattle.riscv_isa.specs.Step.{State, Runs, reg, with_reg, next, act}
use Rattle.stack_lang.specs.Frame.{Frame, with_register, with_slot}
use Rattle.stack_lang.specs.Shown.{hide}
use Rattle.stack_lang.specs.Meaning.{World, Does, Callee, ran, run_layer, run}
use Rattle.stack_lang.specs.declared.syntax.Stmt.{Stmt, Stmt-F, roll-Stmt, map-Stmt, fold-Stmt, fold-roll-Stmt}
use Rattle.stack_lang.specs.declared.syntax.Stmt.TheVariants as stack
use Rattle.stack_lang.specs.declared.syntax.Stmt.TheOpen as open_stack
use Rattle.stack_frames.specs.Constants.{low, high, with_low, zeros, odd, is_upper, shifted, shifted_by, constant_in, constant}
use Rattle.stack_frames.proofs.Masked.{IsUsable, reg_written, reg_twice}
use Rattle.stack_frames.proofs.Words.{magnitude, high_is_word, high_and_low, high_smaller, half_near, upper_and_low, upper_alone, high_alone, low_alone}
use Rattle.stack_frames.proofs.Zeros.{shifted_word, shifted_smaller, high_back, and_twelve, upper_twelve}
use Rattle.riscv_isa.proofs.Registers.{zero_is}

module _ (size d : ℕ) (callee : Callee) where
  -- what a statement does, at its variant
  pub stack_at : (y : Stmt-F Stmt) (s : Stmt) → roll-Stmt y ≡ s → (v : Frame) (w : World) → run size d callee s v w ≡ run_layer size d callee (map-Stmt Stmt Does (run size d callee) y) v w
  unfolding run
  stack_at y s is v w = ap (λ m. m v w) (ap (fold-Stmt Does (run_layer size d callee)) (sym is) ∙ fold-roll-Stmt Does (run_layer size d callee) y)

  abbrev pub runs : List Stmt → Does
  runs ss = in_turn (map (run size d callee) ss)

  pub runs_append : (ss ts : List Stmt) (v : Frame) (w : World) → runs (ss ++ ts) v w ≡ and_then (runs ss v w) (runs ts)
  runs_append ss ts v w = ap (λ ms. in_turn ms v w) (mapped ss) ∙ in_turn_append (map (run size d callee) ss) (map (run size d callee) ts) v w
    where
      mapped : (ss : List Stmt) → map (run size d callee) (ss ++ ts) ≡ map (run size d callee) ss ++ map (run size d callee) ts
      mapped [] = refl
      mapped (s ∷ ss) = ap (λ ms. run size d callee s ∷ ms) (mapped ss)

  pub runs_one : (s : Stmt) (v : Frame) (w : World) → runs (s ∷ []) v w ≡ run size d callee s v w
  runs_one s v w = then_normal (run size d callee s v w)

  -- the code ends normally with at most so many instructions, and then P holds
  pub record Ran (limit : ℕ) (ss : List Stmt) (v : Frame) (P : Frame → Type 0) : Type 0 where
    pub after : Frame
    pub cost : ℕ
    pub le : cost ≤ limit
    pub is : (w : World) → runs ss v w ≡ Normal after (tolled cost w)
    pub holds : P after

  tolled_twice : (a b : ℕ) (w : World) → tolled b (tolled a w) ≡ tolled (a + b) w
  tolled_twice a b w = ap (λ (t : ℕ). record w { toll = t }) (let e : w.toll + a + b ≡ w.toll + (a + b) = omega arith in e)

  no_toll : (v : Frame) (w : World) → runs [] v w ≡ Normal v (tolled 0 w)
  no_toll v w = ap (λ (t : ℕ). runs [] v (record w { toll = t })) (let e : w.toll ≡ w.toll + 0 = omega arith in e)

  pub ran_none : (v : Frame) (P : Frame → Type 0) → P v → Ran 0 [] v P
  ran_none v P p = record { after = v; cost = 0; le = omega arith; is = no_toll v; holds = p }

  pub ran_append : (l l' : ℕ) (ss ts : List Stmt) (v : Frame) (P Q : Frame → Type 0) → Ran l ss v P → ((v' : Frame) → P v' → Ran l' ts v' Q) → Ran (l + l') (ss ++ ts) v Q
  ran_append l l' ss ts v P Q a f =
      let b = f a.after a.holds in
      record {
        after = b.after;
        cost = a.cost + b.cost;
        le = let x = a.le in let y = b.le in omega (arith, x, y);
        is = λ w. runs_append ss ts v w ∙ ap (λ o. and_then o (runs ts)) (a.is w) ∙ b.is (tolled a.cost w) ∙ ap (λ w. Normal b.after w) (tolled_twice a.cost b.cost w);
        holds = b.holds;
      }

  pub ran_within : (l l' : ℕ) (ss : List Stmt) (v : Frame) (P Q : Frame → Type 0) → l ≤ l' → ((v' : Frame) → P v' → Q v') → Ran l ss v P → Ran l' ss v Q
  ran_within l l' ss v P Q le f a = record { after = a.after; cost = a.cost; le = let x = a.le in omega (arith, le, x); is = a.is; holds = f a.after a.holds }

  pub ran_one : (c limit : ℕ) (s : Stmt) (v v' : Frame) (P : Frame → Type 0) → c ≤ limit → ((w : World) → run size d callee s v w ≡ Normal v' (tolled c w)) → P v' → Ran limit (s ∷ []) v P
  ran_one c limit s v v' P le e p = record { after = v'; cost = c; le = le; is = λ w. runs_one s v w ∙ e w; holds = p }

  -- ---- single statements

  run_plain : (i : Instr) (v : Frame) (w : World) → run size d callee (stack.Plain i) v w ≡ ran v (act i v.seen) (tolled 1 w)
  run_plain i v w = stack_at (open_stack.Plain i) (stack.Plain i) (stack.rolls-Plain i) v w

  -- an instruction that goes on in this state
  pub plain_runs : (i : Instr) (s : State) (v : Frame) → act i v.seen ≡ Runs s → (w : World) → run size d callee (stack.Plain i) v w ≡ Normal (record v { seen = hide s }) (tolled 1 w)
  plain_runs i s v e w = run_plain i v w ∙ ap (λ c. ran v c (tolled 1 w)) e

  -- one that writes a register
  pub plain_writes : (i : Instr) (r n : ℕ) (v : Frame) → act i v.seen ≡ Runs (next (with_reg v.seen r n)) → (w : World) → run size d callee (stack.Plain i) v w ≡ Normal (with_register v r n) (tolled 1 w)
  plain_writes i r n v e w = plain_runs i (next (with_reg v.seen r n)) v e w

  pub run_get : (r k n : ℕ) (v : Frame) → v.slots k ≡ Some n → (w : World) → run size d callee (stack.Get r k) v w ≡ Normal (with_register v r n) (tolled 3 w)
  run_get r k n v e w =
      stack_at (open_stack.Get r k) (stack.Get r k) (stack.rolls-Get r k) v w ∙ ap (λ o. with_value o w (λ n. Normal (with_register v r n) (tolled 3 w))) e

  pub run_put : (k r n : ℕ) (v : Frame) → reg v.seen r ≡ n → (w : World) → run size d callee (stack.Put k r) v w ≡ Normal (with_slot v k n) (tolled 3 w)
  run_put k r n v e w = stack_at (open_stack.Put k r) (stack.Put k r) (stack.rolls-Put k r) v w ∙ ap (λ n. Normal (with_slot v k n) (tolled 3 w)) e

  -- ---- constants

  -- the instructions put the word into the register, and nothing else is changed
  abbrev Sets : ℕ → List Instr → (r n : ℕ) → Frame → Type 0
  Sets limit code r n v = Ran limit (map stack.Plain code) v (λ v'. v' ≡ with_register v r n)

  module _ (r : ℕ) (usable : IsUsable r) where
    -- one more instruction, which makes another word of the register's
    then_one : (limit : ℕ) (code : List Instr) (i : Instr) (n m : ℕ) (v : Frame) → length (v.seen).registers ≡ 32 → Sets limit code r n v → ((t : State) → reg t r ≡ n → act i t ≡ Runs (next (with_reg t r m))) → Ran (limit + 1) (map stack.Plain code ++ stack.Plain i ∷ []) v (λ v'. v' ≡ with_register v r m)
    then_one limit code i n m v count a e =
        ran_append limit 1 (map stack.Plain code) (stack.Plain i ∷ []) v (λ v'. v' ≡ with_register v r n) (λ v'. v' ≡ with_register v r m) a
        (λ v' is. subst (λ x. Ran 1 (stack.Plain i ∷ []) x (λ v'. v' ≡ with_register v r m)) (sym is)
        (ran_one 1 1 (stack.Plain i) (with_register v r n) (with_register (with_register v r n) r m) (λ v'. v' ≡ with_register v r m) (omega arith)
        (plain_writes i r m (with_register v r n) (e (hide (with_reg v.seen r n)) (reg_written v.seen r n usable count)))
        (ap (λ s. record v { seen = s }) (reg_twice v.seen r n m usable))))

    plain_append : (xs ys : List Instr) → map stack.Plain (xs ++ ys) ≡ map stack.Plain xs ++ map stack.Plain ys
    plain_append [] ys = refl
    plain_append (x ∷ xs) ys = ap (λ zs. stack.Plain x ∷ zs) (plain_append xs ys)

    added : (limit : ℕ) (code : List Instr) (n : ℕ) (imm : _) (v : Frame) → length (v.seen).registers ≡ 32 → Sets limit code r n v → Ran (limit + 1) (map stack.Plain code ++ stack.Plain (instr.I Addi r r imm) ∷ []) v (λ v'. v' ≡ with_register v r (plus n imm))
    added limit code n imm v count a = then_one limit code (instr.I Addi r r imm) n (plus n imm) v count a (λ t e. ap (λ a. Runs (next (with_reg t r (plus a imm)))) e)

    short : (n : ℕ) (v : Frame) → IsWord n → high n ≡ 0 → Sets 2 (instr.I Addi r 0 (low n) ∷ []) r n v
    short n v small e =
        ran_one 1 2 (stack.Plain (instr.I Addi r 0 (low n))) v (with_register v r n) (λ v'. v' ≡ with_register v r n) (omega arith)
        (plain_writes (instr.I Addi r 0 (low n)) r n v (ap (λ m. Runs (next (with_reg v.seen r m))) (ap (λ a. plus a (low n)) (zero_is v.seen) ∙ low_alone n small e))) refl

    upper_first : (n : ℕ) (v : Frame) → IsWord n → length (v.seen).registers ≡ 32 → (n + 2 ^ 31) % 2 ^ 64 < 2 ^ 32 → Sets 2 (instr.U Lui r (high n % 2 ^ 20) ∷ with_low Addiw r n) r n v
    upper_first n v small count half = by (nat_eq (n % 4096) 0) refl
      where
        by : (b : Bool) → nat_eq (n % 4096) 0 ≡ b → Sets 2 (instr.U Lui r (high n % 2 ^ 20) ∷ (if b then [] else instr.I Addiw r r (low n) ∷ [])) r n v
        by true e =
            let none : n % 4096 ≡ 0 = grind (arith, nat_tests) in
            ran_one 1 2 (stack.Plain (instr.U Lui r (high n % 2 ^ 20))) v (with_register v r n) (λ v'. v' ≡ with_register v r n) (omega arith)
            (plain_writes (instr.U Lui r (high n % 2 ^ 20)) r n v (ap (λ m. Runs (next (with_reg v.seen r m))) (upper_alone n small half none))) refl
        by false e =
            let q = upper (high n % 2 ^ 20) in
            then_one 1 (instr.U Lui r (high n % 2 ^ 20) ∷ []) (instr.I Addiw r r (low n)) q n v count
            (ran_one 1 1 (stack.Plain (instr.U Lui r (high n % 2 ^ 20))) v (with_register v r q) (λ v'. v' ≡ with_register v r q) (omega arith) (plain_writes (instr.U Lui r (high n % 2 ^ 20)) r q v refl) refl)
            (λ t e. ap (λ a. Runs (next (with_reg t r (low_half (plus a (low n)))))) e ∙ ap (λ m. Runs (next (with_reg t r m))) (upper_and_low n small half))

    -- how large a word may be for so many constants within one another
    abbrev bound : ℕ → ℕ
    bound zero = 2 ^ 30
    bound (suc zero) = 2 ^ 41
    bound (suc (suc zero)) = 2 ^ 52
    bound (suc (suc (suc k))) = 2 ^ 63

    smaller : (k m q : ℕ) → k ≤ 2 → m < bound (suc k) → q ≤ m / 2 ^ 12 + 1 → q < bound k
    smaller zero m q l a b = omega (arith, a, b)
    smaller (suc zero) m q l a b = omega (arith, a, b)
    smaller (suc (suc zero)) m q l a b = omega (arith, a, b)
    smaller (suc (suc (suc k))) m q l a b = absurd (omega (arith, l))

    -- shifted to the high bits' place, and with the low bits
    shifted_sets : (limit k m n : ℕ) (code : List Instr) (v : Frame) → IsWord n → length (v.seen).registers ≡ 32 → m * 2 ^ k % 2 ^ 64 ≡ high n * 2 ^ 12 % 2 ^ 64 → Sets limit code r m v → Sets (limit + 2) (code ++ shifted k r n) r n v
    shifted_sets limit k m n code v small count to inner = by_low (nat_eq (n % 4096) 0) refl
      where
        code_is : (xs : List Instr) → map stack.Plain (xs ++ instr.Sh Slli r r k ∷ instr.I Addi r r (low n) ∷ []) ≡ map stack.Plain (xs ++ instr.Sh Slli r r k ∷ []) ++ stack.Plain (instr.I Addi r r (low n)) ∷ []
        code_is [] = refl
        code_is (x ∷ xs) = ap (λ ss. stack.Plain x ∷ ss) (code_is xs)

        high_there : Ran (limit + 1) (map stack.Plain (code ++ instr.Sh Slli r r k ∷ [])) v (λ v'. v' ≡ with_register v r (high n * 2 ^ 12 % 2 ^ 64))
        high_there =
            subst (λ ss. Ran (limit + 1) ss v (λ v'. v' ≡ with_register v r (high n * 2 ^ 12 % 2 ^ 64))) (sym (plain_append code (instr.Sh Slli r r k ∷ [])))
            (then_one limit code (instr.Sh Slli r r k) m (high n * 2 ^ 12 % 2 ^ 64) v count inner (λ t e. ap (λ a. Runs (next (with_reg t r (a * 2 ^ k % 2 ^ 64)))) e ∙ ap (λ a. Runs (next (with_reg t r a))) to))

        by_low : (b : Bool) → nat_eq (n % 4096) 0 ≡ b → Sets (limit + 2) (code ++ instr.Sh Slli r r k ∷ (if b then [] else instr.I Addi r r (low n) ∷ [])) r n v
        by_low true e =
            let none : n % 4096 ≡ 0 = grind (arith, nat_tests) in
            ran_within (limit + 1) (limit + 2) _ v (λ v'. v' ≡ with_register v r (high n * 2 ^ 12 % 2 ^ 64)) (λ v'. v' ≡ with_register v r n) (omega arith) (λ v' e. e ∙ ap (λ m. with_register v r m) (high_alone n small none)) high_there
        by_low false e =
            ran_within (limit + 1 + 1) (limit + 2) _ v (λ v'. v' ≡ with_register v r (plus (high n * 2 ^ 12 % 2 ^ 64) (low n))) (λ v'. v' ≡ with_register v r n) (omega arith) (λ v' e. e ∙ ap (λ m. with_register v r m) (high_and_low n small))
            (subst (λ ss. Ran (limit + 1 + 1) ss v (λ v'. v' ≡ with_register v r (plus (high n * 2 ^ 12 % 2 ^ 64) (low n)))) (sym (code_is code))
            (added (limit + 1) (code ++ instr.Sh Slli r r k ∷ []) (high n * 2 ^ 12 % 2 ^ 64) (low n) v count high_there))

    -- LUI alone, shifted
    upper_sets : (n : ℕ) (v : Frame) → IsWord n → length (v.seen).registers ≡ 32 → is_upper (odd n) ≡ true → Sets 3 (instr.U Lui r (odd n % 2 ^ 20) ∷ shifted (zeros n) r n) r n v
    upper_sets n v small count is =
        let m = odd n % 2 ^ 20 in
        let word : IsWord (high n) = high_is_word n small in
        shifted_sets 1 (zeros n) (upper m) n (instr.U Lui r m ∷ []) v small count
        (upper_twelve (odd n) (zeros n) (high n) (shifted_word (high n) (zeros n) word) (fits (nat_lt ((odd n + 2 ^ 19) % 2 ^ 64) (2 ^ 20)) refl (second (not (nat_eq (high (odd n)) 0)) (nat_lt ((odd n + 2 ^ 19) % 2 ^ 64) (2 ^ 20)) is)) (high_back n word))
        (ran_one 1 1 (stack.Plain (instr.U Lui r m)) v (with_register v r (upper m)) (λ v'. v' ≡ with_register v r (upper m)) (omega arith) (plain_writes (instr.U Lui r m) r (upper m) v refl) refl)
      where
        second : (a b : Bool) → (a && b) ≡ true → b ≡ true
        second true b e = e
        second false true e = refl
        second false false e = e

        fits : (b : Bool) → nat_lt ((odd n + 2 ^ 19) % 2 ^ 64) (2 ^ 20) ≡ b → b ≡ true → (odd n + 2 ^ 19) % 2 ^ 64 < 2 ^ 20
        fits b e is = grind (arith, nat_tests)

    below : (a b c : ℕ) → a ≤ b → b < c → a < c
    below a b c l m = omega (arith, l, m)

    pub constant_sets : (k n : ℕ) (v : Frame) → k ≤ 3 → IsWord n → magnitude n < bound k → length (v.seen).registers ≡ 32 → Sets (2 + 2 * k) (constant_in k r n) r n v
    constant_sets zero n v l small m count = choose_zero (nat_eq (high n) 0) (nat_lt ((n + 2 ^ 31) % 2 ^ 64) (2 ^ 32)) refl refl
      where
        fits : (n + 2 ^ 31) % 2 ^ 64 < 2 ^ 32
        fits = half_near n small m

        choose_zero : (a b : Bool) → nat_eq (high n) 0 ≡ a → nat_lt ((n + 2 ^ 31) % 2 ^ 64) (2 ^ 32) ≡ b
            → Sets 2 (if a then instr.I Addi r 0 (low n) ∷ [] else (if b then instr.U Lui r (high n % 2 ^ 20) ∷ with_low Addiw r n else [])) r n v
        choose_zero true b e f = short n v small (grind (arith, nat_tests))
        choose_zero false true e f = upper_first n v small count fits
        choose_zero false false e f = absurd (let h = fits in grind (arith, nat_tests))
    constant_sets (suc k) n v l small m count =
        by
        (constant_sets k (odd n) v (omega (arith, l)) (shifted_word (high n) (zeros n) word)
        (below (magnitude (odd n)) (magnitude (high n)) (bound k) (shifted_smaller (high n) (zeros n) word) (smaller k (magnitude n) (magnitude (high n)) (omega (arith, l)) m (high_smaller n small))) count)
        (nat_eq (high n) 0) (nat_lt ((n + 2 ^ 31) % 2 ^ 64) (2 ^ 32)) refl refl
      where
        word : IsWord (high n)
        word = high_is_word n small

        long : Sets (2 + 2 * k) (constant_in k r (odd n)) r (odd n) v → (b : Bool) → is_upper (odd n) ≡ b
            → Sets (2 + 2 * suc k) (if b then instr.U Lui r (odd n % 2 ^ 20) ∷ shifted (zeros n) r n else constant_in k r (odd n) ++ shifted (12 + zeros n) r n) r n v
        long inner true e = ran_within 3 (2 + 2 * suc k) _ v _ _ (omega arith) (λ v' p. p) (upper_sets n v small count e)
        long inner false e =
            ran_within (2 + 2 * k + 2) (2 + 2 * suc k) _ v _ _ (omega arith) (λ v' p. p)
            (shifted_sets (2 + 2 * k) (12 + zeros n) (odd n) n (constant_in k r (odd n)) v small count (and_twelve (odd n) (zeros n) (high n) (high_back n word)) inner)

        by : Sets (2 + 2 * k) (constant_in k r (odd n)) r (odd n) v → (a b : Bool) → nat_eq (high n) 0 ≡ a → nat_lt ((n + 2 ^ 31) % 2 ^ 64) (2 ^ 32) ≡ b
            → Sets (2 + 2 * suc k) (if a then instr.I Addi r 0 (low n) ∷ [] else (if b then instr.U Lui r (high n % 2 ^ 20) ∷ with_low Addiw r n else shifted_by (constant_in k r (odd n)) r n)) r n v
        by inner true b e f = ran_within 2 (2 + 2 * suc k) _ v _ _ (omega arith) (λ v' p. p) (short n v small (grind (arith, nat_tests)))
        by inner false true e f = ran_within 2 (2 + 2 * suc k) _ v _ _ (omega arith) (λ v' p. p) (upper_first n v small count (grind (arith, nat_tests)))
        by inner false false e f = long inner (is_upper (odd n)) refl

    pub constant_ran : (n : ℕ) (v : Frame) → IsWord n → length (v.seen).registers ≡ 32 → Ran 8 (map stack.Plain (constant r n)) v (λ v'. v' ≡ with_register v r n)
    constant_ran n v small count = constant_sets 3 n v (omega arith) small (near n small) count
      where
        near : (n : ℕ) → IsWord n → magnitude n < 2 ^ 63
        near n small = grind (arith, nat_tests)
