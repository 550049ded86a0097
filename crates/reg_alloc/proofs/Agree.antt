-- Live variables agree with their homes, and stay so under what acts do.
use Rattle.std.proofs.Common.{◌≡◌, ◌≢◌, ℕ, Bool, true, false, List, [], ◌∷◌, map, Option, Some, None, refl, sym, ap, ◌∙◌, arith}
use Rattle.std.specs.Prelude.{◌==◌, ◌||◌, option_map}
use Rattle.std.proofs.lemmas.Bool.Decides.{nat_tests}
use Rattle.pan_flow.specs.Flow.{Reads, Writes, Leaves, Flow, Ways, After, act_first, has, Live, Somewhere, LiveAfterWrite}
use Rattle.pan_flow.proofs.Ways.{Within, live_within, live_read, live_past_read, live_past_write, live_past_leave}
use Rattle.pan_base.specs.Words.{truth}
use Rattle.pan_stage.specs.Locals.{Locals, write, write_all}
use Rattle.pan_stage.proofs.Agreeing.{write_same, write_other}
use Rattle.word_lang.specs.Meaning.{operand, outcome}
use Rattle.word_lang.specs.Text.{variables_of, variables_read}
use Rattle.word_lang.specs.declared.syntax.Test.{Test}
use Rattle.reg_alloc.specs.Renamed.{rename_test}

pub has_this : (y : ℕ) (ys : List ℕ) → has (y ∷ ys) y ≡ true
has_this y ys = grind (arith, nat_tests)

pub has_later : (y : ℕ) (ys : List ℕ) (x : ℕ) → has ys x ≡ true → has (y ∷ ys) x ≡ true
has_later y ys x h = by_case (x == y)
  where
    by_case : (b : Bool) → (b || has ys x) ≡ true
    by_case true = refl
    by_case false = h

pub has_none : (y : ℕ) (ys : List ℕ) (x : ℕ) → x ≢ y → has ys x ≡ false → has (y ∷ ys) x ≡ false
has_none y ys x n h = grind (arith, nat_tests)

-- whether two numbers are one
pub same_or : (P : Type 0) (x y : ℕ) → (x ≡ y → P) → (x ≢ y → P) → P
same_or P x y yes' no' = by_case (x == y) refl
  where
    by_case : (b : Bool) → (x == y) ≡ b → P
    by_case true e = yes' (grind (arith, nat_tests))
    by_case false e = no' (λ s. grind (arith, nat_tests))

module _ (home : ℕ → ℕ) where
  -- each variable that is live agrees with its home
  abbrev pub Agrees : Ways → Locals → Locals → Type 0
  Agrees from v u = (x : ℕ) → Live from x → v x ≡ u (home x)

  -- where one of two variables is written and the other is live after that, their homes differ
  abbrev pub Apart : Flow → After → Type 0
  Apart f k = (a b : ℕ) → a ≢ b → Somewhere (LiveAfterWrite a b) f k → home a ≢ home b

  -- none of these has the home of another variable that is live there
  abbrev pub Clear : List ℕ → Ways → Type 0
  Clear ys from = (a b : ℕ) → a ≢ b → has ys a ≡ true → Live from b → home a ≢ home b

  pub agrees_within : (a b : Ways) (v u : Locals) → Within a b → Agrees b v u → Agrees a v u
  agrees_within a b v u h g x l = g x (live_within a b x h l)

  values_agree : (ys : List ℕ) (v u : Locals) → ((x : ℕ) → has ys x ≡ true → v x ≡ u (home x)) → map v ys ≡ map u (map home ys)
  values_agree [] v u h = refl
  values_agree (y ∷ ys) v u h =
      let here = h y (has_this y ys) in
      let there = values_agree ys v u (λ x g. h x (has_later y ys x g)) in
      ap (λ n. n ∷ map v ys) here ∙ ap (λ ns. u (home y) ∷ ns) there

  -- what is read is the same
  pub read_agrees : (ys : List ℕ) (rest : Ways) (v u : Locals) → Agrees (act_first (Reads ys) rest) v u → map v ys ≡ map u (map home ys)
  read_agrees ys rest v u h = values_agree ys v u (λ x g. h x (live_read ys rest x g))

  pub read_one : (y : ℕ) (ys : List ℕ) (rest : Ways) (v u : Locals) → Agrees (act_first (Reads (y ∷ ys)) rest) v u → v y ≡ u (home y)
  read_one y ys rest v u h = h y (live_read (y ∷ ys) rest y (has_this y ys))

  pub read_two : (x y : ℕ) (rest : Ways) (v u : Locals) → Agrees (act_first (Reads (x ∷ y ∷ [])) rest) v u → v y ≡ u (home y)
  read_two x y rest v u h = h y (live_read (x ∷ y ∷ []) rest y (has_later x (y ∷ []) y (has_this y [])))

  pub read_at : (ys : List ℕ) (y : ℕ) (rest : Ways) (v u : Locals) → has ys y ≡ true → Agrees (act_first (Reads ys) rest) v u → v y ≡ u (home y)
  read_at ys y rest v u h a = a y (live_read ys rest y h)

  pub past_read : (ys : List ℕ) (rest : Ways) (v u : Locals) → Agrees (act_first (Reads ys) rest) v u → Agrees rest v u
  past_read ys rest v u h x l = h x (live_past_read ys rest x l)

  -- one write
  write_agrees : (L : ℕ → Type 0) (y n : ℕ) (ys : List ℕ) (v u : Locals) → ((x : ℕ) → L x → y ≢ x → home y ≢ home x) → ((x : ℕ) → has (y ∷ ys) x ≡ false → L x → v x ≡ u (home x)) → (x : ℕ) → has ys x ≡ false → L x → write y n v x ≡ write (home y) n u (home x)
  write_agrees L y n ys v u clear old x h l = same_or (write y n v x ≡ write (home y) n u (home x)) x y
      (λ e. ap (write y n v) e ∙ write_same y n v ∙ sym (write_same (home y) n u) ∙ ap (λ z. write (home y) n u (home z)) (sym e))
      (λ ne. write_other y n x v ne ∙ old x (has_none y ys x ne h) l ∙ sym (write_other (home y) n (home x) u (λ e. clear x l (λ e. ne (sym e)) (sym e))))

  -- all of them
  pub written_agrees : (L : ℕ → Type 0) (ys ns : List ℕ) (v u : Locals) → ((a x : ℕ) → has ys a ≡ true → L x → a ≢ x → home a ≢ home x) → ((x : ℕ) → has ys x ≡ false → L x → v x ≡ u (home x)) → (x : ℕ) → L x → write_all ys ns v x ≡ write_all (map home ys) ns u (home x)
  written_agrees L [] ns v u clear old = λ x l. old x refl l
  written_agrees L (y ∷ ys) [] v u clear old =
      written_agrees L ys [] (write y 0 v) (write (home y) 0 u) (λ a x h. clear a x (has_later y ys a h)) (write_agrees L y 0 ys v u (λ x. clear y x (has_this y ys)) old)
  written_agrees L (y ∷ ys) (n ∷ ns) v u clear old =
      written_agrees L ys ns (write y n v) (write (home y) n u) (λ a x h. clear a x (has_later y ys a h)) (write_agrees L y n ys v u (λ x. clear y x (has_this y ys)) old)

  -- what is written agrees afterwards, and what else is live still does
  pub past_write : (ys ns : List ℕ) (rest : Ways) (v u : Locals) → Clear ys rest → Agrees (act_first (Writes ys) rest) v u → Agrees rest (write_all ys ns v) (write_all (map home ys) ns u)
  past_write ys ns rest v u clear h = written_agrees (Live rest) ys ns v u (λ a x g l ne. clear a x ne g l) (λ x g l. h x (live_past_write ys rest x g l))

  pub past_leave : (ys ns : List ℕ) (rest : Ways) (v u : Locals) → Clear ys rest → Agrees (act_first (Leaves ys) rest) v u → Agrees rest (write_all ys ns v) (write_all (map home ys) ns u)
  past_leave ys ns rest v u clear h = written_agrees (Live rest) ys ns v u (λ a x g l ne. clear a x ne g l) (λ x g l. h x (live_past_leave ys rest x g l))

  -- an operand and a test give the same
  operand_agrees : (o : Option ℕ) (v u : Locals) → ((x : ℕ) → has (variables_of (o ∷ [])) x ≡ true → v x ≡ u (home x)) → operand o v ≡ operand (option_map home o) u
  operand_agrees None v u h = refl
  operand_agrees (Some x) v u h = h x (has_this x [])

  first_operand : (l r : Option ℕ) (x : ℕ) → has (variables_of (l ∷ [])) x ≡ true → has (variables_of (l ∷ r ∷ [])) x ≡ true
  first_operand None r x h = absurd cc
  first_operand (Some y) r x h = by (x == y) h
    where
      by : (b : Bool) → (b || false) ≡ true → (b || has (variables_of (r ∷ [])) x) ≡ true
      by true h = refl
      by false h = absurd cc

  second_operand : (l r : Option ℕ) (x : ℕ) → has (variables_of (r ∷ [])) x ≡ true → has (variables_of (l ∷ r ∷ [])) x ≡ true
  second_operand None r x h = h
  second_operand (Some y) r x h = has_later y (variables_of (r ∷ [])) x h

  pub test_agrees : (y : Test) (rest : Ways) (v u : Locals) → Agrees (act_first (Reads (variables_read y)) rest) v u → outcome y v ≡ outcome (rename_test home y) u
  test_agrees y rest v u a =
      let read = λ (x : ℕ) (h : has (variables_read y) x ≡ true). read_at (variables_read y) x rest v u h a in
      ap (λ n. truth y.comparison n (operand y.right v)) (operand_agrees y.left v u (λ x h. read x (first_operand y.left y.right x h)))
      ∙ ap (truth y.comparison (operand (option_map home y.left) u)) (operand_agrees y.right v u (λ x h. read x (second_operand y.left y.right x h)))
