-- The known programs, computed.
use Rattle.std.proofs.Common.{◌≡◌, ℕ, suc, ◌+◌, ap, ◌∙◌, List, [], ◌∷◌}
use Rattle.std.specs.Prelude.{max}
use Rattle.pan_base.specs.declared.operators.BinOp.TheVariants.{Add, Mul}
use Rattle.pan_base.specs.Words.{operate}
use Rattle.pan_base.specs.Events.{Event, Replied, only, Exit}
use Rattle.pan_control.specs.Control.{Normal, Returned, Raised}
use Rattle.pan_tree.specs.Running.{World, Outcome, Callee}
use Rattle.std.specs.Prelude.{codes}
use Rattle.pan_tree.specs.Check.{cost}
use Rattle.pan_tree.specs.Scopes.{declare}
use Rattle.pan_tree.specs.Shapes.{words_of, shape_in, zero_of}
use Rattle.pan_tree.specs.declared.shape.Shape.TheVariants as shape
use Rattle.pan_tree.specs.Value.{Value, Word}
use Rattle.pan_tree.specs.Meaning.{Scopes, source, calls, body_of, run_kind, seen, start}
use Rattle.pan_tree.proofs.ShapeLayers.{words_rules, words_word}
use Rattle.known_meanings.specs.Programs.{diamond, d_of_diamond, b_of_diamond, r_is_b, r_is_d, c_of_diamond, p_is_b, q_is_c, main_of_diamond, tail_call, caught, f_of_caught, main_of_caught}
use Rattle.known_meanings.proofs.Layers.{value_rules, weight_rules, run_rules, run_return, value_var, judge_var, filling_word}

pub tail_call_is : source tail_call [] [] 1 ≡ record { behaviour = only (Exit 4); deepest = 320; toll = 28 }
tail_call_is = simp (run_rules, value_rules, weight_rules, words_rules)

-- ---- the diamond, a function at a time

abbrev at : List ℕ → List Replied → List Event → ℕ → ℕ → ℕ → ℕ → ℕ → World
at m r t n a o e l = record { memory = m; globals = tt; replies = r; trace = t; fuel = n; active = a; own = o; deepest = e; toll = l }

-- what d returns of x, and leaves
abbrev d_leaves : ℕ → World → Outcome (Unit {0}) Value
d_leaves x w = Returned (Word (operate Add x 1)) (record w { active = w.active + 320; own = 320; deepest = max w.deepest (w.active + 320); toll = w.toll + 6 + 10 })

d_body : (n : ℕ) (callee : Callee (List Value) Value) (x : ℕ) (w : World) → body_of diamond n callee d_of_diamond (Word x ∷ []) w ≡ d_leaves x w
d_body n callee x w = simp (run_rules, value_rules, weight_rules, words_rules)

-- what b does with a unit of fuel and n more
abbrev b_leaves : ℕ → ℕ → World → Outcome (Unit {0}) Value
b_leaves x n w =
    Returned (Word (operate Mul (operate Add x 1) 2))
    (record w { fuel = n; active = w.active + 448; own = 448; deepest = max (max w.deepest (w.active + 448)) (w.active + 448 + 320); toll = w.toll + 6 + 8 + 6 + 10 + 10 })

abbrev RunsD : Callee (List Value) Value → Type 0
RunsD callee = (x : ℕ) (w : World) → callee 0 (Word x ∷ []) w ≡ d_leaves x w

abbrev RunsB : Callee (List Value) Value → Type 0
RunsB callee = (x : ℕ) (m : List ℕ) (r : List Replied) (t : List Event) (n a o e l : ℕ) → callee 1 (Word x ∷ []) (at m r t (suc n) a o e l) ≡ b_leaves x n (at m r t n a o e l)

b_body : (d : ℕ) (callee : Callee (List Value) Value) → RunsD callee → (x : ℕ) (m : List ℕ) (r : List Replied) (t : List Event) (n a o e l : ℕ) → body_of diamond d callee b_of_diamond (Word x ∷ []) (at m r t (suc n) a o e l) ≡ b_leaves x n (at m r t n a o e l)
b_body d callee runs_d x m r t n a o e l = simp (run_rules, value_rules, runs_d, weight_rules, words_rules)

-- what c does with three units of fuel and n more
abbrev c_leaves : ℕ → ℕ → World → Outcome (Unit {0}) Value
c_leaves x n w =
    Returned (Word (operate Add (operate Mul (operate Add x 1) 2) 1))
    (record w {
      fuel = n;
      active = w.active + 512;
      own = 512;
      deepest = max (max (max (max w.deepest (w.active + 512)) (w.active + 512 + 448)) (w.active + 512 + 448 + 320)) (w.active + 512 + 320);
      toll = w.toll + 6 + 8 + 6 + 8 + 6 + 10 + 10 + 8 + 6 + 10 + 6;
    })

abbrev RunsC : Callee (List Value) Value → Type 0
RunsC callee = (x : ℕ) (m : List ℕ) (r : List Replied) (t : List Event) (n a o e l : ℕ) → callee 2 (Word x ∷ []) (at m r t (suc (suc (suc n))) a o e l) ≡ c_leaves x n (at m r t n a o e l)

abbrev x_alone : ℕ → Scopes
x_alone x = declare (codes "x") (Word x) ([] ∷ [])

b_called : (d : ℕ) (callee : Callee (List Value) Value) → RunsB callee → (x : ℕ) (m : List ℕ) (r : List Replied) (t : List Event) (n a o e l : ℕ)
    → run_kind diamond d callee r_is_b.kind (x_alone x) (at m r t (suc (suc n)) a o e l)
    ≡ Normal (declare (codes "r") (Word (operate Mul (operate Add x 1) 2)) (x_alone x)) (at m r t n a o (max (max e (a + 448)) (a + 448 + 320)) (l + 8 + 6 + 8 + 6 + 10 + 10))
b_called d callee runs_b x m r t n a o e l = simp (run_rules, value_rules, runs_b, weight_rules, words_rules)

d_called : (d : ℕ) (callee : Callee (List Value) Value) → RunsD callee → (x y : ℕ) (m : List ℕ) (r : List Replied) (t : List Event) (n a o e l : ℕ)
    → run_kind diamond d callee r_is_d.kind (declare (codes "r") (Word y) (x_alone x)) (at m r t (suc n) a o e l)
    ≡ Normal (declare (codes "r") (Word (operate Add y 1)) (x_alone x)) (at m r t n a o (max e (a + 320)) (l + 8 + 6 + 10))
d_called d callee runs_d x y m r t n a o e l = simp (run_rules, value_rules, runs_d, weight_rules, words_rules)

c_costs : cost diamond c_of_diamond ≡ 512
c_costs = simp (weight_rules, words_rules)

c_body : (d : ℕ) (callee : Callee (List Value) Value) → RunsD callee → RunsB callee → (x : ℕ) (m : List ℕ) (r : List Replied) (t : List Event) (n a o e l : ℕ)
    → body_of diamond d callee c_of_diamond (Word x ∷ []) (at m r t (suc (suc (suc n))) a o e l) ≡ c_leaves x n (at m r t n a o e l)
c_body d callee runs_d runs_b x m r t n a o e l =
    rw (c_costs, words_word, b_called d callee runs_b, d_called d callee runs_d, run_return, value_var, judge_var, words_word)

first_call : (d : ℕ) (callee : Callee (List Value) Value) → RunsB callee → (m : List ℕ) (r : List Replied) (t : List Event) (n a o e l : ℕ)
    → run_kind diamond d callee p_is_b.kind ([] ∷ []) (at m r t (suc (suc n)) a o e l)
    ≡ Normal (declare (codes "p") (Word 8) ([] ∷ [])) (at m r t n a o (max (max e (a + 448)) (a + 448 + 320)) (l + 8 + 6 + 8 + 6 + 10 + 10))
first_call d callee runs_b m r t n a o e l = simp (run_rules, value_rules, runs_b, weight_rules, words_rules)

second_call : (d : ℕ) (callee : Callee (List Value) Value) → RunsC callee → (m : List ℕ) (r : List Replied) (t : List Event) (n a o e l : ℕ)
    → run_kind diamond d callee q_is_c.kind (declare (codes "p") (Word 8) ([] ∷ [])) (at m r t (suc (suc (suc (suc n)))) a o e l)
    ≡ Normal (declare (codes "q") (Word 19) (declare (codes "p") (Word 8) ([] ∷ [])))
    (at m r t n a o (max (max (max (max e (a + 512)) (a + 512 + 448)) (a + 512 + 448 + 320)) (a + 512 + 320)) (l + 8 + 6 + 8 + 6 + 8 + 6 + 10 + 10 + 8 + 6 + 10 + 6))
second_call d callee runs_c m r t n a o e l = simp (run_rules, value_rules, runs_c, weight_rules, words_rules)

main_costs : cost diamond main_of_diamond ≡ 496
main_costs = simp (weight_rules, words_rules)

main_body : (d : ℕ) (callee : Callee (List Value) Value) → RunsB callee → RunsC callee
    → (n : ℕ) → body_of diamond d callee main_of_diamond [] (start [] [] (suc (suc (suc (suc (suc (suc n))))))) ≡ Returned (Word 19) (at [] [] [] n 496 496 1776 151)
main_body d callee runs_b runs_c n = rw (main_costs, words_word, first_call d callee runs_b, second_call d callee runs_c, run_return, value_var, judge_var, words_word)

runs_d : (k : ℕ) → RunsD (calls diamond (suc k))
runs_d k x w = d_body k (calls diamond k) x w

runs_b : (k : ℕ) → RunsB (calls diamond (suc (suc k)))
runs_b k = b_body (suc k) (calls diamond (suc k)) (runs_d k)

runs_c : (k : ℕ) → RunsC (calls diamond (suc (suc (suc k))))
runs_c k = c_body (suc (suc k)) (calls diamond (suc (suc k))) (runs_d (suc k)) (runs_b k)

pub diamond_is : source diamond [] [] 6 ≡ record { behaviour = only (Exit 19); deepest = 1776; toll = 151 }
diamond_is = ap seen (main_body 6 (calls diamond 6) (runs_b 4) (runs_c 3) 0)

-- ---- the exception, a function at a time

abbrev f_leaves : World → Outcome (Unit {0}) Value
f_leaves w = Raised 0 (Word 4) (record w { active = w.active + 240; own = 240; deepest = max w.deepest (w.active + 240); toll = w.toll + 5 + 6 })

raising : (n : ℕ) (callee : Callee (List Value) Value) (w : World) → body_of caught n callee f_of_caught [] w ≡ f_leaves w
raising n callee w = simp (run_rules, value_rules, weight_rules, words_rules)

abbrev main_leaves : (m : List ℕ) (r : List Replied) (t : List Event) (n a e l : ℕ) → Outcome (Unit {0}) Value
main_leaves m r t n a e l = Returned (Word 5) (at m r t n (a + 592) 592 (max (max e (a + 592)) (a + 592 + 240)) l)

-- the words of the new variable's first value
zero_weighs : words_of (shape_in (zero_of shape.Word)) ≡ 1
zero_weighs = ap (λ v. words_of (shape_in v.0)) (filling_word []) ∙ words_word

catching : (d : ℕ) (callee : Callee (List Value) Value) → ((w : World) → callee 0 [] w ≡ f_leaves w) → (m : List ℕ) (r : List Replied) (t : List Event) (n a o e l : ℕ)
    → body_of caught d callee main_of_caught [] (at m r t (suc n) a o e l) ≡ main_leaves m r t n a e (l + 5 + 11 + 5 + 6 + 11 + 6)
catching d callee runs m r t n a o e l = simp (run_rules, value_rules, runs, weight_rules, words_rules) (ap (λ k. main_leaves m r t n a e (l + 5 + 11 + 5 + 6 + (10 + k) + 6)) zero_weighs)

pub caught_is : source caught [] [] 1 ≡ record { behaviour = only (Exit 5); deepest = 832; toll = 44 }
caught_is = ap seen (catching 1 (calls caught 1) (raising 0 (calls caught 0)) [] [] [] 0 0 0 0 0)
