-- The equations of the pass at each variant, as its code meets them.
use Rattle.std.proofs.Common.{◌≡◌, ◌≢◌, ℕ, zero, suc, ◌+◌, ◌-◌, ◌^◌, ◌<◌, List, [], ◌∷◌, ◌++◌, map, length, Option, Some, None, append_assoc, refl, sym, ap, ◌∙◌, arith}
use Rattle.std.proofs.lemmas.Bool.Decides.{nat_tests}
use Rattle.pan_base.specs.declared.operators.IOp.TheVariants.{Addi}
use Rattle.pan_base.specs.declared.operators.ShiftOp.TheVariants.{Slli}
use Rattle.riscv_isa.specs.declared.instr.Instr.{Instr}
use Rattle.riscv_isa.specs.declared.instr.Instr.TheVariants as instr
use Rattle.stack_lang.specs.declared.syntax.Stmt.{Stmt}
use Rattle.stack_lang.specs.declared.syntax.Stmt.TheVariants as s
use Rattle.std.specs.Prelude.{ℤ}
use Rattle.std.specs.Int.{trailing_zeros, w64}
use Rattle.std.proofs.lemmas.Nat.Bits.{bit_at-trailing_zeros}
use Rattle.std.proofs.lemmas.List.{append-nil}
use Rattle.pan_base.specs.declared.events.Size.{Size}
use Rattle.pan_base.specs.declared.operators.ROp.{ROp}
use Rattle.pan_base.specs.declared.operators.IOp.{IOp}
use Rattle.pan_base.specs.declared.operators.ShiftOp.{ShiftOp}
use Rattle.pan_base.specs.declared.operators.LOp.{LOp}
use Rattle.pan_base.specs.declared.operators.SOp.{SOp}
use Rattle.pan_flow.specs.Flow.{Flow}
use Rattle.pan_flow.specs.Functions.{variables, all_in_turn}
use Rattle.pan_stage.specs.declared.program.Handler.{Handler}
use Rattle.word_lang.specs.Text.{flow_layer, flow_of, variables_read}
use Rattle.word_lang.specs.declared.syntax.Test.{Test}
use Rattle.word_lang.specs.declared.syntax.Stmt.{Stmt as WordStmt, Stmt-F, roll-Stmt, map-Stmt}
use Rattle.word_lang.specs.declared.syntax.Stmt.TheVariants as words
use Rattle.word_lang.specs.declared.syntax.Stmt.TheOpen as tree
use Rattle.word_lang.proofs.Equations.{handler_as}
use Rattle.stack_frames.specs.Frames.{handler_variables, passes, fetches, framed_handler, framed_layer, framed}
use Rattle.stack_frames.proofs.Statements.{flow_roll, framed_roll}
use Rattle.stack_frames.specs.Constants.{high, odd, shifted_by, constant_by, constant_in}

-- ---- constants

pub plain_append : (xs ys : List Instr) → map s.Plain (xs ++ ys) ≡ map s.Plain xs ++ map s.Plain ys
plain_append [] ys = refl
plain_append (x ∷ xs) ys = ap (λ zs. s.Plain x ∷ zs) (plain_append xs ys)

pub constant_next : (k r n : ℕ) → k ≢ 0 → constant_in k r n ≡ constant_by (shifted_by (constant_in (k - 1) r (odd n)) r n) r n
constant_next zero r n ne = absurd (ne refl)
constant_next (suc k) r n ne = ap (λ k. constant_by (shifted_by (constant_in k r (odd n)) r n) r n) (let e : k ≡ suc k - 1 = omega arith in e)

-- fewer than 64 zeros stand below a bit that is set
pub zeros_below : (n : ℕ) → 0 < n → n < 2 ^ 64 → trailing_zeros w64 n < 64
zeros_below n some small = (bit_at-trailing_zeros w64 n some small).0

pub ruleset constant_rules = (append_assoc, nat_tests, plain_append, constant_next, zeros_below)

-- ---- rows

pub ruleset row_rules = (append_assoc, nat_tests)

-- ---- statements

framed_at : (slot : ℕ → ℕ) (y : Stmt-F WordStmt) (x : WordStmt) → roll-Stmt y ≡ x → framed slot x ≡ framed_layer slot (map-Stmt WordStmt Stmt (framed slot) y)
framed_at slot y x is = ap (framed slot) (sym is) ∙ framed_roll slot y

variables_at : (y : Stmt-F WordStmt) (x : WordStmt) → roll-Stmt y ≡ x → variables (flow_of x) ≡ variables (flow_layer (map-Stmt WordStmt Flow flow_of y))
variables_at y x is = ap (λ x. variables (flow_of x)) (sym is) ∙ ap variables (flow_roll y)

pub framed_skip : (slot : ℕ → ℕ) → framed slot words.Skip ≡ framed_layer slot tree.Skip
framed_skip slot = framed_at slot tree.Skip words.Skip words.rolls-Skip

pub variables_skip : variables (flow_of words.Skip) ≡ variables (flow_layer tree.Skip)
variables_skip = variables_at tree.Skip words.Skip words.rolls-Skip

pub framed_const : (slot : ℕ → ℕ) (x n : ℕ) → framed slot (words.Const x n) ≡ framed_layer slot (tree.Const x n)
framed_const slot x n = framed_at slot (tree.Const x n) (words.Const x n) (words.rolls-Const x n)

pub variables_const : (x n : ℕ) → variables (flow_of (words.Const x n)) ≡ variables (flow_layer (tree.Const x n))
variables_const x n = variables_at (tree.Const x n) (words.Const x n) (words.rolls-Const x n)

pub framed_reg : (slot : ℕ → ℕ) (o : ROp) (x a b : ℕ) → framed slot (words.Reg o x a b) ≡ framed_layer slot (tree.Reg o x a b)
framed_reg slot o x a b = framed_at slot (tree.Reg o x a b) (words.Reg o x a b) (words.rolls-Reg o x a b)

pub variables_reg : (o : ROp) (x a b : ℕ) → variables (flow_of (words.Reg o x a b)) ≡ variables (flow_layer (tree.Reg o x a b))
variables_reg o x a b = variables_at (tree.Reg o x a b) (words.Reg o x a b) (words.rolls-Reg o x a b)

pub framed_imm : (slot : ℕ → ℕ) (o : IOp) (x a : ℕ) (i : ℤ) → framed slot (words.Imm o x a i) ≡ framed_layer slot (tree.Imm o x a i)
framed_imm slot o x a i = framed_at slot (tree.Imm o x a i) (words.Imm o x a i) (words.rolls-Imm o x a i)

pub variables_imm : (o : IOp) (x a : ℕ) (i : ℤ) → variables (flow_of (words.Imm o x a i)) ≡ variables (flow_layer (tree.Imm o x a i))
variables_imm o x a i = variables_at (tree.Imm o x a i) (words.Imm o x a i) (words.rolls-Imm o x a i)

pub framed_sh : (slot : ℕ → ℕ) (o : ShiftOp) (x a n : ℕ) → framed slot (words.Sh o x a n) ≡ framed_layer slot (tree.Sh o x a n)
framed_sh slot o x a n = framed_at slot (tree.Sh o x a n) (words.Sh o x a n) (words.rolls-Sh o x a n)

pub variables_sh : (o : ShiftOp) (x a n : ℕ) → variables (flow_of (words.Sh o x a n)) ≡ variables (flow_layer (tree.Sh o x a n))
variables_sh o x a n = variables_at (tree.Sh o x a n) (words.Sh o x a n) (words.rolls-Sh o x a n)

pub framed_load : (slot : ℕ → ℕ) (o : LOp) (x a : ℕ) (i : ℤ) → framed slot (words.Load o x a i) ≡ framed_layer slot (tree.Load o x a i)
framed_load slot o x a i = framed_at slot (tree.Load o x a i) (words.Load o x a i) (words.rolls-Load o x a i)

pub variables_load : (o : LOp) (x a : ℕ) (i : ℤ) → variables (flow_of (words.Load o x a i)) ≡ variables (flow_layer (tree.Load o x a i))
variables_load o x a i = variables_at (tree.Load o x a i) (words.Load o x a i) (words.rolls-Load o x a i)

pub framed_store : (slot : ℕ → ℕ) (o : SOp) (x a : ℕ) (i : ℤ) → framed slot (words.Store o x a i) ≡ framed_layer slot (tree.Store o x a i)
framed_store slot o x a i = framed_at slot (tree.Store o x a i) (words.Store o x a i) (words.rolls-Store o x a i)

pub variables_store : (o : SOp) (x a : ℕ) (i : ℤ) → variables (flow_of (words.Store o x a i)) ≡ variables (flow_layer (tree.Store o x a i))
variables_store o x a i = variables_at (tree.Store o x a i) (words.Store o x a i) (words.rolls-Store o x a i)

pub framed_break : (slot : ℕ → ℕ) → framed slot words.Break ≡ framed_layer slot tree.Break
framed_break slot = framed_at slot tree.Break words.Break words.rolls-Break

pub variables_break : variables (flow_of words.Break) ≡ variables (flow_layer tree.Break)
variables_break = variables_at tree.Break words.Break words.rolls-Break

pub framed_continue : (slot : ℕ → ℕ) → framed slot words.Continue ≡ framed_layer slot tree.Continue
framed_continue slot = framed_at slot tree.Continue words.Continue words.rolls-Continue

pub variables_continue : variables (flow_of words.Continue) ≡ variables (flow_layer tree.Continue)
variables_continue = variables_at tree.Continue words.Continue words.rolls-Continue

pub framed_tail_call : (slot : ℕ → ℕ) (f : ℕ) (args : List ℕ) → framed slot (words.TailCall f args) ≡ framed_layer slot (tree.TailCall f args)
framed_tail_call slot f args = framed_at slot (tree.TailCall f args) (words.TailCall f args) (words.rolls-TailCall f args)

pub variables_tail_call : (f : ℕ) (args : List ℕ) → variables (flow_of (words.TailCall f args)) ≡ variables (flow_layer (tree.TailCall f args))
variables_tail_call f args = variables_at (tree.TailCall f args) (words.TailCall f args) (words.rolls-TailCall f args)

pub framed_return : (slot : ℕ → ℕ) (xs : List ℕ) → framed slot (words.Return xs) ≡ framed_layer slot (tree.Return xs)
framed_return slot xs = framed_at slot (tree.Return xs) (words.Return xs) (words.rolls-Return xs)

pub variables_return : (xs : List ℕ) → variables (flow_of (words.Return xs)) ≡ variables (flow_layer (tree.Return xs))
variables_return xs = variables_at (tree.Return xs) (words.Return xs) (words.rolls-Return xs)

pub framed_raise : (slot : ℕ → ℕ) (i : ℕ) (xs : List ℕ) → framed slot (words.Raise i xs) ≡ framed_layer slot (tree.Raise i xs)
framed_raise slot i xs = framed_at slot (tree.Raise i xs) (words.Raise i xs) (words.rolls-Raise i xs)

pub variables_raise : (i : ℕ) (xs : List ℕ) → variables (flow_of (words.Raise i xs)) ≡ variables (flow_layer (tree.Raise i xs))
variables_raise i xs = variables_at (tree.Raise i xs) (words.Raise i xs) (words.rolls-Raise i xs)

pub framed_shared_load : (slot : ℕ → ℕ) (size : Size) (x a : ℕ) (i : ℤ) → framed slot (words.SharedLoad size x a i) ≡ framed_layer slot (tree.SharedLoad size x a i)
framed_shared_load slot size x a i = framed_at slot (tree.SharedLoad size x a i) (words.SharedLoad size x a i) (words.rolls-SharedLoad size x a i)

pub variables_shared_load : (size : Size) (x a : ℕ) (i : ℤ) → variables (flow_of (words.SharedLoad size x a i)) ≡ variables (flow_layer (tree.SharedLoad size x a i))
variables_shared_load size x a i = variables_at (tree.SharedLoad size x a i) (words.SharedLoad size x a i) (words.rolls-SharedLoad size x a i)

pub framed_shared_store : (slot : ℕ → ℕ) (size : Size) (x a : ℕ) (i : ℤ) → framed slot (words.SharedStore size x a i) ≡ framed_layer slot (tree.SharedStore size x a i)
framed_shared_store slot size x a i = framed_at slot (tree.SharedStore size x a i) (words.SharedStore size x a i) (words.rolls-SharedStore size x a i)

pub variables_shared_store : (size : Size) (x a : ℕ) (i : ℤ) → variables (flow_of (words.SharedStore size x a i)) ≡ variables (flow_layer (tree.SharedStore size x a i))
variables_shared_store size x a i = variables_at (tree.SharedStore size x a i) (words.SharedStore size x a i) (words.rolls-SharedStore size x a i)

pub framed_foreign : (slot : ℕ → ℕ) (i conf conf_len array array_len : ℕ) → framed slot (words.Foreign i conf conf_len array array_len) ≡ framed_layer slot (tree.Foreign i conf conf_len array array_len)
framed_foreign slot i conf conf_len array array_len = framed_at slot (tree.Foreign i conf conf_len array array_len) (words.Foreign i conf conf_len array array_len) (words.rolls-Foreign i conf conf_len array array_len)

pub variables_foreign : (i conf conf_len array array_len : ℕ) → variables (flow_of (words.Foreign i conf conf_len array array_len)) ≡ variables (flow_layer (tree.Foreign i conf conf_len array array_len))
variables_foreign i conf conf_len array array_len = variables_at (tree.Foreign i conf conf_len array array_len) (words.Foreign i conf conf_len array array_len) (words.rolls-Foreign i conf conf_len array array_len)

pub framed_seq : (slot : ℕ → ℕ) (all : List WordStmt) → framed slot (words.Seq all) ≡ s.Seq (map (framed slot) all)
framed_seq slot all = framed_at slot (tree.Seq all) (words.Seq all) (words.rolls-Seq all)

pub variables_seq : (all : List WordStmt) → variables (flow_of (words.Seq all)) ≡ variables (all_in_turn (map flow_of all))
variables_seq all = variables_at (tree.Seq all) (words.Seq all) (words.rolls-Seq all)

pub framed_if : (slot : ℕ → ℕ) (y : Test) (x z : WordStmt) → framed slot (words.If y x z) ≡ framed_layer slot (tree.If y (framed slot x) (framed slot z))
framed_if slot y x z = framed_at slot (tree.If y x z) (words.If y x z) (words.rolls-If y x z)

pub variables_if : (y : Test) (x z : WordStmt) → variables (flow_of (words.If y x z)) ≡ variables_read y ++ (variables (flow_of x) ++ variables (flow_of z))
variables_if y x z = variables_at (tree.If y x z) (words.If y x z) (words.rolls-If y x z)

pub framed_while : (slot : ℕ → ℕ) (before : List WordStmt) (y : Test) (x : WordStmt) → framed slot (words.While before y x) ≡ framed_layer slot (tree.While (map (framed slot) before) y (framed slot x))
framed_while slot before y x = framed_at slot (tree.While before y x) (words.While before y x) (words.rolls-While before y x)

pub variables_while : (before : List WordStmt) (y : Test) (x : WordStmt) → variables (flow_of (words.While before y x)) ≡ (variables (all_in_turn (map flow_of before)) ++ variables_read y) ++ variables (flow_of x)
variables_while before y x = variables_at (tree.While before y x) (words.While before y x) (words.rolls-While before y x)

pub framed_call : (slot : ℕ → ℕ) (xs : List ℕ) (f : ℕ) (args : List ℕ) (h : Option (Handler WordStmt)) → framed slot (words.Call xs f args h) ≡ s.Seq (passes slot 0 args ++ s.Call f (s.Seq (fetches slot 0 xs)) (framed_handler slot (handler_as (framed slot) h)) ∷ [])
framed_call slot xs f args None = framed_at slot (tree.Call xs f args None) (words.Call xs f args None) (words.rolls-Call xs f args None)
framed_call slot xs f args (Some h) = framed_at slot (tree.Call xs f args (Some h)) (words.Call xs f args (Some h)) (words.rolls-Call xs f args (Some h))

pub variables_call : (xs : List ℕ) (f : ℕ) (args : List ℕ) (h : Option (Handler WordStmt)) → variables (flow_of (words.Call xs f args h)) ≡ args ++ (xs ++ handler_variables h)
variables_call xs f args None = variables_at (tree.Call xs f args None) (words.Call xs f args None) (words.rolls-Call xs f args None) ∙ ap (λ ys. args ++ ys) (sym (append-nil xs))
variables_call xs f args (Some h) = variables_at (tree.Call xs f args (Some h)) (words.Call xs f args (Some h)) (words.rolls-Call xs f args (Some h))

pub ruleset framed_rules = (append_assoc, nat_tests, framed_seq, framed_if, framed_while, framed_call, framed_skip, framed_const, framed_reg, framed_imm, framed_sh, framed_load, framed_store, framed_break, framed_continue, framed_tail_call, framed_return, framed_raise, framed_shared_load, framed_shared_store, framed_foreign)

pub ruleset variables_rules = (append_assoc, append-nil, nat_tests, variables_seq, variables_if, variables_while, variables_call, variables_skip, variables_const, variables_reg, variables_imm, variables_sh, variables_load, variables_store, variables_break, variables_continue, variables_tail_call, variables_return, variables_raise, variables_shared_load, variables_shared_store, variables_foreign)
