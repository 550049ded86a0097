-- Words and runs without globals, beside those of a source without globals.
use Rattle.std.proofs.Common.{◌≡◌, ℕ, List, [], map, Option, Some}
use Rattle.std.specs.Prelude.{option_map, option_and_then}
use Rattle.pan_base.specs.Words.{operate, shift, truth}
use Rattle.pan_base.specs.declared.events.Size.TheVariants.{B1, B8}
use Rattle.pan_base.specs.declared.operators.BinOp.{BinOp}
use Rattle.pan_base.specs.declared.operators.ShOp.{ShOp}
use Rattle.pan_base.specs.declared.operators.Cmp.{Cmp}
use Rattle.pan_tree.specs.Running.{World}
use Rattle.pan_stage.specs.Locals.{Locals, all_words}
use Rattle.pan_stage.specs.Data as stored
use Rattle.pan_stage.specs.Data.{read}
use Rattle.pan_stage.proofs.Follows.{View, keeping, beside}
use Rattle.crep_lang.specs.Meaning as crep
use Rattle.crep_lang.specs.declared.syntax.Expr.{Expr}
use Rattle.crep_lang.specs.declared.syntax.Expr.TheVariants as expr
use Rattle.crep_lang.proofs.Exprs as equations

-- the source has no globals
abbrev pub no_globals : View (Unit {0}) (List ℕ)
no_globals = keeping (λ g. [])

abbrev pub with_toll : ℕ → World → stored.World
with_toll t w = beside no_globals t w

abbrev pub word : Expr → Locals → List ℕ → Option ℕ
word e u m = crep.word e u [] m

abbrev pub words : List Expr → Locals → List ℕ → Option (List ℕ)
words es u m = all_words (map (λ e. word e u m) es)

pub word_num : (n : ℕ) (u : Locals) (m : List ℕ) → word (expr.Num n) u m ≡ Some n
word_num n u m = equations.word_num n u [] m

pub word_var : (x : ℕ) (u : Locals) (m : List ℕ) → word (expr.Var x) u m ≡ Some (u x)
word_var x u m = equations.word_var x u [] m

pub word_load : (a : Expr) (u : Locals) (m : List ℕ) → word (expr.LoadWord a) u m ≡ option_and_then (read B8 [] m) (word a u m)
word_load a u m = equations.word_load_word a u [] m

pub word_byte : (a : Expr) (u : Locals) (m : List ℕ) → word (expr.LoadByte a) u m ≡ option_and_then (read B1 [] m) (word a u m)
word_byte a u m = equations.word_load_byte a u [] m

pub word_bin : (o : BinOp) (a b : Expr) (u : Locals) (m : List ℕ) → word (expr.Bin o a b) u m ≡ option_and_then (λ x. option_map (operate o x) (word b u m)) (word a u m)
word_bin o a b u m = equations.word_bin o a b u [] m

pub word_shift : (o : ShOp) (a : Expr) (n : ℕ) (u : Locals) (m : List ℕ) → word (expr.Shift o a n) u m ≡ option_map (λ x. shift o x n) (word a u m)
word_shift o a n u m = equations.word_shift o a n u [] m

pub word_compare : (c : Cmp) (a b : Expr) (u : Locals) (m : List ℕ) → word (expr.Compare c a b) u m ≡ option_and_then (λ x. option_map (truth c x) (word b u m)) (word a u m)
word_compare c a b u m = equations.word_compare c a b u [] m
