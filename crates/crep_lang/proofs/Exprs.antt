-- What is said of expressions, at each variant.
use Rattle.std.proofs.Common.{◌≡◌, ℕ, ◌+◌, List, [], ◌∷◌, ◌++◌, Some, sym, ap, ◌∙◌}
use Rattle.std.specs.Prelude.{max, option_map, option_and_then}
use Rattle.pan_base.specs.Words.{operate, shift, truth}
use Rattle.pan_base.specs.declared.events.Size.TheVariants.{B1, B8}
use Rattle.pan_base.specs.declared.operators.BinOp.{BinOp}
use Rattle.pan_base.specs.declared.operators.ShOp.{ShOp}
use Rattle.pan_base.specs.declared.operators.Cmp.{Cmp}
use Rattle.pan_stage.specs.Data.{read}
use Rattle.pan_stage.specs.Locals.{Locals}
use Rattle.pan_stage.specs.Mentions.{Mention}
use Rattle.pan_stage.specs.Mentions as mention
use Rattle.crep_lang.specs.Meaning.{Giving, word_layer, word}
use Rattle.crep_lang.specs.Needs.{temporaries_layer, temporaries}
use Rattle.crep_lang.specs.Steps.{expr_layer, expr_steps}
use Rattle.crep_lang.specs.Text.{mentioned_layer, mentioned, read_layer, variables_read}
use Rattle.crep_lang.specs.declared.syntax.Expr.{Expr, Expr-F, roll-Expr, map-Expr, fold-roll-Expr}
use Rattle.crep_lang.specs.declared.syntax.Expr.TheOpen as open_expr
use Rattle.crep_lang.specs.declared.syntax.Expr.TheVariants as expr

-- ---- words

word_roll : (y : Expr-F Expr) → word (roll-Expr y) ≡ word_layer (map-Expr Expr Giving word y)
unfolding word
word_roll y = fold-roll-Expr Giving word_layer y

word_as : (y : Expr-F Expr) (x : Expr) → roll-Expr y ≡ x → (u : Locals) (g m : List ℕ) → word x u g m ≡ word_layer (map-Expr Expr Giving word y) u g m
word_as y x is u g m = ap (λ x. word x u g m) (sym is) ∙ ap (λ f. f u g m) (word_roll y)

pub word_num : (n : ℕ) (u : Locals) (g m : List ℕ) → word (expr.Num n) u g m ≡ Some n
word_num n u g m = word_as (open_expr.Num n) _ (expr.rolls-Num n) u g m

pub word_var : (x : ℕ) (u : Locals) (g m : List ℕ) → word (expr.Var x) u g m ≡ Some (u x)
word_var x u g m = word_as (open_expr.Var x) _ (expr.rolls-Var x) u g m

pub word_load_word : (a : Expr) (u : Locals) (g m : List ℕ) → word (expr.LoadWord a) u g m ≡ option_and_then (read B8 g m) (word a u g m)
word_load_word a u g m = word_as (open_expr.LoadWord a) _ (expr.rolls-LoadWord a) u g m

pub word_load_byte : (a : Expr) (u : Locals) (g m : List ℕ) → word (expr.LoadByte a) u g m ≡ option_and_then (read B1 g m) (word a u g m)
word_load_byte a u g m = word_as (open_expr.LoadByte a) _ (expr.rolls-LoadByte a) u g m

pub word_bin : (o : BinOp) (a b : Expr) (u : Locals) (g m : List ℕ) → word (expr.Bin o a b) u g m ≡ option_and_then (λ x. option_map (operate o x) (word b u g m)) (word a u g m)
word_bin o a b u g m = word_as (open_expr.Bin o a b) _ (expr.rolls-Bin o a b) u g m

pub word_shift : (o : ShOp) (a : Expr) (n : ℕ) (u : Locals) (g m : List ℕ) → word (expr.Shift o a n) u g m ≡ option_map (λ x. shift o x n) (word a u g m)
word_shift o a n u g m = word_as (open_expr.Shift o a n) _ (expr.rolls-Shift o a n) u g m

pub word_compare : (c : Cmp) (a b : Expr) (u : Locals) (g m : List ℕ) → word (expr.Compare c a b) u g m ≡ option_and_then (λ x. option_map (truth c x) (word b u g m)) (word a u g m)
word_compare c a b u g m = word_as (open_expr.Compare c a b) _ (expr.rolls-Compare c a b) u g m

pub ruleset word_rules = (word_num, word_var, word_load_word, word_load_byte, word_bin, word_shift, word_compare)

-- ---- steps

steps_roll : (y : Expr-F Expr) → expr_steps (roll-Expr y) ≡ expr_layer (map-Expr Expr ℕ expr_steps y)
unfolding expr_steps
steps_roll y = fold-roll-Expr ℕ expr_layer y

steps_as : (y : Expr-F Expr) (x : Expr) → roll-Expr y ≡ x → expr_steps x ≡ expr_layer (map-Expr Expr ℕ expr_steps y)
steps_as y x is = ap expr_steps (sym is) ∙ steps_roll y

pub steps_num : (n : ℕ) → expr_steps (expr.Num n) ≡ 1
steps_num n = steps_as (open_expr.Num n) _ (expr.rolls-Num n)

pub steps_var : (x : ℕ) → expr_steps (expr.Var x) ≡ 1
steps_var x = steps_as (open_expr.Var x) _ (expr.rolls-Var x)

pub steps_load_word : (a : Expr) → expr_steps (expr.LoadWord a) ≡ 1 + expr_steps a
steps_load_word a = steps_as (open_expr.LoadWord a) _ (expr.rolls-LoadWord a)

pub steps_load_byte : (a : Expr) → expr_steps (expr.LoadByte a) ≡ 1 + expr_steps a
steps_load_byte a = steps_as (open_expr.LoadByte a) _ (expr.rolls-LoadByte a)

pub steps_bin : (o : BinOp) (a b : Expr) → expr_steps (expr.Bin o a b) ≡ 1 + expr_steps a + expr_steps b
steps_bin o a b = steps_as (open_expr.Bin o a b) _ (expr.rolls-Bin o a b)

pub steps_shift : (o : ShOp) (a : Expr) (n : ℕ) → expr_steps (expr.Shift o a n) ≡ 3 + expr_steps a
steps_shift o a n = steps_as (open_expr.Shift o a n) _ (expr.rolls-Shift o a n)

pub steps_compare : (c : Cmp) (a b : Expr) → expr_steps (expr.Compare c a b) ≡ 3 + expr_steps a + expr_steps b
steps_compare c a b = steps_as (open_expr.Compare c a b) _ (expr.rolls-Compare c a b)

pub ruleset steps_rules = (steps_num, steps_var, steps_load_word, steps_load_byte, steps_bin, steps_shift, steps_compare)

-- ---- temporary words

temporaries_roll : (y : Expr-F Expr) → temporaries (roll-Expr y) ≡ temporaries_layer (map-Expr Expr ℕ temporaries y)
unfolding temporaries
temporaries_roll y = fold-roll-Expr ℕ temporaries_layer y

temporaries_as : (y : Expr-F Expr) (x : Expr) → roll-Expr y ≡ x → temporaries x ≡ temporaries_layer (map-Expr Expr ℕ temporaries y)
temporaries_as y x is = ap temporaries (sym is) ∙ temporaries_roll y

pub temporaries_num : (n : ℕ) → temporaries (expr.Num n) ≡ 1
temporaries_num n = temporaries_as (open_expr.Num n) _ (expr.rolls-Num n)

pub temporaries_var : (x : ℕ) → temporaries (expr.Var x) ≡ 1
temporaries_var x = temporaries_as (open_expr.Var x) _ (expr.rolls-Var x)

pub temporaries_load_word : (a : Expr) → temporaries (expr.LoadWord a) ≡ temporaries a
temporaries_load_word a = temporaries_as (open_expr.LoadWord a) _ (expr.rolls-LoadWord a)

pub temporaries_load_byte : (a : Expr) → temporaries (expr.LoadByte a) ≡ temporaries a
temporaries_load_byte a = temporaries_as (open_expr.LoadByte a) _ (expr.rolls-LoadByte a)

pub temporaries_bin : (o : BinOp) (a b : Expr) → temporaries (expr.Bin o a b) ≡ max (temporaries a) (1 + temporaries b)
temporaries_bin o a b = temporaries_as (open_expr.Bin o a b) _ (expr.rolls-Bin o a b)

pub temporaries_shift : (o : ShOp) (a : Expr) (n : ℕ) → temporaries (expr.Shift o a n) ≡ temporaries a
temporaries_shift o a n = temporaries_as (open_expr.Shift o a n) _ (expr.rolls-Shift o a n)

pub temporaries_compare : (c : Cmp) (a b : Expr) → temporaries (expr.Compare c a b) ≡ max (temporaries a) (1 + temporaries b)
temporaries_compare c a b = temporaries_as (open_expr.Compare c a b) _ (expr.rolls-Compare c a b)

pub ruleset temporaries_rules = (temporaries_num, temporaries_var, temporaries_load_word, temporaries_load_byte, temporaries_bin, temporaries_shift, temporaries_compare)

-- ---- mentions

mentioned_roll : (y : Expr-F Expr) → mentioned (roll-Expr y) ≡ mentioned_layer (map-Expr Expr (List Mention) mentioned y)
unfolding mentioned
mentioned_roll y = fold-roll-Expr (List Mention) mentioned_layer y

mentioned_as : (y : Expr-F Expr) (x : Expr) → roll-Expr y ≡ x → mentioned x ≡ mentioned_layer (map-Expr Expr (List Mention) mentioned y)
mentioned_as y x is = ap mentioned (sym is) ∙ mentioned_roll y

pub mentioned_num : (n : ℕ) → mentioned (expr.Num n) ≡ mention.Number n ∷ []
mentioned_num n = mentioned_as (open_expr.Num n) _ (expr.rolls-Num n)

pub mentioned_var : (x : ℕ) → mentioned (expr.Var x) ≡ []
mentioned_var x = mentioned_as (open_expr.Var x) _ (expr.rolls-Var x)

pub mentioned_load_word : (a : Expr) → mentioned (expr.LoadWord a) ≡ mentioned a
mentioned_load_word a = mentioned_as (open_expr.LoadWord a) _ (expr.rolls-LoadWord a)

pub mentioned_load_byte : (a : Expr) → mentioned (expr.LoadByte a) ≡ mentioned a
mentioned_load_byte a = mentioned_as (open_expr.LoadByte a) _ (expr.rolls-LoadByte a)

pub mentioned_bin : (o : BinOp) (a b : Expr) → mentioned (expr.Bin o a b) ≡ mentioned a ++ mentioned b
mentioned_bin o a b = mentioned_as (open_expr.Bin o a b) _ (expr.rolls-Bin o a b)

pub mentioned_shift : (o : ShOp) (a : Expr) (n : ℕ) → mentioned (expr.Shift o a n) ≡ mention.Amount 64 n ∷ mentioned a
mentioned_shift o a n = mentioned_as (open_expr.Shift o a n) _ (expr.rolls-Shift o a n)

pub mentioned_compare : (c : Cmp) (a b : Expr) → mentioned (expr.Compare c a b) ≡ mentioned a ++ mentioned b
mentioned_compare c a b = mentioned_as (open_expr.Compare c a b) _ (expr.rolls-Compare c a b)

pub ruleset mentioned_rules = (mentioned_num, mentioned_var, mentioned_load_word, mentioned_load_byte, mentioned_bin, mentioned_shift, mentioned_compare)

-- ---- variables

read_roll : (y : Expr-F Expr) → variables_read (roll-Expr y) ≡ read_layer (map-Expr Expr (List ℕ) variables_read y)
unfolding variables_read
read_roll y = fold-roll-Expr (List ℕ) read_layer y

read_as : (y : Expr-F Expr) (x : Expr) → roll-Expr y ≡ x → variables_read x ≡ read_layer (map-Expr Expr (List ℕ) variables_read y)
read_as y x is = ap variables_read (sym is) ∙ read_roll y

pub read_num : (n : ℕ) → variables_read (expr.Num n) ≡ []
read_num n = read_as (open_expr.Num n) _ (expr.rolls-Num n)

pub read_var : (x : ℕ) → variables_read (expr.Var x) ≡ x ∷ []
read_var x = read_as (open_expr.Var x) _ (expr.rolls-Var x)

pub read_load_word : (a : Expr) → variables_read (expr.LoadWord a) ≡ variables_read a
read_load_word a = read_as (open_expr.LoadWord a) _ (expr.rolls-LoadWord a)

pub read_load_byte : (a : Expr) → variables_read (expr.LoadByte a) ≡ variables_read a
read_load_byte a = read_as (open_expr.LoadByte a) _ (expr.rolls-LoadByte a)

pub read_bin : (o : BinOp) (a b : Expr) → variables_read (expr.Bin o a b) ≡ variables_read a ++ variables_read b
read_bin o a b = read_as (open_expr.Bin o a b) _ (expr.rolls-Bin o a b)

pub read_shift : (o : ShOp) (a : Expr) (n : ℕ) → variables_read (expr.Shift o a n) ≡ variables_read a
read_shift o a n = read_as (open_expr.Shift o a n) _ (expr.rolls-Shift o a n)

pub read_compare : (c : Cmp) (a b : Expr) → variables_read (expr.Compare c a b) ≡ variables_read a ++ variables_read b
read_compare c a b = read_as (open_expr.Compare c a b) _ (expr.rolls-Compare c a b)

pub ruleset read_rules = (read_num, read_var, read_load_word, read_load_byte, read_bin, read_shift, read_compare)
