-- Each fold at one layer, induction over expressions and statements, and laws of rows.
use Rattle.std.proofs.Common.{◌≡◌, ℕ, suc, List, [], ◌∷◌, ◌++◌, map, length, Option, Some, None, arith, refl, ap, subst, ◌∙◌}
use Rattle.std.specs.Prelude.{max, option_map, option_and_then}
use Rattle.pan_flow.specs.Flow.{Flow}
use Rattle.pan_flow.specs.Functions.{above}
use Rattle.pan_stage.specs.Locals.{Locals, all_words}
use Rattle.pan_stage.specs.Mentions.{Mention}
use Rattle.pan_stage.specs.Stage.{Site}
use Rattle.crep_lang.specs.Meaning.{Giving, word_layer, word}
use Rattle.crep_lang.specs.Needs.{temporaries_layer, temporaries, between_layer, between, code_layer, code}
use Rattle.crep_lang.specs.Steps.{expr_layer, expr_steps}
use Rattle.crep_lang.specs.Text.{sites_layer, sites, mentioned_layer, mentioned, mentions_layer, mentions, read_layer, variables_read, flow_layer, flow_of}
use Rattle.crep_lang.specs.declared.syntax.Expr.{Expr, Expr-F, roll-Expr, map-Expr, ind-Expr, fold-roll-Expr}
use Rattle.crep_lang.specs.declared.syntax.Stmt.{Stmt as Crep, Stmt-F as Crep-F, roll-Stmt as roll-Crep, map-Stmt as map-Crep, ind-Stmt as ind-Crep, fold-roll-Stmt as fold-roll-Crep}
use Rattle.loop_lower.specs.declared.places.Placed.{Placed}
use Rattle.loop_lower.specs.Lowered.{Lowered, lower_layer, lower, placed_layer, placed}

-- ---- expressions

pub expr_induct : (P : Expr → Type 0) → ((y : Expr-F ((e : Expr) × P e)) → P (roll-Expr (map-Expr ((e : Expr) × P e) Expr (λ c. c.0) y))) → (e : Expr) → P e
expr_induct P at e = ind-Expr P (λ x y is. subst (λ x. P (roll-Expr x)) is (at y)) e

pub word_roll : (y : Expr-F Expr) → word (roll-Expr y) ≡ word_layer (map-Expr Expr Giving word y)
unfolding word
word_roll y = fold-roll-Expr Giving word_layer y

pub steps_roll : (y : Expr-F Expr) → expr_steps (roll-Expr y) ≡ expr_layer (map-Expr Expr ℕ expr_steps y)
unfolding expr_steps
steps_roll y = fold-roll-Expr ℕ expr_layer y

pub temporaries_roll : (y : Expr-F Expr) → temporaries (roll-Expr y) ≡ temporaries_layer (map-Expr Expr ℕ temporaries y)
unfolding temporaries
temporaries_roll y = fold-roll-Expr ℕ temporaries_layer y

pub read_roll : (y : Expr-F Expr) → variables_read (roll-Expr y) ≡ read_layer (map-Expr Expr (List ℕ) variables_read y)
unfolding variables_read
read_roll y = fold-roll-Expr (List ℕ) read_layer y

pub mentioned_roll : (y : Expr-F Expr) → mentioned (roll-Expr y) ≡ mentioned_layer (map-Expr Expr (List Mention) mentioned y)
unfolding mentioned
mentioned_roll y = fold-roll-Expr (List Mention) mentioned_layer y

pub lower_roll : (apart : _) (y : Expr-F Expr) → lower apart (roll-Expr y) ≡ lower_layer apart (map-Expr Expr Lowered (lower apart) y)
unfolding lower
lower_roll apart y = fold-roll-Expr Lowered (lower_layer apart) y

-- ---- statements

pub crep_induct : (P : Crep → Type 0) → ((y : Crep-F ((s : Crep) × P s)) → P (roll-Crep (map-Crep ((s : Crep) × P s) Crep (λ c. c.0) y))) → (s : Crep) → P s
crep_induct P at s = ind-Crep P (λ x y is. subst (λ x. P (roll-Crep x)) is (at y)) s

pub sites_roll : (y : Crep-F Crep) → sites (roll-Crep y) ≡ sites_layer (map-Crep Crep (List Site) sites y)
unfolding sites
sites_roll y = fold-roll-Crep (List Site) sites_layer y

pub mentions_roll : (y : Crep-F Crep) → mentions (roll-Crep y) ≡ mentions_layer (map-Crep Crep (List Mention) mentions y)
unfolding mentions
mentions_roll y = fold-roll-Crep (List Mention) mentions_layer y

pub flow_roll : (y : Crep-F Crep) → flow_of (roll-Crep y) ≡ flow_layer (map-Crep Crep Flow flow_of y)
unfolding flow_of
flow_roll y = fold-roll-Crep Flow flow_layer y

pub between_roll : (y : Crep-F Crep) → between (roll-Crep y) ≡ between_layer (map-Crep Crep ℕ between y)
unfolding between
between_roll y = fold-roll-Crep ℕ between_layer y

pub code_roll : (y : Crep-F Crep) → code (roll-Crep y) ≡ code_layer (map-Crep Crep ℕ code y)
unfolding code
code_roll y = fold-roll-Crep ℕ code_layer y

pub placed_roll : (limit base : ℕ) (y : Crep-F Crep) → placed limit base (roll-Crep y) ≡ placed_layer limit base (map-Crep Crep (ℕ → Placed) (placed limit base) y)
unfolding placed
placed_roll limit base y = fold-roll-Crep (ℕ → Placed) (placed_layer limit base) y

-- ---- options

pub map_some : {A B : Type 0} (f : A → B) (o : Option A) (b : B) → option_map f o ≡ Some b → (a : A) × (o ≡ Some a) × (f a ≡ b)
map_some f None b h = absurd cc
map_some f (Some a) b h = let e : f a ≡ b = cc in (a, refl, e)

pub then_some : {A B : Type 0} (f : A → Option B) (o : Option A) (b : B) → option_and_then f o ≡ Some b → (a : A) × (o ≡ Some a) × (f a ≡ Some b)
then_some f None b h = absurd cc
then_some f (Some a) b h = (a, refl, h)

-- ---- rows

pub above_append : (xs ys : List ℕ) → above (xs ++ ys) ≡ max (above xs) (above ys)
above_append [] ys = omega arith
above_append (x ∷ xs) ys = ap (max (suc x)) (above_append xs ys) ∙ omega arith

pub append_none : {A : Type 0} (xs : List A) → xs ++ [] ≡ xs
append_none [] = refl
append_none (x ∷ xs) = ap (λ xs. x ∷ xs) (append_none xs)

pub map_length : {A B : Type 0} (f : A → B) (xs : List A) → length (map f xs) ≡ length xs
map_length f [] = refl
map_length f (x ∷ xs) = ap suc (map_length f xs)

-- ---- the words of a row

pub words_more : (u : Locals) (gs m : List ℕ) (x : Expr) (xs : List Expr) (n : ℕ) (ns : List ℕ) → word x u gs m ≡ Some n → all_words (map (λ e. word e u gs m) xs) ≡ Some ns → all_words (map (λ e. word e u gs m) (x ∷ xs)) ≡ Some (n ∷ ns)
words_more u gs m x xs n ns h hs = ap (λ o. all_words (o ∷ map (λ e. word e u gs m) xs)) h ∙ ap (option_map (λ ns. n ∷ ns)) hs

pub words_first : (u : Locals) (gs m : List ℕ) (x : Expr) (xs : List Expr) (ns : List ℕ) → all_words (map (λ e. word e u gs m) (x ∷ xs)) ≡ Some ns
    → (n : ℕ) × (ms : List ℕ) × (word x u gs m ≡ Some n) × (all_words (map (λ e. word e u gs m) xs) ≡ Some ms) × (n ∷ ms ≡ ns)
words_first u gs m x xs ns h = by (word x u gs m) h
  where
    by : (o : Option ℕ) → all_words (o ∷ map (λ e. word e u gs m) xs) ≡ Some ns → (n : ℕ) × (ms : List ℕ) × (o ≡ Some n) × (all_words (map (λ e. word e u gs m) xs) ≡ Some ms) × (n ∷ ms ≡ ns)
    by None h = absurd cc
    by (Some n) h = let s = map_some (λ ns. n ∷ ns) (all_words (map (λ e. word e u gs m) xs)) ns h in (n, s.0, refl, s.1, s.2)
