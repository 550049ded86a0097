-- Words moved to variables and to memory, one by one.
use Rattle.std.proofs.Common.{◌≡◌, ℕ, zero, suc, ◌&&◌, true, false, List, [], ◌∷◌, length, drop, append_assoc, append-nil, Some, slice_get, refl, ap, ◌∙◌}
use Rattle.std.proofs.lemmas.List.Folds.{list_all-append}
use Rattle.crep_lang.specs.declared.syntax.Expr.{Expr}
use Rattle.crep_lang.proofs.Exprs.{read_rules}
use Rattle.crep_flatten.specs.Reads.{reads_none, go_straight}

-- which variables an expression reads, at each variant
pub ruleset apart_rules = (read_rules, list_all-append)

-- ---- words in order

-- whether the words that are left are in order, by the first of them
order_first : (x i : ℕ) (ws : List Expr) (w : Expr) → slice_get ws i ≡ Some w → (n : ℕ) → go_straight x n (drop i ws) ≡ (reads_none x n w && go_straight x (suc n) (drop (suc i) ws))
order_first x i [] w h n = absurd cc
order_first x zero (v ∷ ws) w h n = let same : v ≡ w = cc in ap (λ v. reads_none x n v && go_straight x (suc n) ws) same
order_first x (suc i) (v ∷ ws) w h n = order_first x i ws w h n

pub order_next : (x i : ℕ) (ws : List Expr) (w : Expr) → slice_get ws i ≡ Some w → reads_none x i w ≡ true → go_straight x i (drop i ws) ≡ go_straight x (suc i) (drop (suc i) ws)
order_next x i ws w h r = order_first x i ws w h i ∙ ap (λ b. b && go_straight x (suc i) (drop (suc i) ws)) r

pub order_broken : (x i : ℕ) (ws : List Expr) (w : Expr) → slice_get ws i ≡ Some w → reads_none x i w ≡ false → go_straight x i (drop i ws) ≡ false
order_broken x i ws w h r = order_first x i ws w h i ∙ ap (λ b. b && go_straight x (suc i) (drop (suc i) ws)) r

pub order_done : (x : ℕ) (ws : List Expr) → go_straight x (length ws) (drop (length ws) ws) ≡ true
order_done x ws = ap (go_straight x (length ws)) (drop_all ws)
  where
    drop_all : (ws : List Expr) → drop (length ws) ws ≡ []
    drop_all [] = refl
    drop_all (w ∷ ws) = drop_all ws

pub ruleset order_rules = (order_next, order_broken, order_done)

-- ---- words one after another

pub ruleset move_rules = (append_assoc, append-nil)
