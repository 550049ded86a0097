-- What is said of a statement of steps, at its layer.
use Rattle.std.proofs.Common.{◌≡◌, ℕ, List, subst}
use Rattle.pan_flow.specs.Flow.{Flow}
use Rattle.pan_stage.specs.Data.{Callee}
use Rattle.pan_stage.specs.Mentions.{Mention}
use Rattle.pan_stage.specs.Programs.{Does}
use Rattle.pan_stage.specs.Stage.{Site}
use Rattle.loop_lang.specs.Meaning.{run_layer, run}
use Rattle.loop_lang.specs.Needs.{code_layer, code}
use Rattle.loop_lang.specs.Text.{sites_layer, sites, mentions_layer, mentions, flow_layer, flow_of}
use Rattle.loop_lang.specs.declared.syntax.Stmt.{Stmt, Stmt-F, roll-Stmt, map-Stmt, ind-Stmt, fold-roll-Stmt}
use Rattle.word_select.specs.Selected.{Selects, select_layer, selected}

-- what holds at each layer whose parts it holds of holds of every statement
pub stmt_induct : (P : Stmt → Type 0) → ((y : Stmt-F ((s : Stmt) × P s)) → P (roll-Stmt (map-Stmt ((s : Stmt) × P s) Stmt (λ c. c.0) y))) → (s : Stmt) → P s
stmt_induct P at s = ind-Stmt P (λ x y is. subst (λ x. P (roll-Stmt x)) is (at y)) s

pub run_roll : (names : List (List ℕ)) (d : ℕ) (callee : Callee (List ℕ) (List ℕ)) (y : Stmt-F Stmt) → run names d callee (roll-Stmt y) ≡ run_layer names d callee (map-Stmt Stmt Does (run names d callee) y)
unfolding run
run_roll names d callee y = fold-roll-Stmt Does (run_layer names d callee) y

pub sites_roll : (y : Stmt-F Stmt) → sites (roll-Stmt y) ≡ sites_layer (map-Stmt Stmt (List Site) sites y)
unfolding sites
sites_roll y = fold-roll-Stmt (List Site) sites_layer y

pub mentions_roll : (y : Stmt-F Stmt) → mentions (roll-Stmt y) ≡ mentions_layer (map-Stmt Stmt (List Mention) mentions y)
unfolding mentions
mentions_roll y = fold-roll-Stmt (List Mention) mentions_layer y

pub flow_roll : (y : Stmt-F Stmt) → flow_of (roll-Stmt y) ≡ flow_layer (map-Stmt Stmt Flow flow_of y)
unfolding flow_of
flow_roll y = fold-roll-Stmt Flow flow_layer y

pub code_roll : (y : Stmt-F Stmt) → code (roll-Stmt y) ≡ code_layer (map-Stmt Stmt ℕ code y)
unfolding code
code_roll y = fold-roll-Stmt ℕ code_layer y

pub selected_roll : (t : ℕ) (y : Stmt-F Stmt) → selected t (roll-Stmt y) ≡ select_layer t (map-Stmt Stmt Selects (selected t) y)
unfolding selected
selected_roll t y = fold-roll-Stmt Selects (select_layer t) y
