-- What is said of a statement, by what is said of its parts.
use Rattle.std.proofs.Common.{◌≡◌, ℕ, List, subst}
use Rattle.pan_stage.specs.Stage.{Site}
use Rattle.stack_lang.specs.declared.syntax.Stmt.{Stmt, Stmt-F, roll-Stmt, map-Stmt, ind-Stmt, fold-roll-Stmt}
use Rattle.stack_lang.specs.Frames.{front_layer, front}
use Rattle.stack_lang.specs.Meaning.{Callee, Does, run_layer, run}
use Rattle.stack_lang.specs.Needs.{code_layer, code}
use Rattle.stack_lang.specs.Text.{Mention, sites_layer, sites, mentions_layer, mentions}

-- what holds of a statement whose parts have it, whatever it is, holds of each
pub stmt_induct : (P : Stmt → Type 0) → ((y : Stmt-F ((s : Stmt) × P s)) → P (roll-Stmt (map-Stmt ((s : Stmt) × P s) Stmt (λ c. c.0) y))) → (s : Stmt) → P s
stmt_induct P at s = ind-Stmt P (λ x y is. subst (λ x. P (roll-Stmt x)) is (at y)) s

pub run_roll : (size d : ℕ) (callee : Callee) (x : Stmt-F Stmt) → run size d callee (roll-Stmt x) ≡ run_layer size d callee (map-Stmt Stmt Does (run size d callee) x)
unfolding run
run_roll size d callee x = fold-roll-Stmt Does (run_layer size d callee) x

pub sites_roll : (x : Stmt-F Stmt) → sites (roll-Stmt x) ≡ sites_layer (map-Stmt Stmt (List Site) sites x)
unfolding sites
sites_roll x = fold-roll-Stmt (List Site) sites_layer x

pub mentions_roll : (x : Stmt-F Stmt) → mentions (roll-Stmt x) ≡ mentions_layer (map-Stmt Stmt (List Mention) mentions x)
unfolding mentions
mentions_roll x = fold-roll-Stmt (List Mention) mentions_layer x

pub code_roll : (x : Stmt-F Stmt) → code (roll-Stmt x) ≡ code_layer (map-Stmt Stmt ℕ code x)
unfolding code
code_roll x = fold-roll-Stmt ℕ code_layer x

pub front_roll : (x : Stmt-F Stmt) → front (roll-Stmt x) ≡ front_layer (map-Stmt Stmt ℕ front x)
unfolding front
front_roll x = fold-roll-Stmt ℕ front_layer x
