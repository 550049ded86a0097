-- Rows of assignments and of stores.
use Rattle.std.proofs.Common.{◌≡◌, ℕ, suc, ◌+◌, ◌<◌, ◌≤◌, List, [], ◌∷◌, map, length, Option, Some, arith, refl, sym, ap, ◌∙◌}
use Rattle.pan_base.specs.declared.events.Size.TheVariants.{B8}
use Rattle.pan_control.specs.Memory.{with_word, with_words, next_word}
use Rattle.pan_control.specs.Control.{Normal, in_turn, and_then, with_value}
use Rattle.pan_stage.specs.Locals.{Locals, write}
use Rattle.crep_lang.specs.Meaning.{run}
use Rattle.crep_lang.specs.Steps.{expr_steps}
use Rattle.crep_lang.specs.declared.syntax.Expr.{Expr}
use Rattle.crep_lang.specs.declared.syntax.Stmt.TheVariants as stmt
use Rattle.crep_lang.proofs.Sizes.{code_assign, code_store_word}
use Rattle.crep_lang.proofs.Runs.{run_assign, run_store_word}
use Rattle.crep_flatten.specs.Rows.{far}
use Rattle.crep_flatten.specs.Flattened.{assign_row, store_row}
use Rattle.crep_flatten.proofs.Holding.{write_from, below_written, behind_written, write_other}
use Rattle.crep_flatten.proofs.WordLemmas.{then_some, words_first, along, along_next, far_word}
use Rattle.crep_flatten.proofs.FlatExprs.{all_code, after}
use Rattle.pan_tree.specs.Running.{World}
use Rattle.pan_stage.specs.Data.{with_written}
use Rattle.pan_stage.proofs.DataLaws.{word_written}
use Rattle.pan_stage.specs.Data.{World as WordWorld, Callee as WordCallee, Outcome as WordOutcome}
use Rattle.crep_flatten.proofs.Beside.{with_toll, word, words}

-- all variables but those from n to m are the same
pub record Outside (n m : ℕ) (u u' : Locals) : Type 0 where
  pub below : (y : ℕ) → y < n → u' y ≡ u y
  pub behind : (y : ℕ) → m ≤ y → u' y ≡ u y

pub written_outside : (x : ℕ) (ns : List ℕ) (k : ℕ) (u : Locals) → length ns ≡ k → Outside x (x + k) u (write_from x ns u)
written_outside x ns k u h = record { below = below_written x ns u; behind = λ y l. behind_written x ns u y (omega (arith, h)) }

module _ (names : List (List ℕ)) (d : ℕ) (callee : WordCallee (List ℕ) (List ℕ)) (m : List ℕ) where
  abbrev assign_on : Option ℕ → ℕ → Locals → WordWorld → WordOutcome Locals (List ℕ)
  assign_on o x u w = with_value o w (λ n. Normal (write x n u) w)

  pub assigns : (x : ℕ) (e : Expr) (n : ℕ) (u : Locals) (did : ℕ) (w : World) → w.memory ≡ m → word e u m ≡ Some n
      → run names d callee (stmt.Assign x e) u (with_toll did w) ≡ Normal (write x n u) (with_toll (after did (1 + expr_steps e)) w)
  assigns x e n u did w is h = run_assign names d callee x e u (with_toll did w) ∙ ap (λ o. assign_on o x u (with_toll (after did (1 + expr_steps e)) w)) (ap (word e u) is ∙ h)

  -- each word to the next variable, where the words don't depend on these variables
  pub row_runs : (ws : List Expr) (ns : List ℕ) (x : ℕ) (u : Locals) (did : ℕ) (w : World) → w.memory ≡ m
      → ((u' : Locals) → Outside x (x + length ws) u u' → words ws u' m ≡ Some ns)
      → in_turn (map (run names d callee) (assign_row x ws)) u (with_toll did w) ≡ Normal (write_from x ns u) (with_toll (after did (all_code (assign_row x ws))) w)
  row_runs [] ns x u did w is h =
      let e : [] ≡ ns = nothing (h u (record { below = λ y l. refl; behind = λ y l. refl })) in
      ap (λ ns. Normal (write_from x ns u) (with_toll did w)) e ∙ ap (λ n. Normal (write_from x ns u) (with_toll n w)) (omega arith)
    where
      nothing : Some [] ≡ Some ns → [] ≡ ns
      nothing h = cc
  row_runs (e ∷ ws) ns x u did w is h =
      let s = words_first u m e ws ns (h u (record { below = λ y l. refl; behind = λ y l. refl })) in
      let first = assigns x e s.0 u did w is s.2 in
      let rest = row_runs ws s.1 (suc x) (write x s.0 u) (after did (1 + expr_steps e)) w is (λ u' o.
      let t = words_first u' m e ws ns (h u' (record {
        below = λ y l. o.below y (omega arith) ∙ write_other x s.0 u y (omega arith);
        behind = λ y l. o.behind y (omega arith) ∙ write_other x s.0 u y (omega arith);
      })) in
      let both : t.0 ∷ t.1 ≡ s.0 ∷ s.1 = t.4 ∙ sym s.4 in
      let same : t.1 ≡ s.1 = cc in t.3 ∙ ap Some same) in
      ap (λ o. and_then o (in_turn (map (run names d callee) (assign_row (suc x) ws)))) first ∙ rest
      ∙ ap (λ k. Normal (write_from (suc x) s.1 (write x s.0 u)) (with_toll k w)) (sums did (1 + expr_steps e) (all_code (assign_row (suc x) ws)) ∙ ap (λ k. after did (k + all_code (assign_row (suc x) ws))) (sym (code_assign x e)))
      ∙ ap (λ ns. Normal (write_from x ns u) (with_toll (after did (all_code (assign_row x (e ∷ ws)))) w)) s.4
    where
      sums : (did i j : ℕ) → after (after did i) j ≡ after did (i + j)
      sums did i j = omega arith

  -- ---- stores

  abbrev store_on : Option ℕ → Option ℕ → Locals → WordWorld → WordOutcome Locals (List ℕ)
  store_on a n u w = with_value a w (λ addr. with_value n w (λ n. with_written B8 addr n w (λ w. Normal u w)))

  abbrev written_on : Option (List ℕ × List ℕ) → Locals → WordWorld → WordOutcome Locals (List ℕ)
  written_on o u w = with_value o w (λ d. Normal u (record w { globals = d.0; memory = d.1 }))

  pub stores : (a e : Expr) (addr n : ℕ) (u : Locals) (did : ℕ) (w : World) (m' : List ℕ) → word a u w.memory ≡ Some addr → word e u w.memory ≡ Some n → with_word w.memory addr n ≡ Some m'
      → run names d callee (stmt.StoreWord a e) u (with_toll did w) ≡ Normal u (with_toll (after did (1 + expr_steps a + expr_steps e)) (record w { memory = m' }))
  stores a e addr n u did w m' ha he hm =
      let w' = with_toll (after did (1 + expr_steps a + expr_steps e)) w in
      run_store_word names d callee a e u (with_toll did w) ∙ ap (λ o. store_on o (word e u w.memory) u w') ha ∙ ap (λ o. store_on (Some addr) o u w') he
      ∙ ap (λ o. written_on o u w') (word_written [] w.memory m' addr n hm)

  -- each word to the next address, where the words and the address don't depend on memory
  pub store_runs : (ws : List Expr) (ns : List ℕ) (a : Expr) (addr i : ℕ) (u : Locals) (did : ℕ) (w : World) (m' : List ℕ) → ((m : List ℕ) → word a u m ≡ Some addr) → ((m : List ℕ) → words ws u m ≡ Some ns)
      → with_words w.memory (along u m addr i) ns ≡ Some m'
      → in_turn (map (run names d callee) (store_row a i ws)) u (with_toll did w) ≡ Normal u (with_toll (after did (all_code (store_row a i ws))) (record w { memory = m' }))
  store_runs [] ns a addr i u did w m' ha hw hm =
      let e : [] ≡ ns = nothing (hw []) in
      let same : w.memory ≡ m' = kept (ap (with_words w.memory (along u m addr i)) e ∙ hm) in
      ap (λ m. Normal u (with_toll did (record w { memory = m }))) same ∙ ap (λ n. Normal u (with_toll n (record w { memory = m' }))) (omega arith)
    where
      nothing : Some [] ≡ Some ns → [] ≡ ns
      nothing h = cc

      kept : Some w.memory ≡ Some m' → w.memory ≡ m'
      kept h = cc
  store_runs (e ∷ ws) ns a addr i u did w m' ha hw hm =
      let s = words_first u w.memory e ws ns (hw w.memory) in
      let at = along u m addr i in
      let t = then_some (λ m'. with_words m' (next_word at) s.1) (with_word w.memory at s.0) m' (ap (with_words w.memory at) s.4 ∙ hm) in
      let first = stores (far a i) e at s.0 u did w t.0 (far_word u w.memory a i addr (ha w.memory)) s.2 t.1 in
      let did' = after did (1 + expr_steps (far a i) + expr_steps e) in
      let rest = store_runs ws s.1 a addr (suc i) u did' (record w { memory = t.0 }) m' ha (λ k.
      let z = words_first u k e ws ns (hw k) in
      let both : z.0 ∷ z.1 ≡ s.0 ∷ s.1 = z.4 ∙ sym s.4 in
      let same : z.1 ≡ s.1 = cc in z.3 ∙ ap Some same) (ap (λ at. with_words t.0 at s.1) (sym (along_next u m addr i)) ∙ t.2) in
      ap (λ o. and_then o (in_turn (map (run names d callee) (store_row a (suc i) ws)))) first ∙ rest
      ∙ ap (λ k. Normal u (with_toll k (record w { memory = m' }))) (total (code_store_word (far a i) e))
    where
      total : {n : ℕ} → n ≡ 1 + expr_steps (far a i) + expr_steps e → after (after did (1 + expr_steps (far a i) + expr_steps e)) (all_code (store_row a (suc i) ws)) ≡ after did (n + all_code (store_row a (suc i) ws))
      total h = omega arith
