-- Rows of statements without blocks: what they leave in the variables and in memory.
use Rattle.std.proofs.Common.{◌≡◌, ℕ, zero, suc, ◌+◌, ◌≤◌, ◌<◌, Bool, true, false, List, [], ◌∷◌, ◌++◌, map, length, Some, arith, refl, sym, ap, subst, ◌∙◌}
use Rattle.std.specs.Prelude.{if◌then◌else◌, nat_le, nat_eq}
use Rattle.std.specs.List.{list_any}
use Rattle.std.proofs.lemmas.Bool.Decides.{nat_tests}
use Rattle.pan_control.specs.Memory.{with_word, with_words, next_word}
use Rattle.pan_control.specs.Control.{Normal, in_turn, and_then}
use Rattle.pan_stage.specs.Locals.{Locals, write, write_all, numbers_from, read_from}
use Rattle.pan_stage.proofs.Rows.{then_normal}
use Rattle.pan_tree.specs.Scopes.{declare}
use Rattle.pan_tree.specs.Value.{Value, words_in}
use Rattle.pan_tree.specs.Shapes.{shape_in}
use Rattle.pan_tree.specs.Meaning.{Scope, Scopes}
use Rattle.check_soundness.proofs.SpreadShapes.{both_true}
use Rattle.crep_lang.specs.Meaning.{run}
use Rattle.crep_lang.specs.Needs.{code}
use Rattle.crep_lang.specs.Steps.{expr_steps}
use Rattle.crep_lang.specs.declared.syntax.Expr.{Expr}
use Rattle.crep_lang.specs.declared.syntax.Expr.TheVariants as e
use Rattle.crep_lang.specs.declared.syntax.Stmt.{Stmt}
use Rattle.crep_lang.specs.declared.syntax.Stmt.TheVariants as stmt
use Rattle.crep_lang.proofs.Sizes.{code_assign, code_store_word}
use Rattle.crep_flatten.specs.declared.rows.Row.{Row}
use Rattle.crep_flatten.specs.Rows.{inlined, variables, settle, Settled}
use Rattle.crep_flatten.specs.Flat.{count}
use Rattle.crep_flatten.specs.Reads.{is_variable, reads_none, go_straight, reads_memory}
use Rattle.crep_flatten.specs.Flattened.{assign_row, store_row, one_move, moves, moved, assigned, stored_words, stored, new_place}
use Rattle.crep_flatten.proofs.Values.{words_shape}
use Rattle.crep_flatten.proofs.Holding.{size, number, placed, HoldsIn, Holds, Agree, agree_sub, block_size, placed_count, holds_in_agree, holds_agree, read_agree, write_from, below_written, written_read, write_same, write_other}
use Rattle.crep_flatten.proofs.WordLemmas.{then_some, words_first, words_row, runs_on}
use Rattle.crep_flatten.proofs.RowWords.{count_variables}
use Rattle.crep_flatten.proofs.FlatExprs.{all_code, all_code_append, after, settle_gives}
use Rattle.crep_flatten.proofs.RowRuns.{Outside, assigns, row_runs, stores, store_runs}
use Rattle.crep_flatten.proofs.Apart.{word_apart}
use Rattle.crep_flatten.proofs.Memory.{words_same}
use Rattle.crep_flatten.proofs.Variables.{the_variable}
use Rattle.pan_tree.specs.Running.{World}
use Rattle.pan_stage.specs.Data.{World as WordWorld, Callee as WordCallee, Outcome as WordOutcome}
use Rattle.crep_flatten.proofs.Beside.{with_toll, word, word_var, words}

-- a sum of steps
pub after_sum : (did i j k : ℕ) → k ≡ i + j → after (after did i) j ≡ after did k
after_sum did i j k h = omega arith

-- the same words written in the same places
pub alike : (x : ℕ) (ns : List ℕ) (u u' : Locals) (y : ℕ) → u' y ≡ u y → write_from x ns u' y ≡ write_from x ns u y
alike x [] u u' y h = h
alike x (n ∷ ns) u u' y h = alike (suc x) ns (write x n u) (write x n u') y (ap (λ k. if nat_eq y x then n else k) h)

-- a variable that is given what it has
given_again : (x n : ℕ) (u : Locals) (z : ℕ) → u x ≡ n → write x n u z ≡ u z
given_again x n u z h = by (nat_eq z x) (λ b. grind (arith, nat_tests, b))
  where
    by : (b : Bool) → (b ≡ true → z ≡ x) → (if b then n else u z) ≡ u z
    by true f = sym h ∙ ap u (sym (f refl))
    by false f = refl

-- statements have run to variables, to a world and a number of steps
pub record RunsTo (o : WordOutcome Locals (List ℕ)) (ss : List Stmt) (did : ℕ) (w : World) (Behind : Locals → Type 0) : Type 0 where
  pub behind : Locals
  pub is : o ≡ Normal behind (with_toll (after did (all_code ss)) w)
  pub so : Behind behind

pub words_count : (u : Locals) (m : List ℕ) (ws : List Expr) (ns : List ℕ) → words ws u m ≡ Some ns → length ws ≡ length ns
words_count u m [] ns h = let e : [] ≡ ns = nothing ns h in ap length e
  where
    nothing : (ns : List ℕ) → Some [] ≡ Some ns → [] ≡ ns
    nothing ns h = cc
words_count u m (w ∷ ws) ns h = let s = words_first u m w ws ns h in ap suc (words_count u m ws s.1 s.3) ∙ ap length s.4

module _ (names : List (List ℕ)) (d : ℕ) (callee : WordCallee (List ℕ) (List ℕ)) where
  abbrev pub runs : List Stmt → Locals → WordWorld → WordOutcome Locals (List ℕ)
  runs ss = in_turn (map (run names d callee) ss)

  pub both_run : (ss ts : List Stmt) (u u' u'' : Locals) (did : ℕ) (w w' : World) → runs ss u (with_toll did w) ≡ Normal u' (with_toll (after did (all_code ss)) w)
      → runs ts u' (with_toll (after did (all_code ss)) w) ≡ Normal u'' (with_toll (after (after did (all_code ss)) (all_code ts)) w') → runs (ss ++ ts) u (with_toll did w) ≡ Normal u'' (with_toll (after did (all_code (ss ++ ts))) w')
  both_run ss ts u u' u'' did w w' h g =
      runs_on names d callee ss ts u u' (with_toll did w) (with_toll (after did (all_code ss)) w) h ∙ g ∙ ap (λ n. Normal u'' (with_toll n w')) (after_sum did (all_code ss) (all_code ts) (all_code (ss ++ ts)) (all_code_append ss ts))

  -- a word to a variable, which may have it
  one_move_run : (m : List ℕ) (x n : ℕ) (a : Expr) (u : Locals) (did : ℕ) (w : World) → w.memory ≡ m → word a u m ≡ Some n → RunsTo (runs (one_move x a) u (with_toll did w)) (one_move x a) did w (λ u'. (z : ℕ) → u' z ≡ write x n u z)
  one_move_run m x n a u did w is h = by (is_variable a x) (λ b. b)
    where
      by : (b : Bool) → (b ≡ true → is_variable a x ≡ true) → let ss = if b then [] else stmt.Assign x a ∷ [] in RunsTo (runs ss u (with_toll did w)) ss did w (λ u'. (z : ℕ) → u' z ≡ write x n u z)
      by true has =
          let same : Some (u x) ≡ Some n = sym (word_var x u m) ∙ ap (λ a. word a u m) (sym (the_variable a x (has refl))) ∙ h in
          let there : u x ≡ n = cc in
          record { behind = u; is = ap (λ k. Normal u (with_toll k w)) (omega arith); so = λ z. sym (given_again x n u z there) }
      by false has = record { behind = write x n u; is = then_normal (run names d callee (stmt.Assign x a) u (with_toll did w)) ∙ assigns names d callee m x a n u did w is h ∙ ap (λ k. Normal (write x n u) (with_toll (after did k) w)) (counted x a); so = λ z. refl }
        where
          counted : (x : ℕ) (a : Expr) → 1 + expr_steps a ≡ all_code (stmt.Assign x a ∷ [])
          counted x a = let c = code_assign x a in omega (arith, c)

  -- words to variables in order, where u0 is what they were before the words in front
  moves_run : (m : List ℕ) (ws : List Expr) (ns : List ℕ) (x i y : ℕ) (u0 u : Locals) (did : ℕ) (w : World) → w.memory ≡ m → y ≡ x + i → go_straight x i ws ≡ true → Outside x y u0 u → words ws u0 m ≡ Some ns
      → RunsTo (runs (moves y ws) u (with_toll did w)) (moves y ws) did w (λ u'. (z : ℕ) → u' z ≡ write_from y ns u z)
  moves_run m [] ns x i y u0 u did w is at order o h =
      let none : [] ≡ ns = nothing ns h in
      record { behind = u; is = ap (λ k. Normal u (with_toll k w)) (omega arith); so = λ z. ap (λ ns. write_from y ns u z) none }
    where
      nothing : (ns : List ℕ) → Some [] ≡ Some ns → [] ≡ ns
      nothing ns h = cc
  moves_run m (a ∷ ws) ns x i y u0 u did w is at order o h =
      let both = both_true (reads_none x i a) (go_straight x (suc i) ws) order in
      let s = words_first u0 m a ws ns h in
      let here = word_apart x i a u0 u m both.0 (subst (λ k. Outside x k u0 u) at o) ∙ s.2 in
      let one = one_move_run m y s.0 a u did w is here in
      let u1 = one.behind in
      let did1 = after did (all_code (one_move y a)) in
      let behind : Outside x (suc y) u0 u1 = record {
        below = λ z l. one.so z ∙ write_other y s.0 u z (omega (arith, l, at)) ∙ o.below z l;
        behind = λ z l. one.so z ∙ write_other y s.0 u z (omega (arith, l)) ∙ o.behind z (omega (arith, l));
      } in
      let rest = moves_run m ws s.1 x (suc i) (suc y) u0 u1 did1 w is (omega (arith, at)) both.1 behind s.3 in
      record {
        behind = rest.behind;
        is = both_run (one_move y a) (moves (suc y) ws) u u1 rest.behind did w w one.is rest.is;
        so = λ z. rest.so z ∙ alike (suc y) s.1 (write y s.0 u) u1 z (one.so z) ∙ ap (λ ns. write_from y ns u z) s.4;
      }

  -- words that stay the same where the variables from t to n do, which they may go through
  abbrev pub Stable : Scopes → List ℕ → ℕ → ℕ → Locals → List Expr → List ℕ → Type 0
  Stable v m t n u ws ns = (u' : Locals) → Holds v u' → Agree t n u u' → words ws u' m ≡ Some ns

  moved_run : (v : Scopes) (m : List ℕ) (ws : List Expr) (ns : List ℕ) (x t n : ℕ) (u : Locals) (did : ℕ) (w : World) → w.memory ≡ m → Holds v u → count (placed v) ≤ t → t ≤ n → x + length ns ≤ count (placed v)
      → Stable v m t n u ws ns → RunsTo (runs (moved x ws n) u (with_toll did w)) (moved x ws n) did w (λ u'. Agree 0 t (write_from x ns u) u')
  moved_run v m ws ns x t n u did w is holds le high inside stable = by (go_straight x 0 ws) (λ b. b)
    where
      here : words ws u m ≡ Some ns
      here = stable u holds (record { at = λ y p q. refl })

      long : length ws ≡ length ns
      long = words_count u m ws ns here

      by : (b : Bool) → (b ≡ true → go_straight x 0 ws ≡ true)
          → let ss = if b then moves x ws else assign_row n ws ++ assign_row x (variables n (length ws)) in
          RunsTo (runs ss u (with_toll did w)) ss did w (λ u'. Agree 0 t (write_from x ns u) u')
      by true order =
          let straight = moves_run m ws ns x 0 x u u did w is (omega arith) (order refl) (record { below = λ y l. refl; behind = λ y l. refl }) here in
          record { behind = straight.behind; is = straight.is; so = record { at = λ y p q. straight.so y } }
      by false order =
          let one = row_runs names d callee m ws ns n u did w is (λ u' o.
          stable u' (holds_agree v u u' (record { at = λ y p q. o.below y (omega (arith, q, le, high)) }) holds) (record { at = λ y p q. o.below y q })) in
          let u2 = write_from n ns u in
          let vs = variables n (length ws) in
          let did2 = after did (all_code (assign_row n ws)) in
          let many = count_variables n (length ws) in
          let two = row_runs names d callee m vs ns x u2 did2 w is (λ u' o.
          words_row u' m n (length ws)
          ∙ ap Some (read_agree n (length ws) u2 u' (record { at = λ y p q. o.behind y (omega (arith, p, many, long, inside, le, high)) }) ∙ ap (λ k. read_from n k u2) long ∙ written_read n ns u)) in
          let u3 = write_from x ns u2 in
          record {
            behind = u3;
            is = both_run (assign_row n ws) (assign_row x vs) u u2 u3 did w w one two;
            so = record { at = λ y p q. alike x ns u u2 y (below_written n ns u y (omega (arith, q, high))) };
          }

  -- Words to variables that they may read: below t the variables are as if the words were written at once.
  pub assigned_runs : (v : Scopes) (rs : List Row) (ns : List ℕ) (x t : ℕ) (u : Locals) (did : ℕ) (w : World) → ((u : Locals) → Holds v u → words (inlined rs) u w.memory ≡ Some ns) → Holds v u → count (placed v) ≤ t → x + length ns ≤ count (placed v)
      → RunsTo (runs (assigned x rs t) u (with_toll did w)) (assigned x rs t) did w (λ u'. Agree 0 t (write_from x ns u) u')
  assigned_runs v rs ns x t u did w g holds le inside =
      let m = w.memory in
      let s = settle_gives v m rs t ns le g in
      let q = settle rs t in
      let r = s.run names d callee u did w refl holds in
      let kept = holds_agree v u r.behind (agree_sub 0 t 0 (count (placed v)) u r.behind (omega arith) le r.low) holds in
      let did1 = after did (all_code q.before) in
      let then_moved = moved_run v m q.words ns x t q.next r.behind did1 w refl kept le s.next inside r.gives in
      record {
        behind = then_moved.behind;
        is = both_run q.before (moved x q.words q.next) u r.behind then_moved.behind did w w r.is then_moved.is;
        so = record { at = λ y p q. let z = then_moved.so in z.at y p q ∙ alike x ns u r.behind y (r.low.at y p q) };
      }

  -- Words to new variables, with addresses that go to variables behind them.
  pub declared_runs : (v : Scopes) (rs : List Row) (ns : List ℕ) (n : ℕ) (u : Locals) (did : ℕ) (w : World) → ((u : Locals) → Holds v u → words (inlined rs) u w.memory ≡ Some ns) → Holds v u → length ns ≤ n
      → let x = count (placed v) in let g = settle rs (x + n) in let ss = g.before ++ assign_row x g.words in
      RunsTo (runs ss u (with_toll did w)) ss did w (λ u'. Agree 0 (x + length ns) (write_from x ns u) u')
  declared_runs v rs ns n u did w g holds long =
      let m = w.memory in
      let x = count (placed v) in
      let s = settle_gives v m rs (x + n) ns (omega arith) g in
      let q = settle rs (x + n) in
      let r = s.run names d callee u did w refl holds in
      let kept = holds_agree v u r.behind (agree_sub 0 (x + n) 0 x u r.behind (omega arith) (omega arith) r.low) holds in
      let did1 = after did (all_code q.before) in
      let many = words_count r.behind m q.words ns (r.gives r.behind kept (record { at = λ y p q. refl })) in
      let two = row_runs names d callee m q.words ns x r.behind did1 w refl (λ u' o.
      r.gives u' (holds_agree v r.behind u' (record { at = λ y p l. o.below y l }) kept) (record { at = λ y p l. o.behind y (omega (arith, p, many, long)) })) in
      record {
        behind = write_from x ns r.behind;
        is = both_run q.before (assign_row x q.words) u r.behind (write_from x ns r.behind) did w w r.is two;
        so = record { at = λ y p l. alike x ns u r.behind y (r.low.at y p (omega (arith, l, long))) };
      }

  -- ---- stores

  one_stored : (ws : List Expr) (ns : List ℕ) (a : Expr) (addr : ℕ) (u : Locals) (did : ℕ) (w : World) (m' : List ℕ) → length ws ≤ 1 → word a u w.memory ≡ Some addr → words ws u w.memory ≡ Some ns → with_words w.memory addr ns ≡ Some m'
      → runs (store_row a 0 ws) u (with_toll did w) ≡ Normal u (with_toll (after did (all_code (store_row a 0 ws))) (record w { memory = m' }))
  one_stored [] ns a addr u did w m' few ha hw hm =
      let e : [] ≡ ns = nothing hw in
      let same : w.memory ≡ m' = kept (ap (with_words w.memory addr) e ∙ hm) in
      ap (λ m. Normal u (with_toll did (record w { memory = m }))) same ∙ ap (λ n. Normal u (with_toll n (record w { memory = m' }))) (omega arith)
    where
      nothing : Some [] ≡ Some ns → [] ≡ ns
      nothing h = cc

      kept : Some w.memory ≡ Some m' → w.memory ≡ m'
      kept h = cc
  one_stored (e ∷ []) ns a addr u did w m' few ha hw hm =
      let s = words_first u w.memory e [] ns hw in
      let none : [] ≡ s.1 = nothing s.1 s.3 in
      let whole : with_words w.memory addr (s.0 ∷ []) ≡ Some m' = ap (with_words w.memory addr) (ap (λ ms. s.0 ∷ ms) none ∙ s.4) ∙ hm in
      let t = then_some (λ m'. with_words m' (next_word addr) []) (with_word w.memory addr s.0) m' whole in
      let same : t.0 ≡ m' = some_same t.0 m' t.2 in
      let first = stores names d callee w.memory a e addr s.0 u did w m' ha s.2 (t.1 ∙ ap Some same) in
      then_normal (run names d callee (stmt.StoreWord a e) u (with_toll did w)) ∙ first
      ∙ ap (λ n. Normal u (with_toll n (record w { memory = m' }))) (ap (after did) (sym (ap (λ n. n + 0) (code_store_word a e) ∙ omega arith)))
    where
      nothing : (ns : List ℕ) → Some [] ≡ Some ns → [] ≡ ns
      nothing ns h = cc

      some_same : (a b : List ℕ) → Some a ≡ Some b → a ≡ b
      some_same a b h = cc
  one_stored (e ∷ f ∷ ws) ns a addr u did w m' few ha hw hm = absurd (omega (arith, few))

  -- several words to memory from the address in a variable on
  stored_words_run : (ws : List Expr) (ns : List ℕ) (a addr n : ℕ) (u : Locals) (did : ℕ) (w : World) (m' : List ℕ) → u a ≡ addr → a < n → ((u' : Locals) → Outside n (n + length ws) u u' → words ws u' w.memory ≡ Some ns) → with_words w.memory addr ns ≡ Some m'
      → RunsTo (runs (stored_words a ws n) u (with_toll did w)) (stored_words a ws n) did (record w { memory = m' }) (λ u'. Agree 0 n u u')
  stored_words_run ws ns a addr n u did w m' at_a low g hm = by (list_any reads_memory ws) (λ b. b)
    where
      here : words ws u w.memory ≡ Some ns
      here = g u (record { below = λ y l. refl; behind = λ y l. refl })

      by : (b : Bool) → (b ≡ false → list_any reads_memory ws ≡ false)
          → let ss = if b then assign_row n ws ++ store_row (e.Var a) 0 (variables n (length ws)) else store_row (e.Var a) 0 ws in
          RunsTo (runs ss u (with_toll did w)) ss did (record w { memory = m' }) (λ u'. Agree 0 n u u')
      by true none =
          let one = row_runs names d callee w.memory ws ns n u did w refl g in
          let u2 = write_from n ns u in
          let did2 = after did (all_code (assign_row n ws)) in
          let long = words_count u w.memory ws ns here in
          let still : u2 a ≡ addr = below_written n ns u a low ∙ at_a in
          let vs = variables n (length ws) in
          let two = store_runs names d callee w.memory vs ns (e.Var a) addr 0 u2 did2 w m' (λ k. word_var a u2 k ∙ ap Some still) (λ k. words_row u2 k n (length ws) ∙ ap Some (ap (λ k. read_from n k u2) long ∙ written_read n ns u)) hm in
          record { behind = u2; is = both_run (assign_row n ws) (store_row (e.Var a) 0 vs) u u2 u2 did w (record w { memory = m' }) one two; so = record { at = λ y p l. below_written n ns u y l } }
      by false none =
          record {
            behind = u;
            is = store_runs names d callee w.memory ws ns (e.Var a) addr 0 u did w m' (λ k. word_var a u k ∙ ap Some at_a) (λ k. words_same u w.memory k ws (none refl) ∙ here) hm;
            so = record { at = λ y p l. refl };
          }

  -- Words to memory that they may read: memory is as if they were written at once.
  pub stored_runs : (v : Scopes) (a : Expr) (addr : ℕ) (rs : List Row) (ns : List ℕ) (t : ℕ) (u : Locals) (did : ℕ) (w : World) (m' : List ℕ)
      → ((u : Locals) → Holds v u → word a u w.memory ≡ Some addr) → ((u : Locals) → Holds v u → words (inlined rs) u w.memory ≡ Some ns) → Holds v u → count (placed v) ≤ t → with_words w.memory addr ns ≡ Some m'
      → RunsTo (runs (stored a rs t) u (with_toll did w)) (stored a rs t) did (record w { memory = m' }) (λ u'. Agree 0 t u u')
  stored_runs v a addr rs ns t u did w m' ha g holds le hm = by (nat_le (length q.words) 1) (λ b. grind (arith, nat_tests, b))
    where
      m : List ℕ
      m = w.memory

      q : Settled
      q = settle rs (suc t)

      by : (b : Bool) → (b ≡ true → length q.words ≤ 1)
          → let ss = if b then q.before ++ store_row a 0 q.words else stmt.Assign t a ∷ (q.before ++ stored_words t q.words q.next) in
          RunsTo (runs ss u (with_toll did w)) ss did (record w { memory = m' }) (λ u'. Agree 0 t u u')
      by true few =
          let s = settle_gives v w.memory rs (suc t) ns (omega arith) g in
          let r = s.run names d callee u did w refl holds in
          let kept = holds_agree v u r.behind (agree_sub 0 (suc t) 0 (count (placed v)) u r.behind (omega arith) (omega arith) r.low) holds in
          record {
            behind = r.behind;
            is = both_run q.before (store_row a 0 q.words) u r.behind r.behind did w (record w { memory = m' }) r.is
                (one_stored q.words ns a addr r.behind (after did (all_code q.before)) w m' (few refl) (ha r.behind kept) (r.gives r.behind kept (record { at = λ y p q. refl })) hm);
            so = agree_sub 0 (suc t) 0 t u r.behind (omega arith) (omega arith) r.low;
          }
      by false few =
          let u0 = write t addr u in
          let kept0 = holds_agree v u u0 (record { at = λ y p l. write_other t addr u y (omega (arith, l)) }) holds in
          let did0 = after did (1 + expr_steps a) in
          let zero_step = assigns names d callee w.memory t a addr u did w refl (ha u holds) in
          let s = settle_gives v w.memory rs (suc t) ns (omega arith) g in
          let r = s.run names d callee u0 did0 w refl kept0 in
          let kept = holds_agree v u0 r.behind (agree_sub 0 (suc t) 0 (count (placed v)) u0 r.behind (omega arith) (omega arith) r.low) kept0 in
          let did1 = after did0 (all_code q.before) in
          let high = s.next in
          let at_t : r.behind t ≡ addr = r.low.at t (omega arith) (omega arith) ∙ write_same t addr u in
          let put = stored_words_run q.words ns t addr q.next r.behind did1 w m' at_t (omega (arith, high)) (λ u' o.
          r.gives u' (holds_agree v r.behind u' (record { at = λ y p l. o.below y (omega (arith, l, le, high)) }) kept) (record { at = λ y p l. o.below y l })) hm in
          let u2 = put.behind in
          let others = q.before ++ stored_words t q.words q.next in
          let rest = both_run q.before (stored_words t q.words q.next) u0 r.behind u2 did0 w (record w { memory = m' }) r.is put.is in
          record {
            behind = u2;
            is = ap (λ o. and_then o (runs others)) zero_step ∙ rest ∙ ap (λ n. Normal u2 (with_toll n (record w { memory = m' }))) (ap (λ k. after (after did k) (all_code others)) (sym (code_assign t a)) ∙ after_sum did (code (stmt.Assign t a)) (all_code others) (code (stmt.Assign t a) + all_code others) refl);
            so = record { at = λ y p l. put.so.at y p (omega (arith, l, high)) ∙ r.low.at y p (omega (arith, l)) ∙ write_other t addr u y (omega (arith, l)) };
          }

-- ---- a new variable

pub declares : (x : List ℕ) (a : Value) (scope : Scope) (scopes : Scopes) (u : Locals) → Holds (scope ∷ scopes) u → Holds (declare x a (scope ∷ scopes)) (write_from (count (placed (scope ∷ scopes))) (words_in a) u)
declares x a scope scopes u h =
    let n = count (placed scopes) in
    let c = placed_count scope scopes in
    let u' = write_from (count (placed (scope ∷ scopes))) (words_in a) u in (
      at n scope u' (holds_in_agree n scope u u' (record { at = λ y p q. below_written (count (placed (scope ∷ scopes))) (words_in a) u y (omega (arith, q, c)) }) h.0)
          (ap (λ k. read_from k (size a) u') (sym c) ∙ ap (λ k. read_from (count (placed (scope ∷ scopes))) k u') (words_shape a) ∙ written_read (count (placed (scope ∷ scopes))) (words_in a) u),
      holds_agree scopes u u' (record { at = λ y p q. below_written (count (placed (scope ∷ scopes))) (words_in a) u y (omega (arith, q, c)) }) h.1,
    )
  where
    at : (n : ℕ) (scope : Scope) (u : Locals) → HoldsIn n scope u → read_from (n + block_size scope) (size a) u ≡ words_in a → HoldsIn n (scope ++ (x, a) ∷ []) u
    at n [] u h r = (ap (λ k. read_from k (size a) u) (omega arith) ∙ r, tt)
    at n (y ∷ ys) u h r = (h.0, at (n + size y.1) ys u h.1 (ap (λ k. read_from k (size a) u) (omega arith) ∙ r))

pub declared_placed : (x : List ℕ) (a : Value) (scope : Scope) (scopes : Scopes) → placed (declare x a (scope ∷ scopes)) ≡ declare x (new_place (shape_in a) (placed (scope ∷ scopes))) (placed (scope ∷ scopes))
declared_placed x a scope scopes = ap (λ qs. qs ∷ placed scopes) (at (count (placed scopes)) scope ∙ ap (λ k. number (count (placed scopes)) scope ++ (x, record { first = k; shape = shape_in a }) ∷ []) (sym (placed_count scope scopes)))
  where
    at : (n : ℕ) (scope : Scope) → number n (scope ++ (x, a) ∷ []) ≡ number n scope ++ (x, record { first = n + block_size scope; shape = shape_in a }) ∷ []
    at n [] = ap (λ k. (x, record { first = k; shape = shape_in a }) ∷ []) (omega arith)
    at n (y ∷ ys) = ap (λ qs. (y.0, record { first = n; shape = shape_in y.1 }) ∷ qs) (at (n + size y.1) ys ∙ ap (λ k. number (n + size y.1) ys ++ (x, record { first = k; shape = shape_in a }) ∷ []) (omega arith))

-- words that are written to a row of variables
pub write_row : (x k : ℕ) (ns : List ℕ) (u : Locals) → length ns ≡ k → write_all (numbers_from x k) ns u ≡ write_from x ns u
write_row x zero [] u h = refl
write_row x zero (n ∷ ns) u h = absurd (omega (arith, h))
write_row x (suc k) [] u h = absurd (omega (arith, h))
write_row x (suc k) (n ∷ ns) u h = write_row (suc x) k ns (write x n u) (omega (arith, h))
