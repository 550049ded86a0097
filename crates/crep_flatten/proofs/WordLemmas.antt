-- Words of expressions one after another, and the statements before them.
use Rattle.std.proofs.Common.{◌≡◌, ℕ, zero, suc, ◌+◌, ◌*◌, ◌%◌, ◌^◌, List, [], ◌∷◌, ◌++◌, map, length, take, drop, Option, Some, None, arith, refl, sym, ap, ◌∙◌}
use Rattle.std.specs.Prelude.{option_map, option_and_then}
use Rattle.std.proofs.lemmas.List.{map-append}
use Rattle.std.proofs.Math.Nat.{mod-add-mod}
use Rattle.pan_base.specs.Words.{bytes_in_word}
use Rattle.pan_base.specs.declared.operators.BinOp.TheVariants as bin_op
use Rattle.pan_control.specs.Memory.{word_at, words_at, next_word}
use Rattle.pan_control.specs.Control.{Normal, and_then, in_turn}
use Rattle.pan_base.specs.declared.events.Size.TheVariants.{B8}
use Rattle.pan_stage.specs.Data.{read}
use Rattle.pan_stage.specs.Locals.{Locals, all_words, read_from}
use Rattle.pan_stage.proofs.DataLaws.{word_read}
use Rattle.pan_stage.proofs.Rows.{in_turn_append}
use Rattle.crep_lang.specs.Meaning.{run}
use Rattle.crep_lang.specs.declared.syntax.Expr.{Expr}
use Rattle.crep_lang.specs.declared.syntax.Expr.TheVariants as e
use Rattle.crep_lang.specs.declared.syntax.Stmt.{Stmt}
use Rattle.crep_flatten.specs.Rows.{far, loads, variables}
use Rattle.crep_flatten.specs.Flat.{first_of}
use Rattle.pan_stage.specs.Data.{World}
use Rattle.pan_stage.specs.Data.{Callee as WordCallee}
use Rattle.crep_flatten.proofs.Beside.{word, word_bin, word_load, word_num, word_var, words}

-- ---- options

pub map_some : {A B : Type 0} (f : A → B) (o : Option A) (b : B) → option_map f o ≡ Some b → (a : A) × (o ≡ Some a) × (f a ≡ b)
map_some f None b h = absurd cc
map_some f (Some a) b h = let e : f a ≡ b = cc in (a, refl, e)

pub then_some : {A B : Type 0} (f : A → Option B) (o : Option A) (b : B) → option_and_then f o ≡ Some b → (a : A) × (o ≡ Some a) × (f a ≡ Some b)
then_some f None b h = absurd cc
then_some f (Some a) b h = (a, refl, h)

-- ---- words

module _ (u : Locals) (m : List ℕ) where
  pub words_more : (x : Expr) (xs : List Expr) (n : ℕ) (ns : List ℕ) → word x u m ≡ Some n → words xs u m ≡ Some ns → words (x ∷ xs) u m ≡ Some (n ∷ ns)
  words_more x xs n ns h hs = ap (λ o. all_words (o ∷ map (λ e. word e u m) xs)) h ∙ ap (option_map (λ ns. n ∷ ns)) hs

  -- what the words of some expressions consist of
  pub words_first : (x : Expr) (xs : List Expr) (ns : List ℕ) → words (x ∷ xs) u m ≡ Some ns → (n : ℕ) × (ms : List ℕ) × (word x u m ≡ Some n) × (words xs u m ≡ Some ms) × (n ∷ ms ≡ ns)
  words_first x xs ns h = by (word x u m) h
    where
      by : (o : Option ℕ) → all_words (o ∷ map (λ e. word e u m) xs) ≡ Some ns → (n : ℕ) × (ms : List ℕ) × (o ≡ Some n) × (words xs u m ≡ Some ms) × (n ∷ ms ≡ ns)
      by None h = absurd cc
      by (Some n) h = let s = map_some (λ ns. n ∷ ns) (words xs u m) ns h in (n, s.0, refl, s.1, s.2)

  pub words_append : (xs ys : List Expr) (ns ms : List ℕ) → words xs u m ≡ Some ns → words ys u m ≡ Some ms → words (xs ++ ys) u m ≡ Some (ns ++ ms)
  words_append [] ys ns ms h k = let e : [] ≡ ns = cc in k ∙ ap (λ ns. Some (ns ++ ms)) e
  words_append (x ∷ xs) ys ns ms h k =
      let s = words_first x xs ns h in
      words_more x (xs ++ ys) s.0 (s.1 ++ ms) s.2 (words_append xs ys s.1 ms s.3 k) ∙ ap (λ ns. Some (ns ++ ms)) s.4

  pub words_drop : (k : ℕ) (xs : List Expr) (ns : List ℕ) → words xs u m ≡ Some ns → words (drop k xs) u m ≡ Some (drop k ns)
  words_drop zero xs ns h = h
  words_drop (suc k) [] ns h = let e : [] ≡ ns = cc in ap (λ ns. Some (drop (suc k) ns)) e
  words_drop (suc k) (x ∷ xs) ns h = let s = words_first x xs ns h in words_drop k xs s.1 s.3 ∙ ap (λ ns. Some (drop (suc k) ns)) s.4

  pub words_take : (k : ℕ) (xs : List Expr) (ns : List ℕ) → words xs u m ≡ Some ns → words (take k xs) u m ≡ Some (take k ns)
  words_take zero xs ns h = refl
  words_take (suc k) [] ns h = let e : [] ≡ ns = cc in ap (λ ns. Some (take (suc k) ns)) e
  words_take (suc k) (x ∷ xs) ns h =
      let s = words_first x xs ns h in words_more x (take k xs) s.0 (take k s.1) s.2 (words_take k xs s.1 s.3) ∙ ap (λ ns. Some (take (suc k) ns)) s.4

  pub first_word : (xs : List Expr) (n : ℕ) → words xs u m ≡ Some (n ∷ []) → word (first_of xs) u m ≡ Some n
  first_word [] n h = absurd cc
  first_word (x ∷ xs) n h = let s = words_first x xs (n ∷ []) h in let e : s.0 ≡ n = cc in s.2 ∙ ap Some e

  pub words_row : (x k : ℕ) → words (variables x k) u m ≡ Some (read_from x k u)
  words_row x zero = refl
  words_row x (suc k) = words_more (e.Var x) (variables (suc x) k) (u x) (read_from (suc x) k u) (word_var x u m) (words_row (suc x) k)

  -- ---- loads

  -- so many words behind an address
  abbrev pub along : ℕ → ℕ → ℕ
  along addr zero = addr
  along addr (suc i) = (addr + bytes_in_word * suc i) % 2 ^ 64

  pub along_next : (addr i : ℕ) → next_word (along addr i) ≡ along addr (suc i)
  along_next addr zero = refl
  along_next addr (suc i) = mod-add-mod (addr + bytes_in_word * suc i) (2 ^ 64) 8 ∙ ap (λ n. n % 2 ^ 64) (omega arith)

  pub far_word : (a : Expr) (i addr : ℕ) → word a u m ≡ Some addr → word (far a i) u m ≡ Some (along addr i)
  far_word a zero addr h = h
  far_word a (suc i) addr h =
      word_bin bin_op.Add a (e.Num (bytes_in_word * suc i)) u m
      ∙ ap (λ o. option_and_then (λ x. option_map (λ y. (x + y) % 2 ^ 64) (word (e.Num (bytes_in_word * suc i)) u m)) o) h
      ∙ ap (λ o. option_map (λ y. (addr + y) % 2 ^ 64) o) (word_num (bytes_in_word * suc i) u m)

  pub words_loads : (a : Expr) (addr i k : ℕ) (ns : List ℕ) → word a u m ≡ Some addr → words_at m (along addr i) k ≡ Some ns → words (loads a i k) u m ≡ Some ns
  words_loads a addr i zero ns h g = g
  words_loads a addr i (suc k) ns h g =
      let s = then_some (λ n. option_map (λ ms. n ∷ ms) (words_at m (next_word (along addr i)) k)) (word_at m (along addr i)) ns g in
      let t = map_some (λ ms. s.0 ∷ ms) (words_at m (next_word (along addr i)) k) ns s.2 in
      words_more (e.LoadWord (far a i)) (loads a (suc i) k) s.0 t.0
      (word_load (far a i) u m ∙ ap (option_and_then (read B8 [] m)) (far_word a i addr h) ∙ word_read [] m (along addr i) s.0 s.1)
      (words_loads a addr (suc i) k t.0 h (ap (λ a. words_at m a k) (sym (along_next addr i)) ∙ t.1))
      ∙ ap Some t.2

pub words_at_length : (m : List ℕ) (addr k : ℕ) (ns : List ℕ) → words_at m addr k ≡ Some ns → length ns ≡ k
words_at_length m addr zero ns h = let e : [] ≡ ns = cc in ap length (sym e)
words_at_length m addr (suc k) ns h =
    let s = then_some (λ n. option_map (λ ms. n ∷ ms) (words_at m (next_word addr) k)) (word_at m addr) ns h in
    let t = map_some (λ ms. s.0 ∷ ms) (words_at m (next_word addr) k) ns s.2 in
    ap length (sym t.2) ∙ ap suc (words_at_length m (next_word addr) k t.0 t.1)

-- ---- statements one after another

module _ (names : List (List ℕ)) (d : ℕ) (callee : WordCallee (List ℕ) (List ℕ)) where
  pub runs_on : (ss ts : List Stmt) (u u' : Locals) (w w' : World) → in_turn (map (run names d callee) ss) u w ≡ Normal u' w'
      → in_turn (map (run names d callee) (ss ++ ts)) u w ≡ in_turn (map (run names d callee) ts) u' w'
  runs_on ss ts u u' w w' h =
      ap (λ ms. in_turn ms u w) (map-append (run names d callee) ss ts)
      ∙ in_turn_append (map (run names d callee) ss) (map (run names d callee) ts) u w
      ∙ ap (λ o. and_then o (in_turn (map (run names d callee) ts))) h
