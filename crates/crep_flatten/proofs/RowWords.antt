-- The words of rows, of parts of rows, and of rows whose addresses are computed once.
use Rattle.std.proofs.Common.{◌≡◌, ℕ, zero, suc, ◌+◌, ◌-◌, ◌*◌, ◌%◌, ◌^◌, List, [], ◌∷◌, ◌++◌, map, length, take, drop, append_assoc, append-nil, Option, Some, None, arith, refl, sym, ap, ◌∙◌}
use Rattle.std.specs.Prelude.{min, option_map, option_and_then}
use Rattle.pan_base.specs.Words.{bytes_in_word}
use Rattle.pan_base.specs.declared.events.Size.TheVariants.{B8}
use Rattle.pan_base.specs.declared.operators.BinOp.TheVariants as bin_op
use Rattle.pan_stage.specs.Data.{read}
use Rattle.pan_stage.specs.Locals.{Locals, all_words}
use Rattle.crep_lang.specs.declared.syntax.Expr.{Expr}
use Rattle.crep_lang.specs.declared.syntax.Expr.TheVariants as e
use Rattle.crep_flatten.specs.declared.rows.Row.{Row}
use Rattle.crep_flatten.specs.declared.rows.Row.TheVariants as row
use Rattle.crep_flatten.specs.Rows.{far, loads, variables, row_words, inlined, row_size, cut_row, cut_rows}
use Rattle.crep_flatten.proofs.WordLemmas.{then_some, words_first}
use Rattle.crep_flatten.proofs.Beside.{word, word_bin, word_load, word_num, words}

-- ---- sizes

pub count_variables : (x k : ℕ) → length (variables x k) ≡ k
count_variables x zero = refl
count_variables x (suc k) = ap suc (count_variables (suc x) k)

pub count_loads : (a : Expr) (i k : ℕ) → length (loads a i k) ≡ k
count_loads a i zero = refl
count_loads a i (suc k) = ap suc (count_loads a (suc i) k)

pub row_length : (r : Row) → length (row_words r) ≡ row_size r
row_length (row.Variables x n) = count_variables x n
row_length (row.Loads a i n) = count_loads a i n
row_length (row.One x) = refl

-- ---- parts

-- so many words after so many others
abbrev pub cut : {X : Type 0} → ℕ → ℕ → List X → List X
cut skip n xs = take n (drop skip xs)

take_none : {X : Type 0} (n : ℕ) → take {A = X} n [] ≡ []
take_none zero = refl
take_none (suc n) = refl

drop_none : {X : Type 0} (n : ℕ) → drop {A = X} n [] ≡ []
drop_none zero = refl
drop_none (suc n) = refl

pub cut_none : {X : Type 0} (s n : ℕ) → cut {X = X} s n [] ≡ []
cut_none s n = ap (take n) (drop_none s) ∙ take_none n

cut_at : {X : Type 0} (s s' n n' : ℕ) (xs : List X) → s ≡ s' → n ≡ n' → cut s n xs ≡ cut s' n' xs
cut_at s s' n n' xs e f = ap (λ i. cut i n xs) e ∙ ap (λ i. cut s' i xs) f

cut_append : {X : Type 0} (s n : ℕ) (xs ys : List X) → cut s n (xs ++ ys) ≡ cut s n xs ++ cut (s - length xs) (n - (length xs - s)) ys
cut_append s n [] ys = cut_at s (s - 0) n (n - (0 - s)) ys (omega arith) (omega arith) ∙ ap (λ zs. zs ++ cut (s - 0) (n - (0 - s)) ys) (sym (cut_none s n))
cut_append zero zero (x ∷ xs) ys = cut_at (zero - suc (length xs)) (zero - suc (length xs)) 0 (zero - (suc (length xs) - zero)) ys refl (omega arith)
cut_append zero (suc n) (x ∷ xs) ys =
    ap (λ zs. x ∷ zs) (cut_append zero n xs ys) ∙ ap (λ zs. x ∷ (take n xs ++ zs)) (cut_at (zero - length xs) (zero - suc (length xs)) (n - (length xs - zero)) (suc n - (suc (length xs) - zero)) ys (omega arith) (omega arith))
cut_append (suc s) n (x ∷ xs) ys =
    cut_append s n xs ys ∙ ap (λ zs. cut s n xs ++ zs) (cut_at (s - length xs) (suc s - suc (length xs)) (n - (length xs - s)) (n - (suc (length xs) - suc s)) ys (omega arith) (omega arith))

variables_at : (x x' k k' : ℕ) → x ≡ x' → k ≡ k' → variables x k ≡ variables x' k'
variables_at x x' k k' e f = ap (λ y. variables y k) e ∙ ap (variables x') f

loads_at : (a : Expr) (i i' k k' : ℕ) → i ≡ i' → k ≡ k' → loads a i k ≡ loads a i' k'
loads_at a i i' k k' e f = ap (λ j. loads a j k) e ∙ ap (loads a i') f

take_variables : (n x k : ℕ) → take n (variables x k) ≡ variables x (min n k)
take_variables zero x k = variables_at x x 0 (min 0 k) refl (omega arith)
take_variables (suc n) x zero = variables_at x x 0 (min (suc n) 0) refl (omega arith)
take_variables (suc n) x (suc k) = ap (λ ws. e.Var x ∷ ws) (take_variables n (suc x) k) ∙ variables_at x x (suc (min n k)) (min (suc n) (suc k)) refl (omega arith)

drop_variables : (s x k : ℕ) → drop s (variables x k) ≡ variables (x + s) (k - s)
drop_variables zero x k = variables_at x (x + 0) k (k - 0) (omega arith) (omega arith)
drop_variables (suc s) x zero = variables_at (x + suc s) (x + suc s) 0 (0 - suc s) refl (omega arith)
drop_variables (suc s) x (suc k) = drop_variables s (suc x) k ∙ variables_at (suc x + s) (x + suc s) (k - s) (suc k - suc s) (omega arith) (omega arith)

take_loads : (n : ℕ) (a : Expr) (i k : ℕ) → take n (loads a i k) ≡ loads a i (min n k)
take_loads zero a i k = loads_at a i i 0 (min 0 k) refl (omega arith)
take_loads (suc n) a i zero = loads_at a i i 0 (min (suc n) 0) refl (omega arith)
take_loads (suc n) a i (suc k) = ap (λ ws. e.LoadWord (far a i) ∷ ws) (take_loads n a (suc i) k) ∙ loads_at a i i (suc (min n k)) (min (suc n) (suc k)) refl (omega arith)

drop_loads : (s : ℕ) (a : Expr) (i k : ℕ) → drop s (loads a i k) ≡ loads a (i + s) (k - s)
drop_loads zero a i k = loads_at a i (i + 0) k (k - 0) (omega arith) (omega arith)
drop_loads (suc s) a i zero = loads_at a (i + suc s) (i + suc s) 0 (0 - suc s) refl (omega arith)
drop_loads (suc s) a i (suc k) = drop_loads s a (suc i) k ∙ loads_at a (suc i + s) (i + suc s) (k - s) (suc k - suc s) (omega arith) (omega arith)

pub inlined_append : (rs ss : List Row) → inlined (rs ++ ss) ≡ inlined rs ++ inlined ss
inlined_append [] ss = refl
inlined_append (r ∷ rs) ss = ap (λ ws. row_words r ++ ws) (inlined_append rs ss) ∙ sym (append_assoc (row_words r) (inlined rs) (inlined ss))

cut_row_words : (s n : ℕ) (r : Row) → inlined (cut_row s n r) ≡ cut s n (row_words r)
cut_row_words s n (row.Variables x k) = append-nil (variables (x + s) (min n (k - s))) ∙ sym (ap (take n) (drop_variables s x k) ∙ take_variables n (x + s) (k - s))
cut_row_words s n (row.Loads a i k) = append-nil (loads a (i + s) (min n (k - s))) ∙ sym (ap (take n) (drop_loads s a i k) ∙ take_loads n a (i + s) (k - s))
cut_row_words zero zero (row.One x) = refl
cut_row_words zero (suc n) (row.One x) = ap (λ ws. x ∷ ws) (sym (take_none n))
cut_row_words (suc s) n (row.One x) = sym (cut_none s n)

pub cut_inlined : (s n : ℕ) (rs : List Row) → inlined (cut_rows s n rs) ≡ cut s n (inlined rs)
cut_inlined s n [] = sym (cut_none s n)
cut_inlined s n (r ∷ rs) =
    let k = row_size r in
    inlined_append (cut_row s n r) (cut_rows (s - k) (n - (k - s)) rs) ∙ ap (λ ws. ws ++ inlined (cut_rows (s - k) (n - (k - s)) rs)) (cut_row_words s n r) ∙ ap (λ ws. cut s n (row_words r) ++ ws) (cut_inlined (s - k) (n - (k - s)) rs)
    ∙ ap (λ k. cut s n (row_words r) ++ cut (s - k) (n - (k - s)) (inlined rs)) (sym (row_length r)) ∙ sym (cut_append s n (row_words r) (inlined rs))

-- ---- addresses

-- where a word far behind an address is known, so is the address
pub far_from : (u : Locals) (m : List ℕ) (a : Expr) (i x : ℕ) → word (far a i) u m ≡ Some x → (addr : ℕ) × (word a u m ≡ Some addr)
far_from u m a zero x h = (x, h)
far_from u m a (suc i) x h =
    let s = then_some (λ x. option_map (λ y. (x + y) % 2 ^ 64) (word (e.Num (bytes_in_word * suc i)) u m)) (word a u m) x (sym (word_bin bin_op.Add a (e.Num (bytes_in_word * suc i)) u m) ∙ h) in
    (s.0, s.1)

far_same : (a b : Expr) (i : ℕ) (u u' : Locals) (m : List ℕ) → word a u m ≡ word b u' m → word (far a i) u m ≡ word (far b i) u' m
far_same a b zero u u' m h = h
far_same a b (suc i) u u' m h =
    let n = e.Num (bytes_in_word * suc i) in
    word_bin bin_op.Add a n u m ∙ ap (λ o. option_and_then (λ x. option_map (λ y. (x + y) % 2 ^ 64) o) (word a u m)) (word_num (bytes_in_word * suc i) u m ∙ sym (word_num (bytes_in_word * suc i) u' m))
    ∙ ap (option_and_then (λ x. option_map (λ y. (x + y) % 2 ^ 64) (word n u' m))) h ∙ sym (word_bin bin_op.Add b n u' m)

more_words : (o : Option ℕ) (xs ys : List Expr) (u u' : Locals) (m : List ℕ) → words xs u m ≡ words ys u' m → all_words (o ∷ map (λ e. word e u m) xs) ≡ all_words (o ∷ map (λ e. word e u' m) ys)
more_words None xs ys u u' m h = refl
more_words (Some n) xs ys u u' m h = ap (option_map (λ ns. n ∷ ns)) h

-- words behind the same address are the same
pub loads_same : (a b : Expr) (i k : ℕ) (u u' : Locals) (m : List ℕ) → word a u m ≡ word b u' m → words (loads a i k) u m ≡ words (loads b i k) u' m
loads_same a b i zero u u' m h = refl
loads_same a b i (suc k) u u' m h =
    let one = word_load (far a i) u m ∙ ap (option_and_then (read B8 [] m)) (far_same a b i u u' m h) ∙ sym (word_load (far b i) u' m) in
    ap (λ o. all_words (o ∷ map (λ e. word e u m) (loads a (suc i) k))) one ∙ more_words (word (e.LoadWord (far b i)) u' m) (loads a (suc i) k) (loads b (suc i) k) u u' m (loads_same a b (suc i) k u u' m h)

-- the address of words of memory that are known
pub address_of : (u : Locals) (m : List ℕ) (a : Expr) (i k : ℕ) (ns : List ℕ) → words (loads a i (suc k)) u m ≡ Some ns → (addr : ℕ) × (word a u m ≡ Some addr)
address_of u m a i k ns h =
    let s = words_first u m (e.LoadWord (far a i)) (loads a (suc i) k) ns h in
    let t = then_some (read B8 [] m) (word (far a i) u m) s.0 (sym (word_load (far a i) u m) ∙ s.2) in
    far_from u m a i t.0 t.1
