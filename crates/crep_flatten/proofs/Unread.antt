-- Which variables are not live before rows of statements.
use Rattle.std.proofs.Common.{◌≡◌, ◌≢◌, ◌⊎◌, ℕ, zero, suc, ◌+◌, ◌≤◌, ◌<◌, ◌||◌, ◌&&◌, not, Bool, true, false, List, [], ◌∷◌, ◌++◌, map, length, arith, refl, sym, ap, subst, ◌∙◌}
use Rattle.std.specs.Prelude.{nat_le, ◌==◌, if◌then◌else◌}
use Rattle.std.proofs.Math.Logic.{inl, inr}
use Rattle.std.proofs.lemmas.Bool.Decides.{nat_tests}
use Rattle.pan_flow.specs.Flow.{Exit, with_end, has}
use Rattle.pan_flow.specs.Live.{live_before}
use Rattle.pan_flow.specs.Functions.{all_in_turn}
use Rattle.pan_stage.specs.Locals.{numbers_from}
use Rattle.pan_stage.specs.Sums.{above}
use Rattle.crep_lang.specs.Text.{variables_read, all_read, flow_of}
use Rattle.crep_lang.specs.declared.syntax.Expr.{Expr}
use Rattle.crep_lang.specs.declared.syntax.Expr.TheVariants as e
use Rattle.crep_lang.specs.declared.syntax.Stmt.{Stmt}
use Rattle.crep_lang.specs.declared.syntax.Stmt.TheVariants as stmt
use Rattle.crep_lang.proofs.Exprs.{read_num, read_var, read_load_word, read_bin}
use Rattle.crep_lang.proofs.Texts.{flow_assign, flow_store_word}
use Rattle.crep_flatten.specs.declared.rows.Row.{Row}
use Rattle.crep_flatten.specs.declared.rows.Row.TheVariants as row
use Rattle.crep_flatten.specs.Rows.{far, loads, variables, settle}
use Rattle.crep_flatten.specs.Flattened.{assign_row, store_row}
use Rattle.crep_flatten.proofs.Costs.{settled_well}
use Rattle.crep_flatten.proofs.Low.{WordLow, WordsLow, RowsLow}

-- ---- lists

pub or_false : (a b : Bool) → a ≡ false → b ≡ false → (a || b) ≡ false
or_false a b h g = ap (λ a. a || b) h ∙ g

pub and_false : (a b : Bool) → b ≡ false → (a && b) ≡ false
and_false false b h = refl
and_false true b h = h

pub has_append : (xs ys : List ℕ) (x : ℕ) → has (xs ++ ys) x ≡ (has xs x || has ys x)
has_append [] ys x = refl
has_append (z ∷ zs) ys x = ap (λ b. (x == z) || b) (has_append zs ys x) ∙ both (x == z) (has zs x) (has ys x)
  where
    both : (a b c : Bool) → (a || (b || c)) ≡ ((a || b) || c)
    both true b c = refl
    both false b c = refl

pub has_above : (xs : List ℕ) (x : ℕ) → above xs ≤ x → has xs x ≡ false
has_above [] x le = refl
has_above (y ∷ ys) x le = or_false (x == y) (has ys x) (differs x y (omega (arith, le))) (has_above ys x (omega (arith, le)))
  where
    differs : (x y : ℕ) → y < x → (x == y) ≡ false
    differs x y l = grind (arith, nat_tests)

pub has_numbers : (y k x : ℕ) → y ≤ x → x < y + k → has (numbers_from y k) x ≡ true
has_numbers y zero x le l = absurd (omega (arith, le, l))
has_numbers y (suc k) x le l = by (x == y) (λ h. grind (arith, nat_tests, h)) (λ ne. has_numbers (suc y) k x ne (omega (arith, l)))
  where
    by : (b : Bool) → (b ≡ false → suc y ≤ x) → (suc y ≤ x → has (numbers_from (suc y) k) x ≡ true) → (b || has (numbers_from (suc y) k) x) ≡ true
    by true f g = refl
    by false f g = g (f refl)

-- ---- words that don't read a variable

abbrev pub Unread : ℕ → List Expr → Type 0
Unread x [] = Unit {0}
Unread x (w ∷ ws) = (has (variables_read w) x ≡ false) × Unread x ws

pub word_unread : (k c x : ℕ) (w : Expr) → WordLow k c w → c ≤ x → has (variables_read w) x ≡ false
word_unread k c x w h le = let b = h.below in has_above (variables_read w) x (omega (arith, b, le))

pub words_unread : (k c x : ℕ) (ws : List Expr) → WordsLow k c ws → c ≤ x → Unread x ws
words_unread k c x [] h le = tt
words_unread k c x (w ∷ ws) h le = (word_unread k c x w h.0 le, words_unread k c x ws h.1 le)

pub unread_append : (x : ℕ) (ws vs : List Expr) → Unread x ws → Unread x vs → Unread x (ws ++ vs)
unread_append x [] vs h g = g
unread_append x (w ∷ ws) vs h g = (h.0, unread_append x ws vs h.1 g)

pub all_unread : (x : ℕ) (ws : List Expr) → Unread x ws → has (all_read ws) x ≡ false
all_unread x [] h = refl
all_unread x (w ∷ ws) h = has_append (variables_read w) (all_read ws) x ∙ or_false (has (variables_read w) x) (has (all_read ws) x) h.0 (all_unread x ws h.1)

far_unread : (x : ℕ) (a : Expr) (i : ℕ) → has (variables_read a) x ≡ false → has (variables_read (far a i)) x ≡ false
far_unread x a zero h = h
far_unread x a (suc i) h =
    ap (λ ys. has ys x) (read_bin _ a (e.Num _)) ∙ has_append (variables_read a) (variables_read (e.Num _)) x ∙ or_false (has (variables_read a) x) (has (variables_read (e.Num _)) x) h (ap (λ ys. has ys x) (read_num _))

loads_unread : (x : ℕ) (a : Expr) (i k : ℕ) → has (variables_read a) x ≡ false → Unread x (loads a i k)
loads_unread x a i zero h = tt
loads_unread x a i (suc k) h = (ap (λ ys. has ys x) (read_load_word (far a i)) ∙ far_unread x a i h, loads_unread x a (suc i) k h)

differ : (x y : ℕ) → x ≢ y → (x == y) ≡ false
differ x y ne = by (x == y) (λ h. grind (arith, nat_tests, h))
  where
    by : (b : Bool) → (b ≡ true → x ≡ y) → b ≡ false
    by true f = absurd (ne (f refl))
    by false f = refl

pub var_unread : (x y : ℕ) → x ≢ y → has (variables_read (e.Var y)) x ≡ false
var_unread x y ne = ap (λ ys. has ys x) (read_var y) ∙ or_false (x == y) false (differ x y ne) refl

pub variables_unread : (x y k : ℕ) → (x < y) ⊎ (y + k ≤ x) → Unread x (variables y k)
variables_unread x y zero h = tt
variables_unread x y (suc k) h = (var_unread x y (by h), variables_unread x (suc y) k (next h))
  where
    by : (x < y) ⊎ (y + suc k ≤ x) → x ≢ y
    by (inl l) = λ s. omega (arith, l, s)
    by (inr l) = λ s. omega (arith, l, s)

    next : (x < y) ⊎ (y + suc k ≤ x) → (x < suc y) ⊎ (suc y + k ≤ x)
    next (inl l) = inl (omega (arith, l))
    next (inr l) = inr (omega (arith, l))

-- settled words read what is there, and the variables of the addresses
pub settled_unread : (k c x : ℕ) (rs : List Row) (t : ℕ) → RowsLow k c rs → c ≤ x → (x < t) ⊎ ((settle rs t).next ≤ x) → Unread x (settle rs t).words
settled_unread k c x [] t h le o = tt
settled_unread k c x (row.Variables y n ∷ rs) t h le o = unread_append x (variables y n) (settle rs t).words (below n (h.0).1) (settled_unread k c x rs t h.1 le o)
  where
    below : (n : ℕ) → (1 ≤ n → y + n ≤ c) → Unread x (variables y n)
    below zero f = tt
    below (suc n) f = let g = f (omega arith) in variables_unread x y (suc n) (inr (omega (arith, g, le)))
settled_unread k c x (row.One w ∷ rs) t h le o = (word_unread k c x w h.0 le, settled_unread k c x rs t h.1 le o)
settled_unread k c x (row.Loads a i n ∷ rs) t h le o = by (nat_le 2 n) (λ o. settled_unread k c x rs t h.1 le o) (λ o. settled_unread k c x rs (suc t) h.1 le o) (settled_well rs (suc t)).low o
  where
    by : (b : Bool) → ((x < t) ⊎ ((settle rs t).next ≤ x) → Unread x (settle rs t).words) → ((x < suc t) ⊎ ((settle rs (suc t)).next ≤ x) → Unread x (settle rs (suc t)).words) → suc t ≤ (settle rs (suc t)).next
        → let q = if b then (let g = settle rs (suc t) in record g { before = stmt.Assign t a ∷ g.before; words = loads (e.Var t) i n ++ g.words }) else (let g = settle rs t in record g { words = loads a i n ++ g.words }) in
        (x < t) ⊎ (q.next ≤ x) → Unread x q.words
    by true f g low (inl l) = unread_append x (loads (e.Var t) i n) (settle rs (suc t)).words (loads_unread x (e.Var t) i n (var_unread x t (λ s. omega (arith, l, s)))) (g (inl (omega (arith, l))))
    by true f g low (inr l) = unread_append x (loads (e.Var t) i n) (settle rs (suc t)).words (loads_unread x (e.Var t) i n (var_unread x t (λ s. omega (arith, l, s, low)))) (g (inr l))
    by false f g low o = unread_append x (loads a i n) (settle rs t).words (loads_unread x a i n (word_unread k c x a (h.0).1 le)) (f o)

-- ---- rows of statements

abbrev pub turn : ℕ → List Stmt → (Exit → Bool) → Bool
turn x ss k = live_before x (all_in_turn (map flow_of ss)) k

-- where the variable isn't live behind the statements, it isn't before them
pub record Passes (x : ℕ) (ss : List Stmt) : Type 0 where
  pub at : (ts : List Stmt) (k : Exit → Bool) → turn x ts k ≡ false → turn x (ss ++ ts) k ≡ false

-- the variable isn't live before the statements
pub record Kills (x : ℕ) (ss : List Stmt) : Type 0 where
  pub at : (ts : List Stmt) (k : Exit → Bool) → turn x (ss ++ ts) k ≡ false

-- a variable that isn't read, and isn't live behind an assignment
pub assign_dry : (x y : ℕ) (w : Expr) (b : Bool) (k : Exit → Bool) → has (variables_read w) x ≡ false → b ≡ false → live_before x (flow_of (stmt.Assign y w)) (with_end b k) ≡ false
assign_dry x y w b k h g = ap (λ f. live_before x f (with_end b k)) (flow_assign y w) ∙ or_false (has (variables_read w) x) (not (has (y ∷ []) x) && b) h (and_false (not (has (y ∷ []) x)) b g)

-- a variable that isn't read, but is written
pub assign_kill : (y : ℕ) (w : Expr) (b : Bool) (k : Exit → Bool) → has (variables_read w) y ≡ false → live_before y (flow_of (stmt.Assign y w)) (with_end b k) ≡ false
assign_kill y w b k h = ap (λ f. live_before y f (with_end b k)) (flow_assign y w) ∙ or_false (has (variables_read w) y) (not (has (y ∷ []) y) && b) h (ap (λ c. not (c || false) && b) (same y))
  where
    same : (y : ℕ) → (y == y) ≡ true
    same y = grind (arith, nat_tests)

pub assigns_pass : (x y : ℕ) (ws : List Expr) → Unread x ws → Passes x (assign_row y ws)
assigns_pass x y [] h = record { at = λ ts k g. g }
assigns_pass x y (w ∷ ws) h = let r = assigns_pass x (suc y) ws h.1 in record { at = λ ts k g. assign_dry x y w (turn x (assign_row (suc y) ws ++ ts) k) k h.0 (r.at ts k g) }

pub assigns_kill : (x y : ℕ) (ws : List Expr) → Unread x ws → y ≤ x → x < y + length ws → Kills x (assign_row y ws)
assigns_kill x y [] h le l = absurd (omega (arith, le, l))
assigns_kill x y (w ∷ ws) h le l = by (x == y) (λ b. grind (arith, nat_tests, b)) (λ b. grind (arith, nat_tests, b, le)) (λ ne. assigns_kill x (suc y) ws h.1 ne (omega (arith, l)))
  where
    by : (b : Bool) → (b ≡ true → x ≡ y) → (b ≡ false → suc y ≤ x) → (suc y ≤ x → Kills x (assign_row (suc y) ws)) → Kills x (assign_row y (w ∷ ws))
    by true f g r = record { at = λ ts k. subst (λ z. live_before x (flow_of (stmt.Assign z w)) (with_end (turn x (assign_row (suc y) ws ++ ts) k) k) ≡ false) (f refl) (assign_kill x w (turn x (assign_row (suc y) ws ++ ts) k) k h.0) }
    by false f g r = let q = r (g refl) in record { at = λ ts k. assign_dry x y w (turn x (assign_row (suc y) ws ++ ts) k) k h.0 (q.at ts k) }

pub stores_pass : (x : ℕ) (a : Expr) (i : ℕ) (ws : List Expr) → has (variables_read a) x ≡ false → Unread x ws → Passes x (store_row a i ws)
stores_pass x a i [] ha h = record { at = λ ts k g. g }
stores_pass x a i (w ∷ ws) ha h =
    let r = stores_pass x a (suc i) ws ha h.1 in
    let both = all_unread x (far a i ∷ w ∷ []) (far_unread x a i ha, (h.0, tt)) in
    record { at = λ ts k g. let b = turn x (store_row a (suc i) ws ++ ts) k in ap (λ f. live_before x f (with_end b k)) (flow_store_word (far a i) w) ∙ or_false (has (all_read (far a i ∷ w ∷ [])) x) b both (r.at ts k g) }

pub then_pass : (x : ℕ) (ss ts : List Stmt) → Passes x ss → Passes x ts → Passes x (ss ++ ts)
then_pass x ss ts f g = record { at = λ us k h. subst (λ zs. turn x zs k ≡ false) (sym (append_same ss ts us)) (f.at (ts ++ us) k (g.at us k h)) }
  where
    append_same : (ss ts us : List Stmt) → (ss ++ ts) ++ us ≡ ss ++ (ts ++ us)
    append_same [] ts us = refl
    append_same (s ∷ ss) ts us = ap (λ zs. s ∷ zs) (append_same ss ts us)

-- the addresses' own variables are written before they are read
pub settled_pass : (k c x : ℕ) (rs : List Row) (t : ℕ) → RowsLow k c rs → c ≤ x → Passes x (settle rs t).before
settled_pass k c x [] t h le = record { at = λ ts k g. g }
settled_pass k c x (row.Variables y n ∷ rs) t h le = settled_pass k c x rs t h.1 le
settled_pass k c x (row.One w ∷ rs) t h le = settled_pass k c x rs t h.1 le
settled_pass k c x (row.Loads a i n ∷ rs) t h le = by (nat_le 2 n) (settled_pass k c x rs t h.1 le) (settled_pass k c x rs (suc t) h.1 le)
  where
    by : (b : Bool) → Passes x (settle rs t).before → Passes x (settle rs (suc t)).before
        → Passes x (if b then (let g = settle rs (suc t) in record g { before = stmt.Assign t a ∷ g.before; words = loads (e.Var t) i n ++ g.words }) else (let g = settle rs t in record g { words = loads a i n ++ g.words })).before
    by true f g = record { at = λ ts k' p. assign_dry x t a (turn x ((settle rs (suc t)).before ++ ts) k') k' (word_unread k c x a (h.0).1 le) (g.at ts k' p) }
    by false f g = f

pub settled_kill : (k c x : ℕ) (rs : List Row) (t : ℕ) → RowsLow k c rs → c ≤ t → t ≤ x → x < (settle rs t).next → Kills x (settle rs t).before
settled_kill k c x [] t h le l m = absurd (omega (arith, l, m))
settled_kill k c x (row.Variables y n ∷ rs) t h le l m = settled_kill k c x rs t h.1 le l m
settled_kill k c x (row.One w ∷ rs) t h le l m = settled_kill k c x rs t h.1 le l m
settled_kill k c x (row.Loads a i n ∷ rs) t h le l m = by (nat_le 2 n) (λ m. settled_kill k c x rs t h.1 le l m) (λ ne m. settled_kill k c x rs (suc t) h.1 (omega (arith, le)) ne m) m
  where
    by : (b : Bool) → (x < (settle rs t).next → Kills x (settle rs t).before) → (suc t ≤ x → x < (settle rs (suc t)).next → Kills x (settle rs (suc t)).before)
        → let q = if b then (let g = settle rs (suc t) in record g { before = stmt.Assign t a ∷ g.before; words = loads (e.Var t) i n ++ g.words }) else (let g = settle rs t in record g { words = loads a i n ++ g.words }) in
        x < q.next → Kills x q.before
    by true f g m = at (x == t) (λ b. grind (arith, nat_tests, b)) (λ b. grind (arith, nat_tests, b, l))
      where
        unread : has (variables_read a) x ≡ false
        unread = word_unread k c x a (h.0).1 (omega (arith, le, l))

        at : (b : Bool) → (b ≡ true → x ≡ t) → (b ≡ false → suc t ≤ x) → Kills x (stmt.Assign t a ∷ (settle rs (suc t)).before)
        at true p q = record { at = λ ts k'. subst (λ z. live_before x (flow_of (stmt.Assign z a)) (with_end (turn x ((settle rs (suc t)).before ++ ts) k') k') ≡ false) (p refl) (assign_kill x a (turn x ((settle rs (suc t)).before ++ ts) k') k' unread) }
        at false p q = let r = g (q refl) m in record { at = λ ts k'. assign_dry x t a (turn x ((settle rs (suc t)).before ++ ts) k') k' unread (r.at ts k') }
    by false f g m = f m
