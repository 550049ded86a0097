-- What stands in the code of a frame: the sites of the statements over homes, few enough instructions, and right mentions.
use Rattle.std.proofs.Common.{◌≡◌, ◌⊎◌, inl, inr, ℕ, zero, suc, pos, negsuc, ◌+◌, ◌-◌, ◌*◌, ◌%◌, ◌^◌, ◌<◌, ◌≤◌, List, [], ◌∷◌, ◌++◌, map, length, ◌≢◌, Bool, true, false, refl, sym, ap, ◌∙◌, subst, arith, append_assoc}
use Rattle.std.specs.Prelude.{◌≤ℤ◌, nat_lt, nat_eq, flat_map, if◌then◌else◌}
use Rattle.std.specs.List.{All}
use Rattle.std.proofs.lemmas.Bool.Decides.{nat_tests}
use Rattle.std.proofs.lemmas.Int.{ints}
use Rattle.pan_base.specs.declared.operators.IOp.{IOp}
use Rattle.pan_base.specs.declared.operators.IOp.TheVariants.{Addi, Addiw}
use Rattle.pan_base.specs.declared.operators.LOp.TheVariants.{Ld}
use Rattle.pan_base.specs.declared.operators.SOp.TheVariants.{Sd}
use Rattle.pan_base.specs.declared.operators.ShiftOp.TheVariants.{Slli}
use Rattle.pan_base.specs.declared.operators.UOp.TheVariants.{Lui}
use Rattle.pan_flow.specs.Flow.{has}
use Rattle.pan_stage.specs.Stage.{Site}
use Rattle.pan_stage.specs.Sums.{sum_of}
use Rattle.riscv_isa.specs.declared.instr.Instr.{Instr}
use Rattle.riscv_isa.specs.declared.instr.Instr.TheVariants as instr
use Rattle.word_lang.specs.Homes.{first_slot}
use Rattle.stack_lang.specs.Needs.{code_layer, code}
use Rattle.stack_lang.specs.Shown.{IsVisible, IsWritable}
use Rattle.stack_lang.specs.Text.{sites_layer, sites, Mention, Instruction, Read, Written, Slot, mentions_layer, mentions}
use Rattle.stack_lang.specs.WellFormed.{Scope, IsRight}
use Rattle.stack_lang.specs.declared.syntax.Stmt.{Stmt, Stmt-F, roll-Stmt, map-Stmt, fold-Stmt, fold-roll-Stmt}
use Rattle.stack_lang.specs.declared.syntax.Stmt.TheVariants as s
use Rattle.stack_lang.specs.declared.syntax.Stmt.TheOpen as o_s
use Rattle.stack_frames.specs.Constants.{low, high, with_low, zeros, odd, is_upper, shifted, shifted_by, constant_by, constant_in, constant}
use Rattle.stack_frames.specs.Frames.{register_of, gets, puts, load, save, distance, pass, fetch, passes, fetches}
use Rattle.stack_frames.proofs.Masked.{IsUsable, seen}
use Rattle.stack_frames.proofs.Zeros.{few_zeros}
use Rattle.stack_frames.proofs.Flows.{has_first, has_rest}
use Rattle.stack_frames.proofs.Homes.{IsNumbered, home_usable, spare_low, spare_5, IsSpare}

-- ---- at a variant

pub sites_at : (y : Stmt-F Stmt) (x : Stmt) → roll-Stmt y ≡ x → sites x ≡ sites_layer (map-Stmt Stmt (List Site) sites y)
unfolding sites
sites_at y x is = ap (fold-Stmt (List Site) sites_layer) (sym is) ∙ fold-roll-Stmt (List Site) sites_layer y

pub code_at : (y : Stmt-F Stmt) (x : Stmt) → roll-Stmt y ≡ x → code x ≡ code_layer (map-Stmt Stmt ℕ code y)
unfolding code
code_at y x is = ap (fold-Stmt ℕ code_layer) (sym is) ∙ fold-roll-Stmt ℕ code_layer y

pub mentions_at : (y : Stmt-F Stmt) (x : Stmt) → roll-Stmt y ≡ x → mentions x ≡ mentions_layer (map-Stmt Stmt (List Mention) mentions y)
unfolding mentions
mentions_at y x is = ap (fold-Stmt (List Mention) mentions_layer) (sym is) ∙ fold-roll-Stmt (List Mention) mentions_layer y

-- ---- lists

-- P holds of each
abbrev pub Each : {A : Type 0} → (A → Type 0) → List A → Type 0
Each P [] = Unit {0}
Each P (x ∷ xs) = P x × Each P xs

pub each_append : {A : Type 0} (P : A → Type 0) (xs ys : List A) → Each P xs → Each P ys → Each P (xs ++ ys)
each_append P [] ys p q = q
each_append P (x ∷ xs) ys p q = (p.0, each_append P xs ys p.1 q)

pub each_all : {A : Type 0} (P : A → Type 0) (xs : List A) → Each P xs → All P xs
each_all P [] p k d l = absurd (omega (arith, l))
each_all P (x ∷ xs) p zero d l = p.0
each_all P (x ∷ xs) p (suc k) d l = each_all P xs p.1 k d (omega (arith, l))

-- ---- rows

abbrev pub row_sites : List Stmt → List Site
row_sites ss = flat_map (λ s. s) (map sites ss)

abbrev pub row_code : List Stmt → ℕ
row_code ss = sum_of (map code ss)

abbrev pub row_mentions : List Stmt → List Mention
row_mentions ss = flat_map (λ s. s) (map mentions ss)

pub row_sites_append : (ss ts : List Stmt) → row_sites (ss ++ ts) ≡ row_sites ss ++ row_sites ts
row_sites_append [] ts = refl
row_sites_append (s ∷ ss) ts = ap (λ r. sites s ++ r) (row_sites_append ss ts) ∙ sym (append_assoc (sites s) (row_sites ss) (row_sites ts))

pub row_code_append : (ss ts : List Stmt) → row_code (ss ++ ts) ≡ row_code ss + row_code ts
row_code_append [] ts = omega arith
row_code_append (s ∷ ss) ts = let e = row_code_append ss ts in omega (arith, e)

pub row_mentions_append : (ss ts : List Stmt) → row_mentions (ss ++ ts) ≡ row_mentions ss ++ row_mentions ts
row_mentions_append [] ts = refl
row_mentions_append (s ∷ ss) ts = ap (λ r. mentions s ++ r) (row_mentions_append ss ts) ∙ sym (append_assoc (mentions s) (row_mentions ss) (row_mentions ts))

-- a row has these sites, at most so many instructions, and mentions what is right
pub record Row (scope : Scope) (places : List Site) (most : ℕ) (ss : List Stmt) : Type 0 where
  pub sites_are : row_sites ss ≡ places
  pub short : row_code ss ≤ most
  pub right : Each (IsRight scope) (row_mentions ss)

module _ (scope : Scope) where
  pub row_none : Row scope [] 0 []
  row_none = record { sites_are = refl; short = omega arith; right = tt }

  pub row_append : (a b : List Site) (n m : ℕ) (ss ts : List Stmt) → Row scope a n ss → Row scope b m ts → Row scope (a ++ b) (n + m) (ss ++ ts)
  row_append a b n m ss ts p q =
      record {
        sites_are = row_sites_append ss ts ∙ ap (λ x. x ++ row_sites ts) p.sites_are ∙ ap (λ y. a ++ y) q.sites_are;
        short = let e = row_code_append ss ts in let k = p.short in let l = q.short in omega (arith, e, k, l);
        right = subst (Each (IsRight scope)) (sym (row_mentions_append ss ts)) (each_append (IsRight scope) (row_mentions ss) (row_mentions ts) p.right q.right);
      }

  pub row_within : (a : List Site) (n m : ℕ) (ss : List Stmt) → n ≤ m → Row scope a n ss → Row scope a m ss
  row_within a n m ss l p = record { sites_are = p.sites_are; short = let k = p.short in omega (arith, l, k); right = p.right }

  -- a statement alone
  pub row_one : (x : Stmt) (a : List Site) (n : ℕ) (ms : List Mention) → sites x ≡ a → code x ≡ n → mentions x ≡ ms → Each (IsRight scope) ms → Row scope a n (x ∷ [])
  row_one x a n ms e f g h =
      record { sites_are = plain_sites (sites x) ∙ e; short = (let k = f in omega (arith, k)); right = subst (Each (IsRight scope)) (sym (plain_mentions (mentions x) ∙ g)) h }
    where
      plain_sites : (xs : List Site) → xs ++ [] ≡ xs
      plain_sites [] = refl
      plain_sites (x ∷ xs) = ap (λ ys. x ∷ ys) (plain_sites xs)

      plain_mentions : (xs : List Mention) → xs ++ [] ≡ xs
      plain_mentions [] = refl
      plain_mentions (x ∷ xs) = ap (λ ys. x ∷ ys) (plain_mentions xs)

  pub row_plain : (i : Instr) → IsRight scope (Instruction i) → Row scope [] 1 (s.Plain i ∷ [])
  row_plain i h = row_one (s.Plain i) [] 1 (Instruction i ∷ []) (sites_at (o_s.Plain i) (s.Plain i) (s.rolls-Plain i)) (code_at (o_s.Plain i) (s.Plain i) (s.rolls-Plain i)) (mentions_at (o_s.Plain i) (s.Plain i) (s.rolls-Plain i)) (h, tt)

  pub row_get : (r k : ℕ) → IsRight scope (Written r) → IsRight scope (Slot k) → Row scope [] 3 (s.Get r k ∷ [])
  row_get r k h g = row_one (s.Get r k) [] 3 (Written r ∷ Slot k ∷ []) (sites_at (o_s.Get r k) (s.Get r k) (s.rolls-Get r k)) (code_at (o_s.Get r k) (s.Get r k) (s.rolls-Get r k)) (mentions_at (o_s.Get r k) (s.Get r k) (s.rolls-Get r k)) (h, (g, tt))

  pub row_put : (k r : ℕ) → IsRight scope (Read r) → IsRight scope (Slot k) → Row scope [] 3 (s.Put k r ∷ [])
  row_put k r h g = row_one (s.Put k r) [] 3 (Read r ∷ Slot k ∷ []) (sites_at (o_s.Put k r) (s.Put k r) (s.rolls-Put k r)) (code_at (o_s.Put k r) (s.Put k r) (s.rolls-Put k r)) (mentions_at (o_s.Put k r) (s.Put k r) (s.rolls-Put k r)) (h, (g, tt))

  -- ---- registers

  pub visible : (r : ℕ) → IsUsable r → IsVisible r
  visible r u = seen r u

  pub writable : (r : ℕ) → IsUsable r → IsWritable r
  writable r u = (λ e. omega (arith, e, u.real), u.jumps, λ e. omega (arith, e, u.real), u.newest, λ e. omega (arith, e, u.real))

  -- ---- constants

  low_in_range : (n : ℕ) → (negsuc 2047 ≤ℤ low n) × (low n ≤ℤ pos 2047)
  low_in_range n = by (nat_lt (n % 4096) 2048) refl
    where
      by : (b : Bool) → nat_lt (n % 4096) 2048 ≡ b → (negsuc 2047 ≤ℤ (if b then pos (n % 4096) else negsuc (4095 - n % 4096))) × ((if b then pos (n % 4096) else negsuc (4095 - n % 4096)) ≤ℤ pos 2047)
      by true e = (grind (arith, nat_tests), grind (arith, nat_tests))
      by false e = (grind (arith, nat_tests), grind (arith, nat_tests))

  module _ (r : ℕ) (u : IsUsable r) where
    plain_append : (xs ys : List Instr) → map s.Plain (xs ++ ys) ≡ map s.Plain xs ++ map s.Plain ys
    plain_append [] ys = refl
    plain_append (x ∷ xs) ys = ap (λ zs. s.Plain x ∷ zs) (plain_append xs ys)

    low_row : (op : IOp) (q n : ℕ) → (q ≡ 0) ⊎ (q ≡ r) → Row scope [] 1 (s.Plain (instr.I op r q (low n)) ∷ [])
    low_row op q n e = row_plain (instr.I op r q (low n)) ((u.below, from_small e, (low_in_range n).0, (low_in_range n).1), (writable r u, from_seen e))
      where
        from_small : (q ≡ 0) ⊎ (q ≡ r) → q < 32
        from_small (inl e) = omega (arith, e)
        from_small (inr e) = let l = u.below in omega (arith, e, l)

        from_seen : (q ≡ 0) ⊎ (q ≡ r) → IsVisible q
        from_seen (inl e) = (λ k. omega (arith, e, k), λ k. omega (arith, e, k), λ k. omega (arith, e, k), λ k. omega (arith, e, k))
        from_seen (inr e) = subst IsVisible (sym e) (visible r u)

    with_low_row : (op : IOp) (n : ℕ) → Row scope [] 1 (map s.Plain (with_low op r n))
    with_low_row op n = by (nat_eq (n % 4096) 0)
      where
        by : (b : Bool) → Row scope [] 1 (map s.Plain (if b then [] else instr.I op r r (low n) ∷ []))
        by true = row_within [] 0 1 [] (omega arith) row_none
        by false = low_row op r n (inr refl)

    upper_row : (n : ℕ) → Row scope [] 1 (s.Plain (instr.U Lui r (n % 2 ^ 20)) ∷ [])
    upper_row n = row_plain (instr.U Lui r (n % 2 ^ 20)) ((u.below, omega arith), (refl, writable r u))

    shifted_row : (k n : ℕ) → k < 64 → Row scope [] 2 (map s.Plain (shifted k r n))
    shifted_row k n l = row_append [] [] 1 1 (s.Plain (instr.Sh Slli r r k) ∷ []) (map s.Plain (with_low Addi r n)) (row_plain (instr.Sh Slli r r k) ((u.below, u.below, l), (writable r u, visible r u))) (with_low_row Addi n)

    constant_row_by : (k : ℕ) (long : List Instr) (n : ℕ) → 2 ≤ k → (high n ≢ 0 → Row scope [] k (map s.Plain long)) → Row scope [] k (map s.Plain (constant_by long r n))
    constant_row_by k long n l p = by (nat_eq (high n) 0) (nat_lt ((n + 2 ^ 31) % 2 ^ 64) (2 ^ 32)) refl
      where
        by : (a b : Bool) → nat_eq (high n) 0 ≡ a → Row scope [] k (map s.Plain (if a then instr.I Addi r 0 (low n) ∷ [] else (if b then instr.U Lui r (high n % 2 ^ 20) ∷ with_low Addiw r n else long)))
        by true b e = row_within [] 1 k _ (omega (arith, l)) (low_row Addi 0 n (inl refl))
        by false true e =
            row_within [] 2 k _ (omega (arith, l)) (row_append [] [] 1 1 (s.Plain (instr.U Lui r (high n % 2 ^ 20)) ∷ []) (map s.Plain (with_low Addiw r n)) (upper_row (high n)) (with_low_row Addiw n))
        by false false e = p (grind (arith, nat_tests))

    shifted_row_by : (k : ℕ) (long : List Instr) (n : ℕ) → 1 ≤ k → high n ≢ 0 → Row scope [] k (map s.Plain long) → Row scope [] (k + 2) (map s.Plain (shifted_by long r n))
    shifted_row_by k long n l some p = by (is_upper (odd n)) (few_zeros n some)
      where
        by : (b : Bool) → zeros n ≤ 51 → Row scope [] (k + 2) (map s.Plain (if b then instr.U Lui r (odd n % 2 ^ 20) ∷ shifted (zeros n) r n else long ++ shifted (12 + zeros n) r n))
        by true few =
            row_within [] 3 (k + 2) _ (omega (arith, l)) (row_append [] [] 1 2 (s.Plain (instr.U Lui r (odd n % 2 ^ 20)) ∷ []) (map s.Plain (shifted (zeros n) r n)) (upper_row (odd n)) (shifted_row (zeros n) n (omega (arith, few))))
        by false few =
            subst (Row scope [] (k + 2)) (sym (plain_append long (shifted (12 + zeros n) r n)))
            (row_append [] [] k 2 (map s.Plain long) (map s.Plain (shifted (12 + zeros n) r n)) p (shifted_row (12 + zeros n) n (omega (arith, few))))

    constant_row_in : (k n : ℕ) → Row scope [] (2 + 2 * k) (map s.Plain (constant_in k r n))
    constant_row_in zero n = constant_row_by 2 [] n (omega arith) (λ some. row_within [] 0 2 [] (omega arith) row_none)
    constant_row_in (suc k) n =
        constant_row_by (2 + 2 * suc k) (shifted_by (constant_in k r (odd n)) r n) n (omega arith)
        (λ some. row_within [] (2 + 2 * k + 2) (2 + 2 * suc k) _ (omega arith) (shifted_row_by (2 + 2 * k) (constant_in k r (odd n)) n (omega arith) some (constant_row_in k (odd n))))

    pub constant_row : (n : ℕ) → Row scope [] 8 (map s.Plain (constant r n))
    constant_row n = constant_row_in 3 n

  -- ---- moves

  module _ (slot : ℕ → ℕ) (named : List ℕ) (numbered : IsNumbered slot named) (inside : (x : ℕ) → has named x ≡ true → nat_lt x first_slot ≡ false → IsRight scope (Slot (slot x))) where
    spare_small : (r : ℕ) → IsSpare r → r < 32
    spare_small r k = let u = k.usable in u.below

    pub gets_row : (r x : ℕ) → IsSpare r → has named x ≡ true → Row scope [] 3 (gets slot r x)
    gets_row r x k h = by (nat_lt x first_slot) refl
      where
        by : (b : Bool) → nat_lt x first_slot ≡ b → Row scope [] 3 (if b then [] else s.Get r (slot x) ∷ [])
        by true l = row_within [] 0 3 [] (omega arith) row_none
        by false l = row_get r (slot x) (spare_small r k, writable r k.usable) (inside x h l)

    pub puts_row : (x r : ℕ) → IsSpare r → has named x ≡ true → Row scope [] 3 (puts slot x r)
    puts_row x r k h = by (nat_lt x first_slot) refl
      where
        by : (b : Bool) → nat_lt x first_slot ≡ b → Row scope [] 3 (if b then [] else s.Put (slot x) r ∷ [])
        by true l = row_within [] 0 3 [] (omega arith) row_none
        by false l = row_put (slot x) r (spare_small r k, visible r k.usable) (inside x h l)

    pub of_usable : (r x : ℕ) → IsSpare r → has named x ≡ true → IsUsable (register_of r x)
    of_usable r x k h = by (nat_lt x first_slot) refl
      where
        by : (b : Bool) → nat_lt x first_slot ≡ b → IsUsable (if b then x else r)
        by true l = home_usable x (numbered.homes x h) l
        by false l = k.usable

    zero_in_range : (negsuc 2047 ≤ℤ pos 0) × (pos 0 ≤ℤ pos 2047)
    zero_in_range = (omega (arith, ints), omega (arith, ints))

    load_row : (r x : ℕ) → IsSpare r → has named x ≡ true → Row scope [] 3 (load slot r x ∷ [])
    load_row r x k h = by (nat_lt x first_slot) refl
      where
        by : (b : Bool) → nat_lt x first_slot ≡ b → Row scope [] 3 ((if b then s.Plain (instr.I Addi r x (pos 0)) else s.Get r (slot x)) ∷ [])
        by true l =
            let v = home_usable x (numbered.homes x h) l in
            row_within [] 1 3 _ (omega arith) (row_plain (instr.I Addi r x (pos 0)) ((spare_small r k, v.below, zero_in_range.0, zero_in_range.1), (writable r k.usable, visible x v)))
        by false l = row_get r (slot x) (spare_small r k, writable r k.usable) (inside x h l)

    save_row : (x r : ℕ) → IsSpare r → has named x ≡ true → Row scope [] 3 (save slot x r ∷ [])
    save_row x r k h = by (nat_lt x first_slot) refl
      where
        by : (b : Bool) → nat_lt x first_slot ≡ b → Row scope [] 3 ((if b then s.Plain (instr.I Addi x r (pos 0)) else s.Put (slot x) r) ∷ [])
        by true l =
            let v = home_usable x (numbered.homes x h) l in
            row_within [] 1 3 _ (omega arith) (row_plain (instr.I Addi x r (pos 0)) ((v.below, spare_small r k, zero_in_range.0, zero_in_range.1), (writable x v, visible r k.usable)))
        by false l = row_put (slot x) r (spare_small r k, visible r k.usable) (inside x h l)

    passing_spare : (k : ℕ) → nat_lt k 5 ≡ true → IsSpare (10 + k)
    passing_spare k l = spare_low (10 + k) (omega arith) (grind (arith, nat_tests))

    distance_in_range : (k : ℕ) → k < 128 → (negsuc 2047 ≤ℤ pos (distance k)) × (pos (distance k) ≤ℤ pos 2047)
    distance_in_range k l = (omega (arith, ints), omega (arith, ints, l))

    three_seen : IsVisible 3
    three_seen = (λ e. omega (arith, e), λ e. omega (arith, e), λ e. omega (arith, e), λ e. omega (arith, e))

    pass_row : (k x : ℕ) → k < 128 → has named x ≡ true → Row scope [] 4 (pass slot k x)
    pass_row k x l h = by (nat_lt k 5) refl
      where
        by : (b : Bool) → nat_lt k 5 ≡ b → Row scope [] 4 (if b then load slot (10 + k) x ∷ [] else gets slot 5 x ++ s.Plain (instr.S Sd 3 (register_of 5 x) (pos (distance k))) ∷ [])
        by true e = row_within [] 3 4 _ (omega arith) (load_row (10 + k) x (passing_spare k e) h)
        by false e =
            let u = of_usable 5 x spare_5 h in
            row_append [] [] 3 1 (gets slot 5 x) _ (gets_row 5 x spare_5 h)
            (row_plain (instr.S Sd 3 (register_of 5 x) (pos (distance k))) ((omega arith, u.below, (distance_in_range k l).0, (distance_in_range k l).1), (three_seen, visible (register_of 5 x) u)))

    fetch_row : (k x : ℕ) → k < 128 → has named x ≡ true → Row scope [] 4 (fetch slot k x)
    fetch_row k x l h = by (nat_lt k 5) refl
      where
        by : (b : Bool) → nat_lt k 5 ≡ b → Row scope [] 4 (if b then save slot x (10 + k) ∷ [] else s.Plain (instr.L Ld (register_of 5 x) 3 (pos (distance k))) ∷ puts slot x 5)
        by true e = row_within [] 3 4 _ (omega arith) (save_row x (10 + k) (passing_spare k e) h)
        by false e =
            let u = of_usable 5 x spare_5 h in
            row_append [] [] 1 3 (s.Plain (instr.L Ld (register_of 5 x) 3 (pos (distance k))) ∷ []) (puts slot x 5)
            (row_plain (instr.L Ld (register_of 5 x) 3 (pos (distance k))) ((u.below, omega arith, (distance_in_range k l).0, (distance_in_range k l).1), (writable (register_of 5 x) u, three_seen)))
            (puts_row x 5 spare_5 h)

    pub passes_row : (k : ℕ) (xs : List ℕ) → k + length xs ≤ 128 → ((x : ℕ) → has xs x ≡ true → has named x ≡ true) → Row scope [] (4 * length xs) (passes slot k xs)
    passes_row k [] l hs = row_none
    passes_row k (x ∷ xs) l hs =
        row_within [] (4 + 4 * length xs) (4 * length (x ∷ xs)) _ (omega arith)
        (row_append [] [] 4 (4 * length xs) (pass slot k x) (passes slot (k + 1) xs) (pass_row k x (omega (arith, l)) (hs x (has_first x xs))) (passes_row (k + 1) xs (omega (arith, l)) (λ y h. hs y (has_rest x y xs h))))

    pub fetches_row : (k : ℕ) (xs : List ℕ) → k + length xs ≤ 128 → ((x : ℕ) → has xs x ≡ true → has named x ≡ true) → Row scope [] (4 * length xs) (fetches slot k xs)
    fetches_row k [] l hs = row_none
    fetches_row k (x ∷ xs) l hs =
        row_within [] (4 + 4 * length xs) (4 * length (x ∷ xs)) _ (omega arith)
        (row_append [] [] 4 (4 * length xs) (fetch slot k x) (fetches slot (k + 1) xs) (fetch_row k x (omega (arith, l)) (hs x (has_first x xs))) (fetches_row (k + 1) xs (omega (arith, l)) (λ y h. hs y (has_rest x y xs h))))
