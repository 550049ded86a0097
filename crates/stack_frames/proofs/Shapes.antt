-- The code of each statement has its sites, needs no more, and mentions what is right.
use Rattle.std.proofs.Common.{◌≡◌, ◌⊎◌, inl, inr, ℕ, ℤ, pos, negsuc, ◌+◌, ◌*◌, ◌<◌, ◌≤◌, List, [], ◌∷◌, ◌++◌, map, length, Option, Some, None, true, false, refl, sym, ap, ◌∙◌, subst, arith}
use Rattle.std.specs.Prelude.{◌≤ℤ◌, nat_lt, flat_map, slice_get}
use Rattle.std.specs.List.{list_all}
use Rattle.std.proofs.lemmas.Bool.Decides.{nat_tests}
use Rattle.std.proofs.lemmas.Int.{ints}
use Rattle.pan_base.specs.declared.events.Size.{Size}
use Rattle.pan_base.specs.declared.operators.ShiftOp.{ShiftOp}
use Rattle.pan_base.specs.declared.operators.ShiftOp.TheVariants.{Slli, Srli, Srai, Slliw, Srliw, Sraiw}
use Rattle.pan_flow.specs.Flow.{Flow, has}
use Rattle.pan_flow.specs.Functions.{variables, all_in_turn}
use Rattle.pan_stage.specs.Mentions.{Arity, is_right, is_immediate}
use Rattle.pan_stage.specs.Mentions as mention
use Rattle.pan_stage.specs.Stage.{Site}
use Rattle.pan_stage.specs.Stage as site
use Rattle.pan_stage.specs.Sums.{sum_of}
use Rattle.pan_stage.specs.WellFormed.{IsArity, most_words}
use Rattle.riscv_isa.specs.declared.instr.Instr.TheVariants as instr
use Rattle.riscv_isa.specs.Table.{amounts}
use Rattle.word_lang.specs.Homes.{first_slot}
use Rattle.word_lang.specs.Needs.{code_layer, code}
use Rattle.word_lang.specs.Text.{sites_layer, sites, shifted_bits, mentions_layer, mentions, flow_layer, flow_of, variables_of, variables_read}
use Rattle.word_lang.specs.declared.syntax.Stmt.{Stmt as WordStmt, Stmt-F, roll-Stmt, map-Stmt, fold-roll-Stmt}
use Rattle.word_lang.specs.declared.syntax.Stmt.TheOpen as tree
use Rattle.word_lang.proofs.Equations.{stmt_induct}
use Rattle.stack_lang.specs.Needs as stack
use Rattle.stack_lang.specs.Shown.{IsVisible, load_of, store_of}
use Rattle.stack_lang.specs.Text as stack_text
use Rattle.stack_lang.specs.Text.{Mention, Slot, Instruction, Read, Function, Exception}
use Rattle.stack_lang.specs.WellFormed.{Scope, IsRight}
use Rattle.stack_lang.specs.declared.syntax.Catch.{Catch}
use Rattle.stack_lang.specs.declared.syntax.Stmt.{Stmt}
use Rattle.stack_lang.specs.declared.syntax.Stmt.TheVariants as s
use Rattle.stack_lang.specs.declared.syntax.Stmt.TheOpen as o_s
use Rattle.stack_frames.specs.Constants.{constant}
use Rattle.stack_frames.specs.Frames.{register_of, gets, puts, operand, gets_operand, gets_both, passes, fetches, framed_layer, framed}
use Rattle.stack_frames.proofs.Masked.{IsUsable}
use Rattle.stack_frames.proofs.Homes.{IsNumbered, IsSpare, spare_5, spare_6}
use Rattle.stack_frames.proofs.Flows.{has_first, has_rest, has_left, has_right, all_left, all_right, all_head, all_tail}
use Rattle.stack_frames.proofs.Statements.{flow_roll, mentions_roll, framed_roll, is_called, is_tail_called, is_width}
use Rattle.stack_frames.proofs.Texts.{sites_at, code_at, mentions_at, Each, each_append, row_code, row_mentions, Row, row_none, row_append, row_within, row_one, row_plain, visible, writable, constant_row, gets_row, puts_row, of_usable, passes_row, fetches_row}

sites_roll : (y : Stmt-F WordStmt) → sites (roll-Stmt y) ≡ sites_layer (map-Stmt WordStmt (List Site) sites y)
unfolding sites
sites_roll y = fold-roll-Stmt (List Site) sites_layer y

code_roll : (y : Stmt-F WordStmt) → code (roll-Stmt y) ≡ code_layer (map-Stmt WordStmt ℕ code y)
unfolding code
code_roll y = fold-roll-Stmt ℕ code_layer y

append_none : {A : Type 0} (xs : List A) → xs ++ [] ≡ xs
append_none [] = refl
append_none (x ∷ xs) = ap (λ ys. x ∷ ys) (append_none xs)

immediate_in_range : (i : ℤ) → is_immediate i ≡ true → (negsuc 2047 ≤ℤ i) × (i ≤ℤ pos 2047)
immediate_in_range (pos n) h = (omega (arith, ints), let l : n < 2048 = grind (arith, nat_tests) in omega (arith, ints, l))
immediate_in_range (negsuc n) h = (let l : n < 2048 = grind (arith, nat_tests) in omega (arith, ints, l), omega (arith, ints))

amount_in_range : (o : ShiftOp) (n : ℕ) → nat_lt n (shifted_bits o) ≡ true → n < amounts o
amount_in_range Slli n h = grind (arith, nat_tests)
amount_in_range Srli n h = grind (arith, nat_tests)
amount_in_range Srai n h = grind (arith, nat_tests)
amount_in_range Slliw n h = grind (arith, nat_tests)
amount_in_range Srliw n h = grind (arith, nat_tests)
amount_in_range Sraiw n h = grind (arith, nat_tests)

-- a function of a program over homes, whose slots are numbered so, and what its code may mention
pub record Texture : Type 0 where
  pub word_scope : mention.Scope
  pub own : ℕ
  pub few_arities : (f : ℕ) (a : Arity) → slice_get word_scope.arities f ≡ Some a → IsArity a
  pub few_widths : (i n : ℕ) → slice_get word_scope.widths i ≡ Some n → n ≤ most_words
  pub few_results : own ≤ most_words
  pub scope : Scope
  pub slot : ℕ → ℕ
  pub named : List ℕ
  pub numbered : IsNumbered slot named
  pub inside : (x : ℕ) → has named x ≡ true → nat_lt x first_slot ≡ false → IsRight scope (Slot (slot x))
  pub functions : (f : ℕ) (a : Arity) → slice_get word_scope.arities f ≡ Some a → f < scope.functions
  pub exceptions : (i n : ℕ) → slice_get word_scope.widths i ≡ Some n → i < scope.exceptions
  pub names : word_scope.names ≤ scope.names

-- a statement has these sites, at most so many instructions, and mentions what is right
pub record Text (scope : Scope) (places : List Site) (most : ℕ) (x : Stmt) : Type 0 where
  pub sites_are : stack_text.sites x ≡ places
  pub short : stack.code x ≤ most
  pub right : Each (IsRight scope) (stack_text.mentions x)

module _ (scope : Scope) where
  pub text_seq : (places : List Site) (n : ℕ) (ss : List Stmt) → Row scope places n ss → Text scope places n (s.Seq ss)
  text_seq places n ss p =
      record {
        sites_are = sites_at (o_s.Seq ss) (s.Seq ss) (s.rolls-Seq ss) ∙ p.sites_are;
        short = let e = code_at (o_s.Seq ss) (s.Seq ss) (s.rolls-Seq ss) in let l = p.short in omega (arith, e, l);
        right = subst (Each (IsRight scope)) (sym (mentions_at (o_s.Seq ss) (s.Seq ss) (s.rolls-Seq ss))) p.right;
      }

  pub text_row : (places : List Site) (n : ℕ) (x : Stmt) → Text scope places n x → Row scope places n (x ∷ [])
  text_row places n x p = row_within scope places (stack.code x) n (x ∷ []) p.short (row_one scope x places (stack.code x) (stack_text.mentions x) p.sites_are refl refl p.right)

  pub text_of : (x : Stmt) (places : List Site) (n m : ℕ) (ms : List Mention) → stack_text.sites x ≡ places → stack.code x ≡ n → n ≤ m → stack_text.mentions x ≡ ms → Each (IsRight scope) ms → Text scope places m x
  text_of x places n m ms e f l g h = record { sites_are = e; short = omega (arith, f, l); right = subst (Each (IsRight scope)) (sym g) h }

  pub text_within : (places : List Site) (n m : ℕ) (x : Stmt) → n ≤ m → Text scope places n x → Text scope places m x
  text_within places n m x l p = record { sites_are = p.sites_are; short = let k = p.short in omega (arith, k, l); right = p.right }

module _ (t : Texture) where
  abbrev AllNamed : List ℕ → Type 0
  AllNamed xs = (x : ℕ) → has xs x ≡ true → has t.named x ≡ true

  -- the words that a statement mentions are right
  abbrev AllRight : List mention.Mention → Type 0
  AllRight ms = list_all (is_right t.word_scope t.own) ms ≡ true

  abbrev pub TextOf : List Site → ℕ → Stmt → Type 0
  TextOf = Text t.scope

  abbrev RowOf : List Site → ℕ → List Stmt → Type 0
  RowOf = Row t.scope

  abbrev Claim : WordStmt → Type 0
  Claim x = AllNamed (variables (flow_of x)) → AllRight (mentions x) → TextOf (sites x) (16 * code x) (framed t.slot x)

  abbrev parts : Stmt-F ((x : WordStmt) × Claim x) → Stmt-F WordStmt
  parts y = map-Stmt ((x : WordStmt) × Claim x) WordStmt (λ p. p.0) y

  -- statements one after another
  parts_row : (all : List ((x : WordStmt) × Claim x)) → AllNamed (variables (all_in_turn (map flow_of (map (λ p. p.0) all)))) → AllRight (flat_map (λ s. s) (map mentions (map (λ p. p.0) all)))
      → RowOf (flat_map (λ s. s) (map sites (map (λ p. p.0) all))) (16 * sum_of (map code (map (λ p. p.0) all))) (map (framed t.slot) (map (λ p. p.0) all))
  parts_row [] hs ms = row_within t.scope [] 0 (16 * 0) [] (omega arith) (row_none t.scope)
  parts_row (p ∷ all) hs ms =
      let rest : Flow = all_in_turn (map flow_of (map (λ p. p.0) all)) in
      row_within t.scope _ (16 * code p.0 + 16 * sum_of (map code (map (λ p. p.0) all))) (16 * (code p.0 + sum_of (map code (map (λ p. p.0) all)))) _ (omega arith)
      (row_append t.scope (sites p.0) (flat_map (λ s. s) (map sites (map (λ p. p.0) all))) (16 * code p.0) (16 * sum_of (map code (map (λ p. p.0) all))) (framed t.slot p.0 ∷ []) (map (framed t.slot) (map (λ p. p.0) all))
      (text_row t.scope (sites p.0) (16 * code p.0) (framed t.slot p.0)
      (p.1 (λ x h. hs x (has_left x (variables (flow_of p.0)) (variables rest) h)) (all_left (is_right t.word_scope t.own) (mentions p.0) (flat_map (λ s. s) (map mentions (map (λ p. p.0) all))) ms)))
      (parts_row all (λ x h. hs x (has_right x (variables (flow_of p.0)) (variables rest) h)) (all_right (is_right t.word_scope t.own) (mentions p.0) (flat_map (λ s. s) (map mentions (map (λ p. p.0) all))) ms)))

  -- ---- operations

  get_row : (r x : ℕ) → IsSpare r → has t.named x ≡ true → RowOf [] 3 (gets t.slot r x)
  get_row r x k h = gets_row t.scope t.slot t.named t.numbered t.inside r x k h

  put_row : (x : ℕ) → has t.named x ≡ true → RowOf [] 3 (puts t.slot x 5)
  put_row x h = puts_row t.scope t.slot t.named t.numbered t.inside x 5 spare_5 h

  usable : (r x : ℕ) → IsSpare r → has t.named x ≡ true → IsUsable (register_of r x)
  usable r x k h = of_usable t.scope t.slot t.named t.numbered t.inside r x k h

  -- one instruction between what it takes and what it gives
  one_text : (a x : ℕ) (places : List Site) (i : Stmt) → has t.named a ≡ true → has t.named x ≡ true → RowOf places 1 (i ∷ []) → TextOf places (16 * 1) (s.Seq (gets t.slot 5 a ++ i ∷ puts t.slot x 5))
  one_text a x places i ha hx p =
      text_within t.scope places 7 (16 * 1) _ (omega arith)
      (text_seq t.scope places 7 _
      (subst (λ q. RowOf q 7 (gets t.slot 5 a ++ i ∷ puts t.slot x 5)) (append_none places)
      (row_append t.scope [] (places ++ []) 3 4 (gets t.slot 5 a) (i ∷ puts t.slot x 5) (get_row 5 a spare_5 ha) (row_append t.scope places [] 1 3 (i ∷ []) (puts t.slot x 5) p (put_row x hx)))))

  two_text : (a b x : ℕ) (i : Stmt) → has t.named a ≡ true → has t.named b ≡ true → has t.named x ≡ true → RowOf [] 1 (i ∷ []) → TextOf [] (16 * 1) (s.Seq ((gets t.slot 5 a ++ gets t.slot 6 b) ++ i ∷ puts t.slot x 5))
  two_text a b x i ha hb hx p =
      text_within t.scope [] 10 (16 * 1) _ (omega arith)
      (text_seq t.scope [] 10 _
      (row_append t.scope [] [] 6 4 (gets t.slot 5 a ++ gets t.slot 6 b) (i ∷ puts t.slot x 5) (row_append t.scope [] [] 3 3 (gets t.slot 5 a) (gets t.slot 6 b) (get_row 5 a spare_5 ha) (get_row 6 b spare_6 hb))
      (row_append t.scope [] [] 1 3 (i ∷ []) (puts t.slot x 5) p (put_row x hx))))

  uses_text : (a b : ℕ) (places : List Site) (i : Stmt) → has t.named a ≡ true → has t.named b ≡ true → RowOf places 1 (i ∷ []) → TextOf places (16 * 1) (s.Seq ((gets t.slot 5 a ++ gets t.slot 6 b) ++ i ∷ []))
  uses_text a b places i ha hb p =
      text_within t.scope places 7 (16 * 1) _ (omega arith)
      (text_seq t.scope places 7 _
      (row_append t.scope [] places 6 1 (gets t.slot 5 a ++ gets t.slot 6 b) (i ∷ []) (row_append t.scope [] [] 3 3 (gets t.slot 5 a) (gets t.slot 6 b) (get_row 5 a spare_5 ha) (get_row 6 b spare_6 hb)) p))

  -- ---- tests

  zero_seen : IsVisible 0
  zero_seen = (λ e. omega (arith, e), λ e. omega (arith, e), λ e. omega (arith, e), λ e. omega (arith, e))

  operand_right : (r : ℕ) (o : Option ℕ) → IsSpare r → AllNamed (variables_of (o ∷ [])) → IsRight t.scope (Read (operand r o))
  operand_right r None k hs = (omega arith, zero_seen)
  operand_right r (Some x) k hs = let u = usable r x k (hs x (has_first x [])) in (u.below, visible t.scope (register_of r x) u)

  operand_row : (r : ℕ) (o : Option ℕ) → IsSpare r → AllNamed (variables_of (o ∷ [])) → RowOf [] 3 (gets_operand t.slot r o)
  operand_row r None k hs = row_within t.scope [] 0 3 [] (omega arith) (row_none t.scope)
  operand_row r (Some x) k hs = get_row r x k (hs x (has_first x []))

  first_named : (a b : Option ℕ) → AllNamed (variables_of (a ∷ b ∷ [])) → AllNamed (variables_of (a ∷ []))
  first_named None b hs x h = absurd (cc h)
  first_named (Some a) b hs x h = hs x (has_left x (a ∷ []) (variables_of (b ∷ [])) h)

  second_named : (a b : Option ℕ) → AllNamed (variables_of (a ∷ b ∷ [])) → AllNamed (variables_of (b ∷ []))
  second_named None b hs x h = hs x h
  second_named (Some a) b hs x h = hs x (has_rest a x (variables_of (b ∷ [])) h)

  both_row : (a b : Option ℕ) → AllNamed (variables_of (a ∷ b ∷ [])) → RowOf [] 6 (gets_both t.slot a b)
  both_row a b hs = row_append t.scope [] [] 3 3 (gets_operand t.slot 5 a) (gets_operand t.slot 6 b) (operand_row 5 a spare_5 (first_named a b hs)) (operand_row 6 b spare_6 (second_named a b hs))

  -- ---- what is passed

  pass_all : (xs : List ℕ) → length xs ≤ most_words → AllNamed xs → RowOf [] (4 * length xs) (passes t.slot 0 xs)
  pass_all xs l hs = passes_row t.scope t.slot t.named t.numbered t.inside 0 xs (omega (arith, l)) hs

  pub fetch_all : (xs : List ℕ) → length xs ≤ most_words → AllNamed xs → RowOf [] (4 * length xs) (fetches t.slot 0 xs)
  fetch_all xs l hs = fetches_row t.scope t.slot t.named t.numbered t.inside 0 xs (omega (arith, l)) hs

  -- words are passed before a statement
  passing_text : (xs : List ℕ) (places : List Site) (n m : ℕ) (x : Stmt) → length xs ≤ most_words → AllNamed xs → 4 * length xs + n ≤ m → TextOf places n x → TextOf places m (s.Seq (passes t.slot 0 xs ++ x ∷ []))
  passing_text xs places n m x l hs le p =
      text_within t.scope places (4 * length xs + n) m _ le (text_seq t.scope places (4 * length xs + n) _ (row_append t.scope [] places (4 * length xs) n (passes t.slot 0 xs) (x ∷ []) (pass_all xs l hs) (text_row t.scope places n x p)))

  few_given : (arity : Arity) (m : ℕ) → IsArity arity → (m ≡ 0) ⊎ (m ≡ arity.results) → m ≤ most_words
  few_given arity m k (inl e) = omega (arith, e)
  few_given arity m k (inr e) = let l = k.results in omega (arith, e, l)

  -- ---- each statement

  shared_loads : (size : Size) (d r : ℕ) (i : ℤ) → IsUsable d → IsUsable r → is_immediate i ≡ true → IsRight t.scope (Instruction (load_of size d r i))
  shared_loads size d r i u v h = let k = immediate_in_range i h in ((u.below, v.below, k.0, k.1), (writable t.scope d u, visible t.scope r v))

  shared_stores : (size : Size) (r q : ℕ) (i : ℤ) → IsUsable r → IsUsable q → is_immediate i ≡ true → IsRight t.scope (Instruction (store_of size r q i))
  shared_stores size r q i u v h = let k = immediate_in_range i h in ((u.below, v.below, k.0, k.1), (visible t.scope r u, visible t.scope q v))

  shaped : (z : Stmt-F ((x : WordStmt) × Claim x)) → AllNamed (variables (flow_layer (map-Stmt WordStmt Flow flow_of (parts z)))) → AllRight (mentions_layer (map-Stmt WordStmt (List mention.Mention) mentions (parts z)))
      → TextOf (sites_layer (map-Stmt WordStmt (List Site) sites (parts z))) (16 * code_layer (map-Stmt WordStmt ℕ code (parts z))) (framed_layer t.slot (map-Stmt WordStmt Stmt (framed t.slot) (parts z)))
  shaped tree.Skip hs ms = text_within t.scope [] 0 (16 * 0) (s.Seq []) (omega arith) (text_seq t.scope [] 0 [] (row_none t.scope))
  shaped (tree.Seq all) hs ms = text_seq t.scope _ (16 * sum_of (map code (map (λ p. p.0) all))) (map (framed t.slot) (map (λ p. p.0) all)) (parts_row all hs ms)
  shaped (tree.Const x n) hs ms =
      let hx = hs x (has_first x []) in
      text_within t.scope [] 11 (16 * 1) _ (omega arith) (text_seq t.scope [] 11 _ (row_append t.scope [] [] 8 3 (map s.Plain (constant (register_of 5 x) n)) (puts t.slot x 5) (constant_row t.scope (register_of 5 x) (usable 5 x spare_5 hx) n) (put_row x hx)))
  shaped (tree.Reg o x a b) hs ms =
      let ha = hs a (has_first a (b ∷ x ∷ [])) in
      let hb = hs b (has_rest a b (b ∷ x ∷ []) (has_first b (x ∷ []))) in
      let hx = hs x (has_rest a x (b ∷ x ∷ []) (has_rest b x (x ∷ []) (has_first x []))) in
      let d = usable 5 x spare_5 hx in let r = usable 5 a spare_5 ha in let q = usable 6 b spare_6 hb in
      two_text a b x _ ha hb hx (row_plain t.scope (instr.R o (register_of 5 x) (register_of 5 a) (register_of 6 b)) ((d.below, r.below, q.below), (writable t.scope _ d, visible t.scope _ r, visible t.scope _ q)))
  shaped (tree.Imm o x a i) hs ms =
      let ha = hs a (has_first a (x ∷ [])) in
      let hx = hs x (has_rest a x (x ∷ []) (has_first x [])) in
      let d = usable 5 x spare_5 hx in let r = usable 5 a spare_5 ha in let k = immediate_in_range i (all_head (is_right t.word_scope t.own) (mention.Immediate i) [] ms) in
      one_text a x [] _ ha hx (row_plain t.scope (instr.I o (register_of 5 x) (register_of 5 a) i) ((d.below, r.below, k.0, k.1), (writable t.scope _ d, visible t.scope _ r)))
  shaped (tree.Sh o x a n) hs ms =
      let ha = hs a (has_first a (x ∷ [])) in
      let hx = hs x (has_rest a x (x ∷ []) (has_first x [])) in
      let d = usable 5 x spare_5 hx in let r = usable 5 a spare_5 ha in let k = amount_in_range o n (all_head (is_right t.word_scope t.own) (mention.Amount (shifted_bits o) n) [] ms) in
      one_text a x [] _ ha hx (row_plain t.scope (instr.Sh o (register_of 5 x) (register_of 5 a) n) ((d.below, r.below, k), (writable t.scope _ d, visible t.scope _ r)))
  shaped (tree.Load o x a i) hs ms =
      let ha = hs a (has_first a (x ∷ [])) in
      let hx = hs x (has_rest a x (x ∷ []) (has_first x [])) in
      let d = usable 5 x spare_5 hx in let r = usable 5 a spare_5 ha in let k = immediate_in_range i (all_head (is_right t.word_scope t.own) (mention.Immediate i) [] ms) in
      one_text a x [] _ ha hx (row_plain t.scope (instr.L o (register_of 5 x) (register_of 5 a) i) ((d.below, r.below, k.0, k.1), (writable t.scope _ d, visible t.scope _ r)))
  shaped (tree.Store o x a i) hs ms =
      let ha = hs a (has_first a (x ∷ [])) in
      let hx = hs x (has_rest a x (x ∷ []) (has_first x [])) in
      let r = usable 5 a spare_5 ha in let q = usable 6 x spare_6 hx in let k = immediate_in_range i (all_head (is_right t.word_scope t.own) (mention.Immediate i) [] ms) in
      uses_text a x [] _ ha hx (row_plain t.scope (instr.S o (register_of 5 a) (register_of 6 x) i) ((r.below, q.below, k.0, k.1), (visible t.scope _ r, visible t.scope _ q)))
  shaped (tree.If y x z) hs ms =
      let F = flow_of x.0 in let G = flow_of z.0 in
      let ny : AllNamed (variables_read y) = λ q h. hs q (has_left q (variables_read y) (variables F ++ variables G) h) in
      let px = x.1 (λ q h. hs q (has_right q (variables_read y) (variables F ++ variables G) (has_left q (variables F) (variables G) h))) (all_left (is_right t.word_scope t.own) (mentions x.0) (mentions z.0) ms) in
      let pz = z.1 (λ q h. hs q (has_right q (variables_read y) (variables F ++ variables G) (has_right q (variables F) (variables G) h))) (all_right (is_right t.word_scope t.own) (mentions x.0) (mentions z.0) ms) in
      let fx = framed t.slot x.0 in let fz = framed t.slot z.0 in
      let a = operand 5 y.left in let b = operand 6 y.right in
      let places = sites x.0 ++ sites z.0 in
      text_within t.scope places (6 + (5 + 16 * code x.0 + 16 * code z.0)) (16 * (1 + code x.0 + code z.0)) _ (omega arith)
      (text_seq t.scope places _ _
      (row_append t.scope [] places 6 (5 + 16 * code x.0 + 16 * code z.0) (gets_both t.slot y.left y.right) (s.If y.comparison a b fx fz ∷ []) (both_row y.left y.right ny)
      (text_row t.scope places _ (s.If y.comparison a b fx fz)
      (text_of t.scope (s.If y.comparison a b fx fz) places (5 + stack.code fx + stack.code fz) _ (Read a ∷ Read b ∷ (stack_text.mentions fx ++ stack_text.mentions fz))
      (sites_at (o_s.If y.comparison a b fx fz) _ (s.rolls-If y.comparison a b fx fz) ∙ ap (λ q. q ++ stack_text.sites fz) px.sites_are ∙ ap (λ q. sites x.0 ++ q) pz.sites_are)
      (code_at (o_s.If y.comparison a b fx fz) _ (s.rolls-If y.comparison a b fx fz))
      (let k = px.short in let l = pz.short in omega (arith, k, l))
      (mentions_at (o_s.If y.comparison a b fx fz) _ (s.rolls-If y.comparison a b fx fz))
      (operand_right 5 y.left spare_5 (first_named y.left y.right ny), (operand_right 6 y.right spare_6 (second_named y.left y.right ny), each_append (IsRight t.scope) (stack_text.mentions fx) (stack_text.mentions fz) px.right pz.right))))))
  shaped (tree.While before y x) hs ms =
      let A = all_in_turn (map flow_of (map (λ p. p.0) before)) in
      let G = flow_of x.0 in
      let bs = map (framed t.slot) (map (λ p. p.0) before) in
      let row = bs ++ gets_both t.slot y.left y.right in
      let places = flat_map (λ s. s) (map sites (map (λ p. p.0) before)) in
      let n = sum_of (map code (map (λ p. p.0) before)) in
      let ny : AllNamed (variables_read y) = λ q h. hs q (has_left q (variables A ++ variables_read y) (variables G) (has_right q (variables A) (variables_read y) h)) in
      let pb = parts_row before (λ q h. hs q (has_left q (variables A ++ variables_read y) (variables G) (has_left q (variables A) (variables_read y) h))) (all_left (is_right t.word_scope t.own) (flat_map (λ s. s) (map mentions (map (λ p. p.0) before))) (mentions x.0) ms) in
      let p = row_append t.scope places [] (16 * n) 6 bs (gets_both t.slot y.left y.right) pb (both_row y.left y.right ny) in
      let px = x.1 (λ q h. hs q (has_right q (variables A ++ variables_read y) (variables G) h)) (all_right (is_right t.word_scope t.own) (flat_map (λ s. s) (map mentions (map (λ p. p.0) before))) (mentions x.0) ms) in
      let fx = framed t.slot x.0 in
      let a = operand 5 y.left in let b = operand 6 y.right in
      text_of t.scope (s.While row y.comparison a b fx) (places ++ sites x.0) (5 + row_code row + stack.code fx) (16 * (1 + n + 1 + code x.0)) (row_mentions row ++ (Read a ∷ Read b ∷ stack_text.mentions fx))
      (sites_at (o_s.While row y.comparison a b fx) _ (s.rolls-While row y.comparison a b fx) ∙ ap (λ q. q ++ stack_text.sites fx) (p.sites_are ∙ append_none places) ∙ ap (λ q. places ++ q) px.sites_are)
      (code_at (o_s.While row y.comparison a b fx) _ (s.rolls-While row y.comparison a b fx))
      (let k = p.short in let l = px.short in omega (arith, k, l))
      (mentions_at (o_s.While row y.comparison a b fx) _ (s.rolls-While row y.comparison a b fx))
      (each_append (IsRight t.scope) (row_mentions row) (Read a ∷ Read b ∷ stack_text.mentions fx) p.right (operand_right 5 y.left spare_5 (first_named y.left y.right ny), (operand_right 6 y.right spare_6 (second_named y.left y.right ny), px.right)))
  shaped tree.Break hs ms =
      text_of t.scope s.Break [] 2 (16 * 1) [] (sites_at o_s.Break s.Break s.rolls-Break) (code_at o_s.Break s.Break s.rolls-Break) (omega arith) (mentions_at o_s.Break s.Break s.rolls-Break) tt
  shaped tree.Continue hs ms =
      text_of t.scope s.Continue [] 2 (16 * 1) [] (sites_at o_s.Continue s.Continue s.rolls-Continue) (code_at o_s.Continue s.Continue s.rolls-Continue) (omega arith) (mentions_at o_s.Continue s.Continue s.rolls-Continue) tt
  shaped (tree.Call xs f args None) hs ms =
      let q = is_called (t.word_scope).arities f (length args) (length xs) (all_head (is_right t.word_scope t.own) (mention.Called f (length args) (length xs)) [] ms) in
      let few = t.few_arities f q.arity q.known in
      let back = s.Seq (fetches t.slot 0 xs) in
      let pr = text_seq t.scope [] (4 * length xs) (fetches t.slot 0 xs) (fetch_all xs (few_given q.arity (length xs) few q.gives) (λ y h. hs y (has_right y args xs h))) in
      passing_text args (site.Called f ∷ []) (2 + 4 * length xs) (16 * (8 + length args + length xs + 0)) (s.Call f back None) (let e = q.takes in let l = few.parameters in omega (arith, e, l)) (λ y h. hs y (has_left y args xs h)) (omega arith)
      (text_of t.scope (s.Call f back None) (site.Called f ∷ []) (2 + stack.code back) _ (Function f ∷ (stack_text.mentions back ++ []))
      (sites_at (o_s.Call f back None) _ (s.rolls-Call f back None) ∙ ap (λ q. site.Called f ∷ (q ++ [])) pr.sites_are) (code_at (o_s.Call f back None) _ (s.rolls-Call f back None)) (let l = pr.short in omega (arith, l)) (mentions_at (o_s.Call f back None) _ (s.rolls-Call f back None))
      (t.functions f q.arity q.known, each_append (IsRight t.scope) (stack_text.mentions back) [] pr.right tt))
  shaped (tree.Call xs f args (Some h)) hs ms =
      let G = flow_of (h.body).0 in
      let q = is_called (t.word_scope).arities f (length args) (length xs) (all_head (is_right t.word_scope t.own) (mention.Called f (length args) (length xs)) (mention.Caught h.exception (length h.variables) ∷ mentions (h.body).0) ms) in
      let rest = all_tail (is_right t.word_scope t.own) (mention.Called f (length args) (length xs)) (mention.Caught h.exception (length h.variables) ∷ mentions (h.body).0) ms in
      let width = is_width (t.word_scope).widths h.exception (length h.variables) (all_head (is_right t.word_scope t.own) (mention.Caught h.exception (length h.variables)) (mentions (h.body).0) rest) in
      let few = t.few_arities f q.arity q.known in
      let back = s.Seq (fetches t.slot 0 xs) in
      let n = length h.variables in
      let inner = s.Seq (fetches t.slot 0 h.variables ++ framed t.slot (h.body).0 ∷ []) in
      let h' : Catch Stmt = record { exception = h.exception; body = inner } in
      let all = xs ++ (h.variables ++ variables G) in
      let pr = text_seq t.scope [] (4 * length xs) (fetches t.slot 0 xs) (fetch_all xs (few_given q.arity (length xs) few q.gives) (λ y k. hs y (has_right y args all (has_left y xs (h.variables ++ variables G) k)))) in
      let pb = (h.body).1 (λ y k. hs y (has_right y args all (has_right y xs (h.variables ++ variables G) (has_right y h.variables (variables G) k)))) (all_tail (is_right t.word_scope t.own) (mention.Caught h.exception (length h.variables)) (mentions (h.body).0) rest) in
      let pi = text_seq t.scope (sites (h.body).0) (4 * n + 16 * code (h.body).0) _ (row_append t.scope [] (sites (h.body).0) (4 * n) (16 * code (h.body).0) (fetches t.slot 0 h.variables) (framed t.slot (h.body).0 ∷ [])
      (fetch_all h.variables (t.few_widths h.exception n width) (λ y k. hs y (has_right y args all (has_right y xs (h.variables ++ variables G) (has_left y h.variables (variables G) k))))) (text_row t.scope (sites (h.body).0) (16 * code (h.body).0) (framed t.slot (h.body).0) pb)) in
      passing_text args (site.Called f ∷ sites (h.body).0) (14 + (4 * n + 16 * code (h.body).0) + 4 * length xs) (16 * (8 + length args + length xs + (3 + n + code (h.body).0))) (s.Call f back (Some h')) (let e = q.takes in let l = few.parameters in omega (arith, e, l)) (λ y k. hs y (has_left y args all k)) (omega arith)
      (text_of t.scope (s.Call f back (Some h')) (site.Called f ∷ sites (h.body).0) (14 + stack.code inner + stack.code back) _ (Function f ∷ (stack_text.mentions back ++ (Exception h.exception ∷ stack_text.mentions inner)))
      (sites_at (o_s.Call f back (Some h')) _ (s.rolls-Call f back (Some h')) ∙ ap (λ q. site.Called f ∷ (q ++ stack_text.sites inner)) pr.sites_are ∙ ap (λ q. site.Called f ∷ q) pi.sites_are)
      (code_at (o_s.Call f back (Some h')) _ (s.rolls-Call f back (Some h'))) (let l = pr.short in let k = pi.short in omega (arith, l, k)) (mentions_at (o_s.Call f back (Some h')) _ (s.rolls-Call f back (Some h')))
      (t.functions f q.arity q.known, each_append (IsRight t.scope) (stack_text.mentions back) (Exception h.exception ∷ stack_text.mentions inner) pr.right (t.exceptions h.exception n width, pi.right)))
  shaped (tree.TailCall f args) hs ms =
      let q = is_tail_called (t.word_scope).arities f (length args) t.own (all_head (is_right t.word_scope t.own) (mention.TailCalled f (length args)) [] ms) in
      let few = t.few_arities f q.arity q.known in
      passing_text args (site.TailCalled f ∷ []) 6 (16 * (8 + length args)) (s.TailCall f) (let e = q.takes in let l = few.parameters in omega (arith, e, l)) (λ y h. hs y (has_left y args [] h)) (omega arith)
      (text_of t.scope (s.TailCall f) (site.TailCalled f ∷ []) 6 6 (Function f ∷ []) (sites_at (o_s.TailCall f) _ (s.rolls-TailCall f)) (code_at (o_s.TailCall f) _ (s.rolls-TailCall f)) (omega arith) (mentions_at (o_s.TailCall f) _ (s.rolls-TailCall f)) (t.functions f q.arity q.known, tt))
  shaped (tree.Return xs) hs ms =
      let h = all_head (is_right t.word_scope t.own) (mention.Returned (length xs)) [] ms in
      let e : length xs ≡ t.own = grind (arith, nat_tests) in
      passing_text xs [] 5 (16 * (8 + length xs)) s.Return (let l = t.few_results in omega (arith, e, l)) (λ y h. hs y (has_left y xs [] h)) (omega arith)
      (text_of t.scope s.Return [] 5 5 [] (sites_at o_s.Return _ s.rolls-Return) (code_at o_s.Return _ s.rolls-Return) (omega arith) (mentions_at o_s.Return _ s.rolls-Return) tt)
  shaped (tree.Raise i xs) hs ms =
      let width = is_width (t.word_scope).widths i (length xs) (all_head (is_right t.word_scope t.own) (mention.Raised i (length xs)) [] ms) in
      passing_text xs [] 3 (16 * (8 + length xs)) (s.Raise i) (t.few_widths i (length xs) width) (λ y h. hs y (has_left y xs [] h)) (omega arith)
      (text_of t.scope (s.Raise i) [] 3 3 (Exception i ∷ []) (sites_at (o_s.Raise i) _ (s.rolls-Raise i)) (code_at (o_s.Raise i) _ (s.rolls-Raise i)) (omega arith) (mentions_at (o_s.Raise i) _ (s.rolls-Raise i)) (t.exceptions i (length xs) width, tt))
  shaped (tree.SharedLoad size x a i) hs ms =
      let ha = hs a (has_first a (x ∷ [])) in
      let hx = hs x (has_rest a x (x ∷ []) (has_first x [])) in
      let d = register_of 5 x in let r = register_of 5 a in
      let k = all_head (is_right t.word_scope t.own) (mention.Immediate i) [] ms in
      one_text a x (site.Loaded size ∷ []) (s.SharedLoad size d r i) ha hx
      (row_one t.scope (s.SharedLoad size d r i) (site.Loaded size ∷ []) 1 (Instruction (load_of size d r i) ∷ []) (sites_at (o_s.SharedLoad size d r i) _ (s.rolls-SharedLoad size d r i)) (code_at (o_s.SharedLoad size d r i) _ (s.rolls-SharedLoad size d r i))
      (mentions_at (o_s.SharedLoad size d r i) _ (s.rolls-SharedLoad size d r i)) (shared_loads size d r i (usable 5 x spare_5 hx) (usable 5 a spare_5 ha) k, tt))
  shaped (tree.SharedStore size x a i) hs ms =
      let ha = hs a (has_first a (x ∷ [])) in
      let hx = hs x (has_rest a x (x ∷ []) (has_first x [])) in
      let r = register_of 5 a in let q = register_of 6 x in
      let k = all_head (is_right t.word_scope t.own) (mention.Immediate i) [] ms in
      uses_text a x (site.Stored size ∷ []) (s.SharedStore size r q i) ha hx
      (row_one t.scope (s.SharedStore size r q i) (site.Stored size ∷ []) 1 (Instruction (store_of size r q i) ∷ []) (sites_at (o_s.SharedStore size r q i) _ (s.rolls-SharedStore size r q i)) (code_at (o_s.SharedStore size r q i) _ (s.rolls-SharedStore size r q i))
      (mentions_at (o_s.SharedStore size r q i) _ (s.rolls-SharedStore size r q i)) (shared_stores size r q i (usable 5 a spare_5 ha) (usable 6 x spare_6 hx) k, tt))
  shaped (tree.Foreign i conf conf_len array array_len) hs ms =
      let xs : List ℕ = conf ∷ conf_len ∷ array ∷ array_len ∷ [] in
      let h = all_head (is_right t.word_scope t.own) (mention.Foreign i) [] ms in
      let l : i < (t.word_scope).names = grind (arith, nat_tests) in
      passing_text xs (site.Foreign i ∷ []) 3 (16 * 4) (s.Foreign i) (let e : 4 ≤ most_words = omega arith in e) (λ y h. hs y (has_left y xs [] h)) (let e : 4 * 4 + 3 ≤ 16 * 4 = omega arith in e)
      (text_of t.scope (s.Foreign i) (site.Foreign i ∷ []) 3 3 (stack_text.Foreign i ∷ []) (sites_at (o_s.Foreign i) _ (s.rolls-Foreign i)) (code_at (o_s.Foreign i) _ (s.rolls-Foreign i)) (omega arith) (mentions_at (o_s.Foreign i) _ (s.rolls-Foreign i)) (let n = t.names in let e : i < (t.scope).names = omega (arith, n, l) in e, tt))

  -- the code of a statement
  pub shape_of : (x : WordStmt) → Claim x
  shape_of = stmt_induct Claim (λ z hs ms.
      let p = parts z in
      subst (λ q. TextOf q (16 * code (roll-Stmt p)) (framed t.slot (roll-Stmt p))) (sym (sites_roll p))
      (subst (λ n. TextOf (sites_layer (map-Stmt WordStmt (List Site) sites p)) (16 * n) (framed t.slot (roll-Stmt p))) (sym (code_roll p))
      (subst (λ x. TextOf (sites_layer (map-Stmt WordStmt (List Site) sites p)) (16 * code_layer (map-Stmt WordStmt ℕ code p)) x) (sym (framed_roll t.slot p))
      (shaped z (subst (λ f. AllNamed (variables f)) (flow_roll p) hs) (subst AllRight (mentions_roll p) ms)))))
