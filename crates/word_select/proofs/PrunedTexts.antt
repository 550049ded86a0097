-- What is left of a statement has its sites, needs no more code, mentions nothing else, and reads nothing that wasn't written.
use Rattle.std.proofs.Common.{◌≡◌, ℕ, ◌+◌, ◌≤◌, Bool, true, false, List, [], ◌∷◌, ◌++◌, map, length, Some, None, arith, refl, sym, ap, subst, ◌∙◌, append-nil, append_assoc}
use Rattle.std.specs.Prelude.{◌&&◌, if◌then◌else◌, flat_map}
use Rattle.std.specs.List.{list_all}
use Rattle.pan_stage.specs.Mentions.{Mention, Scope, is_right}
use Rattle.pan_stage.specs.Mentions as mention
use Rattle.pan_stage.specs.Stage.{Site}
use Rattle.pan_stage.specs.Stage as site
use Rattle.pan_stage.specs.Sums.{sum_of}
use Rattle.pan_stage.specs.declared.program.Handler.{Handler}
use Rattle.pan_flow.specs.Flow.{Writes, AtEnd, AtBreak, AtContinue, AtReturn, Flow, Does, Ends, Then}
use Rattle.pan_flow.specs.Functions.{all_in_turn, reads, sets, leaves, calls, asks}
use Rattle.word_lang.specs.Needs.{code}
use Rattle.word_lang.specs.Text.{sites, mentions, variables_read, flow_of}
use Rattle.word_lang.specs.declared.syntax.Stmt.{Stmt}
use Rattle.word_lang.specs.declared.syntax.Stmt.TheVariants as s
use Rattle.word_lang.specs.declared.syntax.Test.{Test}
use Rattle.word_lang.proofs.Equations as text
use Rattle.word_select.specs.Pruned.{others, used, where_used, pruned, pruned_row}
use Rattle.word_select.proofs.Above.{has_left, has_right}
use Rattle.word_select.proofs.Alike.{AreUsed, operands_used}
use Rattle.word_select.proofs.FewerWays.{Fewer, fewer_reads, fewer_writes, fewer_leaves, fewer_ends, fewer_then, fewer_either, fewer_loop, fewer_sets, fewer_without, fewer_without_const, fewer_one, fewer_append}
use Rattle.word_select.proofs.OperationTexts.{both_right}
use Rattle.word_select.proofs.PruneRules as left
use Rattle.word_select.proofs.SelectedTexts.{text_of}
use Rattle.word_select.proofs.Texts.{and_cases, parts_right, Text, no_text, then_text, word_text, row_text}
use Rattle.word_select.proofs.UsedRules as uses
use Rattle.word_select.proofs.Variants.{plain, Cases, by_cases}

-- ---- rows behind rows

flat_append : {A : Type 0} (f : Stmt → List A) (xs ys : List Stmt) → flat_map (λ as1. as1) (map f (xs ++ ys)) ≡ flat_map (λ as1. as1) (map f xs) ++ flat_map (λ as1. as1) (map f ys)
flat_append f [] ys = refl
flat_append f (x ∷ xs) ys = ap (λ as1. f x ++ as1) (flat_append f xs ys) ∙ sym (append_assoc (f x) (flat_map (λ as1. as1) (map f xs)) (flat_map (λ as1. as1) (map f ys)))

code_append : (xs ys : List Stmt) → sum_of (map code (xs ++ ys)) ≡ sum_of (map code xs) + sum_of (map code ys)
code_append [] ys = omega arith
code_append (x ∷ xs) ys = let e = code_append xs ys in omega (arith, e)

flows_append : (xs ys : List Stmt) → map flow_of (xs ++ ys) ≡ map flow_of xs ++ map flow_of ys
flows_append [] ys = refl
flows_append (x ∷ xs) ys = ap (λ fs. flow_of x ∷ fs) (flows_append xs ys)

-- the text of a statement by what stands in it
text_is : (x : Stmt) (a : List Site) (n : ℕ) (ms : List Mention) (f : Flow) → sites x ≡ a → code x ≡ n → mentions x ≡ ms → flow_of x ≡ f → word_text x ≡ record { sited = a; steps = n; mentioned = ms; flow = f }
text_is x a n ms f e e2 e3 e4 = text_of _ _ _ _ _ _ _ _ e e2 e3 e4

module _ (is_used : ℕ → Bool) where
  -- the second text is left of the first
  pub record Less (a b : Text) : Type 0 where
    pub sites_kept : b.sited ≡ a.sited
    pub no_longer : b.steps ≤ a.steps
    pub right : (scope : Scope) (own : ℕ) → list_all (is_right scope own) a.mentioned ≡ true → list_all (is_right scope own) b.mentioned ≡ true
    pub flows : Fewer is_used b.flow a.flow

  -- a text that is the same
  less_same : (a : Text) → Fewer is_used a.flow a.flow → Less a a
  less_same a f = record { sites_kept = refl; no_longer = omega arith; right = λ scope own h. h; flows = f }

  less_one : (a : Text) (x : Stmt) → Less a (word_text x) → Less a (row_text (x ∷ []))
  less_one a x l = record {
    sites_kept = append-nil (sites x) ∙ l.sites_kept;
    no_longer = let k = l.no_longer in omega (arith, k);
    right = λ scope own h. ap (list_all (is_right scope own)) (append-nil (mentions x)) ∙ l.right scope own h;
    flows = fewer_one is_used (flow_of x) a.flow l.flows;
  }

  pub less_seq : (a : Text) (ss : List Stmt) → Less a (row_text ss) → Less a (word_text (s.Seq ss))
  less_seq a ss l = subst (Less a) (sym (text_is (s.Seq ss) _ _ _ _ (text.sites_of_seq ss) (text.code_of_seq ss) (text.mentions_of_seq ss) (text.flow_of_seq ss))) l

  less_append : (a b : Text) (xs ys : List Stmt) → Less a (row_text xs) → Less b (row_text ys) → Less (then_text a b) (row_text (xs ++ ys))
  less_append a b xs ys l m = record {
    sites_kept = flat_append sites xs ys ∙ ap (λ as1. as1 ++ flat_map (λ as1. as1) (map sites ys)) l.sites_kept ∙ ap (λ as1. a.sited ++ as1) m.sites_kept;
    no_longer = let e = code_append xs ys in let k = l.no_longer in let j = m.no_longer in omega (arith, e, k, j);
    right = λ scope own h.
        let k = parts_right a.mentioned b.mentioned scope own h in
        ap (list_all (is_right scope own)) (flat_append mentions xs ys) ∙ both_right (flat_map (λ as1. as1) (map mentions xs)) (flat_map (λ as1. as1) (map mentions ys)) scope own (l.right scope own k.0) (m.right scope own k.1);
    flows = subst (λ fs. Fewer is_used (all_in_turn fs) (Then a.flow b.flow)) (sym (flows_append xs ys)) (fewer_append is_used (map flow_of xs) (map flow_of ys) a.flow b.flow l.flows m.flows);
  }

  -- ---- statements

  abbrev pub IsLess : Stmt → Type 0
  IsLess x = AreUsed is_used (used x) → Less (word_text x) (row_text (pruned is_used x))

  by_text : (x : Stmt) (ss : List Stmt) (xs : List ℕ) → pruned is_used x ≡ ss → used x ≡ xs → (AreUsed is_used xs → Less (word_text x) (row_text ss)) → IsLess x
  by_text x ss xs e e2 h all = subst (λ ss. Less (word_text x) (row_text ss)) (sym e) (h (subst (AreUsed is_used) e2 all))

  -- a statement that stays as it is
  kept : (x : Stmt) (xs : List ℕ) (f : Flow) → pruned is_used x ≡ x ∷ [] → used x ≡ xs → flow_of x ≡ f → (AreUsed is_used xs → Fewer is_used f f) → IsLess x
  kept x xs f e e2 e3 h = by_text x (x ∷ []) xs e e2 (λ all. less_one (word_text x) x (less_same (word_text x) (subst (λ f. Fewer is_used f f) (sym e3) (h all))))

  -- an operation, which stays where its variable is used
  where_less : (x : ℕ) (stmt : Stmt) (f : Flow) (b : Bool) → is_used x ≡ b → sites stmt ≡ [] → flow_of stmt ≡ f → (is_used x ≡ true → Fewer is_used f f) → (is_used x ≡ false → Fewer is_used (Ends AtEnd) f) → Less (word_text stmt) (row_text (if b then stmt ∷ [] else []))
  where_less x stmt f true is e e2 g h = less_one (word_text stmt) stmt (less_same (word_text stmt) (subst (λ f. Fewer is_used f f) (sym e2) (g is)))
  where_less x stmt f false is e e2 g h = record { sites_kept = sym e; no_longer = omega arith; right = λ scope own k. refl; flows = subst (Fewer is_used (Ends AtEnd)) (sym e2) (h is) }

  computed : (x : ℕ) (ys : List ℕ) (stmt : Stmt) → pruned is_used stmt ≡ where_used is_used x stmt → used stmt ≡ others x ys → sites stmt ≡ [] → flow_of stmt ≡ sets x ys → IsLess stmt
  computed x ys stmt e e2 e3 e4 = by_text stmt (where_used is_used x stmt) (others x ys) e e2 (λ all.
      where_less x stmt (sets x ys) (is_used x) refl e3 e4 (λ h. fewer_sets is_used x ys (operands_used is_used x ys all h)) (fewer_without is_used x ys))

  abbrev plain_row : List ((x : Stmt) × IsLess x) → Text
  plain_row ps = row_text (plain ps)

  rows_less : (ps : List ((x : Stmt) × IsLess x)) → AreUsed is_used (flat_map (λ xs. xs) (map used (plain ps))) → Less (plain_row ps) (row_text (pruned_row is_used (plain ps)))
  rows_less [] all = less_same no_text (fewer_ends is_used AtEnd)
  rows_less (p ∷ ps) all =
      let rest = flat_map (λ xs. xs) (map used (plain ps)) in
      less_append (word_text p.0) (plain_row ps) (pruned is_used p.0) (pruned_row is_used (plain ps)) (p.1 (λ z h. all z (has_left (used p.0) rest z h))) (rows_less ps (λ z h. all z (has_right (used p.0) rest z h)))

  if_less : (y : Test) (p q : Stmt) → IsLess p → IsLess q → IsLess (s.If y p q)
  if_less y p q f g =
      let p' = s.Seq (pruned is_used p) in let q' = s.Seq (pruned is_used q) in
      by_text (s.If y p q) (s.If y p' q' ∷ []) (variables_read y ++ (used p ++ used q)) (left.pruned_if is_used y p q) (uses.used_by_if y p q) (λ all.
      let inner : AreUsed is_used (used p ++ used q) = λ z h. all z (has_right (variables_read y) (used p ++ used q) z h) in
      let l = less_seq (word_text p) (pruned is_used p) (f (λ z h. inner z (has_left (used p) (used q) z h))) in
      let m = less_seq (word_text q) (pruned is_used q) (g (λ z h. inner z (has_right (used p) (used q) z h))) in
      less_one _ (s.If y p' q')
      (subst (λ a. Less a (word_text (s.If y p' q'))) (sym (text_is (s.If y p q) _ _ _ _ (text.sites_of_if y p q) (text.code_of_if y p q) (text.mentions_of_if y p q) (text.flow_of_if y p q)))
      (subst (Less _) (sym (text_is (s.If y p' q') _ _ _ _ (text.sites_of_if y p' q') (text.code_of_if y p' q') (text.mentions_of_if y p' q') (text.flow_of_if y p' q')))
      (record {
        sites_kept = ap (λ ss. ss ++ sites q') l.sites_kept ∙ ap (λ ss. sites p ++ ss) m.sites_kept;
        no_longer = let i = l.no_longer in let j = m.no_longer in omega (arith, i, j);
        right = λ scope own h. let k = parts_right (mentions p) (mentions q) scope own h in both_right (mentions p') (mentions q') scope own (l.right scope own k.0) (m.right scope own k.1);
        flows = fewer_then is_used _ _ _ _ (fewer_reads is_used (variables_read y) (λ z h. all z (has_left (variables_read y) (used p ++ used q) z h))) (fewer_either is_used _ _ _ _ l.flows m.flows);
      }))))

  while_less : (ps : List ((x : Stmt) × IsLess x)) (y : Test) (q : Stmt) → IsLess q → IsLess (s.While (plain ps) y q)
  while_less ps y q g =
      let ss = pruned_row is_used (plain ps) in let q' = s.Seq (pruned is_used q) in
      let before = flat_map (λ xs. xs) (map used (plain ps)) in
      by_text (s.While (plain ps) y q) (s.While ss y q' ∷ []) (before ++ (variables_read y ++ used q)) (left.pruned_while is_used (plain ps) y q) (uses.used_by_while (plain ps) y q) (λ all.
      let inner : AreUsed is_used (variables_read y ++ used q) = λ z h. all z (has_right before (variables_read y ++ used q) z h) in
      let l = rows_less ps (λ z h. all z (has_left before (variables_read y ++ used q) z h)) in
      let m = less_seq (word_text q) (pruned is_used q) (g (λ z h. inner z (has_right (variables_read y) (used q) z h))) in
      less_one _ (s.While ss y q')
      (subst (λ a. Less a (word_text (s.While ss y q'))) (sym (text_is (s.While (plain ps) y q) _ _ _ _ (text.sites_of_while (plain ps) y q) (text.code_of_while (plain ps) y q) (text.mentions_of_while (plain ps) y q) (text.flow_of_while (plain ps) y q)))
      (subst (Less _) (sym (text_is (s.While ss y q') _ _ _ _ (text.sites_of_while ss y q') (text.code_of_while ss y q') (text.mentions_of_while ss y q') (text.flow_of_while ss y q')))
      (record {
        sites_kept = ap (λ xs. xs ++ sites q') l.sites_kept ∙ ap (λ xs. (plain_row ps).sited ++ xs) m.sites_kept;
        no_longer = let i = l.no_longer in let j = m.no_longer in omega (arith, i, j);
        right = λ scope own h. let k = parts_right (plain_row ps).mentioned (mentions q) scope own h in both_right (row_text ss).mentioned (mentions q') scope own (l.right scope own k.0) (m.right scope own k.1);
        flows = fewer_loop is_used _ _ _ _ (fewer_then is_used _ _ _ _ l.flows (fewer_reads is_used (variables_read y) (λ z h. inner z (has_left (variables_read y) (used q) z h)))) m.flows;
      }))))

  call_ways : (xs results : List ℕ) → AreUsed is_used xs → Fewer is_used (calls xs results None) (calls xs results None)
  call_ways xs results all = fewer_then is_used _ _ _ _ (fewer_reads is_used xs all) (fewer_leaves is_used results)

  caught_call_less : (results : List ℕ) (f : ℕ) (arguments : List ℕ) (exception : ℕ) (variables : List ℕ) (body : Stmt) → IsLess body → IsLess (s.Call results f arguments (Some (record { exception = exception; variables = variables; body = body })))
  caught_call_less results f arguments exception variables body g =
      let body' = s.Seq (pruned is_used body) in
      let h1 : Handler Stmt = record { exception = exception; variables = variables; body = body } in
      let h2 : Handler Stmt = record { exception = exception; variables = variables; body = body' } in
      let x = s.Call results f arguments (Some h1) in let x' = s.Call results f arguments (Some h2) in
      by_text x (x' ∷ []) (arguments ++ used body) (left.pruned_call is_used results f arguments (Some h1)) (uses.used_by_call results f arguments (Some h1)) (λ all.
      let m = less_seq (word_text body) (pruned is_used body) (g (λ z h. all z (has_right arguments (used body) z h))) in
      less_one _ x'
      (subst (λ a. Less a (word_text x')) (sym (text_is x _ _ _ _ (text.sites_of_call results f arguments (Some h1)) (text.code_of_call results f arguments (Some h1)) (text.mentions_of_call results f arguments (Some h1)) (text.flow_of_call results f arguments (Some h1))))
      (subst (Less _) (sym (text_is x' _ _ _ _ (text.sites_of_call results f arguments (Some h2)) (text.code_of_call results f arguments (Some h2)) (text.mentions_of_call results f arguments (Some h2)) (text.flow_of_call results f arguments (Some h2))))
      (record {
        sites_kept = ap (λ ss. site.Called f ∷ ss) m.sites_kept;
        no_longer = let j = m.no_longer in omega (arith, j);
        right = λ scope own h.
            let called = is_right scope own (mention.Called f (length arguments) (length results)) in let caught = is_right scope own (mention.Caught exception (length variables)) in
            let one = and_cases called (caught && list_all (is_right scope own) (mentions body)) h in
            let two = and_cases caught (list_all (is_right scope own) (mentions body)) one.1 in
            ap (λ b. b && (caught && list_all (is_right scope own) (mentions body'))) one.0 ∙ ap (λ b. b && list_all (is_right scope own) (mentions body')) two.0 ∙ m.right scope own two.1;
        flows = fewer_then is_used _ _ _ _ (fewer_reads is_used arguments (λ z h. all z (has_left arguments (used body) z h))) (fewer_either is_used _ _ _ _ (fewer_leaves is_used results) (fewer_then is_used _ _ _ _ (fewer_leaves is_used variables) m.flows));
      }))))

  all_cases : Cases IsLess
  all_cases = record {
    of_skip = by_text s.Skip [] [] (left.pruned_skip is_used) uses.used_by_skip (λ all. record {
      sites_kept = sym text.sites_of_skip;
      no_longer = omega arith;
      right = λ scope own h. refl;
      flows = subst (Fewer is_used (Ends AtEnd)) (sym text.flow_of_skip) (fewer_ends is_used AtEnd);
    });
    of_seq = λ ps. by_text (s.Seq (plain ps)) (pruned_row is_used (plain ps)) (flat_map (λ xs. xs) (map used (plain ps))) (left.pruned_seq is_used (plain ps)) (uses.used_by_seq (plain ps)) (λ all.
        subst (λ a. Less a (row_text (pruned_row is_used (plain ps)))) (sym (text_is (s.Seq (plain ps)) _ _ _ _ (text.sites_of_seq (plain ps)) (text.code_of_seq (plain ps)) (text.mentions_of_seq (plain ps)) (text.flow_of_seq (plain ps)))) (rows_less ps all));
    of_const = λ x n. by_text (s.Const x n) (where_used is_used x (s.Const x n)) [] (left.pruned_const is_used x n) (uses.used_by_const x n) (λ all.
        where_less x (s.Const x n) (Does (Writes (x ∷ []))) (is_used x) refl (text.sites_of_const x n) (text.flow_of_const x n) (λ h. fewer_writes is_used (x ∷ [])) (fewer_without_const is_used x));
    of_reg = λ f x a b. computed x (a ∷ b ∷ []) (s.Reg f x a b) (left.pruned_reg is_used f x a b) (uses.used_by_reg f x a b) (text.sites_of_reg f x a b) (text.flow_of_reg f x a b);
    of_imm = λ f x a i. computed x (a ∷ []) (s.Imm f x a i) (left.pruned_imm is_used f x a i) (uses.used_by_imm f x a i) (text.sites_of_imm f x a i) (text.flow_of_imm f x a i);
    of_sh = λ f x a n. computed x (a ∷ []) (s.Sh f x a n) (left.pruned_sh is_used f x a n) (uses.used_by_sh f x a n) (text.sites_of_sh f x a n) (text.flow_of_sh f x a n);
    of_load = λ f x a i. computed x (a ∷ []) (s.Load f x a i) (left.pruned_load is_used f x a i) (uses.used_by_load f x a i) (text.sites_of_load f x a i) (text.flow_of_load f x a i);
    of_store = λ f x a i. kept (s.Store f x a i) (a ∷ x ∷ []) (reads (a ∷ x ∷ [])) (left.pruned_store is_used f x a i) (uses.used_by_store f x a i) (text.flow_of_store f x a i) (fewer_reads is_used (a ∷ x ∷ []));
    of_if = if_less;
    of_while = while_less;
    of_break = kept s.Break [] (Ends AtBreak) (left.pruned_break is_used) uses.used_by_break text.flow_of_break (λ all. fewer_ends is_used AtBreak);
    of_continue = kept s.Continue [] (Ends AtContinue) (left.pruned_continue is_used) uses.used_by_continue text.flow_of_continue (λ all. fewer_ends is_used AtContinue);
    of_call = λ results f arguments. kept (s.Call results f arguments None) (arguments ++ []) (calls arguments results None) (left.pruned_call is_used results f arguments None) (uses.used_by_call results f arguments None) (text.flow_of_call results f arguments None) (λ all.
        call_ways arguments results (λ z h. all z (has_left arguments [] z h)));
    of_caught_call = caught_call_less;
    of_tail_call = λ f xs. kept (s.TailCall f xs) xs (leaves xs) (left.pruned_tail_call is_used f xs) (uses.used_by_tail_call f xs) (text.flow_of_tail_call f xs) (λ all. fewer_then is_used _ _ _ _ (fewer_reads is_used xs all) (fewer_ends is_used AtReturn));
    of_return = λ xs. kept (s.Return xs) xs (leaves xs) (left.pruned_return is_used xs) (uses.used_by_return xs) (text.flow_of_return xs) (λ all. fewer_then is_used _ _ _ _ (fewer_reads is_used xs all) (fewer_ends is_used AtReturn));
    of_raise = λ i xs. kept (s.Raise i xs) xs (leaves xs) (left.pruned_raise is_used i xs) (uses.used_by_raise i xs) (text.flow_of_raise i xs) (λ all. fewer_then is_used _ _ _ _ (fewer_reads is_used xs all) (fewer_ends is_used AtReturn));
    of_shared_load = λ size x a i. kept (s.SharedLoad size x a i) (a ∷ []) (sets x (a ∷ [])) (left.pruned_shared_load is_used size x a i) (uses.used_by_shared_load size x a i) (text.flow_of_shared_load size x a i) (fewer_sets is_used x (a ∷ []));
    of_shared_store = λ size x a i. kept (s.SharedStore size x a i) (a ∷ x ∷ []) (reads (a ∷ x ∷ [])) (left.pruned_shared_store is_used size x a i) (uses.used_by_shared_store size x a i) (text.flow_of_shared_store size x a i) (fewer_reads is_used (a ∷ x ∷ []));
    of_foreign = λ i x y z q. kept (s.Foreign i x y z q) (x ∷ y ∷ z ∷ q ∷ []) (asks (x ∷ y ∷ z ∷ q ∷ [])) (left.pruned_foreign is_used i x y z q) (uses.used_by_foreign i x y z q) (text.flow_of_foreign i x y z q) (λ all.
        fewer_then is_used _ _ _ _ (fewer_reads is_used (x ∷ y ∷ z ∷ q ∷ []) all) (fewer_leaves is_used []));
  }

  pub statement_less : (x : Stmt) → IsLess x
  statement_less = by_cases IsLess all_cases
