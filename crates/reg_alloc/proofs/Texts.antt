-- What the text of a renamed statement shows is the statement's, and its ways are the statement's with each variable renamed.
use Rattle.std.proofs.Common.{◌≡◌, ℕ, ◌+◌, List, [], ◌∷◌, ◌++◌, map, length, Option, Some, None, refl, sym, ap, ◌∙◌}
use Rattle.std.specs.Prelude.{flat_map, option_map}
use Rattle.pan_flow.specs.Flow.{Act, Reads, Writes, Leaves, Flow, Does, Ends, Then, Either, Loop}
use Rattle.pan_flow.specs.Functions.{all_in_turn, reads, calls, variables_of_act, variables}
use Rattle.pan_stage.specs.Mentions.{Mention}
use Rattle.pan_stage.specs.Mentions as mention
use Rattle.pan_stage.specs.Stage.{Site}
use Rattle.pan_stage.specs.Stage as site
use Rattle.pan_stage.specs.Sums.{sum_of}
use Rattle.pan_stage.specs.declared.program.Handler.{Handler}
use Rattle.word_lang.specs.Needs.{code_layer, code}
use Rattle.word_lang.specs.Steps.{passed, test_steps}
use Rattle.word_lang.specs.Text.{sites_layer, sites, mentions_layer, mentions, variables_of, variables_read, flow_layer, flow_of}
use Rattle.word_lang.specs.declared.syntax.Test.{Test}
use Rattle.word_lang.specs.declared.syntax.Stmt.{Stmt, Stmt-F, roll-Stmt, map-Stmt, fold-roll-Stmt}
use Rattle.word_lang.specs.declared.syntax.Stmt.TheOpen as o
use Rattle.word_lang.proofs.Equations.{stmt_induct}
use Rattle.word_lang.proofs.Equations as at
use Rattle.reg_alloc.specs.Renamed.{rename_test, rename_layer, rename}
use Rattle.reg_alloc.proofs.RenameRules.{rename_roll}
use Rattle.reg_alloc.proofs.Statements.{map_length, flow_roll}

pub sites_roll : (y : Stmt-F Stmt) → sites (roll-Stmt y) ≡ sites_layer (map-Stmt Stmt (List Site) sites y)
unfolding sites
sites_roll y = fold-roll-Stmt (List Site) sites_layer y

pub mentions_roll : (y : Stmt-F Stmt) → mentions (roll-Stmt y) ≡ mentions_layer (map-Stmt Stmt (List Mention) mentions y)
unfolding mentions
mentions_roll y = fold-roll-Stmt (List Mention) mentions_layer y

pub code_roll : (y : Stmt-F Stmt) → code (roll-Stmt y) ≡ code_layer (map-Stmt Stmt ℕ code y)
unfolding code
code_roll y = fold-roll-Stmt ℕ code_layer y

pub map_append : (f : ℕ → ℕ) (xs ys : List ℕ) → map f (xs ++ ys) ≡ map f xs ++ map f ys
map_append f [] ys = refl
map_append f (x ∷ xs) ys = ap (λ zs. f x ∷ zs) (map_append f xs ys)

module _ (home : ℕ → ℕ) where
  abbrev pub rename_act : Act → Act
  rename_act (Reads xs) = Reads (map home xs)
  rename_act (Writes xs) = Writes (map home xs)
  rename_act (Leaves xs) = Leaves (map home xs)

  abbrev pub rename_flow : Flow → Flow
  rename_flow (Does a) = Does (rename_act a)
  rename_flow (Ends e) = Ends e
  rename_flow (Then f g) = Then (rename_flow f) (rename_flow g)
  rename_flow (Either f g) = Either (rename_flow f) (rename_flow g)
  rename_flow (Loop f g) = Loop (rename_flow f) (rename_flow g)

  act_variables : (a : Act) → variables_of_act (rename_act a) ≡ map home (variables_of_act a)
  act_variables (Reads xs) = refl
  act_variables (Writes xs) = refl
  act_variables (Leaves xs) = refl

  both_variables : (f g : Flow) → variables (rename_flow f) ≡ map home (variables f) → variables (rename_flow g) ≡ map home (variables g) → variables (rename_flow f) ++ variables (rename_flow g) ≡ map home (variables f ++ variables g)
  both_variables f g hf hg = ap (λ xs. xs ++ variables (rename_flow g)) hf ∙ ap (λ ys. map home (variables f) ++ ys) hg ∙ sym (map_append home (variables f) (variables g))

  pub renamed_variables : (f : Flow) → variables (rename_flow f) ≡ map home (variables f)
  renamed_variables (Does a) = act_variables a
  renamed_variables (Ends e) = refl
  renamed_variables (Then f g) = both_variables f g (renamed_variables f) (renamed_variables g)
  renamed_variables (Either f g) = both_variables f g (renamed_variables f) (renamed_variables g)
  renamed_variables (Loop f g) = both_variables f g (renamed_variables f) (renamed_variables g)

  -- ---- statements

  operands_renamed : (l r : Option ℕ) → variables_of (option_map home l ∷ option_map home r ∷ []) ≡ map home (variables_of (l ∷ r ∷ []))
  operands_renamed None None = refl
  operands_renamed None (Some y) = refl
  operands_renamed (Some x) None = refl
  operands_renamed (Some x) (Some y) = refl

  test_renamed : (y : Test) → variables_read (rename_test home y) ≡ map home (variables_read y)
  test_renamed y = operands_renamed y.left y.right

  pub record Shows (x : Stmt) (fl : Flow) (si : List Site) (me : List Mention) (co : ℕ) : Type 0 where
    pub flow : flow_of x ≡ rename_flow fl
    pub sites : sites x ≡ si
    pub mentions : mentions x ≡ me
    pub code : code x ≡ co

  abbrev pub IsShown : Stmt → Type 0
  IsShown x = Shows (rename home x) (flow_of x) (sites x) (mentions x) (code x)

  abbrev parts : Stmt-F ((x : Stmt) × IsShown x) → Stmt-F Stmt
  parts y = map-Stmt ((x : Stmt) × IsShown x) Stmt (λ p. p.0) y

  -- a row of statements, renamed
  record Row (all : List ((x : Stmt) × IsShown x)) : Type 0 where
    pub flow : all_in_turn (map flow_of (map (rename home) (map (λ p. p.0) all))) ≡ rename_flow (all_in_turn (map flow_of (map (λ p. p.0) all)))
    pub sites : flat_map (λ s. s) (map sites (map (rename home) (map (λ p. p.0) all))) ≡ flat_map (λ s. s) (map sites (map (λ p. p.0) all))
    pub mentions : flat_map (λ s. s) (map mentions (map (rename home) (map (λ p. p.0) all))) ≡ flat_map (λ s. s) (map mentions (map (λ p. p.0) all))
    pub code : sum_of (map code (map (rename home) (map (λ p. p.0) all))) ≡ sum_of (map code (map (λ p. p.0) all))

  row_shown : (all : List ((x : Stmt) × IsShown x)) → Row all
  row_shown [] = record { flow = refl; sites = refl; mentions = refl; code = refl }
  row_shown (p ∷ all) =
      let r = row_shown all in let h = p.1 in
      let rest = map (rename home) (map (λ p. p.0) all) in
      record {
        flow = ap (λ f. Then f (all_in_turn (map flow_of rest))) h.flow ∙ ap (Then (rename_flow (flow_of p.0))) r.flow;
        sites = ap (λ xs. xs ++ flat_map (λ s. s) (map sites rest)) h.sites ∙ ap (λ xs. sites p.0 ++ xs) r.sites;
        mentions = ap (λ xs. xs ++ flat_map (λ s. s) (map mentions rest)) h.mentions ∙ ap (λ xs. mentions p.0 ++ xs) r.mentions;
        code = ap (λ n. n + sum_of (map code rest)) h.code ∙ ap (λ n. code p.0 + n) r.code;
      }

  abbrev Layer : Stmt-F ((x : Stmt) × IsShown x) → Type 0
  Layer y = Shows (rename_layer home (map-Stmt Stmt Stmt (rename home) (parts y))) (flow_layer (map-Stmt Stmt Flow flow_of (parts y))) (sites_layer (map-Stmt Stmt (List Site) sites (parts y))) (mentions_layer (map-Stmt Stmt (List Mention) mentions (parts y))) (code_layer (map-Stmt Stmt ℕ code (parts y)))

  passed_renamed : (xs : List ℕ) → passed (map home xs) ≡ passed xs
  passed_renamed xs = ap (λ n. 8 + n) (map_length home xs)

  call_shown : (xs : List ℕ) (f : ℕ) (ys : List ℕ) → Layer (o.Call xs f ys None)
  call_shown xs f ys =
      let xs' = map home xs in let ys' = map home ys in
      record {
        flow = at.flow_of_call xs' f ys' None;
        sites = at.sites_of_call xs' f ys' None;
        mentions = at.mentions_of_call xs' f ys' None ∙ ap (λ n. mention.Called f n (length xs') ∷ []) (map_length home ys) ∙ ap (λ n. mention.Called f (length ys) n ∷ []) (map_length home xs);
        code = at.code_of_call xs' f ys' None ∙ ap (λ n. n + length xs' + 0) (passed_renamed ys) ∙ ap (λ n. passed ys + n + 0) (map_length home xs);
      }

  caught_call_shown : (xs : List ℕ) (f : ℕ) (ys : List ℕ) (h : Handler ((x : Stmt) × IsShown x)) → Layer (o.Call xs f ys (Some h))
  caught_call_shown xs f ys h =
      let xs' = map home xs in let ys' = map home ys in let zs = map home h.variables in
      let x = (h.body).0 in let k = (h.body).1 in
      let h' : Handler Stmt = record { exception = h.exception; variables = zs; body = rename home x } in
      let called : ℕ → ℕ → ℕ → List Mention → List Mention = λ n m l ms. mention.Called f n m ∷ mention.Caught h.exception l ∷ ms in
      let total : ℕ → ℕ → ℕ → ℕ → ℕ = λ n m l b. n + m + (3 + l + b) in
      record {
        flow = at.flow_of_call xs' f ys' (Some h') ∙ ap (λ (g : Flow). calls ys' xs' (Some (record { exception = h.exception; variables = zs; body = g }))) k.flow;
        sites = at.sites_of_call xs' f ys' (Some h') ∙ ap (λ ss. site.Called f ∷ ss) k.sites;
        mentions =
            at.mentions_of_call xs' f ys' (Some h')
            ∙ ap (λ n. called n (length xs') (length zs) (mentions (rename home x))) (map_length home ys) ∙ ap (λ n. called (length ys) n (length zs) (mentions (rename home x))) (map_length home xs)
            ∙ ap (λ n. called (length ys) (length xs) n (mentions (rename home x))) (map_length home h.variables) ∙ ap (called (length ys) (length xs) (length h.variables)) k.mentions;
        code =
            at.code_of_call xs' f ys' (Some h')
            ∙ ap (λ n. total n (length xs') (length zs) (code (rename home x))) (passed_renamed ys) ∙ ap (λ n. total (passed ys) n (length zs) (code (rename home x))) (map_length home xs)
            ∙ ap (λ n. total (passed ys) (length xs) n (code (rename home x))) (map_length home h.variables) ∙ ap (total (passed ys) (length xs) (length h.variables)) k.code;
      }

  if_shown : (y : Test) (p q : (x : Stmt) × IsShown x) → Layer (o.If y p q)
  if_shown y p q =
      let y' = rename_test home y in let p' = rename home p.0 in let q' = rename home q.0 in
      let h = p.1 in let k = q.1 in
      let branch : List ℕ → Flow → Flow → Flow = λ xs f g. Then (reads xs) (Either f g) in
      record {
        flow =
            at.flow_of_if y' p' q' ∙ ap (λ xs. branch xs (flow_of p') (flow_of q')) (test_renamed y)
            ∙ ap (λ f. branch (map home (variables_read y)) f (flow_of q')) h.flow ∙ ap (branch (map home (variables_read y)) (rename_flow (flow_of p.0))) k.flow;
        sites = at.sites_of_if y' p' q' ∙ ap (λ ss. ss ++ sites q') h.sites ∙ ap (λ ss. sites p.0 ++ ss) k.sites;
        mentions = at.mentions_of_if y' p' q' ∙ ap (λ ms. ms ++ mentions q') h.mentions ∙ ap (λ ms. mentions p.0 ++ ms) k.mentions;
        code = at.code_of_if y' p' q' ∙ ap (λ n. 1 + n + code q') h.code ∙ ap (λ n. 1 + code p.0 + n) k.code;
      }

  while_shown : (all : List ((x : Stmt) × IsShown x)) (y : Test) (q : (x : Stmt) × IsShown x) → Layer (o.While all y q)
  while_shown all y q =
      let ss = map (λ p. p.0) all in let ss' = map (rename home) ss in
      let y' = rename_test home y in let q' = rename home q.0 in
      let r = row_shown all in let k = q.1 in
      let loop : Flow → List ℕ → Flow → Flow = λ f xs g. Loop (Then f (reads xs)) g in
      record {
        flow =
            at.flow_of_while ss' y' q' ∙ ap (λ f. loop f (variables_read y') (flow_of q')) r.flow
            ∙ ap (λ xs. loop (rename_flow (all_in_turn (map flow_of ss))) xs (flow_of q')) (test_renamed y) ∙ ap (loop (rename_flow (all_in_turn (map flow_of ss))) (map home (variables_read y))) k.flow;
        sites = at.sites_of_while ss' y' q' ∙ ap (λ xs. xs ++ sites q') r.sites ∙ ap (λ xs. flat_map (λ s. s) (map sites ss) ++ xs) k.sites;
        mentions = at.mentions_of_while ss' y' q' ∙ ap (λ xs. xs ++ mentions q') r.mentions ∙ ap (λ xs. flat_map (λ s. s) (map mentions ss) ++ xs) k.mentions;
        code = at.code_of_while ss' y' q' ∙ ap (λ n. 1 + n + test_steps + code q') r.code ∙ ap (λ n. 1 + sum_of (map code ss) + test_steps + n) k.code;
      }

  layer_shown : (y : Stmt-F ((x : Stmt) × IsShown x)) → Layer y
  layer_shown o.Skip = record { flow = at.flow_of_skip; sites = at.sites_of_skip; mentions = at.mentions_of_skip; code = at.code_of_skip }
  layer_shown (o.Seq all) =
      let ss' = map (rename home) (map (λ p. p.0) all) in let r = row_shown all in
      record { flow = at.flow_of_seq ss' ∙ r.flow; sites = at.sites_of_seq ss' ∙ r.sites; mentions = at.mentions_of_seq ss' ∙ r.mentions; code = at.code_of_seq ss' ∙ r.code }
  layer_shown (o.Const x n) = record { flow = at.flow_of_const (home x) n; sites = at.sites_of_const (home x) n; mentions = at.mentions_of_const (home x) n; code = at.code_of_const (home x) n }
  layer_shown (o.Reg f x a b) =
      record { flow = at.flow_of_reg f (home x) (home a) (home b); sites = at.sites_of_reg f (home x) (home a) (home b); mentions = at.mentions_of_reg f (home x) (home a) (home b); code = at.code_of_reg f (home x) (home a) (home b) }
  layer_shown (o.Imm f x a i) =
      record { flow = at.flow_of_imm f (home x) (home a) i; sites = at.sites_of_imm f (home x) (home a) i; mentions = at.mentions_of_imm f (home x) (home a) i; code = at.code_of_imm f (home x) (home a) i }
  layer_shown (o.Sh f x a n) =
      record { flow = at.flow_of_sh f (home x) (home a) n; sites = at.sites_of_sh f (home x) (home a) n; mentions = at.mentions_of_sh f (home x) (home a) n; code = at.code_of_sh f (home x) (home a) n }
  layer_shown (o.Load f x a i) =
      record { flow = at.flow_of_load f (home x) (home a) i; sites = at.sites_of_load f (home x) (home a) i; mentions = at.mentions_of_load f (home x) (home a) i; code = at.code_of_load f (home x) (home a) i }
  layer_shown (o.Store f x a i) =
      record { flow = at.flow_of_store f (home x) (home a) i; sites = at.sites_of_store f (home x) (home a) i; mentions = at.mentions_of_store f (home x) (home a) i; code = at.code_of_store f (home x) (home a) i }
  layer_shown (o.If y p q) = if_shown y p q
  layer_shown (o.While all y q) = while_shown all y q
  layer_shown o.Break = record { flow = at.flow_of_break; sites = at.sites_of_break; mentions = at.mentions_of_break; code = at.code_of_break }
  layer_shown o.Continue = record { flow = at.flow_of_continue; sites = at.sites_of_continue; mentions = at.mentions_of_continue; code = at.code_of_continue }
  layer_shown (o.Call xs f ys None) = call_shown xs f ys
  layer_shown (o.Call xs f ys (Some h)) = caught_call_shown xs f ys h
  layer_shown (o.TailCall f ys) =
      let ys' = map home ys in
      record {
        flow = at.flow_of_tail_call f ys';
        sites = at.sites_of_tail_call f ys';
        mentions = at.mentions_of_tail_call f ys' ∙ ap (λ n. mention.TailCalled f n ∷ []) (map_length home ys);
        code = at.code_of_tail_call f ys' ∙ passed_renamed ys;
      }
  layer_shown (o.Return xs) =
      let xs' = map home xs in
      record { flow = at.flow_of_return xs'; sites = at.sites_of_return xs'; mentions = at.mentions_of_return xs' ∙ ap (λ n. mention.Returned n ∷ []) (map_length home xs); code = at.code_of_return xs' ∙ passed_renamed xs }
  layer_shown (o.Raise i xs) =
      let xs' = map home xs in
      record { flow = at.flow_of_raise i xs'; sites = at.sites_of_raise i xs'; mentions = at.mentions_of_raise i xs' ∙ ap (λ n. mention.Raised i n ∷ []) (map_length home xs); code = at.code_of_raise i xs' ∙ passed_renamed xs }
  layer_shown (o.SharedLoad size x a i) =
      record { flow = at.flow_of_shared_load size (home x) (home a) i; sites = at.sites_of_shared_load size (home x) (home a) i; mentions = at.mentions_of_shared_load size (home x) (home a) i; code = at.code_of_shared_load size (home x) (home a) i }
  layer_shown (o.SharedStore size x a i) =
      record { flow = at.flow_of_shared_store size (home x) (home a) i; sites = at.sites_of_shared_store size (home x) (home a) i; mentions = at.mentions_of_shared_store size (home x) (home a) i; code = at.code_of_shared_store size (home x) (home a) i }
  layer_shown (o.Foreign i x y z q) =
      record {
        flow = at.flow_of_foreign i (home x) (home y) (home z) (home q);
        sites = at.sites_of_foreign i (home x) (home y) (home z) (home q);
        mentions = at.mentions_of_foreign i (home x) (home y) (home z) (home q);
        code = at.code_of_foreign i (home x) (home y) (home z) (home q);
      }

  shown_at : (y : Stmt-F ((x : Stmt) × IsShown x)) → IsShown (roll-Stmt (parts y))
  shown_at y =
      let h = layer_shown y in let is = rename_roll home (parts y) in
      record {
        flow = ap flow_of is ∙ h.flow ∙ ap rename_flow (sym (flow_roll (parts y)));
        sites = ap sites is ∙ h.sites ∙ sym (sites_roll (parts y));
        mentions = ap mentions is ∙ h.mentions ∙ sym (mentions_roll (parts y));
        code = ap code is ∙ h.code ∙ sym (code_roll (parts y));
      }

  pub shown : (x : Stmt) → IsShown x
  shown = stmt_induct IsShown shown_at
