-- A program that breaks no rule, and whose numbers are words, is well formed in words.
use Rattle.std.proofs.Common.{◌≡◌, ℕ, suc, ◌≤◌, true, false, List, [], ◌∷◌, map, Option, Some, None, slice_get, arith, refl, sym, subst}
use Rattle.std.specs.Prelude.{nat_lt, flat_map}
use Rattle.std.specs.List.{All, list_all}
use Rattle.std.specs.Option.{option_map_or}
use Rattle.std.proofs.lemmas.Bool.Decides.{nat_tests}
use Rattle.std.proofs.lemmas.List.Elements.{All-nil, All-cons}
use Rattle.pan_stage.specs.Mentions.{is_right, scope_of}
use Rattle.pan_tree.specs.Shapes.{words_of}
use Rattle.pan_tree.specs.Check as check
use Rattle.pan_tree.specs.Check.{Break, State, Doing, broken, doing, in_order, do_layer, do_kind, body, result_of, function_of, exception_of, function_weight, weight_breaks, foreign_names, program_weight, IsWellShaped}
use Rattle.pan_tree.specs.declared.rule.Rule.TheVariants.{FunctionTooHeavy, ProgramTooHeavy}
use Rattle.pan_tree.specs.declared.shape.Shape.TheVariants as shape
use Rattle.pan_tree.specs.declared.spanned.Spanned.{Spanned}
use Rattle.pan_tree.specs.declared.syntax.HandlerOf.{HandlerOf}
use Rattle.pan_tree.specs.declared.syntax.StmtKind.{StmtKind, StmtKind-F, map-StmtKind}
use Rattle.pan_tree.specs.declared.syntax.StmtKind.TheOpen as source
use Rattle.pan_tree.specs.declared.program.Exception.{Exception}
use Rattle.pan_tree.specs.declared.program.Function.{Function}
use Rattle.pan_tree.specs.declared.program.Program.{Program as Source}
use Rattle.pan_tree.proofs.CheckLayers.{do_roll}
use Rattle.pan_tree.proofs.MeaningLayers.{by_layers}
use Rattle.check_soundness.proofs.SpreadShapes.{both_true}
use Rattle.check_soundness.proofs.Rules.{unbroken, append_none}
use Rattle.check_soundness.proofs.SoundPrograms.{Kept, well_kept}
use Rattle.crep_lang.specs.Text.{arity, mentions}
use Rattle.crep_lang.specs.WellFormed.{IsWellFormed}
use Rattle.crep_lang.specs.declared.syntax.CrepFun.{CrepFun}
use Rattle.crep_flatten.specs.Flattened.{flat_all, flattening, with_parameters, flat_function, flattened}
use Rattle.crep_flatten.specs.Literals.{function_fits, program_fits}
use Rattle.crep_flatten.proofs.Counts.{heads_of, counts, room}
use Rattle.crep_flatten.proofs.Kept.{static_parameters}
use Rattle.crep_flatten.proofs.Right.{seq_ok, all_right}
use Rattle.crep_flatten.proofs.Written.{written}

-- ---- what a statement weighs hangs on no foreign name

record Alike (a b : check.Done) : Type 0 where
  pub weight : a.weight ≡ b.weight
  pub scopes : (a.state).scopes ≡ (b.state).scopes

abbrev WeighsAlike : StmtKind → Type 0
WeighsAlike k = (c : check.Context) (place : ℕ) (v : check.Scopes) (ns ms : List (List ℕ)) → Alike (do_kind k c place (record { scopes = v; names = ns })) (do_kind k c place (record { scopes = v; names = ms }))

abbrev Known : Type 0
Known = (k : StmtKind) × WeighsAlike k

abbrev plain : Spanned Known → Spanned StmtKind
plain x = record { kind = x.kind.0; span = x.span }

order_alike : (ss : List (Spanned Known)) (c : check.Context) (v : check.Scopes) (ns ms : List (List ℕ)) → Alike (in_order (map doing (map plain ss)) c (record { scopes = v; names = ns })) (in_order (map doing (map plain ss)) c (record { scopes = v; names = ms }))
order_alike [] c v ns ms = record { weight = refl; scopes = refl }
order_alike (x ∷ xs) c v ns ms =
    let one = x.kind.1 c x.span.start v ns ms in
    let a = do_kind x.kind.0 c x.span.start (record { scopes = v; names = ns }) in
    let b = do_kind x.kind.0 c x.span.start (record { scopes = v; names = ms }) in
    let rest = order_alike xs c (a.state).scopes (a.state).names (b.state).names in
    let moved = subst (λ z. Alike (in_order (map doing (map plain xs)) c a.state) (in_order (map doing (map plain xs)) c (record { scopes = z; names = (b.state).names }))) one.scopes rest in
    let w1 = one.weight in
    let w2 = moved.weight in
    record { weight = omega (arith, w1, w2); scopes = moved.scopes }

layer_alike : (y : StmtKind-F Known) (c : check.Context) (place : ℕ) (v : check.Scopes) (ns ms : List (List ℕ)) → let z = map-StmtKind Known StmtKind (λ c. c.0) y in let d = do_layer (map-StmtKind StmtKind Doing do_kind z) c place in
    Alike (d (record { scopes = v; names = ns })) (d (record { scopes = v; names = ms }))
layer_alike source.Skip c place v ns ms = record { weight = refl; scopes = refl }
layer_alike (source.Decl x e) c place v ns ms = record { weight = refl; scopes = refl }
layer_alike (source.Assign x e) c place v ns ms = record { weight = refl; scopes = refl }
layer_alike (source.StoreWords a e) c place v ns ms = record { weight = refl; scopes = refl }
layer_alike (source.StoreByte a e) c place v ns ms = record { weight = refl; scopes = refl }
layer_alike (source.If e a b) c place v ns ms =
    let one = order_alike a.stmts c ([] ∷ v) ns ms in
    let i = in_order (map doing (map plain a.stmts)) c (record { scopes = [] ∷ v; names = ns }) in
    let j = in_order (map doing (map plain a.stmts)) c (record { scopes = [] ∷ v; names = ms }) in
    let two = order_alike b.stmts c ([] ∷ v) (i.state).names (j.state).names in
    let w1 = one.weight in
    let w2 = two.weight in
    record { weight = omega (arith, w1, w2); scopes = refl }
layer_alike (source.While e b) c place v ns ms = let two = order_alike b.stmts (record c { in_loop = true }) ([] ∷ v) ns ms in let w2 = two.weight in record { weight = omega (arith, w2); scopes = refl }
layer_alike source.Break c place v ns ms = record { weight = refl; scopes = refl }
layer_alike source.Continue c place v ns ms = record { weight = refl; scopes = refl }
layer_alike (source.Call k) c place v ns ms = handled k.handler
  where
    handled : (h : Option (HandlerOf (Spanned Known))) → let y : StmtKind-F Known = source.Call (record { into = k.into; function = k.function; args = k.args; handler = h }) in let z = map-StmtKind Known StmtKind (λ c. c.0) y in let d = do_layer (map-StmtKind StmtKind Doing do_kind z) c place in
        Alike (d (record { scopes = v; names = ns })) (d (record { scopes = v; names = ms }))
    handled None = record { weight = refl; scopes = refl }
    handled (Some h) =
        let value = option_map_or (λ (x : Exception). x.shape) (exception_of h.exception c.program) shape.Word in
        let two = order_alike (h.body).stmts c (((h.name, value) ∷ []) ∷ check.after_target k.into (result_of (function_of k.function c.program)) v) ns ms in
        let w2 = two.weight in
        record { weight = omega (arith, w2); scopes = refl }
layer_alike (source.Return e) c place v ns ms = record { weight = refl; scopes = refl }
layer_alike (source.TailCall f es) c place v ns ms = record { weight = refl; scopes = refl }
layer_alike (source.Raise i e) c place v ns ms = record { weight = refl; scopes = refl }
layer_alike (source.SharedLoad z x a) c place v ns ms = record { weight = refl; scopes = refl }
layer_alike (source.SharedStore z a e) c place v ns ms = record { weight = refl; scopes = refl }
layer_alike (source.Foreign x a b e f) c place v ns ms = record { weight = refl; scopes = refl }

kind_alike : (k : StmtKind) → WeighsAlike k
kind_alike = by_layers WeighsAlike (λ y c place v ns ms.
    let z = map-StmtKind Known StmtKind (λ c. c.0) y in
    subst (λ (d : Doing). Alike (d c place (record { scopes = v; names = ns })) (d c place (record { scopes = v; names = ms }))) (sym (do_roll z)) (layer_alike y c place v ns ms))

all_alike : (ss : List (Spanned StmtKind)) (c : check.Context) (v : check.Scopes) (ns ms : List (List ℕ)) → Alike (in_order (map doing ss) c (record { scopes = v; names = ns })) (in_order (map doing ss) c (record { scopes = v; names = ms }))
all_alike [] c v ns ms = record { weight = refl; scopes = refl }
all_alike (x ∷ xs) c v ns ms =
    let one = kind_alike x.kind c x.span.start v ns ms in
    let a = do_kind x.kind c x.span.start (record { scopes = v; names = ns }) in
    let b = do_kind x.kind c x.span.start (record { scopes = v; names = ms }) in
    let rest = all_alike xs c (a.state).scopes (a.state).names (b.state).names in
    let moved = subst (λ z. Alike (in_order (map doing xs) c a.state) (in_order (map doing xs) c (record { scopes = z; names = (b.state).names }))) one.scopes rest in
    let w1 = one.weight in
    let w2 = moved.weight in
    record { weight = omega (arith, w1, w2); scopes = moved.scopes }

-- ---- functions

module _ (p : Source) where
  function_right : (f : Function) → Kept p f → function_weight p f ≤ 16384 → function_fits f ≡ true → list_all (is_right (scope_of arity (flattened p)) (words_of f.result)) (mentions (flat_function p f).body) ≡ true
  function_right f k light fit =
      let here = with_parameters f.params ([] ∷ []) in
      let s : State = record { scopes = check.parameters f.params ∷ []; names = k.names } in
      let same = all_alike (f.body).stmts (record { program = p; result = f.result; in_loop = false }) (check.parameters f.params ∷ []) k.names [] in
      let w = same.weight in
      seq_ok (scope_of arity (flattened p)) (words_of f.result) (flat_all (map flattening (f.body).stmts) p here).0
      (all_right p f.result (f.body).stmts false s here (static_parameters f.params ([] ∷ []) [] (record { same = refl })) k.breaks (omega (arith, w, light)) k.among fit)

  functions_right : (fs : List Function) → ((i : ℕ) (g : Function) → slice_get fs i ≡ Some g → Kept p g) → flat_map (λ f. broken f.span.start ((FunctionTooHeavy, nat_lt 16384 (function_weight p f)) ∷ [])) fs ≡ [] → list_all function_fits fs ≡ true
      → All (λ (f : CrepFun). list_all (is_right (scope_of arity (flattened p)) f.results) (mentions f.body) ≡ true) (map (flat_function p) fs)
  functions_right [] k none fit = All-nil (λ (f : CrepFun). list_all (is_right (scope_of arity (flattened p)) f.results) (mentions f.body) ≡ true)
  functions_right (f ∷ fs) k none fit =
      let split = append_none (broken f.span.start ((FunctionTooHeavy, nat_lt 16384 (function_weight p f)) ∷ [])) (flat_map (λ f. broken f.span.start ((FunctionTooHeavy, nat_lt 16384 (function_weight p f)) ∷ [])) fs) none in
      let a = unbroken f.span.start FunctionTooHeavy (nat_lt 16384 (function_weight p f)) [] split.0 in
      let g = both_true (function_fits f) (list_all function_fits fs) fit in
      All-cons (λ (f : CrepFun). list_all (is_right (scope_of arity (flattened p)) f.results) (mentions f.body) ≡ true) (flat_function p f) (map (flat_function p) fs)
      (function_right f (k 0 f refl) (not_less 16384 (function_weight p f) a.0) g.0) (functions_right fs (λ i h is. k (suc i) h is) split.1 g.1)
    where
      not_less : (n m : ℕ) → nat_lt n m ≡ false → m ≤ n
      not_less n m h = grind (arith, nat_tests)

pub well_formed : (p : Source) → IsWellShaped p → program_fits p ≡ true → IsWellFormed (flattened p)
well_formed p well fit =
    let h = heads_of p well in
    let split = append_none (flat_map (λ f. broken f.span.start ((FunctionTooHeavy, nat_lt 16384 (function_weight p f)) ∷ [])) p.functions) (broken 0 ((ProgramTooHeavy, nat_lt 262144 (program_weight p)) ∷ [])) h.weights in
    record { counts = counts p well; right = functions_right p p.functions (well_kept p well) split.0 fit; written = written p; room = room p well }
