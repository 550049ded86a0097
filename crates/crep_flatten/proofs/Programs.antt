-- A program that breaks no rule is seen to do in words what it does in the source.
use Rattle.std.proofs.Common.{◌≡◌, ◌≢◌, ℕ, zero, suc, ◌+◌, ◌*◌, ◌≤◌, ◌||◌, not, true, false, List, [], ◌∷◌, ◌++◌, map, length, length-append, append-nil, append_assoc, Option, Some, None, slice_get, arith, refl, sym, ap, subst, ◌∙◌}
use Rattle.std.specs.Prelude.{codes, option_map, nat_lt}
use Rattle.std.specs.Str.{bytes_eq}
use Rattle.std.proofs.lemmas.Option.{slice_get-map}
use Rattle.std.proofs.lemmas.Bool.Decides.{nat_tests}
use Rattle.pan_base.specs.Events.{Replied, Ending, Exit, Uncaught, Stopped, Asks, Spent, Stack, Fault, Fails}
use Rattle.pan_control.specs.World.{entered, tolled}
use Rattle.pan_control.specs.Control.{Normal, Broken, Continued, Returned, Raised, Over, in_turn, with_value, left}
use Rattle.pan_control.specs.Runs.{nested, ending_of}
use Rattle.pan_stage.specs.Locals.{Locals, entry, no_locals, read_from}
use Rattle.pan_stage.specs.Stage.{IsSeenAs}
use Rattle.pan_stage.specs.Returns as words_seen
use Rattle.pan_stage.specs.Data.{Callee as WordCallee, Outcome as WordOutcome}
use Rattle.pan_stage.proofs.Follows.{Stops, Same, matched, cut, Nothing, is_fails, over, same_as, left_same}
use Rattle.pan_stage.proofs.Paid.{Within, no_cuts, left_paid}
use Rattle.pan_tree.specs.Running.{Callee, Outcome, World}
use Rattle.pan_tree.specs.Scopes.{declare}
use Rattle.pan_tree.specs.Value.{Value, Word, Struct, values_of, words_in, words_in_all, word_of}
use Rattle.pan_tree.specs.Shapes.{words_of, shape_in, is_word}
use Rattle.pan_tree.specs.Check as check
use Rattle.pan_tree.specs.Check.{State, Doing, doing, in_order, cost, function_of, foreign_names, parameter_words, exception_heads, function_heads, main_breaks, bodies, weight_breaks, broken, IsWellShaped}
use Rattle.pan_tree.specs.Meaning as source_of
use Rattle.pan_tree.specs.Meaning.{Does, Scope, Scopes, run_kind, parameters, entry_weight, body_of, enter, calls, function_index, source, start}
use Rattle.pan_tree.specs.declared.rule.Rule.TheVariants.{MainShape}
use Rattle.pan_tree.specs.declared.shape.Shape.{Shape}
use Rattle.pan_tree.specs.declared.spanned.Spanned.{Spanned}
use Rattle.pan_tree.specs.declared.syntax.StmtKind.{StmtKind}
use Rattle.pan_tree.specs.declared.program.Param.{Param}
use Rattle.pan_tree.specs.declared.program.Function.{Function}
use Rattle.pan_tree.specs.declared.program.Program.{Program as Source}
use Rattle.check_soundness.specs.Spread.{spread}
use Rattle.check_soundness.proofs.Alike.{spread_size, sum_more}
use Rattle.check_soundness.proofs.AlikeScopes.{at_shape}
use Rattle.check_soundness.proofs.Rules.{unbroken, append_none, neither, not_false}
use Rattle.check_soundness.proofs.Fitting.{fits_more, ArgumentsFit}
use Rattle.check_soundness.proofs.Named.{found_at}
use Rattle.check_soundness.proofs.SoundPrograms.{Kept, well_kept}
use Rattle.crep_lang.specs.Meaning as crep
use Rattle.crep_flatten.specs.Flattened.{new_place, numbered, flat_all, flattening, with_parameters, flat_function, flattened}
use Rattle.crep_flatten.specs.Source.{stage}
use Rattle.crep_flatten.proofs.Values.{words_shape}
use Rattle.crep_flatten.proofs.Holding.{size, placed, Holds, HoldsIn, read_agree, write_from, below_written, written_read}
use Rattle.crep_flatten.proofs.FlatExprs.{after}
use Rattle.crep_flatten.proofs.Costs.{Static}
use Rattle.crep_flatten.proofs.Straight.{declared_placed, write_row}
use Rattle.crep_flatten.proofs.Places.{fits_static}
use Rattle.crep_flatten.proofs.Statements.{Behind, Around, IsReturned, IsRaised, seq_to}
use Rattle.crep_flatten.proofs.Calls.{Callees}
use Rattle.crep_flatten.proofs.Blocks.{context, does, does', Ends', Known, plain, order_means}
use Rattle.crep_flatten.proofs.Means.{kind_means}
use Rattle.crep_flatten.proofs.Beside.{no_globals, with_toll}

-- ---- parameters

-- the parameters with their arguments
abbrev zipped : List Param → List Value → Scope
zipped [] xs = []
zipped (p ∷ ps) [] = []
zipped (p ∷ ps) (x ∷ xs) = (p.name, x) ∷ zipped ps xs

record Bound (ps : List Param) (xs : List Value) : Type 0 where
  pub is : parameters ps xs ≡ Some (zipped ps xs)
  pub shapes : at_shape shape_in (zipped ps xs) ≡ at_shape spread (check.parameters ps)
  pub words : length (words_in_all (values_of xs)) ≡ parameter_words ps

bound : (ps : List Param) (xs : List Value) → ArgumentsFit ps xs → Bound ps xs
bound [] [] h = record { is = refl; shapes = refl; words = refl }
bound [] (x ∷ xs) h = absurd cc
bound (p ∷ ps) [] h = absurd cc
bound (p ∷ ps) (x ∷ xs) h =
    let head : shape_in x ≡ spread p.shape = cc in
    let tail : map shape_in xs ≡ map (λ (p : Param). spread p.shape) ps = cc in
    let rest = bound ps xs tail in
    let long = length-append (words_in x) (words_in_all (values_of xs)) in
    let size_x = sym (words_shape x) ∙ ap words_of head ∙ spread_size p.shape in
    let all = sum_more (words_of p.shape) (map (λ (p : Param). words_of p.shape) ps) in
    let others = rest.words in
    record {
      is = ap (option_map (λ others. (p.name, x) ∷ others)) rest.is;
      shapes = ap (λ s. (p.name, s) ∷ at_shape shape_in (zipped ps xs)) head ∙ ap (λ ss. (p.name, spread p.shape) ∷ ss) rest.shapes;
      words = omega (arith, long, size_x, all, others);
    }

places_of : (ps : List Param) (xs : List Value) (before : Scope) → ArgumentsFit ps xs → with_parameters ps (placed (before ∷ [])) ≡ placed ((before ++ zipped ps xs) ∷ [])
places_of [] [] before h = ap (λ scope. placed (scope ∷ [])) (sym (append-nil before))
places_of [] (x ∷ xs) before h = absurd cc
places_of (p ∷ ps) [] before h = absurd cc
places_of (p ∷ ps) (x ∷ xs) before h =
    let head : shape_in x ≡ spread p.shape = cc in
    let tail : map shape_in xs ≡ map (λ (p : Param). spread p.shape) ps = cc in
    let here = placed (before ∷ []) in
    ap (λ s. with_parameters ps (declare p.name (new_place s here) here)) (sym head) ∙ ap (with_parameters ps) (sym (declared_placed p.name x before []))
    ∙ places_of ps xs (before ++ (p.name, x) ∷ []) tail ∙ ap (λ scope. placed (scope ∷ [])) (append_assoc before ((p.name, x) ∷ []) (zipped ps xs))

write_append : (x : ℕ) (ns ms : List ℕ) (u : Locals) → write_from x (ns ++ ms) u ≡ write_from (x + length ns) ms (write_from x ns u)
write_append x [] ms u = ap (λ k. write_from k ms u) (omega arith)
write_append x (n ∷ ns) ms u = write_append (suc x) ns ms _ ∙ ap (λ k. write_from k ms (write_from x (n ∷ ns) u)) (plus x (length ns))
  where
    plus : (x k : ℕ) → suc x + k ≡ x + suc k
    plus x k = omega arith

held_by : (ps : List Param) (xs : List Value) (n : ℕ) (u : Locals) → HoldsIn n (zipped ps xs) (write_from n (words_in_all (values_of xs)) u)
held_by [] xs n u = tt
held_by (p ∷ ps) [] n u = tt
held_by (p ∷ ps) (x ∷ xs) n u =
    let ns = words_in x in
    let ms = words_in_all (values_of xs) in
    let u1 = write_from n ns u in
    let k = words_shape x in
    let u2 = write_from (n + size x) ms u1 in
    let same : write_from n (ns ++ ms) u ≡ u2 = write_append n ns ms u ∙ ap (λ k. write_from (n + k) ms u1) (sym k) in
    subst (HoldsIn n (zipped (p ∷ ps) (x ∷ xs))) (sym same)
    (read_agree n (size x) u1 u2 (record { at = λ y l m. below_written (n + size x) ms u1 y m }) ∙ ap (λ k. read_from n k u1) k ∙ written_read n ns u, held_by ps xs (n + size x) u1)

-- ---- bodies

-- what entering a function in words does
abbrev pub word_enter : Source → ℕ → WordCallee (List ℕ) (List ℕ) → WordCallee (List ℕ) (List ℕ)
word_enter p d callee f ns w = with_value (slice_get (flattened p).functions f) w (λ g. crep.enter (flattened p) d callee g ns w)

module _ (p : Source) (kept_all : (i : ℕ) (g : Function) → slice_get p.functions i ≡ Some g → Kept p g) where
  module _ (d : ℕ) (callee : Callee (List Value) Value) (callee' : WordCallee (List ℕ) (List ℕ)) (callees : Callees p callee callee') (g : Function) where
    known : Spanned StmtKind → Spanned (Known p g.result d callee callee')
    known x = record { kind = (x.kind, kind_means p g.result d callee callee' callees x.kind); span = x.span }

    plain_known : (ss : List (Spanned StmtKind)) → map (plain p g.result d callee callee') (map known ss) ≡ ss
    unfolding known
    plain_known [] = refl
    plain_known (x ∷ xs) = ap (λ ys. x ∷ ys) (plain_known xs)

    kinds : (ss : List (Spanned StmtKind)) → map (λ (s : Spanned Does). s.kind) (map (does p g.result d callee callee') ss) ≡ map (λ (s : Spanned StmtKind). run_kind p d callee s.kind) ss
    kinds [] = refl
    kinds (x ∷ xs) = ap (λ ms. run_kind p d callee x.kind ∷ ms) (kinds xs)

    -- a function's body, from arguments that fit
    body_same : (kept f : ℕ) (xs : List Value) (w : World) (ns : List ℕ) (t : ℕ) → slice_get p.functions f ≡ Some g → ArgumentsFit g.params xs → ns ≡ words_in_all (values_of xs)
        → t + 16 * (8 + parameter_words g.params) + kept ≤ 1024 * (w.toll + entry_weight g)
        → Same (left_paid no_globals no_cuts 1024 kept (IsReturned g.result) (IsRaised p)) (body_of p d callee g xs w) (crep.enter (flattened p) d callee' (flat_function p g) ns (with_toll t w))
    body_same kept f xs w ns t stands fit is paid =
        let b = bound g.params xs fit in
        let k = kept_all f g stands in
        let scope = zipped g.params xs in
        let v : Scopes = scope ∷ [] in
        let ss = (g.body).stmts in
        let W = entered (cost p g) (tolled (entry_weight g) w) in
        let t' = after t (8 + parameter_words g.params) in
        let here = with_parameters g.params ([] ∷ []) in
        let at : placed v ≡ here = sym (places_of g.params xs [] fit) in
        let s : State = record { scopes = check.parameters g.params ∷ []; names = k.names } in
        let st = subst (λ ps. Static ps s.scopes) at (fits_static v s.scopes (fits_more (check.parameters g.params) scope [] [] b.shapes (record { same = refl }))) in
        let long : length ns ≡ parameter_words g.params = ap length is ∙ b.words in
        let u = entry (parameter_words g.params) ns in
        let held : Holds v u = subst (Holds v) (sym (write_row 0 (parameter_words g.params) ns no_locals long ∙ ap (λ ns. write_from 0 ns no_locals) is)) (held_by g.params xs 0 no_locals, tt) in
        let E = Ends' p g.result d callee callee' kept in
        let zs = map known ss in
        let order = order_means p g.result d callee callee' zs kept false s [] here st (subst (λ ss. (in_order (map doing ss) (context p g.result d callee callee' false) s).breaks ≡ []) (sym (plain_known ss)) k.breaks) v W u t' ((refl, at, held), paid) in
        let plain_order = subst (λ ss. Same (E (Behind [] (flat_all (map flattening ss) p here).1) (Around [])) (in_turn (map (λ (x : Spanned Does). x.kind) (map (does p g.result d callee callee') ss)) v W) (in_turn (map (does' p g.result d callee callee') (flat_all (map flattening ss) p here).0) u (with_toll t' W))) (plain_known ss) order in
        let run_order = subst (λ ms. Same (E (Behind [] (flat_all (map flattening ss) p here).1) (Around [])) (in_turn ms v W) (in_turn (map (does' p g.result d callee callee') (flat_all (map flattening ss) p here).0) u (with_toll t' W))) (kinds ss) plain_order in
        let as_seq = same_as (E (Behind [] (flat_all (map flattening ss) p here).1) (Around [])) _ _ _ (seq_to p g.result d callee callee' kept (flat_all (map flattening ss) p here).0 u t' W) run_order in
        subst (λ o. Same (left_paid no_globals no_cuts 1024 kept (IsReturned g.result) (IsRaised p)) (with_value o w (λ scope. left (in_turn (map (λ (s : Spanned StmtKind). run_kind p d callee s.kind) ss) (scope ∷ []) W))) (crep.enter (flattened p) d callee' (flat_function p g) ns (with_toll t w))) (sym b.is)
        (left_same (E (Behind [] (flat_all (map flattening ss) p here).1) (Around [])) Nothing Nothing Nothing _ _ as_seq)

    -- entered by its number
    enter_same : (kept f : ℕ) (xs : List Value) (w : World) (ns : List ℕ) (t : ℕ) → slice_get p.functions f ≡ Some g → ArgumentsFit g.params xs → ns ≡ words_in_all (values_of xs)
        → t + 16 * (8 + parameter_words g.params) + kept ≤ 1024 * (w.toll + entry_weight g)
        → Same (left_paid no_globals no_cuts 1024 kept (IsReturned g.result) (IsRaised p)) (enter p d callee f xs w) (word_enter p d callee' f ns (with_toll t w))
    enter_same kept f xs w ns t stands fit is paid =
        let L = left_paid no_globals no_cuts 1024 kept (IsReturned g.result) (IsRaised p) in
        let there : slice_get (flattened p).functions f ≡ Some (flat_function p g) = slice_get-map (flat_function p) p.functions f ∙ ap (option_map (flat_function p)) stands in
        subst (λ o. Same L (with_value o w (λ g. body_of p d callee g xs w)) (word_enter p d callee' f ns (with_toll t w))) (sym stands)
        (subst (λ o. Same L (body_of p d callee g xs w) (with_value o (with_toll t w) (λ h. crep.enter (flattened p) d callee' h ns (with_toll t w)))) (sym there) (body_same kept f xs w ns t stands fit is paid))

  -- functions call one another so
  pub calls_same : (n : ℕ) → Callees p (calls p n) (nested (word_enter p) n)
  calls_same zero = record { at = λ kept f g xs w ns t stands fit is within. over (left_paid no_globals no_cuts 1024 kept (IsReturned g.result) (IsRaised p)) Spent w t (omega (arith, within)) }
  calls_same (suc n) = record { at = λ kept f g xs w ns t stands fit is within. enter_same n (calls p n) (nested (word_enter p) n) (calls_same n) g kept f xs w ns t stands fit is (omega (arith, within)) }

-- ---- what is seen

module _ (s : Shape) (p : Source) where
  abbrev Left : Outcome (Unit {0}) Value → WordOutcome (Unit {0}) (List ℕ) → Type 0
  Left o o' = Same (left_paid no_globals no_cuts 1024 0 (IsReturned s) (IsRaised p)) o o'

  abbrev Seen : Outcome (Unit {0}) Value → WordOutcome (Unit {0}) (List ℕ) → Type 0
  Seen o o' = IsSeenAs (record (source_of.seen o) { toll = 1024 * (1 + (source_of.seen o).toll) }) (words_seen.seen o')

  ended : (e : Ending) (w : World) (o' : WordOutcome (Unit {0}) (List ℕ)) → Stops no_globals (λ w t. Within 1024 0 t w) e w o' → Seen (Over e w) o'
  ended e w o' z = subst (Seen (Over e w)) (sym z.is) (let h = z.holds in record { behaviour = refl; deepest = refl; toll = omega (arith, h) })

  seen_left : (o : Outcome (Unit {0}) Value) (o' : WordOutcome (Unit {0}) (List ℕ)) → Left o o' → ending_of word_of o ≢ Fails → Seen o o'
  seen_left o o' (cut c) h = absurd c.holds
  seen_left (Normal v w) o' (matched z) h = absurd (h refl)
  seen_left (Broken v w) o' (matched z) h = absurd (h refl)
  seen_left (Continued v w) o' (matched z) h = absurd (h refl)
  seen_left (Returned (Word n) w) o' (matched z) h =
      let q = z.holds in
      let b = q.1 in
      subst (Seen (Returned (Word n) w)) (sym (z.is ∙ ap (λ ns. Returned ns (with_toll z.toll w)) (q.0).0)) (record { behaviour = refl; deepest = refl; toll = omega (arith, b) })
  seen_left (Returned (Struct vs) w) o' (matched z) h = absurd (h refl)
  seen_left (Raised i x w) o' (matched z) h = subst (Seen (Raised i x w)) (sym z.is) (let q = z.holds in let b = q.1 in record { behaviour = refl; deepest = refl; toll = omega (arith, b) })
  seen_left (Over e w) o' (matched z) h = by e z h
    where
      by : (e : Ending) → (is_fails e ≡ false → Stops no_globals (λ w t. Within 1024 0 t w) e w o') → e ≢ Fails → Seen (Over e w) o'
      by Fails z h = absurd (h refl)
      by (Exit n) z h = ended (Exit n) w o' (z refl)
      by (Uncaught n) z h = ended (Uncaught n) w o' (z refl)
      by (Stopped q) z h = ended (Stopped q) w o' (z refl)
      by (Asks q) z h = ended (Asks q) w o' (z refl)
      by Spent z h = ended Spent w o' (z refl)
      by Stack z h = ended Stack w o' (z refl)
      by Fault z h = ended Fault w o' (z refl)

-- ---- programs

-- main takes nothing
main_known : (o : Option Function) → main_breaks o ≡ [] → (f : Function) × (o ≡ Some f) × (f.params ≡ []) × (is_word f.result ≡ true)
main_known None h = absurd cc
main_known (Some f) h =
    let both = neither (nat_lt 0 (length f.params)) (not (is_word f.result)) (unbroken f.span.start MainShape (nat_lt 0 (length f.params) || not (is_word f.result)) [] h).0 in
    (f, refl, none f.params both.0, not_false (is_word f.result) both.1)
  where
    none : (ps : List Param) → nat_lt 0 (length ps) ≡ false → ps ≡ []
    none [] h = refl
    none (p ∷ ps) h = absurd (grind (arith, nat_tests, h))

pub record Main (p : Source) : Type 0 where
  pub number : ℕ
  pub function : Function
  pub is : function_index (codes "main") p ≡ Some number
  pub stands : slice_get p.functions number ≡ Some function
  pub nothing : function.params ≡ []
  pub word : is_word function.result ≡ true

pub main_of : (p : Source) → IsWellShaped p → Main p
main_of p well =
    let heads = exception_heads [] p.exceptions ++ function_heads [] p.functions in
    let main_rules = main_breaks (function_of (codes "main") p) in
    let light = append_none (heads ++ main_rules ++ bodies p p.functions []) (weight_breaks p) well in
    let rest = append_none (heads ++ main_rules) (bodies p p.functions []) light.0 in
    let main = append_none heads main_rules rest.0 in
    let f = main_known (function_of (codes "main") p) main.1 in
    let at = found_at (λ (g : Function). bytes_eq g.name (codes "main")) p.functions f.0 f.1 in
    record { number = at.number; function = f.0; is = at.is; stands = at.stands; nothing = f.2; word = f.3 }

pub program_seen : (p : Source) → IsWellShaped p → (m : List ℕ) (r : List Replied) (n : ℕ) → (((stage p).meaning m r n).behaviour).ending ≢ Fails → IsSeenAs ((stage p).meaning m r n) (crep.meaning (flattened p) m r n)
program_seen p well m r n no_fail =
    let main = main_of p well in
    let keeps = well_kept p well in
    let g = main.function in
    let w = start m r n in
    let few : parameter_words g.params ≡ 0 = ap parameter_words main.nothing in
    let none : ArgumentsFit g.params [] = ap (map (λ (q : Param). spread q.shape)) (sym main.nothing) in
    let both = enter_same p keeps n (calls p n) (nested (word_enter p) n) (calls_same p keeps n) g 0 main.number [] w [] 16 main.stands none refl (omega (arith, few)) in
    let seen_main = λ (o : Option ℕ). source_of.seen (with_value o w (λ f. calls p (suc n) f [] w)) in
    let at = λ (o : Option ℕ). IsSeenAs (record (seen_main o) { toll = 1024 * (1 + (seen_main o).toll) }) (words_seen.seen (nested (word_enter p) (suc n) (numbered o) [] (with_toll 16 w))) in
    subst at (sym main.is) (seen_left g.result p _ _ both (subst (λ o. ((seen_main o).behaviour).ending ≢ Fails) main.is no_fail))
