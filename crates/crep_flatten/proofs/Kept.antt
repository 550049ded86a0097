-- A program that breaks no rule is kept in words.
use Rattle.std.proofs.Common.{◌≡◌, ◌+◌, ◌*◌, ◌≤◌, false, List, [], ◌∷◌, ◌++◌, map, append_assoc, append-nil, arith, refl, sym, subst}
use Rattle.pan_flow.specs.Functions.{variables}
use Rattle.pan_stage.specs.Locals.{numbers_from}
use Rattle.pan_stage.specs.Room.{weight_of, weight_of_all, allowed}
use Rattle.pan_stage.specs.Stage.{AtMost, NeedsNoMore, Keeps}
use Rattle.pan_stage.specs.Sums.{sum_of}
use Rattle.pan_tree.specs.Scopes.{declare}
use Rattle.pan_tree.specs.Shapes.{words_of}
use Rattle.pan_tree.specs.Check as check
use Rattle.pan_tree.specs.Check.{State, doing, in_order, cost, function_weight, parameter_words, IsWellShaped}
use Rattle.pan_tree.specs.declared.program.Param.{Param}
use Rattle.pan_tree.specs.declared.program.Function.{Function}
use Rattle.pan_tree.specs.declared.program.Program.{Program as Source}
use Rattle.check_soundness.specs.Spread.{spread}
use Rattle.check_soundness.proofs.Alike.{spread_size, sum_more}
use Rattle.crep_lang.specs.Needs.{frame_words, frame_need, function_code, needs}
use Rattle.crep_lang.specs.Stage as crep
use Rattle.crep_lang.specs.Text.{flow_of}
use Rattle.crep_lang.specs.declared.syntax.Stmt.TheVariants as stmt
use Rattle.crep_lang.proofs.Sizes.{between_seq}
use Rattle.crep_flatten.specs.Flat.{Places, count}
use Rattle.crep_flatten.specs.Flattened.{flat_all, flattening, with_parameters, new_place, flat_function, flattened}
use Rattle.crep_flatten.specs.Source.{stage}
use Rattle.crep_flatten.proofs.Costs.{Static}
use Rattle.crep_flatten.proofs.Places.{static_declare}
use Rattle.crep_flatten.proofs.Low.{Placed, placed_declare, declare_count, above_append, above_numbers}
use Rattle.crep_flatten.proofs.CodeFits.{seq_code, all_fits}
use Rattle.crep_flatten.proofs.FramesFit.{seq_top}
use Rattle.crep_flatten.proofs.FunctionsFit.{all_frames}
use Rattle.crep_flatten.proofs.Programs.{program_seen}
use Rattle.crep_flatten.proofs.Sites.{same_face, same_sites}

-- ---- parameters

pub static_parameters : (ps : List Param) (here : Places) (before : check.Scope) → Static here (before ∷ []) → Static (with_parameters ps here) ((before ++ check.parameters ps) ∷ [])
static_parameters [] here before st = subst (λ b. Static here (b ∷ [])) (sym (append-nil before)) st
static_parameters (p ∷ ps) here before st =
    subst (λ b. Static (with_parameters (p ∷ ps) here) (b ∷ [])) (append_assoc before ((p.name, p.shape) ∷ []) (check.parameters ps))
    (static_parameters ps (declare p.name (new_place (spread p.shape) here) here) (before ++ (p.name, p.shape) ∷ []) (static_declare p.name (new_place (spread p.shape) here) p.shape here (before ∷ []) refl st))

pub placed_parameters : (ps : List Param) (here : Places) → Placed here → Placed (with_parameters ps here)
placed_parameters [] here h = h
placed_parameters (p ∷ ps) here h = placed_parameters ps (declare p.name (new_place (spread p.shape) here) here) (placed_declare p.name (spread p.shape) here h)

pub parameters_count : (ps : List Param) (here : Places) → count (with_parameters ps here) ≤ count here + parameter_words ps
parameters_count [] here = omega arith
parameters_count (p ∷ ps) here =
    let c = declare_count p.name (new_place (spread p.shape) here) here in
    let r = parameters_count ps (declare p.name (new_place (spread p.shape) here) here) in
    let s = spread_size p.shape in
    let w = sum_more (words_of p.shape) (map (λ (p : Param). words_of p.shape) ps) in
    omega (arith, c, r, s, w)

-- ---- what functions need

module _ (p : Source) where
  abbrev start_state : Function → State
  start_state f = record { scopes = check.parameters f.params ∷ []; names = [] }

  static_start : (f : Function) → Static (with_parameters f.params ([] ∷ [])) (check.parameters f.params ∷ [])
  static_start f = static_parameters f.params ([] ∷ []) [] (record { same = refl })

  code_fits : (f : Function) → function_code (flat_function p f) ≤ 16 * function_weight p f
  code_fits f =
      let here = with_parameters f.params ([] ∷ []) in
      let ss = (flat_all (map flattening (f.body).stmts) p here).0 in
      let c = seq_code ss in
      let a = all_fits p f.result (f.body).stmts false (start_state f) here (static_start f) in
      omega (arith, c, a)

  frame_fits : (f : Function) → 8 * frame_words (flat_function p f) ≤ cost p f
  frame_fits f =
      let here = with_parameters f.params ([] ∷ []) in
      let ss = (flat_all (map flattening (f.body).stmts) p here).0 in
      let fr = all_frames p f.result (f.body).stmts false (start_state f) here (static_start f) (placed_parameters f.params ([] ∷ []) (tt, tt)) in
      let c = parameters_count f.params ([] ∷ []) in
      let b = between_seq ss in
      let t = seq_top ss in
      let v = above_append (numbers_from 0 (parameter_words f.params)) (variables (flow_of (stmt.Seq ss))) in
      let n = above_numbers 0 (parameter_words f.params) in
      let f1 = fr.between in
      let f2 = fr.top in
      let f3 = fr.fits in
      omega (arith, c, b, t, v, n, f1, f2, f3)

  frames_fit : (fs : List Function) → AtMost (map frame_need (map (flat_function p) fs)) (map (cost p) fs)
  frames_fit [] = tt
  frames_fit (f ∷ fs) = (let a = frame_fits f in omega (arith, a), frames_fit fs)

  codes_fit : (fs : List Function) → 64 * sum_of (map function_code (map (flat_function p) fs)) ≤ 1024 * weight_of_all (map (cost p) fs)
  codes_fit [] = omega arith
  codes_fit (f ∷ fs) =
      let a = code_fits f in
      let r = codes_fit fs in
      let w : weight_of (cost p f) ≡ function_weight p f = omega arith in
      omega (arith, a, r, w)

pub needs_no_more : (p : Source) → NeedsNoMore (allowed (map (cost p) p.functions)) (needs (flattened p))
needs_no_more p = record { frames = frames_fit p p.functions; code = let c = codes_fit p p.functions in omega (arith, c) }

-- ---- the whole

pub kept : (p : Source) → IsWellShaped p → Keeps (stage p) (crep.stage (flattened p))
kept p well = record { face = same_face p; sites = same_sites p; needs = needs_no_more p; seen = λ m r n lawful no_fail. program_seen p well m r n no_fail }
