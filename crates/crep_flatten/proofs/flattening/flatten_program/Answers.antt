use Rattle.std.proofs.Common.{◌≡◌, ℕ, List, [], map, codes, sym, ap, subst, ◌∙◌}
use Rattle.pan_stage.specs.declared.program.Program.{Program}
use Rattle.pan_tree.specs.Check.{foreign_names}
use Rattle.pan_tree.specs.Meaning.{function_index}
use Rattle.pan_tree.specs.Shapes.{words_of}
use Rattle.pan_tree.specs.declared.program.Exception.{Exception}
use Rattle.pan_tree.specs.declared.program.Program.{Program as Source}
use Rattle.crep_lang.specs.WellFormed.{IsWellFormed}
use Rattle.crep_lang.specs.declared.syntax.CrepFun.{CrepFun}
use Rattle.crep_flatten.specs.Flattened.{numbered, flat_function, flattened}
use Rattle.crep_flatten.proofs.WellFormed.{well_formed}
use Rattle.crep_flatten.proofs.flattening.flatten_program.Goals as goal

-- a program of these parts
whole : (p d q : Source) (xs : List Exception) (functions : List CrepFun) (main : ℕ) (exceptions : List ℕ) (names : List (List ℕ)) (globals : List ℕ) → d ≡ p → q ≡ p → xs ≡ q.exceptions
    → functions ≡ map (flat_function p) p.functions → main ≡ numbered (function_index (codes "main") d) → exceptions ≡ map (λ (x : Exception). words_of x.shape) xs → names ≡ foreign_names p → globals ≡ []
    → let made : Program CrepFun = record { functions = functions; main = main; exceptions = exceptions; names = names; globals = globals } in made ≡ flattened p
whole p d q xs functions main exceptions names globals same source rows each first widths called none =
    let m : main ≡ numbered (function_index (codes "main") p) = first ∙ ap (λ (p : Source). numbered (function_index (codes "main") p)) same in
    let w : exceptions ≡ map (λ (x : Exception). words_of x.shape) p.exceptions = widths ∙ ap (λ (xs : List Exception). map (λ (x : Exception). words_of x.shape) xs) (rows ∙ ap (λ (p : Source). p.exceptions) source) in
    λ i. record { functions = each i; main = m i; exceptions = w i; names = called i; globals = none i }

pub invariant_of-result : goal.invariant_of-result
invariant_of-result c =
    let p = c.args.checked.now in
    let is =
    whole p c.in_ok-directory.directory c.args.source.now c.as_slice.result.now c.in_ok-functions.functions c.in_ok-main.main c.in_ok-exceptions.exceptions c.in_ok-names.names c.new.result
    c.in_ok-directory.ensures c.requires.same c.as_slice.ensures c.in_ok-functions.ensures.flat c.in_ok-main.ensures c.in_ok-exceptions.ensures c.in_ok-names.ensures c.new.ensures in
    record { well_formed = subst IsWellFormed (sym is) (well_formed p c.requires.shaped c.in_ok-functions.ensures.fits) }

pub returns : goal.returns
returns c =
    whole c.args.checked.now c.in_ok-directory.directory c.args.source.now c.as_slice.result.now c.in_ok-functions.functions c.in_ok-main.main c.in_ok-exceptions.exceptions c.in_ok-names.names c.new.result
    c.in_ok-directory.ensures c.requires.same c.as_slice.ensures c.in_ok-functions.ensures.flat c.in_ok-main.ensures c.in_ok-exceptions.ensures c.in_ok-names.ensures c.new.ensures
