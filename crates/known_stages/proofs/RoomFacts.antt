-- Which known programs of the language of words are well formed.
use Rattle.std.proofs.Common.{◌≡◌, ◌≤◌, List, [], ◌∷◌, refl, subst, arith}
use Rattle.std.specs.Prelude.{IsTrue}
use Rattle.std.specs.List.{All, list_all}
use Rattle.std.proofs.lemmas.List.Elements.{All-nil, All-cons, All-head}
use Rattle.pan_flow.specs.Functions.{IsWritten}
use Rattle.pan_stage.specs.Mentions.{is_right, scope_of}
use Rattle.pan_stage.specs.Room.{IsCost, AreCosts}
use Rattle.pan_stage.specs.WellFormed.{IsArity, AreCounts, AreRight}
use Rattle.pan_stage.specs.declared.program.Program.{Program}
use Rattle.crep_lang.specs.Text.{arity, mentions, flow_of_function}
use Rattle.crep_lang.specs.WellFormed.{IsWellFormed}
use Rattle.crep_lang.specs.declared.syntax.CrepFun.{CrepFun}
use Rattle.crep_lang.proofs.Exprs.{steps_rules, temporaries_rules, mentioned_rules, read_rules}
use Rattle.crep_lang.proofs.Texts.{mentions_rules, flow_rules}
use Rattle.crep_lang.proofs.Sizes.{between_rules, code_rules}
use Rattle.known_stages.specs.CrepPrograms.{caught, tail}
use Rattle.known_stages.specs.RoomPrograms.{passes_one, takes_two, reads_unwritten, returns_variable}
use Rattle.known_stages.proofs.Decided.{written_yes, written_no}

-- ---- lists

one : {X : Type 0} (P : X → Type 0) (x : X) → P x → All P (x ∷ [])
one P x h = All-cons P x [] h (All-nil P)

two : {X : Type 0} (P : X → Type 0) (x y : X) → P x → P y → All P (x ∷ y ∷ [])
two P x y h g = All-cons P x (y ∷ []) h (one P y g)

-- ---- costs

pub no_cost_48 : ¬ IsCost 48
no_cost_48 h = omega (arith, h.whole)

pub no_cost_250 : ¬ IsCost 250
no_cost_250 h = omega (arith, h.whole)

costs : AreCosts (240 ∷ 320 ∷ [])
costs = record {
  few = omega arith;
  each = two IsCost 240 320 (record { whole = refl; light = omega arith }) (record { whole = refl; light = omega arith });
  light = omega arith;
}

-- ---- well formed

-- functions that have one exception, of one word, and two functions of no more than two words
counts_of : (f g : CrepFun) → f.params ≡ 0 → f.results ≡ 1 → g.params ≤ 2 → g.results ≤ 2
    → AreCounts arity (record { functions = f ∷ g ∷ []; main = 0; exceptions = 1 ∷ []; names = []; globals = [] })
counts_of f g none single few fewer = record {
  numbers = record { exceptions = omega arith; names = omega arith; globals = omega arith; words = All-nil _ };
  main = simp (none, single);
  arities = two (λ f. IsArity (arity f)) f g (record { parameters = omega (arith, none); results = omega (arith, single) }) (record { parameters = omega (arith, few); results = omega (arith, fewer) });
  widths = one (λ n. n ≤ 64) 1 (omega arith);
}

-- each mention of a function is right
abbrev Right : Program CrepFun → CrepFun → Type 0
Right p f = IsTrue (list_all (is_right (scope_of arity p) (arity f).results) (mentions f.body))

abbrev Written : CrepFun → Type 0
Written f = IsWritten (flow_of_function f)

pub tail_fits : IsWellFormed tail
tail_fits = record {
  counts = counts_of _ _ refl refl (omega arith) (omega arith);
  right = two (Right tail) _ _ (simp (mentions_rules, mentioned_rules)) (simp (mentions_rules, mentioned_rules));
  written = two Written _ _ (written_yes _ (simp (flow_rules, read_rules))) (written_yes _ (simp (flow_rules, read_rules)));
  room = record {
    priced = costs;
    within = record {
      frames = (simp (flow_rules, read_rules, between_rules, temporaries_rules) (omega arith), (simp (flow_rules, read_rules, between_rules, temporaries_rules) (omega arith), tt));
      code = simp (code_rules, steps_rules) (omega arith);
    };
  };
}

pub caught_fits : IsWellFormed caught
caught_fits = record {
  counts = counts_of _ _ refl refl (omega arith) (omega arith);
  right = two (Right caught) _ _ (simp (mentions_rules, mentioned_rules)) (simp (mentions_rules, mentioned_rules));
  written = two Written _ _ (written_yes _ (simp (flow_rules, read_rules))) (written_yes _ (simp (flow_rules, read_rules)));
  room = record {
    priced = costs;
    within = record {
      frames = (simp (flow_rules, read_rules, between_rules, temporaries_rules) (omega arith), (simp (flow_rules, read_rules, between_rules, temporaries_rules) (omega arith), tt));
      code = simp (code_rules, steps_rules) (omega arith);
    };
  };
}

pub variable_fits : IsWellFormed (returns_variable 96 5)
variable_fits = record {
  counts = record {
    numbers = record { exceptions = omega arith; names = omega arith; globals = omega arith; words = All-nil _ };
    main = refl;
    arities = one (λ f. IsArity (arity f)) _ (record { parameters = omega arith; results = omega arith });
    widths = one (λ n. n ≤ 64) 1 (omega arith);
  };
  right = one (Right (returns_variable 96 5)) _ (simp (mentions_rules, mentioned_rules));
  written = one Written _ (written_yes _ (simp (flow_rules, read_rules)));
  room = record {
    priced = record { few = omega arith; each = one IsCost 96 (record { whole = refl; light = omega arith }); light = omega arith };
    within = record { frames = (simp (flow_rules, read_rules, between_rules, temporaries_rules) (omega arith), tt); code = simp (code_rules, steps_rules) (omega arith) };
  };
}

-- ---- refused

right_of_main : (p : Program CrepFun) (f : CrepFun) (fs : List CrepFun) → p.functions ≡ f ∷ fs → AreRight arity (λ (f : CrepFun). mentions f.body) p → Right p f
right_of_main p f fs is h = All-head (Right p) f fs (subst (All (Right p)) is h)

pub passes_one_fails : ¬ AreRight arity (λ (f : CrepFun). mentions f.body) passes_one
passes_one_fails h = let e = simp mentions_rules at (right_of_main passes_one _ _ refl h) in cc

pub takes_two_fails : ¬ AreRight arity (λ (f : CrepFun). mentions f.body) takes_two
takes_two_fails h = let e = simp mentions_rules at (right_of_main takes_two _ _ refl h) in cc

pub unwritten_fails : ¬ IsWellFormed reads_unwritten
unwritten_fails h = written_no _ 0 (simp (flow_rules, read_rules)) (All-head Written _ [] h.written)

pub wide_fails : ¬ IsWellFormed (returns_variable 96 6)
wide_fails h = let e = simp (flow_rules, read_rules, between_rules, temporaries_rules) at (h.room).within.frames.0 in omega (arith, e)

pub long_fails : ¬ IsWellFormed (returns_variable 80 0)
long_fails h = let e = simp (code_rules, steps_rules) at (h.room).within.code in omega (arith, e)
