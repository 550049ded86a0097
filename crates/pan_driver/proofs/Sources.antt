-- What a build answers, after its source was read or refused.
use Rattle.std.proofs.Common.{◌≡◌, ℕ, List, sym, ap, ◌∙◌, subst, refl, inl, inr, Result, Ok, Err}
use Rattle.std.specs.Prelude.{◌⊎◌, IfErr}
use Rattle.std.specs.Result.{IsErrAnd}
use Rattle.pan_tree.specs.declared.program.Program.{Program}
use Rattle.front_end.specs.Sources.{IsChecked, Unchecked}
use Rattle.front_end.specs.declared.error.SourceError.{SourceError}
use Rattle.front_end.specs.declared.error.SourceError.TheVariants as source
use Rattle.pan_driver.specs.Chained.{Chained, ChainedFrom}
use Rattle.pan_driver.specs.Errors.{of_source, source_error, Unbuilt}
use Rattle.pan_driver.specs.declared.built.Stages.{Stages}
use Rattle.pan_driver.specs.declared.error.BuildError.{BuildError}
use Rattle.pan_driver.specs.declared.error.BuildError.TheVariants.{Lex, Parse, Check, NoMemory}

-- this is answered, or there is no memory
abbrev pub Gives : {A E : Type 0} → E → Result A E → Result A E → Type 0
Gives none r x = (r ≡ x) ⊎ (r ≡ Err none)

there : (f : SourceError) → source_error (of_source f) ≡ f
there (source.Lex e) = refl
there (source.Parse e) = refl
there (source.Check e) = refl
there source.NoMemory = refl

back : (e : BuildError) → of_source (source_error e) ≡ e
back (Lex e) = refl
back (Parse e) = refl
back (Check e) = refl
back NoMemory = refl

-- an error that is handed on
pub handed : {A : Type 0} (r : Result A BuildError) (e : BuildError) → IsErrAnd r (λ f. f ≡ e) → r ≡ Err e
handed (Ok x) e h = absurd h
handed (Err f) e h = ap (λ (x : BuildError). Err x) h

pub if_err : {A : Type 0} (r : Result A BuildError) (P : BuildError → Type 0) (e : BuildError) → IsErrAnd r (λ f. f ≡ e) → P e → IfErr r P
if_err (Ok x) P e h p = absurd h
if_err (Err f) P e h p = subst P (sym h) p

-- ---- the source was refused for f

module _ {A : Type 0} (bytes : List ℕ) (f : SourceError) (r : Result A BuildError) (told : IsErrAnd r (λ e. e ≡ of_source f)) where
  pub refused_so : (f ≡ source.NoMemory) ⊎ Unchecked bytes f → IfErr r (λ e. (e ≡ NoMemory) ⊎ Unbuilt bytes e)
  refused_so why = if_err r (λ e. (e ≡ NoMemory) ⊎ Unbuilt bytes e) (of_source f) told (elim why as (λ _. (of_source f ≡ NoMemory) ⊎ Unbuilt bytes (of_source f)) [
    | inl none ↦ inl (ap of_source none)
    | inr h ↦ inr (subst (Unchecked bytes) (sym (there f)) h)
  ])

  pub starved_so : ((p : Program) → IsChecked bytes p → Gives {A = Program} source.NoMemory (Err f) (Ok p)) → (p : Program) → IsChecked bytes p → IfErr r (λ e. e ≡ NoMemory)
  starved_so passes p s =
      let none : f ≡ source.NoMemory = elim (passes p s) [ inl x ↦ cc | inr x ↦ cc ] in
      if_err r (λ e. e ≡ NoMemory) (of_source f) told (ap of_source none)

  pub told_so : ((e : SourceError) → Unchecked bytes e → Gives {A = Program} source.NoMemory (Err f) (Err e)) → (e : BuildError) → Unbuilt bytes e → Gives NoMemory r (Err e)
  told_so exact e h =
      let is = handed r (of_source f) told in
      elim (exact (source_error e) h) as (λ _. Gives NoMemory r (Err e)) [
        | inl x ↦ let same : f ≡ source_error e = cc in inl (is ∙ ap (λ (x : BuildError). Err x) (ap of_source same ∙ back e))
        | inr x ↦ let none : f ≡ source.NoMemory = cc in inr (is ∙ ap (λ (x : BuildError). Err x) (ap of_source none))
      ]

-- ---- it was read to the program q

-- a source that was read is refused for nothing
pub not_refused : (bytes : List ℕ) (q : Program) → ((e : SourceError) → Unchecked bytes e → Gives {A = Program} source.NoMemory (Ok q) (Err e)) → (e : BuildError) → ¬ Unbuilt bytes e
not_refused bytes q exact e h = elim (exact (source_error e) h) as (λ _. ⊥) [ inl x ↦ cc | inr x ↦ cc ]

-- the stages of the program are those of the source
pub of_source_so : (bytes : List ℕ) (q : Program) (s : Stages) (image : List ℕ) → IsChecked bytes q → ChainedFrom q s image → Chained bytes s image
of_source_so bytes q s image checked from = record { checked = subst (IsChecked bytes) (sym from.checked) checked; stages = from.stages; written = from.written }
