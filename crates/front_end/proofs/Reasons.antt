-- A source that was read to a program is refused for nothing else.
use Rattle.std.proofs.Common.{◌≡◌, ℕ, ◌≤◌, List, length, sym, ap, subst, refl, inl, inr, Result, Ok, Err}
use Rattle.std.specs.Prelude.{◌⊎◌}
use Rattle.std.specs.Result.{IsErrAnd}
use Rattle.pan_base.specs.Tokens.{Placed}
use Rattle.pan_base.specs.Lexing.{Lexes}
use Rattle.pan_tree.specs.Grammar.{Tree}
use Rattle.pan_tree.specs.Check.{Break, IsFirst, IsWellShaped}
use Rattle.pan_tree.specs.declared.program.Program.{Program}
use Rattle.pan_lexer.specs.TokenRow.{source_limit}
use Rattle.pan_lexer.specs.Refusal as lexer
use Rattle.pan_lexer.specs.declared.error.LexError.{LexError}
use Rattle.pan_parser.specs.Answers as parser
use Rattle.pan_parser.specs.declared.error.ParseError.{ParseError}
use Rattle.pan_shapes.specs.Directions.{IsRefusedFor, IsAccepted}
use Rattle.pan_shapes.specs.declared.error.CheckError.{CheckError}
use Rattle.pan_shapes.specs.declared.error.CheckError.TheVariants as check
use Rattle.front_end.specs.Inner.{of_check}
use Rattle.front_end.specs.Sources.{IsChecked, IsFirstBreak, Unchecked}
use Rattle.front_end.specs.declared.error.SourceError.{SourceError}
use Rattle.front_end.specs.declared.error.SourceError.TheVariants.{Lex, Parse, Check, NoMemory}

-- ---- answers in general

pub no_error : {A E : Type 0} (a : A) (e f : E) → (let r : Result A E = Ok a in r ≡ Err e) ⊎ (let r : Result A E = Ok a in r ≡ Err f) → ⊥
no_error a e f h = elim h [ inl x ↦ cc | inr x ↦ cc ]

-- an error that is handed on
pub handed : {A E : Type 0} (r : Result A E) (e : E) → IsErrAnd r (λ f. f ≡ e) → r ≡ Err e
handed (Ok x) e h = absurd h
handed {E = E} (Err f) e h = ap (λ (x : E). Err x) h

-- ---- the program of a source

module _ (bytes : List ℕ) (tokens : List Placed) (q : Program) (unique : (row : List Placed) → Lexes bytes row → length bytes ≤ source_limit → tokens ≡ row) (only : (p : Program) → Tree tokens p → q ≡ p) where
  same : (p : Program) (row : List Placed) → length bytes ≤ source_limit → Lexes bytes row → Tree row p → q ≡ p
  same p row size lexed tree = only p (subst (λ t. Tree t p) (sym (unique row lexed size)) tree)

  -- there is no other program
  one_program : (p : Program) → IsChecked bytes p → q ≡ p
  one_program p s = same p s.tokens s.size s.lexed s.tree

  pub is_shaped : (p : Program) → IsChecked bytes p → IsWellShaped q
  is_shaped p s = subst IsWellShaped (sym (one_program p s)) s.shaped

  -- no reason but that the program breaks a rule
  pub reasons : ((e : LexError) → ¬ lexer.Refusal bytes e) → ((e : ParseError) → ¬ parser.Refusal tokens (length bytes) e) → (e : SourceError) → Unchecked bytes e
      → (f : CheckError) × (e ≡ Check f) × IsFirstBreak q f
  reasons lexes parses (Lex e) h = absurd (lexes e h)
  reasons lexes parses (Parse e) h = absurd (parses e (subst (λ t. parser.Refusal t (length bytes) e) (sym (unique h.tokens h.lexed h.size)) h.refusal))
  reasons lexes parses (Check e) h = (e, refl, subst (λ p. IsFirstBreak p e) (sym (same h.program h.tokens h.size h.lexed h.tree)) h.first)
  reasons lexes parses NoMemory h = absurd h

-- ---- the check's error as the source's

-- a program that isn't refused for a rule
pub accepted_so : (f : CheckError) → IsAccepted {X = Program} (Err f) → of_check f ≡ NoMemory
accepted_so (check.Breaks rule place) h = absurd h
accepted_so check.NoMemory h = refl

-- a program that is refused for the rule that it breaks first
pub first_told : (q : Program) (f g : CheckError) → ((b : Break) → IsFirst q b → IsRefusedFor {X = Program} b (Err f)) → IsFirstBreak q g → (of_check f ≡ Check g) ⊎ (of_check f ≡ NoMemory)
first_told q f check.NoMemory refused first = absurd first
first_told q (check.Breaks r p) (check.Breaks rule place) refused first =
    let e = refused (record { rule = rule; place = place }) first in
    let one : r ≡ rule = ap (λ (b : Break). b.rule) e in
    let two : p ≡ place = ap (λ (b : Break). b.place) e in
    inl (cc)
first_told q check.NoMemory (check.Breaks rule place) refused first = inr refl
