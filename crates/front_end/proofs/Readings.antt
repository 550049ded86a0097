-- Bytes are a source of one program, or are refused for one reason.
use Rattle.std.proofs.Common.{◌≡◌, ℕ, ◌≤◌, List, [], ◌∷◌, length, sym, ap, ◌∙◌, subst}
use Rattle.pan_base.specs.Tokens.{Placed}
use Rattle.pan_base.specs.Lexing.{Lexes}
use Rattle.pan_tree.specs.Grammar.{Tree}
use Rattle.pan_tree.specs.Check.{Break, breaks}
use Rattle.pan_tree.specs.declared.program.Program.{Program}
use Rattle.pan_tree.specs.declared.rule.Rule.{Rule}
use Rattle.pan_lexer.specs.Laws.{OneRow}
use Rattle.pan_lexer.specs.TokenRow.{source_limit}
use Rattle.pan_lexer.specs.Refusal as lexer
use Rattle.pan_lexer.specs.declared.error.LexError.{LexError}
use Rattle.pan_parser.specs.Answers as parser
use Rattle.pan_parser.specs.declared.error.ParseError.{ParseError}
use Rattle.pan_shapes.specs.declared.error.CheckError.{CheckError}
use Rattle.pan_shapes.specs.declared.error.CheckError.TheVariants as check
use Rattle.front_end.specs.Sources.{IsChecked, IsFirstBreak, Unchecked}
use Rattle.front_end.specs.declared.error.SourceError.{SourceError}
use Rattle.front_end.specs.declared.error.SourceError.TheVariants.{Lex, Parse, Check, NoMemory}

-- what is known of tokens and trees
pub record Known : Type 0 where
  pub one_row : OneRow
  pub one_stop : (bytes : List ℕ) (d e : LexError) → lexer.Refusal bytes d → lexer.Refusal bytes e → d ≡ e
  pub lexed : (bytes : List ℕ) (row : List Placed) → length bytes ≤ source_limit → Lexes bytes row → (e : LexError) → ¬ lexer.Refusal bytes e
  pub one_tree : (ts : List Placed) (p q : Program) → Tree ts p → Tree ts q → p ≡ q
  pub one_refusal : (ts : List Placed) (end : ℕ) (d e : ParseError) → parser.Refusal ts end d → parser.Refusal ts end e → d ≡ e
  pub parsed : (ts : List Placed) (end : ℕ) (p : Program) (e : ParseError) → Tree ts p → ¬ parser.Refusal ts end e

abbrev rule_at : Rule → List Break → Rule
rule_at r [] = r
rule_at r (b ∷ bs) = b.rule

abbrev place_at : ℕ → List Break → ℕ
place_at n [] = n
place_at n (b ∷ bs) = b.place

-- one program breaks one rule first
first_break : (p : Program) (d e : CheckError) → IsFirstBreak p d → IsFirstBreak p e → d ≡ e
first_break p (check.Breaks r x) (check.Breaks s y) a b =
    let same : record { rule = r; place = x } ∷ a.0 ≡ record { rule = s; place = y } ∷ b.0 = sym a.1 ∙ b.1 in
    let rules : r ≡ s = ap (λ (l : List Break). rule_at r l) same in
    let places : x ≡ y = ap (λ (l : List Break). place_at x l) same in
    cc (rules, places)
first_break p (check.Breaks r x) check.NoMemory a b = absurd b
first_break p check.NoMemory e a b = absurd a

no_break : (p : Program) (e : CheckError) → breaks p ≡ [] → IsFirstBreak p e → ⊥
no_break p (check.Breaks r x) none b = let both : [] ≡ record { rule = r; place = x } ∷ b.0 = sym none ∙ b.1 in cc
no_break p check.NoMemory none b = b

module _ (known : Known) (bytes : List ℕ) where
  -- two trees of the same bytes
  same_tree : (ts us : List Placed) (p q : Program) → Lexes bytes ts → Lexes bytes us → Tree ts p → Tree us q → p ≡ q
  same_tree ts us p q a b d e = known.one_tree ts p q d (subst (λ t. Tree t q) (known.one_row bytes us ts b a) e)

  -- a tree and a refusal of the same bytes
  not_refused : (ts us : List Placed) (p : Program) (end : ℕ) (e : ParseError) → Lexes bytes ts → Lexes bytes us → Tree ts p → parser.Refusal us end e → ⊥
  not_refused ts us p end e a b d r = known.parsed ts end p e d (subst (λ t. parser.Refusal t end e) (known.one_row bytes us ts b a) r)

  pub one_program : (p q : Program) → IsChecked bytes p → IsChecked bytes q → p ≡ q
  one_program p q s t = same_tree s.tokens t.tokens p q s.lexed t.lexed s.tree t.tree

  pub apart : (p : Program) (e : SourceError) → IsChecked bytes p → ¬ Unchecked bytes e
  apart p (Lex e) s r = known.lexed bytes s.tokens s.size s.lexed e r
  apart p (Parse e) s r = not_refused s.tokens r.tokens p (length bytes) e s.lexed r.lexed s.tree r.refusal
  apart p (Check e) s r = no_break r.program e (subst (λ q. breaks q ≡ []) (same_tree s.tokens r.tokens p r.program s.lexed r.lexed s.tree r.tree) s.shaped) r.first
  apart p NoMemory s r = r

  pub one_reason : (d e : SourceError) → Unchecked bytes d → Unchecked bytes e → d ≡ e
  one_reason (Lex d) (Lex e) r s = ap Lex (known.one_stop bytes d e r s)
  one_reason (Lex d) (Parse e) r s = absurd (known.lexed bytes s.tokens s.size s.lexed d r)
  one_reason (Lex d) (Check e) r s = absurd (known.lexed bytes s.tokens s.size s.lexed d r)
  one_reason (Lex d) NoMemory r s = absurd s
  one_reason (Parse d) (Lex e) r s = absurd (known.lexed bytes r.tokens r.size r.lexed e s)
  one_reason (Parse d) (Parse e) r s =
      ap Parse (known.one_refusal r.tokens (length bytes) d e r.refusal (subst (λ t. parser.Refusal t (length bytes) e) (known.one_row bytes s.tokens r.tokens s.lexed r.lexed) s.refusal))
  one_reason (Parse d) (Check e) r s = absurd (not_refused s.tokens r.tokens s.program (length bytes) d s.lexed r.lexed s.tree r.refusal)
  one_reason (Parse d) NoMemory r s = absurd s
  one_reason (Check d) (Lex e) r s = absurd (known.lexed bytes r.tokens r.size r.lexed e s)
  one_reason (Check d) (Parse e) r s = absurd (not_refused r.tokens s.tokens r.program (length bytes) e r.lexed s.lexed r.tree s.refusal)
  one_reason (Check d) (Check e) r s =
      ap Check (first_break r.program d e r.first (subst (λ q. IsFirstBreak q e) (same_tree s.tokens r.tokens s.program r.program s.lexed r.lexed s.tree r.tree) s.first))
  one_reason (Check d) NoMemory r s = absurd s
  one_reason NoMemory e r s = absurd r
