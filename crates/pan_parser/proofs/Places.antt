-- Where the machine stops is the earliest place where the tokens continue no program.
use Rattle.std.proofs.Common.{◌≡◌, ◌⊎◌, inl, inr, ⊎_elim, ℕ, ◌<◌, ◌≤◌, List, [], ◌∷◌, ◌++◌, sym, ap, ◌∙◌, subst, refl, arith, append_assoc, append-nil}
use Rattle.pan_base.specs.Tokens.{Placed}
use Rattle.pan_tree.specs.declared.program.Program.{Program}
use Rattle.pan_tree.specs.Grammar as grammar
use Rattle.pan_tree.specs.Grammar.{IsProgram, Tree, Viable, Within, nesting_limit}
use Rattle.pan_parser.specs.declared.error.ParseError.{ParseError}
use Rattle.pan_parser.specs.declared.error.ParseError.TheVariants as error
use Rattle.pan_parser.specs.Machine as machine
use Rattle.pan_parser.specs.Machine.{MayShape, MayCompare, MoreTerms, MoreShifts, MoreFields, MayArguments, AfterName, MoreStmts, MayParams, MoreItems, Stack, Step, Goes, Refused, Deep, step, Verdict, Accepted, Refuses, TooDeep, ended, go_on, run, whole}
use Rattle.pan_parser.specs.Answers.{InFront, ViableWithin, place_of, IsSyntax, IsTooDeep, Refusal}
use Rattle.pan_parser.specs.Follow.{Halts}
use Rattle.pan_parser.proofs.Leads.{there, deep}
use Rattle.pan_parser.proofs.LeadsStmts.{program_leads}
use Rattle.pan_parser.proofs.Spells.{Spells, After}
use Rattle.pan_parser.proofs.Sound.{sound, finish, finished}

pub not_refused : {v : Verdict} {a : List Placed} → v ≡ Accepted → v ≡ Refuses a → ⊥
not_refused e f = cc

pub not_deep : {v : Verdict} {a : List Placed} → v ≡ Accepted → v ≡ TooDeep a → ⊥
not_deep e f = cc

pub not_both : {v : Verdict} {a b : List Placed} → v ≡ Refuses a → v ≡ TooDeep b → ⊥
not_both e f = cc

pub same_refused : (v : Verdict) (a b : List Placed) → v ≡ Refuses a → v ≡ Refuses b → a ≡ b
same_refused v a b e f = cc

pub same_deep : (v : Verdict) (a b : List Placed) → v ≡ TooDeep a → v ≡ TooDeep b → a ≡ b
same_deep v a b e f = cc

-- what the whole stack spells is a program
a_program : (May : ℕ → List Placed → Type 0) (a : List Placed) → Spells May whole a → (p : Program) × IsProgram May a p
a_program May a h =
    let r = h.1 [] [] (subst (λ b. grammar.Items May b [] []) (sym h.2) grammar.no_item) in
    (record { exceptions = r.0; functions = r.1 }, r.2)

-- ---- how a run ends

module _ (n : ℕ) where
  -- these tokens lead from one stack to the other
  pub data Reaches : Stack → List Placed → Stack → Type 0 where
    here : (K : Stack) → Reaches K [] K
    more : (K L J : Stack) (t : Placed) (ts : List Placed) → step n K t ≡ Goes L → Reaches L ts J → Reaches K (t ∷ ts) J

  pub forward : {K J : Stack} {ts : List Placed} → Reaches K ts J → (ys : List Placed) → run n (ts ++ ys) K ≡ run n ys J
  forward (here K) ys = refl
  forward (more K L J t ts e r) ys = ap (λ z. go_on z (t ∷ (ts ++ ys)) (run n (ts ++ ys))) e ∙ forward r ys

  data Outcome (K : Stack) (ts : List Placed) : Type 0 where
    accepts : run n ts K ≡ Accepted → Outcome K ts
    at_end : (J : Stack) → Reaches K ts J → ended J ≡ Refuses [] → Outcome K ts
    refused : (us : List Placed) (J : Stack) (t : Placed) (after : List Placed) → ts ≡ us ++ t ∷ after → Reaches K us J → step n J t ≡ Refused → Outcome K ts
    nested : (us : List Placed) (J L : Stack) (t : Placed) (after : List Placed) → ts ≡ us ++ t ∷ after → Reaches K us J → step n J t ≡ Deep L → Outcome K ts

  pub ended_cases : (K : Stack) → (ended K ≡ Accepted) ⊎ (ended K ≡ Refuses [])
  ended_cases [] = inl refl
  ended_cases (machine.MoreShapes k ∷ K) = ended_cases K
  ended_cases (MayShape k ∷ K) = ended_cases K
  ended_cases (MayCompare k ∷ K) = ended_cases K
  ended_cases (MoreTerms l k ∷ K) = ended_cases K
  ended_cases (MoreShifts ∷ K) = ended_cases K
  ended_cases (MoreFields ∷ K) = ended_cases K
  ended_cases (machine.MoreExprs k ∷ K) = ended_cases K
  ended_cases (MayArguments k ∷ K) = ended_cases K
  ended_cases (AfterName handles k ∷ K) = ended_cases K
  ended_cases (machine.MayHandle k ∷ K) = ended_cases K
  ended_cases (MoreStmts k ∷ K) = ended_cases K
  ended_cases (machine.MoreParams k ∷ K) = ended_cases K
  ended_cases (MayParams k ∷ K) = ended_cases K
  ended_cases (MoreItems ∷ K) = ended_cases K
  ended_cases (_ ∷ K) = inr refl

  extend : (K L : Stack) (t : Placed) (ts : List Placed) → step n K t ≡ Goes L → Outcome L ts → Outcome K (t ∷ ts)
  extend K L t ts e (accepts f) = accepts (ap (λ z. go_on z (t ∷ ts) (run n ts)) e ∙ f)
  extend K L t ts e (at_end J r f) = at_end J (more K L J t ts e r) f
  extend K L t ts e (refused us J u after f r g) = refused (t ∷ us) J u after (ap (λ l. t ∷ l) f) (more K L J t us e r) g
  extend K L t ts e (nested us J M u after f r g) = nested (t ∷ us) J M u after (ap (λ l. t ∷ l) f) (more K L J t us e r) g

  one_step : (K : Stack) (t : Placed) (ts : List Placed) → ((L : Stack) → Outcome L ts) → (z : Step) → step n K t ≡ z → Outcome K (t ∷ ts)
  one_step K t ts later (Goes L) e = extend K L t ts e (later L)
  one_step K t ts later Refused e = refused [] K t ts refl (here K) e
  one_step K t ts later (Deep L) e = nested [] K L t ts refl (here K) e

  outcome : (ts : List Placed) (K : Stack) → Outcome K ts
  outcome [] K = ⊎_elim (λ e. accepts e) (λ e. at_end K (here K) e) (ended_cases K)
  outcome (t ∷ ts) K = one_step K t ts (outcome ts) (step n K t) refl

  module _ (Free : Type 0) (May : ℕ → List Placed → Type 0) (may : (j : ℕ) (rest : List Placed) → (j ≤ n) ⊎ Free → May j rest) where
    back : {K J : Stack} {ts : List Placed} → Reaches K ts J → (ys : List Placed) → Spells May J ys → Spells May K (ts ++ ys)
    back (here K) ys h = h
    back (more K L J t ts e r) ys h = sound n Free May may K t (ts ++ ys) (subst (λ z. After May Free z (ts ++ ys)) (sym e) (back r ys h))

    -- the tokens, and those that finish them, spell a program
    pub spelled : {J : Stack} {ts : List Placed} → Reaches whole ts J → (ys : List Placed) → Spells May J ys → (p : Program) × IsProgram May (ts ++ ys) p
    spelled {ts = ts} r ys h = a_program May (ts ++ ys) (back r ys h)

  pub viable_deeper : {J : Stack} {ts : List Placed} (L : Stack) (t : Placed) → Reaches whole ts J → step n J t ≡ Deep L → Viable (ts ++ t ∷ [])
  viable_deeper {J = J} {ts = ts} L t r e =
      let may = λ (j : ℕ) (rest : List Placed) (l : (j ≤ n) ⊎ Unit {0}). tt in
      let h = sound n (Unit {0}) (λ j rest. Unit {0}) may J t (finish L) (subst (λ z. After (λ j rest. Unit {0}) (Unit {0}) z (finish L)) (sym e) (tt, finished (λ j rest. Unit {0}) L (λ j rest l. tt))) in
      let p = spelled (Unit {0}) (λ j rest. Unit {0}) may r (t ∷ finish L) h in
      (finish L, p.0, subst (λ a. IsProgram (λ j rest. Unit {0}) a p.0) (sym (append_assoc ts (t ∷ []) (finish L))) p.1)

  pub at_token : (us : List Placed) (J : Stack) (t : Placed) (after : List Placed) (z : Step) → Reaches whole us J → step n J t ≡ z → run n (us ++ t ∷ after) whole ≡ go_on z (t ∷ after) (run n after)
  at_token us J t after z r e = forward r (t ∷ after) ∙ ap (λ z. go_on z (t ∷ after) (run n after)) e

pub viable_within : {J : Stack} {ts : List Placed} → Reaches nesting_limit whole ts J → ViableWithin ts
viable_within {J = J} r =
    let p = spelled nesting_limit ⊥ (InFront (finish J)) (λ j rest l. ⊎_elim (λ l _. l) (λ f. absurd f) l) r (finish J) (finished (InFront (finish J)) J (λ j rest l m. omega (arith, l, m))) in
    (finish J, p.0, p.1)

-- ---- programs

-- no program is refused
pub no_refusal : (May : ℕ → List Placed → Type 0) (a rest : List Placed) (p : Program) → IsProgram May a p → run nesting_limit a whole ≡ Refuses rest → ⊥
no_refusal May a rest p d e = elim (program_leads nesting_limit May d) [
  | there f ↦ not_refused f e
  | deep j r m l f ↦ not_both e f
]

-- a token that nests too deep may not stand there
pub too_deep : (May : ℕ → List Placed → Type 0) (a rest : List Placed) (p : Program) → IsProgram May a p → run nesting_limit a whole ≡ TooDeep rest → (j : ℕ) × May j rest × (nesting_limit < j)
too_deep May a rest p d e = elim (program_leads nesting_limit May d) [
  | there f ↦ absurd (not_deep f e)
  | deep j r m l f ↦ (j, subst (May j) (same_deep _ r rest f e) m, l)
]

-- a program that nests within the limit is accepted
pub accepted : {a : List Placed} {p : Program} → Tree a p → run nesting_limit a whole ≡ Accepted
accepted d = elim (program_leads nesting_limit Within d) [
  | there f ↦ f
  | deep j r m l f ↦ absurd (omega (arith, m, l))
]

-- ---- places

pub syntax_at : (ts rest : List Placed) (end : ℕ) → run nesting_limit ts whole ≡ Refuses rest → IsSyntax ts end (place_of rest end)
syntax_at ts rest end e = elim (outcome nesting_limit ts whole) [
  | accepts f ↦ absurd (not_refused f e)
  | at_end J r f ↦
      let nil = append-nil ts in
      let g : run nesting_limit ts whole ≡ Refuses [] = subst (λ ts. run nesting_limit ts whole ≡ Refuses []) nil (forward nesting_limit r [] ∙ f) in
      record {
        before = ts;
        after = [];
        all = sym nil;
        there = ap (λ r. place_of r end) (same_refused _ rest [] e g);
        viable = viable_within r;
        breaks = λ p d. no_refusal (λ j rest. Unit {0}) ts [] p d g;
      }
  | refused us J t after f r g ↦
      let h : run nesting_limit ts whole ≡ Refuses (t ∷ after) = ap (λ a. run nesting_limit a whole) f ∙ at_token nesting_limit us J t after Refused r g in
      record {
        before = us;
        after = t ∷ after;
        all = f;
        there = ap (λ r. place_of r end) (same_refused _ rest (t ∷ after) e h);
        viable = viable_within r;
        breaks = λ v. no_refusal (λ j rest. Unit {0}) ((us ++ t ∷ []) ++ v.0) (t ∷ v.0) v.1 v.2 (ap (λ a. run nesting_limit a whole) (append_assoc us (t ∷ []) v.0) ∙ at_token nesting_limit us J t v.0 Refused r g);
      }
  | nested us J L t after f r g ↦ absurd (not_both e (ap (λ a. run nesting_limit a whole) f ∙ at_token nesting_limit us J t after (Deep L) r g))
]

pub deep_at : (ts rest : List Placed) (end : ℕ) → run nesting_limit ts whole ≡ TooDeep rest → IsTooDeep ts end (place_of rest end)
deep_at ts rest end e = elim (outcome nesting_limit ts whole) [
  | accepts f ↦ absurd (not_deep f e)
  | at_end J r f ↦ absurd (not_both (subst (λ ts. run nesting_limit ts whole ≡ Refuses []) (append-nil ts) (forward nesting_limit r [] ∙ f)) e)
  | refused us J t after f r g ↦ absurd (not_both (ap (λ a. run nesting_limit a whole) f ∙ at_token nesting_limit us J t after Refused r g) e)
  | nested us J L t after f r g ↦
      let h : run nesting_limit ts whole ≡ TooDeep (t ∷ after) = ap (λ a. run nesting_limit a whole) f ∙ at_token nesting_limit us J t after (Deep L) r g in
      record {
        before = us;
        after = t ∷ after;
        all = f;
        there = ap (λ r. place_of r end) (same_deep _ rest (t ∷ after) e h);
        viable = viable_within r;
        nests = (
          viable_deeper nesting_limit L t r g,
          λ v.
              let d = too_deep (InFront v.0) ((us ++ t ∷ []) ++ v.0) (t ∷ v.0) v.1 v.2 (ap (λ a. run nesting_limit a whole) (append_assoc us (t ∷ []) v.0) ∙ at_token nesting_limit us J t v.0 (Deep L) r g) in
              let l : d.0 ≤ nesting_limit = d.1 (omega arith) in
              let m : nesting_limit < d.0 = d.2 in
              absurd (omega (arith, l, m)),
        );
      }
]

-- where the machine halts, the tokens are refused there, unless memory ran out
pub refusal_at : (ts : List Placed) (end : ℕ) (e : ParseError) → Halts end ts e → (e ≡ error.NoMemory) ⊎ Refusal ts end e
refusal_at ts end error.NoMemory h = inl refl
refusal_at ts end (error.Syntax place) h = inr (subst (IsSyntax ts end) (sym h.1) (syntax_at ts h.0 end h.2))
refusal_at ts end (error.TooDeep place) h = inr (subst (IsTooDeep ts end) (sym h.1) (deep_at ts h.0 end h.2))

-- where the tokens spell a program within the limit, only memory may run out
pub no_halt : (ts : List Placed) (end : ℕ) (e : ParseError) (p : Program) → Tree ts p → Halts end ts e → e ≡ error.NoMemory
no_halt ts end error.NoMemory p d h = refl
no_halt ts end (error.Syntax place) p d h = absurd (not_refused (accepted d) h.2)
no_halt ts end (error.TooDeep place) p d h = absurd (not_deep (accepted d) h.2)
