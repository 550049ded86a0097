-- Where tokens are refused, the machine halts: each refusal comes from a run.
use Rattle.std.proofs.Common.{◌≡◌, ◌⊎◌, inl, inr, ⊎_elim, ℕ, ◌<◌, ◌≤◌, List, [], ◌∷◌, ◌++◌, Result, Err, sym, ap, ◌∙◌, subst, refl, arith, append_assoc, append-nil, length-append}
use Rattle.pan_base.specs.Tokens.{Placed}
use Rattle.pan_tree.specs.declared.program.Program.{Program}
use Rattle.pan_tree.specs.Grammar.{IsProgram, Derives, Tree, Viable, nesting_limit}
use Rattle.pan_parser.specs.declared.error.ParseError.{ParseError}
use Rattle.pan_parser.specs.declared.error.ParseError.TheVariants as error
use Rattle.pan_parser.specs.Machine as machine
use Rattle.pan_parser.specs.Machine.{MayShape, MayCompare, MoreTerms, MoreShifts, MoreFields, MayArguments, AfterName, MoreStmts, MayParams, MoreItems, Stack, Step, Goes, Refused, Deep, step, Accepted, Refuses, TooDeep, ended, go_on, run, whole}
use Rattle.pan_parser.specs.Answers.{InFront, ViableWithin, Breaks, Nests, place_of, Refusal}
use Rattle.pan_parser.specs.Follow.{Halts}
use Rattle.pan_parser.proofs.Spells.{After}
use Rattle.pan_parser.proofs.Sound.{sound, finish, finished}
use Rattle.pan_parser.proofs.Places.{Reaches, here, more, forward, ended_cases, spelled, viable_deeper, at_token, viable_within, no_refusal, too_deep, accepted, not_refused, not_deep, not_both, same_refused, same_deep}

-- the machine goes through all the tokens, or stops at one
data Walk (K : Stack) (ts : List Placed) : Type 0 where
  through : (J : Stack) → Reaches nesting_limit K ts J → Walk K ts
  refused : (us : List Placed) (J : Stack) (t : Placed) (after : List Placed) → ts ≡ us ++ t ∷ after → Reaches nesting_limit K us J → step nesting_limit J t ≡ Refused → Walk K ts
  nested : (us : List Placed) (J L : Stack) (t : Placed) (after : List Placed) → ts ≡ us ++ t ∷ after → Reaches nesting_limit K us J → step nesting_limit J t ≡ Deep L → Walk K ts

further : (K L : Stack) (t : Placed) (ts : List Placed) → step nesting_limit K t ≡ Goes L → Walk L ts → Walk K (t ∷ ts)
further K L t ts e (through J r) = through J (more K L J t ts e r)
further K L t ts e (refused us J u after f r g) = refused (t ∷ us) J u after (ap (λ l. t ∷ l) f) (more K L J t us e r) g
further K L t ts e (nested us J M u after f r g) = nested (t ∷ us) J M u after (ap (λ l. t ∷ l) f) (more K L J t us e r) g

one_step : (K : Stack) (t : Placed) (ts : List Placed) → ((L : Stack) → Walk L ts) → (z : Step) → step nesting_limit K t ≡ z → Walk K (t ∷ ts)
one_step K t ts later (Goes L) e = further K L t ts e (later L)
one_step K t ts later Refused e = refused [] K t ts refl (here K) e
one_step K t ts later (Deep L) e = nested [] K L t ts refl (here K) e

walk : (ts : List Placed) (K : Stack) → Walk K ts
walk [] K = through K (here K)
walk (t ∷ ts) K = one_step K t ts (walk ts) (step nesting_limit K t) refl

-- the machine goes through what begins a program within the limit
viable_through : (ts : List Placed) → ViableWithin ts → (J : Stack) × Reaches nesting_limit whole ts J
viable_through ts v = elim (walk ts whole) [
  | through J r ↦ (J, r)
  | refused us J t after f r g ↦
      absurd (no_refusal (InFront v.0) (ts ++ v.0) (t ∷ (after ++ v.0)) v.1 v.2
      (ap (λ a. run nesting_limit (a ++ v.0) whole) f ∙ ap (λ a. run nesting_limit a whole) (append_assoc us (t ∷ after) v.0) ∙ at_token nesting_limit us J t (after ++ v.0) Refused r g))
  | nested us J L t after f r g ↦
      let d = too_deep (InFront v.0) (ts ++ v.0) (t ∷ (after ++ v.0)) v.1 v.2
      (ap (λ a. run nesting_limit (a ++ v.0) whole) f ∙ ap (λ a. run nesting_limit a whole) (append_assoc us (t ∷ after) v.0) ∙ at_token nesting_limit us J t (after ++ v.0) (Deep L) r g) in
      let l : d.0 ≤ nesting_limit = d.1 (omega (arith, length-append after v.0)) in
      let m : nesting_limit < d.0 = d.2 in
      absurd (omega (arith, l, m))
]

-- a token that the machine goes on with continues some program
viable_further : (ts : List Placed) (J L : Stack) (t : Placed) → Reaches nesting_limit whole ts J → step nesting_limit J t ≡ Goes L → Viable (ts ++ t ∷ [])
viable_further ts J L t r e =
    let may = λ (j : ℕ) (rest : List Placed) (l : (j ≤ nesting_limit) ⊎ Unit {0}). tt in
    let h = sound nesting_limit (Unit {0}) (λ j rest. Unit {0}) may J t (finish L) (subst (λ z. After (λ j rest. Unit {0}) (Unit {0}) z (finish L)) (sym e) (finished (λ j rest. Unit {0}) L (λ j rest l. tt))) in
    let p = spelled nesting_limit (Unit {0}) (λ j rest. Unit {0}) may r (t ∷ finish L) h in
    (finish L, p.0, subst (λ a. IsProgram (λ j rest. Unit {0}) a p.0) (sym (append_assoc ts (t ∷ []) (finish L))) p.1)

reached : {K J L : Stack} {ts : List Placed} (t : Placed) → Reaches nesting_limit K ts J → step nesting_limit J t ≡ Goes L → Reaches nesting_limit K (ts ++ t ∷ []) L
reached {L = L} t (here K) e = more K L L t [] e (here L)
reached {L = L} t (more K M J u ts e r) f = more K M L u (ts ++ t ∷ []) e (reached t r f)

-- where nothing more must come, nothing finishes the stack
ended_finish : (K : Stack) → ended K ≡ Accepted → finish K ≡ []
ended_finish [] h = refl
ended_finish (machine.MoreShapes k ∷ K) h = ended_finish K h
ended_finish (MayShape k ∷ K) h = ended_finish K h
ended_finish (MayCompare k ∷ K) h = ended_finish K h
ended_finish (MoreTerms l k ∷ K) h = ended_finish K h
ended_finish (MoreShifts ∷ K) h = ended_finish K h
ended_finish (MoreFields ∷ K) h = ended_finish K h
ended_finish (machine.MoreExprs k ∷ K) h = ended_finish K h
ended_finish (MayArguments k ∷ K) h = ended_finish K h
ended_finish (AfterName handles k ∷ K) h = ended_finish K h
ended_finish (machine.MayHandle k ∷ K) h = ended_finish K h
ended_finish (MoreStmts k ∷ K) h = ended_finish K h
ended_finish (machine.MoreParams k ∷ K) h = ended_finish K h
ended_finish (MayParams k ∷ K) h = ended_finish K h
ended_finish (MoreItems ∷ K) h = ended_finish K h
ended_finish (_ ∷ K) h = absurd (not_refused h refl)

ended_program : (ts : List Placed) (J : Stack) → Reaches nesting_limit whole ts J → ended J ≡ Accepted → (p : Program) × Derives ts p
ended_program ts J r h =
    let p = spelled nesting_limit (Unit {0}) (λ j rest. Unit {0}) (λ j rest l. tt) r (finish J) (finished (λ j rest. Unit {0}) J (λ j rest l. tt)) in
    (p.0, subst (λ a. Derives a p.0) (ap (λ b. ts ++ b) (ended_finish J h) ∙ append-nil ts) p.1)

-- ---- a refusal is the run's

syntax_halts : (before after : List Placed) (J : Stack) → Reaches nesting_limit whole before J → Breaks before after → run nesting_limit (before ++ after) whole ≡ Refuses after
syntax_halts before [] J r breaks = ⊎_elim
    (λ h. let p = ended_program before J r h in absurd (breaks p.0 p.1))
    (λ h. forward nesting_limit r [] ∙ h)
    (ended_cases nesting_limit J)
syntax_halts before (t ∷ after) J r breaks = by_step (step nesting_limit J t) refl
  where
    by_step : (z : Step) → step nesting_limit J t ≡ z → run nesting_limit (before ++ t ∷ after) whole ≡ Refuses (t ∷ after)
    by_step (Goes L) e = absurd (breaks (viable_further before J L t r e))
    by_step Refused e = at_token nesting_limit before J t after Refused r e
    by_step (Deep L) e = absurd (breaks (viable_deeper nesting_limit L t r e))

deep_halts : (before after : List Placed) (J : Stack) → Reaches nesting_limit whole before J → Nests before after → run nesting_limit (before ++ after) whole ≡ TooDeep after
deep_halts before [] J r nests = absurd nests
deep_halts before (t ∷ after) J r nests = by_step (step nesting_limit J t) refl
  where
    by_step : (z : Step) → step nesting_limit J t ≡ z → run nesting_limit (before ++ t ∷ after) whole ≡ TooDeep (t ∷ after)
    by_step (Goes L) e = absurd (nests.1 (viable_within (reached t r e)))
    by_step Refused e =
        let v = nests.0 in
        absurd (no_refusal (λ j rest. Unit {0}) ((before ++ t ∷ []) ++ v.0) (t ∷ v.0) v.1 v.2
        (ap (λ a. run nesting_limit a whole) (append_assoc before (t ∷ []) v.0) ∙ at_token nesting_limit before J t v.0 Refused r e))
    by_step (Deep L) e = at_token nesting_limit before J t after (Deep L) r e

pub refusal_halts : (ts : List Placed) (end : ℕ) (e : ParseError) → Refusal ts end e → Halts end ts e
refusal_halts ts end error.NoMemory h = absurd h
refusal_halts ts end (error.Syntax place) h =
    let j = viable_through h.before h.viable in
    (h.after, h.there, ap (λ a. run nesting_limit a whole) h.all ∙ syntax_halts h.before h.after j.0 j.1 h.breaks)
refusal_halts ts end (error.TooDeep place) h =
    let j = viable_through h.before h.viable in
    (h.after, h.there, ap (λ a. run nesting_limit a whole) h.all ∙ deep_halts h.before h.after j.0 j.1 h.nests)

-- two halts of one run are the same, unless memory ran out
same_halt : (ts : List Placed) (end : ℕ) (d e : ParseError) → Halts end ts d → Refusal ts end e → (d ≡ e) ⊎ (d ≡ error.NoMemory)
same_halt ts end error.NoMemory e h r = inr refl
same_halt ts end d error.NoMemory h r = absurd r
same_halt ts end (error.Syntax p) (error.Syntax q) h r =
    let i = refusal_halts ts end (error.Syntax q) r in
    inl (ap error.Syntax (h.1 ∙ ap (λ a. place_of a end) (same_refused _ h.0 i.0 h.2 i.2) ∙ sym i.1))
same_halt ts end (error.TooDeep p) (error.TooDeep q) h r =
    let i = refusal_halts ts end (error.TooDeep q) r in
    inl (ap error.TooDeep (h.1 ∙ ap (λ a. place_of a end) (same_deep _ h.0 i.0 h.2 i.2) ∙ sym i.1))
same_halt ts end (error.Syntax p) (error.TooDeep q) h r = let i = refusal_halts ts end (error.TooDeep q) r in absurd (not_both h.2 i.2)
same_halt ts end (error.TooDeep p) (error.Syntax q) h r = let i = refusal_halts ts end (error.Syntax q) r in absurd (not_both i.2 h.2)

-- tokens are refused for one reason
pub one_refusal : (ts : List Placed) (end : ℕ) (d e : ParseError) → Refusal ts end d → Refusal ts end e → d ≡ e
one_refusal ts end d e r s = ⊎_elim (λ same. same) (λ none. absurd (subst (Refusal ts end) none r)) (same_halt ts end d e (refusal_halts ts end d r) s)

-- and those that spell a program for none
pub spelled_unrefused : (ts : List Placed) (end : ℕ) (p : Program) (e : ParseError) → Tree ts p → ¬ Refusal ts end e
spelled_unrefused ts end p error.NoMemory d r = r
spelled_unrefused ts end p (error.Syntax place) d r = not_refused (accepted d) (refusal_halts ts end (error.Syntax place) r).2
spelled_unrefused ts end p (error.TooDeep place) d r = not_deep (accepted d) (refusal_halts ts end (error.TooDeep place) r).2

abbrev answer : ParseError → Result Program ParseError
answer e = Err e

-- what is answered where the tokens are refused
pub refused_answer : (ts : List Placed) (end : ℕ) (d e : ParseError) → Halts end ts d → Refusal ts end e → (answer d ≡ answer e) ⊎ (answer d ≡ answer error.NoMemory)
refused_answer ts end d e h r = ⊎_elim (λ same. inl (ap answer same)) (λ none. inr (ap answer none)) (same_halt ts end d e h r)

-- no tokens of a program within the limit are refused
pub tree_no_refusal : (ts : List Placed) (end : ℕ) (p : Program) (e : ParseError) → Tree ts p → Refusal ts end e → ⊥
tree_no_refusal ts end p error.NoMemory d r = r
tree_no_refusal ts end p (error.Syntax place) d r = let i = refusal_halts ts end (error.Syntax place) r in not_refused (accepted d) i.2
tree_no_refusal ts end p (error.TooDeep place) d r = let i = refusal_halts ts end (error.TooDeep place) r in not_deep (accepted d) i.2
