-- What is selected for a statement is fine.
use Rattle.std.proofs.Common.{◌≡◌, ◌⊎◌, inl, inr, ℕ, ◌+◌, Bool, true, false, List, [], ◌∷◌, ◌++◌, map, length, Option, Some, None, arith, refl, sym, ap, subst, ◌∙◌}
use Rattle.std.specs.Prelude.{ℤ, pos, nat_eq, nat_lt, not, ◌&&◌, ◌||◌, flat_map}
use Rattle.std.specs.List.{list_all}
use Rattle.pan_base.specs.declared.events.Size.{Size}
use Rattle.pan_base.specs.declared.operators.Cmp.{Cmp}
use Rattle.pan_base.specs.declared.operators.IOp.TheVariants as iop
use Rattle.pan_base.specs.declared.operators.LOp.{LOp}
use Rattle.pan_base.specs.declared.operators.LOp.TheVariants as lop
use Rattle.pan_base.specs.declared.operators.SOp.{SOp}
use Rattle.pan_base.specs.declared.operators.SOp.TheVariants as sop
use Rattle.pan_stage.specs.Mentions.{Mention, Scope, is_immediate, is_right}
use Rattle.pan_stage.specs.Mentions as mention
use Rattle.pan_stage.specs.Stage.{Site}
use Rattle.pan_stage.specs.Stage as site
use Rattle.pan_stage.specs.Sums.{sum_of}
use Rattle.pan_stage.specs.declared.program.Handler.{Handler}
use Rattle.pan_flow.specs.Flow.{Exit, AtEnd, Flow, Then, Either, Loop as LoopFlow, with_end, in_body, has}
use Rattle.pan_flow.specs.Functions.{all_in_turn, reads, calls, variables}
use Rattle.pan_flow.specs.Live.{live_before}
use Rattle.loop_lang.specs.Needs as loop_needs
use Rattle.loop_lang.specs.Steps.{passed}
use Rattle.loop_lang.specs.Text as loop
use Rattle.loop_lang.specs.declared.syntax.Stmt.{Stmt as Loop, Stmt-F as Loop-F, roll-Stmt as roll-Loop, map-Stmt as map-Loop}
use Rattle.loop_lang.specs.declared.syntax.Stmt.TheOpen as c
use Rattle.word_lang.specs.Needs.{code}
use Rattle.word_lang.specs.Text.{sites, mentions, variables_read, flow_of}
use Rattle.word_lang.specs.declared.syntax.Stmt.{Stmt}
use Rattle.word_lang.specs.declared.syntax.Stmt.TheVariants as s
use Rattle.word_lang.specs.declared.syntax.Test.{Test}
use Rattle.word_lang.proofs.Equations as text
use Rattle.word_select.specs.declared.facts.Fact.{Fact}
use Rattle.word_select.specs.declared.facts.Fact.TheVariants.{Number, Sum, Compared}
use Rattle.word_select.specs.declared.operands.Address.{Address}
use Rattle.word_select.specs.Facts.{Facts, forget, learn, found, immediate_of}
use Rattle.word_select.specs.Selected.{operation, operation_facts, comparison, shift_steps, test_at, at_itself, address_by, address_at, Selects, in_row, select_layer, selected}
use Rattle.word_select.proofs.Above.{or_cases, or_left, or_right, same, has_here, has_there, has_cases, has_one, has_both, has_left, has_right}
use Rattle.word_select.proofs.FactLaws.{when_case}
use Rattle.word_select.proofs.LoopLayers.{stmt_induct, sites_roll, mentions_roll, flow_roll, code_roll, selected_roll}
use Rattle.word_select.proofs.SpokenLaws.{spoken, Speak, IsOneOf, forget_spoken, learn_spoken, operation_spoken, test_read, base_read}
use Rattle.word_select.proofs.OperationTexts.{IsOperation, immediate_right, both_right, set_live, imm_is, load_is, operation_is, comparison_are, shift_are}
use Rattle.word_select.proofs.Texts.{and_cases, parts_right, Text, Exits, Fine, exits_known, fine_nothing, fine_then, set_known, set_text, word_text, fine_set, row_text, seq_text, fine_row, fine_same, fine_reads}

-- ---- texts as equations

pub text_of : (a b : List Site) (n m : ℕ) (ms ns : List Mention) (f g : Flow) → a ≡ b → n ≡ m → ms ≡ ns → f ≡ g → ◌≡◌ {A = Text} (record { sited = a; steps = n; mentioned = ms; flow = f }) (record { sited = b; steps = m; mentioned = ns; flow = g })
text_of a b n m ms ns f g e e2 e3 e4 = same_sites ∙ same_steps ∙ same_mentions ∙ same_flow
  where
    make : List Site → ℕ → List Mention → Flow → Text
    make x k y h = record { sited = x; steps = k; mentioned = y; flow = h }

    same_sites : make a n ms f ≡ make b n ms f
    same_sites = ap (λ x. make x n ms f) e

    same_steps : make b n ms f ≡ make b m ms f
    same_steps = ap (λ x. make b x ms f) e2

    same_mentions : make b m ms f ≡ make b m ns f
    same_mentions = ap (λ x. make b m x f) e3

    same_flow : make b m ns f ≡ make b m ns g
    same_flow = ap (make b m ns) e4

-- fine for a text is fine for what is equal to it
as_text : (t : ℕ) (ps qs : Facts) (a b b' : Text) → b' ≡ b → Fine t ps qs a b → Fine t ps qs a b'
as_text t ps qs a b b' e f = subst (Fine t ps qs a) (sym e) f

abbrev loop_text : Loop → Text
loop_text x = record { sited = loop.sites x; steps = loop_needs.code x; mentioned = loop.mentions x; flow = loop.flow_of x }

abbrev layer_text : Loop-F Loop → Text
layer_text y = record {
  sited = loop.sites_layer (map-Loop Loop (List Site) loop.sites y);
  steps = loop_needs.code_layer (map-Loop Loop ℕ loop_needs.code y);
  mentioned = loop.mentions_layer (map-Loop Loop (List Mention) loop.mentions y);
  flow = loop.flow_layer (map-Loop Loop Flow loop.flow_of y);
}

abbrev loop_row : List Loop → Text
loop_row xs = record { sited = flat_map (λ s. s) (map loop.sites xs); steps = sum_of (map loop_needs.code xs); mentioned = flat_map (λ s. s) (map loop.mentions xs); flow = all_in_turn (map loop.flow_of xs) }

layer_is : (y : Loop-F Loop) → layer_text y ≡ loop_text (roll-Loop y)
layer_is y = text_of _ _ _ _ _ _ _ _ (sym (sites_roll y)) (sym (code_roll y)) (sym (mentions_roll y)) (sym (flow_roll y))

-- ---- offsets

address_right : (x : ℕ) (ps : Facts) → is_immediate (address_at x ps).offset ≡ true
address_right x ps = by (found x ps)
  where
    by : (o : Option Fact) → is_immediate (address_by o x).offset ≡ true
    by None = refl
    by (Some (Number n)) = refl
    by (Some (Compared t a b)) = refl
    by (Some (Sum a n)) = when_case (λ (at : Address). is_immediate at.offset ≡ true) (immediate_of n) (λ i. record { base = a; offset = i }) (at_itself x) (λ i e. immediate_right n i e) refl

base_among : (y : ℕ) (ps : Facts) (z : ℕ) → has ((address_at y ps).base ∷ []) z ≡ true → IsOneOf (y ∷ []) ps z
base_among y ps z h = elim (base_read y ps z (has_one (address_at y ps).base z h)) [ inl e ↦ inl (has_here y [] z e) | inr m ↦ inr m ]

access_among : (y x : ℕ) (ps : Facts) (z : ℕ) → has ((address_at y ps).base ∷ x ∷ []) z ≡ true → IsOneOf (y ∷ x ∷ []) ps z
access_among y x ps z h =
    elim (has_cases (address_at y ps).base (x ∷ []) z h) [
      | inl e ↦ elim (base_read y ps z e) [ inl f ↦ inl (has_here y (x ∷ []) z f) | inr m ↦ inr m ]
      | inr m ↦ inl (has_there y (x ∷ []) z m)
    ]

one_right : (i : ℤ) (scope : Scope) (own : ℕ) → is_immediate i ≡ true → list_all (is_right scope own) (mention.Immediate i ∷ []) ≡ true
one_right i scope own e = ap (λ b. b && true) e

-- ---- choices and loops

fine_if : (t : ℕ) (ps q1 q2 : Facts) (a a' b b' : Text) (x : ℕ) (y : Test) → Fine t ps q1 a a' → Fine t ps q2 b b' → ((z : ℕ) → has (variables_read y) z ≡ true → (z ≡ x) ⊎ (spoken z ps ≡ true))
    → Fine t ps [] (record { sited = a.sited ++ b.sited; steps = 2 + a.steps + b.steps; mentioned = a.mentioned ++ b.mentioned; flow = Then (reads (x ∷ [])) (Either a.flow b.flow) })
    (record { sited = a'.sited ++ b'.sited; steps = 1 + a'.steps + b'.steps; mentioned = a'.mentioned ++ b'.mentioned; flow = Then (reads (variables_read y)) (Either a'.flow b'.flow) })
fine_if t ps q1 q2 a a' b b' x y f g test = record {
  sites_kept = ap (λ xs. xs ++ b'.sited) f.sites_kept ∙ ap (λ xs. a.sited ++ xs) g.sites_kept;
  no_longer = let l = f.no_longer in let m = g.no_longer in omega (arith, l, m);
  right = λ scope own h. let k = parts_right a.mentioned b.mentioned scope own h in both_right a'.mentioned b'.mentioned scope own (f.right scope own k.0) (g.right scope own k.1);
  touched = λ z h. elim (has_both (variables_read y) (variables a'.flow ++ variables b'.flow) z h) [
    | inl m ↦ elim (test z m) [ inl e ↦ inl (has_here x (variables a.flow ++ variables b.flow) z e) | inr n ↦ inr (inr n) ]
    | inr m ↦ elim (has_both (variables a'.flow) (variables b'.flow) z m) [
      | inl n ↦ elim (f.touched z n) [ inl v ↦ inl (has_there x _ z (has_left (variables a.flow) (variables b.flow) z v)) | inr v ↦ inr v ]
      | inr n ↦ elim (g.touched z n) [ inl v ↦ inl (has_there x _ z (has_right (variables a.flow) (variables b.flow) z v)) | inr v ↦ inr v ]
    ]
  ];
  known = λ z h. absurd (cc h);
  live = λ z k' k e h.
      let here = has (x ∷ []) z in let first = live_before z a.flow k in let second = live_before z b.flow k in
      elim (or_cases (has (variables_read y) z) (live_before z a'.flow k' || live_before z b'.flow k') h) [
        | inl m ↦ elim (test z m) [ inl is ↦ inl (or_left here (first || second) (has_here x [] z is)) | inr n ↦ inr n ]
        | inr m ↦ elim (or_cases (live_before z a'.flow k') (live_before z b'.flow k') m) [
          | inl n ↦ elim (f.live z k' k (exits_known z q1 k' k e) n) [ inl l ↦ inl (or_right here (first || second) (or_left first second l)) | inr l ↦ inr l ]
          | inr n ↦ elim (g.live z k' k (exits_known z q2 k' k e) n) [ inl l ↦ inl (or_right here (first || second) (or_right first second l)) | inr l ↦ inr l ]
        ]
      ];
}

-- what is live where a loop's test is read
abbrev tested : (z : ℕ) (vs : List ℕ) (f : Flow) (k : Exit → Bool) → Exit → Bool
tested z vs f k = with_end (live_before z (reads vs) (with_end (k AtEnd || live_before z f (in_body false k)) k)) (with_end (k AtEnd || live_before z f (in_body false k)) k)

fine_while : (t : ℕ) (ps qs rs : Facts) (a a' b b' : Text) (x : ℕ) (y : Test) → Fine t [] qs a a' → Fine t qs rs b b' → ((z : ℕ) → has (variables_read y) z ≡ true → (z ≡ x) ⊎ (spoken z qs ≡ true))
    → Fine t ps [] (record { sited = a.sited ++ b.sited; steps = 1 + a.steps + 2 + b.steps; mentioned = a.mentioned ++ b.mentioned; flow = LoopFlow (Then a.flow (reads (x ∷ []))) b.flow })
    (record { sited = a'.sited ++ b'.sited; steps = 1 + a'.steps + 1 + b'.steps; mentioned = a'.mentioned ++ b'.mentioned; flow = LoopFlow (Then a'.flow (reads (variables_read y))) b'.flow })
fine_while t ps qs rs a a' b b' x y f g test = record {
  sites_kept = ap (λ xs. xs ++ b'.sited) f.sites_kept ∙ ap (λ xs. a.sited ++ xs) g.sites_kept;
  no_longer = let l = f.no_longer in let m = g.no_longer in omega (arith, l, m);
  right = λ scope own h. let k = parts_right a.mentioned b.mentioned scope own h in both_right a'.mentioned b'.mentioned scope own (f.right scope own k.0) (g.right scope own k.1);
  touched = λ z h. elim (has_both (variables a'.flow ++ variables_read y) (variables b'.flow) z h) [
    | inl m ↦ elim (has_both (variables a'.flow) (variables_read y) z m) [
      | inl n ↦ elim (f.touched z n) [ inl v ↦ inl (in_before z v) | inr v ↦ elim v [ inl e ↦ inr (inl e) | inr k ↦ absurd (cc k) ] ]
      | inr n ↦ elim (test z n) [ inl e ↦ inl (in_test z e) | inr q ↦ inl (by_known z q) ]
    ]
    | inr m ↦ elim (g.touched z m) [ inl v ↦ inl (has_right (variables a.flow ++ x ∷ []) (variables b.flow) z v) | inr v ↦ elim v [ inl e ↦ inr (inl e) | inr q ↦ inl (by_known z q) ] ]
  ];
  known = λ z h. absurd (cc h);
  live = λ z k' k e h. elim (f.live z (tested z (variables_read y) b'.flow k') (tested z (x ∷ []) b.flow k) (at_test z k' k e) h) [ inl l ↦ inl l | inr q ↦ absurd (cc q) ];
}
  where
    in_before : (z : ℕ) → has (variables a.flow) z ≡ true → has ((variables a.flow ++ x ∷ []) ++ variables b.flow) z ≡ true
    in_before z v = has_left (variables a.flow ++ x ∷ []) (variables b.flow) z (has_left (variables a.flow) (x ∷ []) z v)

    in_test : (z : ℕ) → z ≡ x → has ((variables a.flow ++ x ∷ []) ++ variables b.flow) z ≡ true
    in_test z e = has_left (variables a.flow ++ x ∷ []) (variables b.flow) z (has_right (variables a.flow) (x ∷ []) z (has_here x [] z e))

    by_known : (z : ℕ) → spoken z qs ≡ true → has ((variables a.flow ++ x ∷ []) ++ variables b.flow) z ≡ true
    by_known z q = elim (f.known z q) [ inl v ↦ in_before z v | inr k ↦ absurd (cc k) ]

    at_head : (z : ℕ) (k' k : Exit → Bool) → Exits z [] k' k → k' AtEnd ≡ true → k AtEnd ≡ true
    at_head z k' k e h = elim (e.at_end h) [ inl m ↦ m | inr n ↦ absurd (cc n) ]

    at_body : (z : ℕ) (k' k : Exit → Bool) → Exits z [] k' k → Exits z rs (in_body false k') (in_body false k)
    at_body z k' k e = record { at_end = λ h. absurd (cc h); at_break = at_head z k' k e; at_continue = λ h. h; at_return = e.at_return }

    at_test : (z : ℕ) (k' k : Exit → Bool) → Exits z [] k' k → Exits z qs (tested z (variables_read y) b'.flow k') (tested z (x ∷ []) b.flow k)
    at_test z k' k e = record {
      at_end = λ h.
          let here = has (x ∷ []) z in let inner = live_before z b.flow (in_body false k) in
          elim (or_cases (has (variables_read y) z) (k' AtEnd || live_before z b'.flow (in_body false k')) h) [
            | inl m ↦ elim (test z m) [ inl is ↦ inl (or_left here (k AtEnd || inner) (has_here x [] z is)) | inr q ↦ inr q ]
            | inr m ↦ elim (or_cases (k' AtEnd) (live_before z b'.flow (in_body false k')) m) [
              | inl n ↦ inl (or_right here (k AtEnd || inner) (or_left (k AtEnd) inner (at_head z k' k e n)))
              | inr n ↦ elim (g.live z (in_body false k') (in_body false k) (at_body z k' k e) n) [ inl l ↦ inl (or_right here (k AtEnd || inner) (or_right (k AtEnd) inner l)) | inr q ↦ inr q ]
            ]
          ];
      at_break = e.at_break;
      at_continue = e.at_continue;
      at_return = e.at_return;
    }

-- ---- calls with a handler

fine_call : (t : ℕ) (ps rs : Facts) (a a' : Text) (arguments results : List ℕ) (f i : ℕ) (xs : List ℕ) → Fine t [] rs a a'
    → let text : Text → Text = λ b. record {
      sited = site.Called f ∷ b.sited;
      steps = passed arguments + length results + (3 + length xs + b.steps);
      mentioned = mention.Called f (length arguments) (length results) ∷ (mention.Caught i (length xs) ∷ b.mentioned);
      flow = calls arguments results (Some (record { exception = i; variables = xs; body = b.flow }));
    } in Fine t ps [] (text a) (text a')
fine_call t ps rs a a' arguments results f i xs g = record {
  sites_kept = ap (λ ss. site.Called f ∷ ss) g.sites_kept;
  no_longer = let l = g.no_longer in omega (arith, l);
  right = λ scope own h.
      let called = is_right scope own (mention.Called f (length arguments) (length results)) in let caught = is_right scope own (mention.Caught i (length xs)) in
      let one = and_cases called (caught && list_all (is_right scope own) a.mentioned) h in
      let two = and_cases caught (list_all (is_right scope own) a.mentioned) one.1 in
      ap (λ b. b && (caught && list_all (is_right scope own) a'.mentioned)) one.0 ∙ ap (λ b. b && list_all (is_right scope own) a'.mentioned) two.0 ∙ g.right scope own two.1;
  touched = λ z h. elim (has_both arguments (results ++ (xs ++ variables a'.flow)) z h) [
    | inl m ↦ inl (has_left arguments (results ++ (xs ++ variables a.flow)) z m)
    | inr m ↦ elim (has_both results (xs ++ variables a'.flow) z m) [
      | inl n ↦ inl (has_right arguments _ z (has_left results (xs ++ variables a.flow) z n))
      | inr n ↦ elim (has_both xs (variables a'.flow) z n) [
        | inl v ↦ inl (has_right arguments _ z (has_right results _ z (has_left xs (variables a.flow) z v)))
        | inr v ↦ elim (g.touched z v) [ inl w ↦ inl (has_right arguments _ z (has_right results _ z (has_right xs (variables a.flow) z w))) | inr w ↦ elim w [ inl e ↦ inr (inl e) | inr q ↦ absurd (cc q) ] ]
      ]
    ]
  ];
  known = λ z h. absurd (cc h);
  live = λ z k' k e h.
      let given = has arguments z in let gave = not (has results z) in let threw = not (has xs z) in
      let out = gave && k AtEnd in let in_body = threw && live_before z a.flow k in
      elim (or_cases given ((gave && k' AtEnd) || (threw && live_before z a'.flow k')) h) [
        | inl m ↦ inl (or_left given (out || in_body) m)
        | inr m ↦ elim (or_cases (gave && k' AtEnd) (threw && live_before z a'.flow k') m) [
          | inl n ↦ let p = and_cases gave (k' AtEnd) n in elim (e.at_end p.1) [ inl l ↦ inl (or_right given (out || in_body) (or_left out in_body (ap (λ b. b && k AtEnd) p.0 ∙ l))) | inr q ↦ absurd (cc q) ]
          | inr n ↦ let p = and_cases threw (live_before z a'.flow k') n in elim (g.live z k' k (exits_known z rs k' k e) p.1) [ inl l ↦ inl (or_right given (out || in_body) (or_right out in_body (ap (λ b. b && live_before z a.flow k) p.0 ∙ l))) | inr q ↦ absurd (cc q) ]
        ]
      ];
}

-- ---- texts that are the same

fine_kept : (t : ℕ) (ps : Facts) (stmt : Stmt) (sited : List Site) (n : ℕ) (ms : List Mention) (f : Flow) → sites stmt ≡ sited → code stmt ≡ n → mentions stmt ≡ ms → flow_of stmt ≡ f → Fine t ps [] (record { sited = sited; steps = n; mentioned = ms; flow = f }) (word_text stmt)
fine_kept t ps stmt sited n ms f e e2 e3 e4 = fine_same t ps _ _ e (omega (arith, e2)) (λ scope own h. ap (list_all (is_right scope own)) e3 ∙ h) e4

widen : (sited : List Site) (Q : Type 0) (x : ℕ) (P P' : ℕ → Type 0) (stmt : Stmt) → ((z : ℕ) → P z → P' z) → IsOperation sited Q x P stmt → IsOperation sited Q x P' stmt
widen sited Q x P P' stmt h one = record { sited = one.sited; short = one.short; right = one.right; reading = one.reading; flows = one.flows; within = λ z m. h z (one.within z m) }

-- ---- facts

forgets : (x : ℕ) (ys : List ℕ) (ps : Facts) → Speak (forget x ps) (IsOneOf ys ps)
forgets x ys ps z h = inr (forget_spoken x ps z h)

compares : (x a b : ℕ) (f : Cmp) (ps : Facts) → Speak (learn x (Compared f a b) ps) (IsOneOf (a ∷ b ∷ []) ps)
compares x a b f ps z h =
    elim (learn_spoken x (Compared f a b) ps z h) [
      | inl m ↦ elim (or_cases (nat_eq z a) (nat_eq z b) m) [ inl e ↦ inl (has_here a (b ∷ []) z (same z a e)) | inr e ↦ inl (has_there a (b ∷ []) z (has_here b [] z (same z b e))) ]
      | inr m ↦ inr m
    ]

numbers : (x n : ℕ) (ys : List ℕ) (ps : Facts) → Speak (learn x (Number n) ps) (IsOneOf ys ps)
numbers x n ys ps z h = elim (learn_spoken x (Number n) ps z h) [ inl m ↦ absurd (cc m) | inr m ↦ inr m ]

-- ---- accesses

shared_load_is : (size : Size) (x a : ℕ) (i : ℤ) (P : ℕ → Type 0) → is_immediate i ≡ true → ((z : ℕ) → has (a ∷ []) z ≡ true → P z) → IsOperation (site.Loaded size ∷ []) (Unit {0}) x P (s.SharedLoad size x a i)
shared_load_is size x a i P r h = record {
  sited = text.sites_of_shared_load size x a i;
  short = text.code_of_shared_load size x a i;
  right = λ q scope own. ap (list_all (is_right scope own)) (text.mentions_of_shared_load size x a i) ∙ one_right i scope own r;
  reading = a ∷ [];
  flows = text.flow_of_shared_load size x a i;
  within = h;
}

load_fine : (t : ℕ) (ps : Facts) (o : LOp) (x y : ℕ) → Fine t ps (forget x ps) (set_text [] 1 [] x (y ∷ [])) (word_text (s.Load o x (address_at y ps).base (address_at y ps).offset))
load_fine t ps o x y =
    let at = address_at y ps in
    fine_set t ps (forget x ps) [] 1 [] x (y ∷ []) (Unit {0}) (s.Load o x at.base at.offset) (load_is o x at.base at.offset (Unit {0}) (IsOneOf (y ∷ []) ps) (address_right y ps) (base_among y ps)) (omega arith) (λ scope own h. tt) (forgets x (y ∷ []) ps)

store_fine : (t : ℕ) (ps : Facts) (o : SOp) (y x : ℕ) → Fine t ps ps (record { sited = []; steps = 1; mentioned = []; flow = reads (y ∷ x ∷ []) }) (word_text (s.Store o x (address_at y ps).base (address_at y ps).offset))
store_fine t ps o y x =
    let at = address_at y ps in
    as_text t ps ps _ _ _ (text_of _ _ _ _ _ _ _ _ (text.sites_of_store o x at.base at.offset) (text.code_of_store o x at.base at.offset) (text.mentions_of_store o x at.base at.offset) (text.flow_of_store o x at.base at.offset))
    (fine_reads t ps [] 1 [] (mention.Immediate at.offset ∷ []) (y ∷ x ∷ []) (at.base ∷ x ∷ []) (λ scope own. one_right at.offset scope own (address_right y ps)) (access_among y x ps))

-- ---- all statements

module _ (t : ℕ) where
  abbrev IsFine : Loop → Type 0
  IsFine x = (ps : Facts) → Fine t ps (selected t x ps).facts (loop_text x) (word_text (selected t x ps).stmt)

  fine_at : (y : Loop-F Loop) → ((ps : Facts) → let f = select_layer t (map-Loop Loop Selects (selected t) y) ps in Fine t ps f.facts (layer_text y) (word_text f.stmt)) → IsFine (roll-Loop y)
  fine_at y h ps =
      subst (λ (f : Selects). Fine t ps (f ps).facts (loop_text (roll-Loop y)) (word_text (f ps).stmt)) (sym (selected_roll t y))
      (subst (λ a. Fine t ps (select_layer t (map-Loop Loop Selects (selected t) y) ps).facts a (word_text (select_layer t (map-Loop Loop Selects (selected t) y) ps).stmt)) (layer_is y) (h ps))

  rows_fine : (all : List ((x : Loop) × IsFine x)) (ps : Facts) → let row = in_row (map (selected t) (map (λ c. c.0) all)) ps in Fine t ps row.facts (loop_row (map (λ c. c.0) all)) (row_text row.stmts)
  rows_fine [] ps = fine_nothing t ps
  rows_fine (p ∷ all) ps =
      let f = selected t p.0 ps in
      let row = in_row (map (selected t) (map (λ c. c.0) all)) f.facts in
      fine_then t ps f.facts row.facts (loop_text p.0) (word_text f.stmt) (loop_row (map (λ c. c.0) all)) (row_text row.stmts) (p.1 ps) (rows_fine all f.facts)

  fine_layer : (y : Loop-F ((x : Loop) × IsFine x)) → IsFine (roll-Loop (map-Loop ((x : Loop) × IsFine x) Loop (λ c. c.0) y))
  fine_layer c.Skip = fine_at c.Skip (λ ps. as_text t ps ps _ _ _ (text_of _ _ _ _ _ _ _ _ text.sites_of_skip text.code_of_skip text.mentions_of_skip text.flow_of_skip) (fine_nothing t ps))
  fine_layer (c.Seq all) = fine_at (c.Seq (map (λ c. c.0) all)) (λ ps. let row = in_row (map (selected t) (map (λ c. c.0) all)) ps in seq_text t ps row.facts (loop_row (map (λ c. c.0) all)) row.stmts (rows_fine all ps))
  fine_layer (c.Const x n) = fine_at (c.Const x n) (λ ps.
      let e = text.flow_of_const x n in
      record {
        sites_kept = text.sites_of_const x n;
        no_longer = let k = text.code_of_const x n in omega (arith, k);
        right = λ scope own h. ap (list_all (is_right scope own)) (text.mentions_of_const x n) ∙ h;
        touched = λ z h. inl (subst (λ f. has (variables f) z ≡ true) e h);
        known = λ z h. elim (numbers x n [] ps z h) [ inl m ↦ absurd (cc m) | inr m ↦ inr m ];
        live = λ z k' k x' h. set_known x [] ps (learn x (Number n) ps) z k' k (numbers x n [] ps) x' (elim (set_live x [] z k' (subst (λ f. live_before z f k' ≡ true) e h)) [ inl m ↦ absurd (cc m) | inr m ↦ inr m ]);
      })
  fine_layer (c.Move x y) = fine_at (c.Move x y) (λ ps.
      fine_set t ps (forget x ps) [] 1 [] x (y ∷ []) (Unit {0}) (s.Imm iop.Ori x y (pos 0)) (imm_is iop.Ori x y (pos 0) (Unit {0}) (IsOneOf (y ∷ []) ps) refl (λ z h. inl h)) (omega arith) (λ scope own h. tt) (forgets x (y ∷ []) ps))
  fine_layer (c.Bin f x y z) = fine_at (c.Bin f x y z) (λ ps.
      fine_set t ps (operation_facts f x y z ps) [] 1 [] x (y ∷ z ∷ []) (Unit {0}) (operation f x y z ps) (widen [] (Unit {0}) x _ (IsOneOf (y ∷ z ∷ []) ps) _ (λ v h. inl h) (operation_is x y z ps (Unit {0}) f)) (omega arith) (λ scope own h. tt) (operation_spoken f x y z ps))
  fine_layer (c.Shift f x y n) = fine_at (c.Shift f x y n) (λ ps.
      fine_row t ps (forget x (forget t ps)) (mention.Amount 64 n ∷ []) x (y ∷ []) (nat_lt n 64 ≡ true) (shift_steps t f x y n) (shift_are f t x y n) (λ scope own h. (and_cases (nat_lt n 64) true h).0)
      (λ z h. inr (forget_spoken t ps z (forget_spoken x (forget t ps) z h))))
  fine_layer (c.Compare f x y z) = fine_at (c.Compare f x y z) (λ ps. fine_row t ps (learn x (Compared f y z) ps) [] x (y ∷ z ∷ []) (Unit {0}) (comparison f x y z ps) (comparison_are f x y z t ps (Unit {0})) (λ scope own h. tt) (compares x y z f ps))
  fine_layer (c.LoadWord x y) = fine_at (c.LoadWord x y) (λ ps. load_fine t ps lop.Ld x y)
  fine_layer (c.LoadByte x y) = fine_at (c.LoadByte x y) (λ ps. load_fine t ps lop.Lbu x y)
  fine_layer (c.StoreWord y x) = fine_at (c.StoreWord y x) (λ ps. store_fine t ps sop.Sd y x)
  fine_layer (c.StoreByte y x) = fine_at (c.StoreByte y x) (λ ps. store_fine t ps sop.Sb y x)
  fine_layer (c.If x p q) = fine_at (c.If x p.0 q.0) (λ ps.
      let y = test_at x ps in let f = selected t p.0 ps in let g = selected t q.0 ps in
      as_text t ps [] _ _ _ (text_of _ _ _ _ _ _ _ _ (text.sites_of_if y f.stmt g.stmt) (text.code_of_if y f.stmt g.stmt) (text.mentions_of_if y f.stmt g.stmt) (text.flow_of_if y f.stmt g.stmt))
      (fine_if t ps f.facts g.facts (loop_text p.0) (word_text f.stmt) (loop_text q.0) (word_text g.stmt) x y (p.1 ps) (q.1 ps) (test_read x ps)))
  fine_layer (c.While live all x q) = fine_at (c.While live (map (λ c. c.0) all) x q.0) (λ ps.
      let row = in_row (map (selected t) (map (λ c. c.0) all)) [] in let y = test_at x row.facts in let g = selected t q.0 row.facts in
      as_text t ps [] _ _ _ (text_of _ _ _ _ _ _ _ _ (text.sites_of_while row.stmts y g.stmt) (text.code_of_while row.stmts y g.stmt) (text.mentions_of_while row.stmts y g.stmt) (text.flow_of_while row.stmts y g.stmt))
      (fine_while t ps row.facts g.facts (loop_row (map (λ c. c.0) all)) (row_text row.stmts) (loop_text q.0) (word_text g.stmt) x y (rows_fine all []) (q.1 row.facts) (test_read x row.facts)))
  fine_layer c.Break = fine_at c.Break (λ ps. fine_kept t ps s.Break _ _ _ _ text.sites_of_break text.code_of_break text.mentions_of_break text.flow_of_break)
  fine_layer c.Continue = fine_at c.Continue (λ ps. fine_kept t ps s.Continue _ _ _ _ text.sites_of_continue text.code_of_continue text.mentions_of_continue text.flow_of_continue)
  fine_layer (c.Call live results f arguments None) = fine_at (c.Call live results f arguments None) (λ ps.
      fine_kept t ps (s.Call results f arguments None) _ _ _ _ (text.sites_of_call results f arguments None) (text.code_of_call results f arguments None) (text.mentions_of_call results f arguments None) (text.flow_of_call results f arguments None))
  fine_layer (c.Call live results f arguments (Some h)) = fine_at (c.Call live results f arguments (Some (record { exception = h.exception; variables = h.variables; body = h.body.0 }))) (λ ps.
      let g = selected t h.body.0 [] in
      let h2 : Handler Stmt = record { exception = h.exception; variables = h.variables; body = g.stmt } in
      as_text t ps [] _ _ _ (text_of _ _ _ _ _ _ _ _ (text.sites_of_call results f arguments (Some h2)) (text.code_of_call results f arguments (Some h2)) (text.mentions_of_call results f arguments (Some h2)) (text.flow_of_call results f arguments (Some h2)))
      (fine_call t ps g.facts (loop_text h.body.0) (word_text g.stmt) arguments results f h.exception h.variables (h.body.1 [])))
  fine_layer (c.TailCall f arguments) = fine_at (c.TailCall f arguments) (λ ps. fine_kept t ps (s.TailCall f arguments) _ _ _ _ (text.sites_of_tail_call f arguments) (text.code_of_tail_call f arguments) (text.mentions_of_tail_call f arguments) (text.flow_of_tail_call f arguments))
  fine_layer (c.Return xs) = fine_at (c.Return xs) (λ ps. fine_kept t ps (s.Return xs) _ _ _ _ (text.sites_of_return xs) (text.code_of_return xs) (text.mentions_of_return xs) (text.flow_of_return xs))
  fine_layer (c.Raise i xs) = fine_at (c.Raise i xs) (λ ps. fine_kept t ps (s.Raise i xs) _ _ _ _ (text.sites_of_raise i xs) (text.code_of_raise i xs) (text.mentions_of_raise i xs) (text.flow_of_raise i xs))
  fine_layer (c.SharedLoad size x y) = fine_at (c.SharedLoad size x y) (λ ps.
      let at = address_at y ps in
      fine_set t ps (forget x ps) (site.Loaded size ∷ []) 1 [] x (y ∷ []) (Unit {0}) (s.SharedLoad size x at.base at.offset) (shared_load_is size x at.base at.offset (IsOneOf (y ∷ []) ps) (address_right y ps) (base_among y ps)) (omega arith) (λ scope own h. tt) (forgets x (y ∷ []) ps))
  fine_layer (c.SharedStore size y x) = fine_at (c.SharedStore size y x) (λ ps.
      let at = address_at y ps in
      as_text t ps ps _ _ _ (text_of _ _ _ _ _ _ _ _ (text.sites_of_shared_store size x at.base at.offset) (text.code_of_shared_store size x at.base at.offset) (text.mentions_of_shared_store size x at.base at.offset) (text.flow_of_shared_store size x at.base at.offset))
      (fine_reads t ps (site.Stored size ∷ []) 1 [] (mention.Immediate at.offset ∷ []) (y ∷ x ∷ []) (at.base ∷ x ∷ []) (λ scope own. one_right at.offset scope own (address_right y ps)) (access_among y x ps)))
  fine_layer (c.Foreign live i x y z q) = fine_at (c.Foreign live i x y z q) (λ ps. fine_kept t ps (s.Foreign i x y z q) _ _ _ _ (text.sites_of_foreign i x y z q) (text.code_of_foreign i x y z q) (text.mentions_of_foreign i x y z q) (text.flow_of_foreign i x y z q))

  pub statement_fine : (x : Loop) → IsFine x
  statement_fine = stmt_induct IsFine fine_layer
