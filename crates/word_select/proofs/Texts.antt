-- What is selected has the sites of what it is selected for, needs no more code, mentions nothing wrong, and reads nothing before it is written.
use Rattle.std.proofs.Common.{◌≡◌, ◌⊎◌, inl, inr, ℕ, ◌+◌, ◌≤◌, Bool, true, false, List, [], ◌∷◌, ◌++◌, map, arith, refl, sym, ap, subst, ◌∙◌}
use Rattle.std.specs.Prelude.{nat_eq, not, ◌&&◌, ◌||◌, flat_map}
use Rattle.std.specs.List.{list_all}
use Rattle.std.proofs.lemmas.List.Folds.{list_all-append}
use Rattle.pan_stage.specs.Mentions.{Mention, Scope, is_right}
use Rattle.pan_stage.specs.Stage.{Site}
use Rattle.pan_stage.specs.Sums.{sum_of}
use Rattle.pan_flow.specs.Flow.{Act, Reads, Writes, Leaves, Exit, AtEnd, AtBreak, AtContinue, AtReturn, Flow, Does, Ends, Then, Either, Loop, with_end, in_body, has}
use Rattle.pan_flow.specs.Functions.{all_in_turn, reads, sets, variables}
use Rattle.pan_flow.specs.Live.{live_before_act, live_before}
use Rattle.word_lang.specs.Needs.{code}
use Rattle.word_lang.specs.Text.{sites, mentions, flow_of}
use Rattle.word_lang.specs.declared.syntax.Stmt.{Stmt}
use Rattle.word_lang.specs.declared.syntax.Stmt.TheVariants as s
use Rattle.word_lang.proofs.Equations.{sites_of_seq, mentions_of_seq, flow_of_seq, code_of_seq}
use Rattle.word_select.specs.Facts.{Facts}
use Rattle.word_select.proofs.Above.{or_cases, or_left, or_right, has_here, has_both, has_left, has_right}
use Rattle.word_select.proofs.SpokenLaws.{spoken, Speak, IsOneOf}
use Rattle.word_select.proofs.OperationTexts.{IsOperation, AreOperations, both_right, set_live, set_variables}

-- ---- truth values

pub and_cases : (a b : Bool) → (a && b) ≡ true → (a ≡ true) × (b ≡ true)
and_cases true b h = (refl, h)
and_cases false b h = absurd (cc h)

and_true : (a b : Bool) → a ≡ true → b ≡ true → (a && b) ≡ true
and_true true b h g = g
and_true false b h g = absurd (cc h)

pub parts_right : (ms ns : List Mention) (scope : Scope) (own : ℕ) → list_all (is_right scope own) (ms ++ ns) ≡ true → (list_all (is_right scope own) ms ≡ true) × (list_all (is_right scope own) ns ≡ true)
parts_right ms ns scope own h = and_cases (list_all (is_right scope own) ms) (list_all (is_right scope own) ns) (sym (list_all-append (is_right scope own) ms ns) ∙ h)

-- ---- more that is live after is more before

abbrev pub AllMore : (Exit → Bool) → (Exit → Bool) → Type 0
AllMore k k' = (e : Exit) → k e ≡ true → k' e ≡ true

or_more : (a b c d : Bool) → (a ≡ true → c ≡ true) → (b ≡ true → d ≡ true) → (a || b) ≡ true → (c || d) ≡ true
or_more a b c d f g h = elim (or_cases a b h) [ inl m ↦ or_left c d (f m) | inr n ↦ or_right c d (g n) ]

end_more : (a b : Bool) (k k' : Exit → Bool) → (a ≡ true → b ≡ true) → AllMore k k' → AllMore (with_end a k) (with_end b k')
end_more a b k k' h hs AtEnd = h
end_more a b k k' h hs AtBreak = hs AtBreak
end_more a b k k' h hs AtContinue = hs AtContinue
end_more a b k k' h hs AtReturn = hs AtReturn

body_more : (k k' : Exit → Bool) → AllMore k k' → AllMore (in_body false k) (in_body false k')
body_more k k' hs AtEnd = λ e. e
body_more k k' hs AtBreak = hs AtEnd
body_more k k' hs AtContinue = λ e. e
body_more k k' hs AtReturn = hs AtReturn

act_more : (z : ℕ) (act : Act) (a b : Bool) → (a ≡ true → b ≡ true) → live_before_act z act a ≡ true → live_before_act z act b ≡ true
act_more z (Reads ys) a b h l = or_more (has ys z) a (has ys z) b (λ m. m) h l
act_more z (Writes ys) a b h l = let k = and_cases (not (has ys z)) a l in and_true (not (has ys z)) b k.0 (h k.1)
act_more z (Leaves ys) a b h l = let k = and_cases (not (has ys z)) a l in and_true (not (has ys z)) b k.0 (h k.1)

pub live_more : (z : ℕ) (f : Flow) (k k' : Exit → Bool) → AllMore k k' → live_before z f k ≡ true → live_before z f k' ≡ true
live_more z (Does a) k k' h l = act_more z a (k AtEnd) (k' AtEnd) (h AtEnd) l
live_more z (Ends e) k k' h l = h e l
live_more z (Then f g) k k' h l = live_more z f _ _ (end_more (live_before z g k) (live_before z g k') k k' (live_more z g k k' h) h) l
live_more z (Either f g) k k' h l = or_more _ _ _ _ (live_more z f k k' h) (live_more z g k k' h) l
live_more z (Loop f g) k k' h l =
    live_more z f _ _ (end_more (k AtEnd || live_before z g (in_body false k)) (k' AtEnd || live_before z g (in_body false k')) k k'
    (or_more (k AtEnd) (live_before z g (in_body false k)) (k' AtEnd) (live_before z g (in_body false k')) (h AtEnd) (live_more z g _ _ (body_more k k' h))) h) l

-- ---- texts

-- what is said of a text
pub record Text : Type 0 where
  pub sited : List Site
  pub steps : ℕ
  pub mentioned : List Mention
  pub flow : Flow

-- one after another
abbrev pub then_text : Text → Text → Text
then_text a b = record { sited = a.sited ++ b.sited; steps = a.steps + b.steps; mentioned = a.mentioned ++ b.mentioned; flow = Then a.flow b.flow }

abbrev pub no_text : Text
no_text = record { sited = []; steps = 0; mentioned = []; flow = Ends AtEnd }

-- What is live at the exits of the second is live at those of the first; at its end facts may speak of it instead.
pub record Exits (z : ℕ) (qs : Facts) (k' k : Exit → Bool) : Type 0 where
  pub at_end : k' AtEnd ≡ true → (k AtEnd ≡ true) ⊎ (spoken z qs ≡ true)
  pub at_break : k' AtBreak ≡ true → k AtBreak ≡ true
  pub at_continue : k' AtContinue ≡ true → k AtContinue ≡ true
  pub at_return : k' AtReturn ≡ true → k AtReturn ≡ true

-- The second text is selected for the first, from what is known before to what is known after, with t for rotations.
pub record Fine (t : ℕ) (ps qs : Facts) (a b : Text) : Type 0 where
  pub sites_kept : b.sited ≡ a.sited
  pub no_longer : b.steps ≤ a.steps
  pub right : (scope : Scope) (own : ℕ) → list_all (is_right scope own) a.mentioned ≡ true → list_all (is_right scope own) b.mentioned ≡ true
  pub touched : (z : ℕ) → has (variables b.flow) z ≡ true → (has (variables a.flow) z ≡ true) ⊎ ((z ≡ t) ⊎ (spoken z ps ≡ true))
  pub known : (z : ℕ) → spoken z qs ≡ true → (has (variables a.flow) z ≡ true) ⊎ (spoken z ps ≡ true)
  pub live : (z : ℕ) (k' k : Exit → Bool) → Exits z qs k' k → live_before z b.flow k' ≡ true → (live_before z a.flow k ≡ true) ⊎ (spoken z ps ≡ true)

-- where nothing is known after, exits are so whatever is known
pub exits_known : (z : ℕ) (qs : Facts) (k' k : Exit → Bool) → Exits z [] k' k → Exits z qs k' k
exits_known z qs k' k e = record { at_end = λ h. elim (e.at_end h) [ inl m ↦ inl m | inr n ↦ absurd (cc n) ]; at_break = e.at_break; at_continue = e.at_continue; at_return = e.at_return }

pub all_exits : (z : ℕ) (k' k : Exit → Bool) → Exits z [] k' k → AllMore k' k
all_exits z k' k e AtEnd = λ h. elim (e.at_end h) [ inl m ↦ m | inr n ↦ absurd (cc n) ]
all_exits z k' k e AtBreak = e.at_break
all_exits z k' k e AtContinue = e.at_continue
all_exits z k' k e AtReturn = e.at_return

pub fine_nothing : (t : ℕ) (ps : Facts) → Fine t ps ps no_text no_text
fine_nothing t ps = record { sites_kept = refl; no_longer = omega arith; right = λ scope own h. h; touched = λ z h. absurd (cc h); known = λ z h. inr h; live = λ z k' k e h. e.at_end h }

pub fine_then : (t : ℕ) (ps qs rs : Facts) (a a' b b' : Text) → Fine t ps qs a a' → Fine t qs rs b b' → Fine t ps rs (then_text a b) (then_text a' b')
fine_then t ps qs rs a a' b b' f g = record {
  sites_kept = ap (λ xs. xs ++ b'.sited) f.sites_kept ∙ ap (λ xs. a.sited ++ xs) g.sites_kept;
  no_longer = let l = f.no_longer in let m = g.no_longer in omega (arith, l, m);
  right = λ scope own h. let k = parts_right a.mentioned b.mentioned scope own h in both_right a'.mentioned b'.mentioned scope own (f.right scope own k.0) (g.right scope own k.1);
  touched = λ z h. elim (has_both (variables a'.flow) (variables b'.flow) z h) [
    | inl m ↦ elim (f.touched z m) [ inl n ↦ inl (has_left (variables a.flow) (variables b.flow) z n) | inr n ↦ inr n ]
    | inr m ↦ elim (g.touched z m) [
      | inl n ↦ inl (has_right (variables a.flow) (variables b.flow) z n)
      | inr n ↦ elim n [ inl e ↦ inr (inl e) | inr q ↦ elim (f.known z q) [ inl v ↦ inl (has_left (variables a.flow) (variables b.flow) z v) | inr p ↦ inr (inr p) ] ]
    ]
  ];
  known = λ z h. elim (g.known z h) [
    | inl m ↦ inl (has_right (variables a.flow) (variables b.flow) z m)
    | inr q ↦ elim (f.known z q) [ inl v ↦ inl (has_left (variables a.flow) (variables b.flow) z v) | inr p ↦ inr p ]
  ];
  live = λ z k' k e h. f.live z (with_end (live_before z b'.flow k') k') (with_end (live_before z b.flow k) k) (record { at_end = λ l. g.live z k' k e l; at_break = e.at_break; at_continue = e.at_continue; at_return = e.at_return }) h;
}

-- ---- a variable is set

set_live_back : (x : ℕ) (ys : List ℕ) (z : ℕ) (k : Exit → Bool) → nat_eq z x ≡ false → k AtEnd ≡ true → live_before z (sets x ys) k ≡ true
set_live_back x ys z k ne h = or_right (has ys z) _ (ap (λ b. not (b || false) && k AtEnd) ne ∙ h)

-- what follows from what is read before a variable is written
pub set_known : (x : ℕ) (ys : List ℕ) (ps qs : Facts) (z : ℕ) (k' k : Exit → Bool) → Speak qs (IsOneOf ys ps) → Exits z qs k' k → (IsOneOf ys ps z) ⊎ ((nat_eq z x ≡ false) × (k' AtEnd ≡ true)) → (live_before z (sets x ys) k ≡ true) ⊎ (spoken z ps ≡ true)
set_known x ys ps qs z k' k spoken_of e (inl (inl m)) = inl (or_left (has ys z) _ m)
set_known x ys ps qs z k' k spoken_of e (inl (inr m)) = inr m
set_known x ys ps qs z k' k spoken_of e (inr n) = elim (e.at_end n.1) [ inl l ↦ inl (set_live_back x ys z k n.0 l) | inr q ↦ elim (spoken_of z q) [ inl m ↦ inl (or_left (has ys z) _ m) | inr m ↦ inr m ] ]

-- a variable that is set is a variable of the text
set_has : (x : ℕ) (ys : List ℕ) (z : ℕ) → z ≡ x → has (ys ++ x ∷ []) z ≡ true
set_has x ys z e = has_right ys (x ∷ []) z (has_here x [] z e)

abbrev pub set_text : List Site → ℕ → List Mention → ℕ → List ℕ → Text
set_text site steps ms x ys = record { sited = site; steps = steps; mentioned = ms; flow = sets x ys }

abbrev pub word_text : Stmt → Text
word_text stmt = record { sited = sites stmt; steps = code stmt; mentioned = mentions stmt; flow = flow_of stmt }

pub fine_set : (t : ℕ) (ps qs : Facts) (site : List Site) (steps : ℕ) (ms : List Mention) (x : ℕ) (ys : List ℕ) (Q : Type 0) (stmt : Stmt) → IsOperation site Q x (IsOneOf ys ps) stmt → 1 ≤ steps → ((scope : Scope) (own : ℕ) → list_all (is_right scope own) ms ≡ true → Q) → Speak qs (IsOneOf ys ps)
    → Fine t ps qs (set_text site steps ms x ys) (word_text stmt)
fine_set t ps qs site steps ms x ys Q stmt one l q spoken_of = record {
  sites_kept = one.sited;
  no_longer = let k = one.short in omega (arith, k, l);
  right = λ scope own h. one.right (q scope own h) scope own;
  touched = λ z h. elim (set_variables x one.reading z (subst (λ f. has (variables f) z ≡ true) one.flows h)) [
    | inl m ↦ elim (one.within z m) [ inl n ↦ inl (has_left ys (x ∷ []) z n) | inr n ↦ inr (inr n) ]
    | inr e ↦ inl (set_has x ys z e)
  ];
  known = λ z h. elim (spoken_of z h) [ inl n ↦ inl (has_left ys (x ∷ []) z n) | inr n ↦ inr n ];
  live = λ z k' k e h. set_known x ys ps qs z k' k spoken_of e (elim (set_live x one.reading z k' (subst (λ f. live_before z f k' ≡ true) one.flows h)) [ inl m ↦ inl (one.within z m) | inr n ↦ inr n ]);
}

-- ---- rows of operations

abbrev pub row_text : List Stmt → Text
row_text ss = record { sited = flat_map (λ s. s) (map sites ss); steps = sum_of (map code ss); mentioned = flat_map (λ s. s) (map mentions ss); flow = all_in_turn (map flow_of ss) }

pub seq_text : (t : ℕ) (ps qs : Facts) (a : Text) (ss : List Stmt) → Fine t ps qs a (row_text ss) → Fine t ps qs a (word_text (s.Seq ss))
seq_text t ps qs a ss f = record {
  sites_kept = sites_of_seq ss ∙ f.sites_kept;
  no_longer = let e = code_of_seq ss in let l = f.no_longer in omega (arith, e, l);
  right = λ scope own h. ap (list_all (is_right scope own)) (mentions_of_seq ss) ∙ f.right scope own h;
  touched = λ z h. f.touched z (subst (λ f. has (variables f) z ≡ true) (flow_of_seq ss) h);
  known = f.known;
  live = λ z k' k e h. f.live z k' k e (subst (λ f. live_before z f k' ≡ true) (flow_of_seq ss) h);
}

pub fine_row : (t : ℕ) (ps qs : Facts) (ms : List Mention) (x : ℕ) (ys : List ℕ) (Q : Type 0) (ss : List Stmt) → AreOperations Q x t (λ z. has ys z ≡ true) 3 ss → ((scope : Scope) (own : ℕ) → list_all (is_right scope own) ms ≡ true → Q) → Speak qs (IsOneOf ys ps)
    → Fine t ps qs (set_text [] 3 ms x ys) (word_text (s.Seq ss))
fine_row t ps qs ms x ys Q ss all q spoken_of = seq_text t ps qs (set_text [] 3 ms x ys) ss (record {
  sites_kept = all.silent;
  no_longer = all.short;
  right = λ scope own h. all.right (q scope own h) scope own;
  touched = λ z h. elim (all.touched z h) [ inl m ↦ inl (has_left ys (x ∷ []) z m) | inr n ↦ elim n [ inl e ↦ inl (set_has x ys z e) | inr e ↦ inr (inl e) ] ];
  known = λ z h. elim (spoken_of z h) [ inl n ↦ inl (has_left ys (x ∷ []) z n) | inr n ↦ inr n ];
  live = λ z k' k e h. set_known x ys ps qs z k' k spoken_of e (elim (all.live z k' h) [ inl m ↦ inl (inl m) | inr n ↦ inr n ]);
})

-- ---- texts that are kept

-- the same ways, and nothing known after
pub fine_same : (t : ℕ) (ps : Facts) (a b : Text) → b.sited ≡ a.sited → b.steps ≤ a.steps → ((scope : Scope) (own : ℕ) → list_all (is_right scope own) a.mentioned ≡ true → list_all (is_right scope own) b.mentioned ≡ true) → b.flow ≡ a.flow → Fine t ps [] a b
fine_same t ps a b e l r same = record {
  sites_kept = e;
  no_longer = l;
  right = r;
  touched = λ z h. inl (subst (λ f. has (variables f) z ≡ true) same h);
  known = λ z h. absurd (cc h);
  live = λ z k' k x h. inl (live_more z a.flow k' k (all_exits z k' k x) (subst (λ f. live_before z f k' ≡ true) same h));
}

-- only reads
pub fine_reads : (t : ℕ) (ps : Facts) (site : List Site) (steps : ℕ) (ms ms' : List Mention) (xs ys : List ℕ) → ((scope : Scope) (own : ℕ) → list_all (is_right scope own) ms' ≡ true) → ((z : ℕ) → has ys z ≡ true → IsOneOf xs ps z)
    → Fine t ps ps (record { sited = site; steps = steps; mentioned = ms; flow = reads xs }) (record { sited = site; steps = steps; mentioned = ms'; flow = reads ys })
fine_reads t ps site steps ms ms' xs ys r within = record {
  sites_kept = refl;
  no_longer = omega arith;
  right = λ scope own h. r scope own;
  touched = λ z h. elim (within z h) [ inl m ↦ inl m | inr n ↦ inr (inr n) ];
  known = λ z h. inr h;
  live = λ z k' k e h. elim (or_cases (has ys z) (k' AtEnd) h) [
    | inl m ↦ elim (within z m) [ inl n ↦ inl (or_left (has xs z) (k AtEnd) n) | inr n ↦ inr n ]
    | inr n ↦ elim (e.at_end n) [ inl l ↦ inl (or_right (has xs z) (k AtEnd) l) | inr q ↦ inr q ]
  ];
}
