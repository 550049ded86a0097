-- What the walk finds of a program's calls is the answer.
use Rattle.std.proofs.Common.{◌≡◌, ℕ, zero, suc, ◌+◌, ◌*◌, ◌%◌, ◌<◌, ◌≤◌, List, [], ◌∷◌, ◌++◌, map, length, get_or, Bool, true, false, cond, refl, sym, ap, subst, arith}
use mathlib.Core.Path.{fun_ext}
use Rattle.std.specs.Prelude.{Some, None}
use Rattle.std.specs.List.{All, Contains, flat_map}
use Rattle.std.proofs.lemmas.List.{length-map}
use Rattle.std.proofs.lemmas.List.Elements.{All-head, All-tail, All-contains, All-contains_itself, All-map, All-weaker, Contains-append_left, Contains-append_right, Contains-append_cases}
use Rattle.std.proofs.Math.Logic.{inl, inr}
use Rattle.pan_stage.specs.Room.{AreCosts, IsCost, weight_of_all}
use Rattle.pan_stage.specs.Stage.{AtMost}
use Rattle.pan_stage.specs.Sums.{sum_of}
use Rattle.pan_stage.specs.declared.program.Program.{Program}
use Rattle.stack_lang.specs.Frames.{front_words}
use Rattle.stack_lang.specs.Text.{sites, Mention, Read, Function, Exception, mentions_layer, mentions}
use Rattle.stack_lang.specs.WellFormed.{IsWellFormed, IsFrame, IsRight, scope_of}
use Rattle.stack_lang.specs.declared.syntax.StackFun.{StackFun}
use Rattle.stack_lang.specs.declared.syntax.Stmt.{Stmt, Stmt-F, roll-Stmt, map-Stmt}
use Rattle.stack_lang.specs.declared.syntax.Stmt.TheOpen as stmt
use Rattle.stack_lang.proofs.Equations.{stmt_induct, mentions_roll}
use Rattle.stack_bound.specs.Calls.{calls_at, calls_in, CallsBy}
use Rattle.stack_bound.specs.Paths.{IsPath, HasNoCycle, IsKeptCycle}
use Rattle.stack_bound.specs.Depth.{IsCallPath, bytes, IsDeepest}
use Rattle.stack_bound.specs.Nodes.{node_of, calls_by, frame_by}
use Rattle.stack_bound.specs.Walks.{AreSound, IsWhole, IsFound}
use Rattle.stack_bound.specs.Bounds.{all_sites, frame_of, cost_of, IsBound, IsAnswer}
use Rattle.stack_bound.specs.declared.calls.Call.{Call}
use Rattle.stack_bound.specs.declared.calls.Node.{Node}
use Rattle.stack_bound.specs.declared.types.Bound.{Bound}
use Rattle.stack_bound.specs.declared.types.Bound.TheVariants.{Bytes, Cycle}
use Rattle.stack_bound.proofs.Rules.{calls_roll, calls_seq_at, calls_if_at, calls_while_at, calls_called_at, calls_guarded_at, calls_tail_at}
use Rattle.stack_bound.proofs.Enough.{suffices}

-- ---- the functions as the walk sees them

same_calls : (fs : List StackFun) (f : ℕ) → calls_by (map node_of fs) f ≡ calls_at (map (λ (g : StackFun). sites g.body) fs) f
unfolding calls_in
same_calls [] f = refl
same_calls (x ∷ xs) zero = refl
same_calls (x ∷ xs) (suc f) = same_calls xs f

same_frame : (fs : List StackFun) (f : ℕ) → frame_by (map node_of fs) f ≡ get_or (map (λ (g : StackFun). g.frame) fs) f 0
same_frame [] f = refl
same_frame (x ∷ xs) zero = refl
same_frame (x ∷ xs) (suc f) = same_frame xs f

same_frames : (fs : List StackFun) → map (λ (n : Node). n.frame) (map node_of fs) ≡ map (λ (g : StackFun). g.frame) fs
same_frames [] = refl
same_frames (x ∷ xs) = ap (λ ns. x.frame ∷ ns) (same_frames xs)

-- ---- sums

sum_at_most : (ns ms : List ℕ) → AtMost ns ms → sum_of ns ≤ sum_of ms
sum_at_most [] [] h = omega arith
sum_at_most [] (m ∷ ms) h = absurd h
sum_at_most (n ∷ ns) [] h = absurd h
sum_at_most (n ∷ ns) (m ∷ ms) h = let a = h.0 in let b = sum_at_most ns ms h.1 in omega arith

at_most_at : (ns ms : List ℕ) → AtMost ns ms → (i : ℕ) → get_or ns i 0 ≤ get_or ms i 0
at_most_at [] [] h i = omega arith
at_most_at [] (m ∷ ms) h i = absurd h
at_most_at (n ∷ ns) [] h i = absurd h
at_most_at (n ∷ ns) (m ∷ ms) h zero = h.0
at_most_at (n ∷ ns) (m ∷ ms) h (suc i) = at_most_at ns ms h.1 i

sum_of_costs : (costs : List ℕ) → All IsCost costs → sum_of costs ≡ 64 * length costs + 16 * weight_of_all costs
sum_of_costs [] h = omega arith
sum_of_costs (c ∷ cs) h = let a : IsCost c = All-head IsCost c cs h in let w = a.whole in let rest = sum_of_costs cs (All-tail IsCost c cs h) in omega arith

costs_small : (costs : List ℕ) → AreCosts costs → sum_of costs ≤ 4456448
costs_small costs h = let a = sum_of_costs costs h.each in let b = h.few in let c = h.light in omega arith

-- ---- paths of calls

-- the functions that calls lead to
abbrev functions_of : List Call → List ℕ
functions_of cs = map (λ (c : Call). c.function) cs

path_of_calls : (calls : ℕ → List Call) (f : ℕ) (cs : List Call) → IsCallPath calls f cs → IsPath (CallsBy calls) f (functions_of cs)
path_of_calls calls f [] p = tt
path_of_calls calls f (c ∷ cs) p = ((c, p.0, refl), path_of_calls calls c.function cs p.1)

-- a path costs what it takes, at least
paid_by : (calls : ℕ → List Call) (frame cost : ℕ → ℕ) → ((f : ℕ) → frame f ≤ cost f) → (f : ℕ) (cs : List Call) → bytes calls frame f cs ≤ sum_of (map cost (f ∷ functions_of cs))
paid_by calls frame cost le f [] = let a = le f in omega arith
paid_by calls frame cost le f (c ∷ cs) = by c.tail (paid_by calls frame cost le c.function cs)
  where
    by : (t : Bool) → bytes calls frame c.function cs ≤ sum_of (map cost (c.function ∷ functions_of cs)) → cond t (bytes calls frame c.function cs) (frame f + bytes calls frame c.function cs) ≤ cost f + sum_of (map cost (c.function ∷ functions_of cs))
    by true rest = omega arith
    by false rest = let b = le f in omega arith

whole_bytes : (calls : ℕ → List Call) (frame : ℕ → ℕ) → ((f : ℕ) → frame f % 16 ≡ 0) → (f : ℕ) (cs : List Call) → bytes calls frame f cs % 16 ≡ 0
whole_bytes calls frame whole f [] = whole f
whole_bytes calls frame whole f (c ∷ cs) = by c.tail (whole_bytes calls frame whole c.function cs)
  where
    by : (t : Bool) → bytes calls frame c.function cs % 16 ≡ 0 → cond t (bytes calls frame c.function cs) (frame f + bytes calls frame c.function cs) % 16 ≡ 0
    by true rest = rest
    by false rest = let b = whole f in omega arith

frames_whole : (fs : List StackFun) → All (λ (f : StackFun). IsFrame (front_words f) f.frame) fs → (i : ℕ) → get_or (map (λ (f : StackFun). f.frame) fs) i 0 % 16 ≡ 0
frames_whole [] h i = refl
frames_whole (x ∷ xs) h zero = (All-head (λ (f : StackFun). IsFrame (front_words f) f.frame) x xs h).whole
frames_whole (x ∷ xs) h (suc i) = frames_whole xs (All-tail (λ (f : StackFun). IsFrame (front_words f) f.frame) x xs h) i

-- ---- calls lead to functions

-- each of these calls is mentioned
record AreNamed (cs : List Call) (ms : List Mention) : Type 0 where
  at : (c : Call) → Contains cs c → Contains ms (Function c.function)

not_in_none : {A : Type 0} (x : A) → Contains [] x → ⊥
not_in_none x h = let l = h.1 in omega arith

none_named : (ms : List Mention) → AreNamed [] ms
none_named ms = record { at = λ c h. absurd (not_in_none c h) }

later : {A : Type 0} (x : A) (xs : List A) (y : A) → Contains xs y → Contains (x ∷ xs) y
later x xs y h = (suc h.0, let l = h.1 in omega arith, h.2)

later_named : (m : Mention) (cs : List Call) (ms : List Mention) → AreNamed cs ms → AreNamed cs (m ∷ ms)
later_named m cs ms h = record { at = λ c i. later m ms (Function c.function) (h.at c i) }

both_named : (cs ds : List Call) (ms ns : List Mention) → AreNamed cs ms → AreNamed ds ns → AreNamed (cs ++ ds) (ms ++ ns)
both_named cs ds ms ns h k =
    record { at = λ c i. elim (Contains-append_cases cs ds c i) [ inl a ↦ Contains-append_left ms ns (Function c.function) (h.at c a) | inr b ↦ Contains-append_right ms ns (Function c.function) (k.at c b) ] }

first_named : (d : Call) (cs : List Call) (ms : List Mention) → AreNamed cs ms → AreNamed (d ∷ cs) (Function d.function ∷ ms)
first_named d cs ms h = record { at = λ c i. by c i.0 i.1 i.2 }
  where
    by : (c : Call) (k : ℕ) → k < length (d ∷ cs) → get_or (d ∷ cs) k c ≡ c → Contains (Function d.function ∷ ms) (Function c.function)
    by c zero l e = (0, omega arith, ap (λ (x : Call). Function x.function) e)
    by c (suc k) l e = later (Function d.function) ms (Function c.function) (h.at c (k, omega arith, e))

abbrev StmtNamed : Stmt → Type 0
StmtNamed x = AreNamed (calls_in x) (mentions x)

abbrev Part : Type 0
Part = (x : Stmt) × StmtNamed x

abbrev stmts_of : List Part → List Stmt
stmts_of ps = map (λ (p : Part). p.0) ps

row_named : (ps : List Part) → AreNamed (flat_map calls_in (stmts_of ps)) (flat_map (λ ms. ms) (map mentions (stmts_of ps)))
row_named [] = none_named []
row_named (p ∷ ps) = both_named (calls_in p.0) (flat_map calls_in (stmts_of ps)) (mentions p.0) (flat_map (λ ms. ms) (map mentions (stmts_of ps))) p.1 (row_named ps)

abbrev parts : Stmt-F Part → Stmt-F Stmt
parts y = map-Stmt Part Stmt (λ p. p.0) y

abbrev said : Stmt-F Part → List Mention
said y = mentions_layer (map-Stmt Stmt (List Mention) mentions (parts y))

-- where the calls are these, and these are mentioned
as_named : (x : Stmt) (cs : List Call) (ms : List Mention) → calls_in x ≡ cs → AreNamed cs ms → AreNamed (calls_in x) ms
as_named x cs ms is h = subst (λ ds. AreNamed ds ms) (sym is) h

layer_named : (y : Stmt-F Part) → AreNamed (calls_in (roll-Stmt (parts y))) (said y)
layer_named (stmt.Seq all) = as_named _ _ _ (calls_seq_at (stmts_of all)) (row_named all)
layer_named (stmt.Plain i) = as_named _ _ _ (calls_roll (stmt.Plain i)) (none_named _)
layer_named (stmt.Get r k) = as_named _ _ _ (calls_roll (stmt.Get r k)) (none_named _)
layer_named (stmt.Put k r) = as_named _ _ _ (calls_roll (stmt.Put k r)) (none_named _)
layer_named (stmt.SharedLoad n rd rs1 imm) = as_named _ _ _ (calls_roll (stmt.SharedLoad n rd rs1 imm)) (none_named _)
layer_named (stmt.SharedStore n rs1 rs2 imm) = as_named _ _ _ (calls_roll (stmt.SharedStore n rs1 rs2 imm)) (none_named _)
layer_named (stmt.Foreign i) = as_named _ _ _ (calls_roll (stmt.Foreign i)) (none_named _)
layer_named (stmt.If c a b x y) =
    as_named _ _ _ (calls_if_at c a b x.0 y.0)
    (later_named (Read a) _ _ (later_named (Read b) _ _ (both_named (calls_in x.0) (calls_in y.0) (mentions x.0) (mentions y.0) x.1 y.1)))
layer_named (stmt.While before c a b y) =
    as_named _ _ _ (calls_while_at (stmts_of before) c a b y.0)
    (both_named (flat_map calls_in (stmts_of before)) (calls_in y.0) (flat_map (λ ms. ms) (map mentions (stmts_of before))) (Read a ∷ Read b ∷ mentions y.0) (row_named before)
    (later_named (Read a) _ _ (later_named (Read b) _ _ y.1)))
layer_named stmt.Break = as_named _ _ _ (calls_roll stmt.Break) (none_named _)
layer_named stmt.Continue = as_named _ _ _ (calls_roll stmt.Continue) (none_named _)
layer_named (stmt.Call f x None) =
    as_named _ _ _ (calls_called_at f x.0)
    (first_named (record { function = f; tail = false }) (calls_in x.0) (mentions x.0 ++ []) (record { at = λ c i. Contains-append_left (mentions x.0) [] (Function c.function) ((x.1).at c i) }))
layer_named (stmt.Call f x (Some h)) =
    as_named _ _ _ (calls_guarded_at f x.0 (record { exception = h.exception; body = (h.body).0 }))
    (first_named (record { function = f; tail = false }) (calls_in x.0 ++ calls_in (h.body).0) (mentions x.0 ++ (Exception h.exception ∷ mentions (h.body).0))
    (both_named (calls_in x.0) (calls_in (h.body).0) (mentions x.0) (Exception h.exception ∷ mentions (h.body).0) x.1 (later_named (Exception h.exception) _ _ (h.body).1)))
layer_named (stmt.TailCall f) = as_named _ _ _ (calls_tail_at f) (first_named (record { function = f; tail = true }) [] [] (none_named []))
layer_named stmt.Return = as_named _ _ _ (calls_roll stmt.Return) (none_named _)
layer_named (stmt.Raise i) = as_named _ _ _ (calls_roll (stmt.Raise i)) (none_named _)

named : (x : Stmt) → StmtNamed x
named = stmt_induct StmtNamed (λ y. subst (AreNamed (calls_in (roll-Stmt (parts y)))) (sym (mentions_roll (parts y))) (layer_named y))

-- the calls of a function lead to functions
calls_inside : (p : Program StackFun) (f : StackFun) → All (IsRight (scope_of p f)) (mentions f.body) → All (λ (c : Call). c.function < length p.functions) (calls_in f.body)
calls_inside p f h =
    All-weaker (Contains (calls_in f.body)) (λ (c : Call). c.function < length p.functions)
    (λ c i. All-contains (IsRight (scope_of p f)) (mentions f.body) (Function c.function) h ((named f.body).at c i)) (calls_in f.body) (All-contains_itself (calls_in f.body))

-- ---- the whole

module _ (p : Program StackFun) (formed : IsWellFormed p) where
  abbrev nodes : List Node
  nodes = map node_of p.functions

  frames_within : AtMost (map (λ (f : StackFun). f.frame) p.functions) (map (λ (f : StackFun). f.cost) p.functions)
  frames_within = ((formed.room).within).frames

  frames_small : sum_of (map (λ (n : Node). n.frame) nodes) ≤ 4456448
  frames_small =
      let e = ap sum_of (same_frames p.functions) in
      let a = sum_at_most _ _ frames_within in
      let b = costs_small _ (formed.room).priced in
      omega arith

  pub sound : AreSound nodes
  sound =
      record {
        inside = All-map (λ (n : Node). All (λ (c : Call). c.function < length nodes) n.calls) node_of p.functions
            (All-weaker (λ (f : StackFun). All (IsRight (scope_of p f)) (mentions f.body)) (λ (f : StackFun). All (λ (c : Call). c.function < length nodes) (calls_in f.body))
            (λ f h. subst (λ k. All (λ (c : Call). c.function < k) (calls_in f.body)) (sym (length-map p.functions node_of)) (calls_inside p f h)) p.functions formed.right);
        small = frames_small;
      }

  pub main_inside : p.main < length nodes
  main_inside = let e = length-map p.functions node_of in let m = formed.main in omega arith

  is_calls : calls_by nodes ≡ calls_at (all_sites p)
  is_calls = fun_ext (same_calls p.functions)

  is_frames : frame_by nodes ≡ frame_of p
  is_frames = fun_ext (same_frame p.functions)

  is_bound : (n : ℕ) → IsWhole nodes p.main n → IsBound p n
  is_bound n h =
      record {
        no_cycle = subst (λ k. HasNoCycle (CallsBy k) p.main) is_calls (h.finished).no_cycle;
        deepest = deepest;
        whole = subst (λ k. k % 16 ≡ 0) (deepest.some).2 (whole_bytes (calls_at (all_sites p)) (frame_of p) (frames_whole p.functions formed.frames) p.main (deepest.some).0);
        small = let a = h.small in let b = frames_small in omega arith;
        paid = record {
          through = functions_of (deepest.some).0;
          path = path_of_calls (calls_at (all_sites p)) p.main (deepest.some).0 (deepest.some).1;
          within = subst (λ k. k ≤ sum_of (map (cost_of p) (p.main ∷ functions_of (deepest.some).0))) (deepest.some).2
              (paid_by (calls_at (all_sites p)) (frame_of p) (cost_of p) (at_most_at _ _ frames_within) p.main (deepest.some).0);
        };
        enough = suffices p n deepest;
      }
    where
      deepest : IsDeepest (calls_at (all_sites p)) (frame_of p) p.main n
      deepest = subst (λ k. IsDeepest k (frame_of p) p.main n) is_calls (subst (λ k. IsDeepest (calls_by nodes) k p.main n) is_frames (h.finished).deepest)

  pub answers : (b : Bound) → IsFound nodes p.main b → IsAnswer p b
  answers (Bytes n) h = is_bound n h
  answers (Cycle fs) h = subst (λ k. IsKeptCycle (CallsBy k) p.main fs) is_calls h

  -- the same of a row that is that of the functions
  pub sound_as : (row : List Node) → row ≡ nodes → AreSound row
  sound_as row is = subst AreSound (sym is) sound

  pub main_as : (row : List Node) → row ≡ nodes → p.main < length row
  main_as row is = subst (λ ns. p.main < length ns) (sym is) main_inside

  pub answers_as : (row : List Node) → row ≡ nodes → (b : Bound) → IsFound row p.main b → IsAnswer p b
  answers_as row is b h = answers b (subst (λ ns. IsFound ns p.main b) is h)
