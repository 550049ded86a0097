-- What the walk knows stays true: when a call is counted, when a function is entered, and when it is left.
use Rattle.std.proofs.Common.{◌≡◌, ◌≢◌, ℕ, zero, suc, ◌+◌, ◌-◌, ◌<◌, ◌≤◌, max, List, [], ◌∷◌, ◌++◌, map, length, take, drop, get_or, set, Bool, true, false, cond, refl, sym, ap, ◌∙◌, subst, arith}
use Rattle.std.specs.Prelude.{nat_le, nat_eq, Some}
use Rattle.std.specs.List.{All, Contains}
use Rattle.std.proofs.lemmas.Bool.Decides.{nat_tests}
use Rattle.std.proofs.lemmas.List.{length-map, map-append, length-set, get_or-set_same, get_or-set_other, get_or_append_left, get_or_at, drop_more, drop_all, length_push, length-drop}
use Rattle.std.proofs.lemmas.List.Elements.{All-nil, All-cons, All-same, All-push, All-pop, All-weaker, All-contains, All-from_get_or, All-append, All-drop, All-take}
use Rattle.stack_bound.specs.Calls.{CallsBy}
use Rattle.stack_bound.specs.Paths.{last_of, IsPath, HasNoCycle, IsReachedCycle, IsKeptCycle, BeginsLeast}
use Rattle.stack_bound.specs.Depth.{with_caller, IsCallPath, bytes}
use Rattle.stack_bound.specs.Nodes.{no_node, node_at, calls_by, frame_by}
use Rattle.stack_bound.specs.Walks.{way, main_of, AreUnseen, AreSound, IsFinished, IsCounted, IsVisit, IsNext, IsMarked, IsWay, own_frame, IsWalk, unlooked, GoesOn, IsWhole, IsTurned}
use Rattle.stack_bound.specs.declared.calls.Call.{Call}
use Rattle.stack_bound.specs.declared.calls.Node.{Node}
use Rattle.stack_bound.specs.declared.walk.Mark.{Mark}
use Rattle.stack_bound.specs.declared.walk.Mark.TheVariants.{Unseen, Open, Done}
use Rattle.stack_bound.specs.declared.walk.Visit.{Visit}
use Rattle.stack_bound.specs.declared.walk.Walk.{Walk}
use Rattle.stack_bound.proofs.Paths.{last_append, path_on, path_front, no_cycle_above, turned_cycle}
use Rattle.stack_bound.proofs.Marks.{sum_push_map, unseen_within, opened, done, get_or_map, first_on, before_last}

with_caller_more : (own : ℕ) (c : Call) (a b : ℕ) → a ≤ b → with_caller own c a ≤ with_caller own c b
with_caller_more own c a b le = by c.tail
  where
    by : (t : Bool) → cond t a (own + a) ≤ cond t b (own + b)
    by true = le
    by false = omega arith

-- what a call adds, by the frame that stays above it
with_caller_sum : (own n : ℕ) (c : Call) (below : ℕ) → n ≡ cond c.tail 0 own → (with_caller own c below ≡ n + below) × (n ≤ own)
with_caller_sum own n c below e = by c.tail e
  where
    by : (t : Bool) → n ≡ cond t 0 own → (cond t below (own + below) ≡ n + below) × (n ≤ own)
    by true e = (omega arith, omega arith)
    by false e = (omega arith, omega arith)

module _ (nodes : List Node) where
  abbrev calls : ℕ → List Call
  calls = calls_by nodes

  abbrev frame : ℕ → ℕ
  frame = frame_by nodes

  abbrev frames : List ℕ
  frames = map (λ (node : Node). node.frame) nodes

  abbrev works : List ℕ
  works = map (λ (node : Node). 2 + length node.calls) nodes

  -- ---- a function whose calls are all counted

  pub visit_finished : (total : ℕ) (v : Visit) → IsVisit nodes total v → v.ahead ≡ 0 → IsFinished nodes v.function v.bytes
  visit_finished total v h none =
      record {
        no_cycle = no_cycle_above (CallsBy calls) v.function (λ g e. subst (HasNoCycle (CallsBy calls)) e.2 ((counted e.0 e.1).finished).no_cycle);
        deepest = record { most = most; some = h.some };
      }
    where
      all : All (IsCounted nodes v.function v.bytes) (calls v.function)
      all = subst (λ k. All (IsCounted nodes v.function v.bytes) (drop k (calls v.function))) none h.counted

      counted : (c : Call) → Contains (calls v.function) c → IsCounted nodes v.function v.bytes c
      counted c i = All-contains (IsCounted nodes v.function v.bytes) (calls v.function) c all i

      most : (cs : List Call) → IsCallPath calls v.function cs → bytes calls frame v.function cs ≤ v.bytes
      most [] p = h.own
      most (c ∷ cs) p =
          let k = counted c p.0 in
          let a = ((k.finished).deepest).most cs p.1 in
          let b = with_caller_more (frame v.function) c (bytes calls frame c.function cs) k.below a in
          let w = k.within in
          omega arith

  pub visit_later : (total more : ℕ) → total ≤ more → (v : Visit) → IsVisit nodes total v → IsVisit nodes more v
  visit_later total more le v h = record { inside = h.inside; ahead = h.ahead; counted = h.counted; own = h.own; some = h.some; small = let s = h.small in omega arith }

  -- ---- the next call

  next_within : (total : ℕ) (v : Visit) (c : Call) (h : IsVisit nodes total v) (next : IsNext nodes v c) → next.before < length (calls v.function)
  next_within total v c h next = let a = h.ahead in let b = next.ahead in omega arith

  next_contained : (total : ℕ) (v : Visit) (c : Call) → IsVisit nodes total v → IsNext nodes v c → Contains (calls v.function) c
  next_contained total v c h next = (next.before, next_within total v c h next, next.call)

  pub next_inside : AreSound nodes → (total : ℕ) (v : Visit) (c : Call) → IsVisit nodes total v → IsNext nodes v c → c.function < length nodes
  next_inside sound total v c h next =
      let at : All (λ (d : Call). d.function < length nodes) (node_at nodes v.function).calls = sound.inside v.function no_node h.inside in
      subst (λ (d : Call). d.function < length nodes) next.call (at next.before c (next_within total v c h next))

  -- ---- a call is counted

  pub visit_counted : (total : ℕ) (v : Visit) (c : Call) (below own more : ℕ) → IsVisit nodes total v → IsNext nodes v c → IsFinished nodes c.function below → below ≤ total
      → own ≡ cond c.tail 0 (frame v.function) → more ≡ max v.bytes (own + below) → IsVisit nodes total (record { function = v.function; ahead = v.ahead - 1; bytes = more })
  visit_counted total v c below own more h next finished small is_own is_more =
      record {
        inside = h.inside;
        ahead = let a = h.ahead in omega arith;
        counted = subst (λ k. All (IsCounted nodes v.function more) (drop k (calls v.function))) one_less (All-same (IsCounted nodes v.function more) _ _ (drop_more (calls v.function) next.before c lt ∙ ap (λ d. d ∷ drop (next.before + 1) (calls v.function)) next.call) (All-cons (IsCounted nodes v.function more) c _ here others));
        own = let a = h.own in omega arith;
        some = chosen (nat_le v.bytes (own + below)) refl;
        small = let a = h.small in let b = sums.1 in omega arith;
      }
    where
      lt : next.before < length (calls v.function)
      lt = next_within total v c h next

      one_less : next.before ≡ v.ahead - 1
      one_less = let e = next.ahead in omega arith

      sums : (with_caller (frame v.function) c below ≡ own + below) × (own ≤ frame v.function)
      sums = with_caller_sum (frame v.function) own c below is_own

      here : IsCounted nodes v.function more c
      here = record { below = below; finished = finished; within = let e = sums.0 in omega arith }

      others : All (IsCounted nodes v.function more) (drop (next.before + 1) (calls v.function))
      others =
          All-weaker (IsCounted nodes v.function v.bytes) (IsCounted nodes v.function more) (λ d k. record { below = k.below; finished = k.finished; within = let w = k.within in omega arith }) (drop (next.before + 1) (calls v.function))
          (subst (λ k. All (IsCounted nodes v.function v.bytes) (drop k (calls v.function))) next.ahead h.counted)

      chosen : (b : Bool) → nat_le v.bytes (own + below) ≡ b → (cs : List Call) × IsCallPath calls v.function cs × (bytes calls frame v.function cs ≡ more)
      chosen true e =
          let path = (finished.deepest).some in
          let le : v.bytes ≤ own + below = grind (arith, nat_tests) in
          (c ∷ path.0, (next_contained total v c h next, path.1), ap (λ n. with_caller (frame v.function) c n) path.2 ∙ sums.0 ∙ (let is : own + below ≡ more = omega arith in is))
      chosen false e =
          let path = h.some in
          let lt : own + below < v.bytes = grind (arith, nat_tests) in
          (path.0, path.1, path.2 ∙ (let is : v.bytes ≡ more = omega arith in is))

  abbrev counted_visit : Visit → ℕ → Visit
  counted_visit v more = record { function = v.function; ahead = v.ahead - 1; bytes = more }

  pub counts : (w : Walk) (c : Call) (below own more : ℕ) → IsWalk nodes w → IsNext nodes w.current c → get_or w.marks c.function Unseen ≡ Done below
      → own ≡ cond c.tail 0 (frame (w.current).function) → more ≡ max (w.current).bytes (own + below) → GoesOn nodes w (record { marks = w.marks; callers = w.callers; current = counted_visit w.current more })
  counts w c below own more h next is_done is_own is_more =
      let mark : IsMarked nodes (way w) h.finished c.function (Done below) = subst (IsMarked nodes (way w) h.finished c.function) is_done (h.marks c.function) in
      record {
        walk = record {
          count = h.count;
          path = h.path;
          finished = h.finished;
          marks = h.marks;
          callers = h.callers;
          current = visit_counted h.finished w.current c below own more h.current next mark.0 mark.1 is_own is_more;
          within = h.within;
        };
        main = refl;
        less = let e = next.ahead in omega arith;
      }

  -- ---- a function is entered

  way_on : (xs : List ℕ) (y g : ℕ) → IsWay nodes (xs ++ y ∷ []) → CallsBy calls y g → IsWay nodes ((xs ++ y ∷ []) ++ g ∷ [])
  way_on [] y g p e = (e, tt)
  way_on (f ∷ fs) y g p e = path_on (CallsBy calls) f (fs ++ y ∷ []) (g ∷ []) p (subst (λ x. CallsBy calls x g) (sym (last_append f fs y [])) e, tt)

  way_back : (xs : List ℕ) (y g : ℕ) → IsWay nodes ((xs ++ y ∷ []) ++ g ∷ []) → IsWay nodes (xs ++ y ∷ [])
  way_back [] y g p = tt
  way_back (f ∷ fs) y g p = path_front (CallsBy calls) f (fs ++ y ∷ []) (g ∷ []) p

  abbrev numbers : List Visit → List ℕ
  numbers vs = map (λ (v : Visit). v.function) vs

  -- a mark says the same of a longer way
  mark_on : (fs : List ℕ) (g total f : ℕ) (m : Mark) → IsMarked nodes fs total f m → IsMarked nodes (fs ++ g ∷ []) total f m
  mark_on fs g total f Unseen h = tt
  mark_on fs g total f (Open place) h = (let a = h.0 in let b = length_push fs g in omega arith, get_or_append_left fs (g ∷ []) 0 place h.0 ∙ h.1)
  mark_on fs g total f (Done n) h = h

  abbrev new_visit : ℕ → Visit
  new_visit g = record { function = g; ahead = length (calls g); bytes = frame g }

  new_is_visit : (total g : ℕ) → g < length nodes → IsVisit nodes total (new_visit g)
  new_is_visit total g lt =
      let all : length (calls g) ≤ length (calls g) = omega arith in
      record {
        inside = lt;
        ahead = all;
        counted = All-same (IsCounted nodes g (frame g)) _ _ (drop_all (length (calls g)) (calls g) all) (All-nil (IsCounted nodes g (frame g)));
        own = let le : frame g ≤ frame g = omega arith in le;
        some = ([], tt, refl);
        small = let le : frame g ≤ frame g + total = omega arith in le;
      }

  work_at : (g : ℕ) → get_or works g 0 ≤ 2 + length (calls g)
  work_at g = at nodes g
    where
      at : (ns : List Node) (g : ℕ) → get_or (map (λ (node : Node). 2 + length node.calls) ns) g 0 ≤ 2 + length (calls_by ns g)
      at [] g = omega arith
      at (n ∷ ns) zero = omega arith
      at (n ∷ ns) (suc g) = at ns g

  work_from : (g : ℕ) → g < length nodes → get_or works g 0 ≡ 2 + length (calls g)
  work_from g lt = at nodes g lt
    where
      at : (ns : List Node) (g : ℕ) → g < length ns → get_or (map (λ (node : Node). 2 + length node.calls) ns) g 0 ≡ 2 + length (calls_by ns g)
      at [] g lt = absurd (omega arith)
      at (n ∷ ns) zero lt = refl
      at (n ∷ ns) (suc g) lt = at ns g (omega arith)

  frame_from : (g : ℕ) → get_or frames g 0 ≡ frame g
  frame_from g = get_or_map (λ (node : Node). node.frame) no_node refl nodes g

  -- the place of the next function on the way
  abbrev place_of : Walk → ℕ
  place_of w = length (w.callers ++ w.current ∷ [])

  pub enters : (w : Walk) (c : Call) → AreSound nodes → IsWalk nodes w → IsNext nodes w.current c → get_or w.marks c.function Unseen ≡ Unseen
      → GoesOn nodes w (record { marks = set w.marks c.function (Open (place_of w)); callers = w.callers ++ w.current ∷ []; current = new_visit c.function })
  enters w c sound h next unseen =
      record {
        walk = record {
          count = length-set w.marks c.function (Open (place_of w)) ∙ h.count;
          path = subst (IsWay nodes) (sym longer) (way_on (numbers w.callers) (w.current).function c.function h.path (c, next_contained h.finished w.current c h.current next, refl));
          finished = h.finished;
          marks = λ f. subst (λ fs. IsMarked nodes fs h.finished f (get_or (set w.marks c.function (Open (place_of w))) f Unseen)) (sym longer) (marked f (nat_eq f c.function) refl);
          callers = All-push (IsVisit nodes h.finished) w.callers w.current h.callers h.current;
          current = new_is_visit h.finished c.function inside;
          within =
              let a = opened frames w.marks c.function (place_of w) in_marks (h.count ∙ sym (length-map nodes (λ (node : Node). node.frame))) unseen in
              let b = frame_from c.function in
              let s = sum_push_map (own_frame nodes) w.callers w.current in
              let k = h.within in
              omega arith;
        };
        main = ap (λ fs. get_or fs 0 0) longer ∙ first_on (numbers w.callers) (w.current).function c.function;
        less =
            let a = opened works w.marks c.function (place_of w) in_marks (h.count ∙ sym (length-map nodes (λ (node : Node). 2 + length node.calls))) unseen in
            let b = work_from c.function inside in
            let s = sum_push_map (unlooked nodes) w.callers w.current in
            omega arith;
      }
    where
      inside : c.function < length nodes
      inside = next_inside sound h.finished w.current c h.current next

      in_marks : c.function < length w.marks
      in_marks = let e = h.count in let i = inside in omega arith

      longer : numbers (w.callers ++ w.current ∷ []) ++ c.function ∷ [] ≡ way w ++ c.function ∷ []
      longer = ap (λ fs. fs ++ c.function ∷ []) (map-append (λ (v : Visit). v.function) w.callers (w.current ∷ []))

      marked : (f : ℕ) (b : Bool) → nat_eq f c.function ≡ b → IsMarked nodes (way w ++ c.function ∷ []) h.finished f (get_or (set w.marks c.function (Open (place_of w))) f Unseen)
      marked f true e =
          let same : f ≡ c.function = grind (arith, nat_tests) in
          let long : length (way w) ≡ (place_of w) = ap length (sym (map-append (λ (v : Visit). v.function) w.callers (w.current ∷ []))) ∙ length-map (w.callers ++ w.current ∷ []) (λ (v : Visit). v.function) in
          subst (IsMarked nodes (way w ++ c.function ∷ []) h.finished f) (sym (ap (λ i. get_or (set w.marks c.function (Open (place_of w))) i Unseen) same ∙ get_or-set_same w.marks c.function (Open (place_of w)) Unseen in_marks))
          (let l = length_push (way w) c.function in omega arith, get_or_at (way w) c.function [] 0 (place_of w) long ∙ sym same)
      marked f false e =
          let other : f ≢ c.function = grind (arith, nat_tests) in
          subst (IsMarked nodes (way w ++ c.function ∷ []) h.finished f) (sym (get_or-set_other w.marks c.function f (Open (place_of w)) Unseen other))
          (mark_on (way w) c.function h.finished f (get_or w.marks f Unseen) (h.marks f))

  -- the same, as the code has it
  pub enters_as : (w : Walk) (c : Call) (marks : List Mark) (callers : List Visit) (current : Visit) (place : ℕ) → AreSound nodes → IsWalk nodes w → IsNext nodes w.current c → get_or w.marks c.function Unseen ≡ Unseen
      → callers ≡ w.callers ++ w.current ∷ [] → place ≡ length callers → marks ≡ set w.marks c.function (Open place) → current ≡ new_visit c.function → GoesOn nodes w (record { marks = marks; callers = callers; current = current })
  enters_as w c marks callers current place sound h next unseen is_callers is_place is_marks is_current =
      let m : marks ≡ set w.marks c.function (Open (place_of w)) = is_marks ∙ ap (λ i. set w.marks c.function (Open i)) (is_place ∙ ap length is_callers) in
      subst (λ x. GoesOn nodes w (record { marks = x; callers = callers; current = current })) (sym m)
      (subst (λ x. GoesOn nodes w (record { marks = set w.marks c.function (Open (place_of w)); callers = x; current = current })) (sym is_callers)
      (subst (λ x. GoesOn nodes w (record { marks = set w.marks c.function (Open (place_of w)); callers = w.callers ++ w.current ∷ []; current = x })) (sym is_current) (enters w c sound h next unseen)))

  -- ---- a function is left

  -- a mark says the same of a shorter way, of a function that isn't the last
  mark_back : (fs : List ℕ) (g total more f : ℕ) (m : Mark) → total ≤ more → f ≢ g → IsMarked nodes (fs ++ g ∷ []) total f m → IsMarked nodes fs more f m
  mark_back fs g total more f Unseen le ne h = tt
  mark_back fs g total more f (Open place) le ne h = before_last fs g place f h.0 h.1 ne
  mark_back fs g total more f (Done n) le ne h = (h.0, let a = h.1 in omega arith)

  pub leaves_to : (marks : List Mark) (callers : List Visit) (caller current : Visit) → IsWalk nodes (record { marks = marks; callers = callers ++ caller ∷ []; current = current }) → current.ahead ≡ 0
      → GoesOn nodes (record { marks = marks; callers = callers ++ caller ∷ []; current = current }) (record { marks = set marks current.function (Done current.bytes); callers = callers; current = caller })
  leaves_to marks callers caller current h none =
      record {
        walk = record {
          count = length-set marks current.function (Done current.bytes) ∙ h.count;
          path = way_back (numbers callers) caller.function current.function (subst (IsWay nodes) shorter h.path);
          finished = (h.finished + frame current.function);
          marks = λ f. marked f (nat_eq f current.function) refl;
          callers = All-weaker (IsVisit nodes h.finished) (IsVisit nodes (h.finished + frame current.function)) (visit_later h.finished (h.finished + frame current.function) more) callers both.0;
          current = visit_later h.finished (h.finished + frame current.function) more caller both.1;
          within =
              let a = done frames marks current.function current.bytes in
              let s = sum_push_map (own_frame nodes) callers caller in
              let k = h.within in
              omega arith;
        };
        main = sym (ap (λ fs. get_or fs 0 0) shorter ∙ first_on (numbers callers) caller.function current.function);
        less =
            let a = done works marks current.function current.bytes in
            let s = sum_push_map (unlooked nodes) callers caller in
            omega arith;
      }
    where
      more : h.finished ≤ (h.finished + frame current.function)
      more = omega arith

      both : All (IsVisit nodes h.finished) callers × IsVisit nodes h.finished caller
      both = All-pop (IsVisit nodes h.finished) (callers ++ caller ∷ []) callers (Some caller) refl h.callers

      shorter : numbers (callers ++ caller ∷ []) ++ current.function ∷ [] ≡ (numbers callers ++ caller.function ∷ []) ++ current.function ∷ []
      shorter = ap (λ fs. fs ++ current.function ∷ []) (map-append (λ (v : Visit). v.function) callers (caller ∷ []))

      in_marks : current.function < length marks
      in_marks = let e = h.count in let i = (h.current).inside in omega arith

      marked : (f : ℕ) (b : Bool) → nat_eq f current.function ≡ b → IsMarked nodes (numbers callers ++ caller.function ∷ []) (h.finished + frame current.function) f (get_or (set marks current.function (Done current.bytes)) f Unseen)
      marked f true e =
          let same : f ≡ current.function = grind (arith, nat_tests) in
          subst (IsMarked nodes (numbers callers ++ caller.function ∷ []) (h.finished + frame current.function) f) (sym (ap (λ i. get_or (set marks current.function (Done current.bytes)) i Unseen) same ∙ get_or-set_same marks current.function (Done current.bytes) Unseen in_marks))
          (subst (λ i. IsFinished nodes i current.bytes) (sym same) (visit_finished h.finished current h.current none), let s = (h.current).small in omega arith)
      marked f false e =
          let other : f ≢ current.function = grind (arith, nat_tests) in
          subst (IsMarked nodes (numbers callers ++ caller.function ∷ []) (h.finished + frame current.function) f) (sym (get_or-set_other marks current.function f (Done current.bytes) Unseen other))
          (mark_back (numbers callers ++ caller.function ∷ []) current.function h.finished (h.finished + frame current.function) f (get_or marks f Unseen) more other (subst (λ fs. IsMarked nodes fs h.finished f (get_or marks f Unseen)) shorter (h.marks f)))

  -- the same, as the code has it
  pub leaves_as : (w : Walk) (marks : List Mark) (callers : List Visit) (caller : Visit) → IsWalk nodes w → (w.current).ahead ≡ 0 → w.callers ≡ callers ++ caller ∷ [] → marks ≡ set w.marks (w.current).function (Done (w.current).bytes)
      → GoesOn nodes w (record { marks = marks; callers = callers; current = caller })
  leaves_as w marks callers caller h none is_callers is_marks =
      subst (λ x. GoesOn nodes w (record { marks = x; callers = callers; current = caller })) (sym is_marks)
      (subst (λ x. GoesOn nodes (record { marks = w.marks; callers = x; current = w.current }) (record { marks = set w.marks (w.current).function (Done (w.current).bytes); callers = callers; current = caller })) (sym is_callers)
      (leaves_to w.marks callers caller w.current (subst (λ x. IsWalk nodes (record { marks = w.marks; callers = x; current = w.current })) is_callers h) none))

  -- main is left
  pub leaves_main : (marks : List Mark) (current : Visit) → IsWalk nodes (record { marks = marks; callers = []; current = current }) → current.ahead ≡ 0 → IsWhole nodes current.function current.bytes
  leaves_main marks current h none =
      record {
        finished = visit_finished h.finished current h.current none;
        small = let s = (h.current).small in let k = h.within in omega arith;
      }

  pub leaves_main_as : (w : Walk) → IsWalk nodes w → (w.current).ahead ≡ 0 → w.callers ≡ [] → IsWhole nodes (main_of w) (w.current).bytes
  leaves_main_as w h none is_callers =
      subst (λ x. IsWhole nodes (main_of (record { marks = w.marks; callers = x; current = w.current })) (w.current).bytes) (sym is_callers)
      (leaves_main w.marks w.current (subst (λ x. IsWalk nodes (record { marks = w.marks; callers = x; current = w.current })) is_callers h) none)

  -- ---- a cycle

  cycle_from_caller : (f g : ℕ) (xs : List ℕ) → CallsBy calls f g → IsReachedCycle (CallsBy calls) g xs → IsReachedCycle (CallsBy calls) f xs
  cycle_from_caller f g [] e h = h
  cycle_from_caller f g (x ∷ xs) e h = let r = h.0 in (record { through = g ∷ r.through; path = (e, r.path); ends = r.ends }, h.1)

  closed_on : (f : ℕ) (gs : List ℕ) (place : ℕ) → IsPath (CallsBy calls) f gs → place < length (f ∷ gs) → CallsBy calls (last_of f gs) (get_or (f ∷ gs) place 0) → IsReachedCycle (CallsBy calls) f (drop place (f ∷ gs))
  closed_on f gs zero p l e = (record { through = []; path = tt; ends = refl }, path_on (CallsBy calls) f gs (f ∷ []) p (e, tt))
  closed_on f [] (suc k) p l e = absurd (omega arith)
  closed_on f (g ∷ gs) (suc k) p l e = cycle_from_caller f g (drop k (g ∷ gs)) p.0 (closed_on g gs k p.1 (omega arith) e)

  closed_way : (xs : List ℕ) (y place g : ℕ) → IsWay nodes (xs ++ y ∷ []) → place < length (xs ++ y ∷ []) → get_or (xs ++ y ∷ []) place 0 ≡ g → CallsBy calls y g → IsReachedCycle (CallsBy calls) (get_or (xs ++ y ∷ []) 0 0) (drop place (xs ++ y ∷ []))
  closed_way [] y place g p l is e = closed_on y [] place p l (subst (CallsBy calls y) (sym is) e)
  closed_way (x ∷ xs) y place g p l is e = closed_on x (xs ++ y ∷ []) place p l (subst (λ z. CallsBy calls z (get_or (x ∷ (xs ++ y ∷ [])) place 0)) (sym (last_append x xs y [])) (subst (CallsBy calls y) (sym is) e))

  -- a call of a function on the way closes a cycle
  pub closes : (w : Walk) (c : Call) (place : ℕ) → IsWalk nodes w → IsNext nodes w.current c → get_or w.marks c.function Unseen ≡ Open place
      → (place < length (way w)) × IsReachedCycle (CallsBy calls) (main_of w) (drop place (way w))
  closes w c place h next is =
      let mark : IsMarked nodes (way w) h.finished c.function (Open place) = subst (IsMarked nodes (way w) h.finished c.function) is (h.marks c.function) in
      (mark.0, closed_way (numbers w.callers) (w.current).function place c.function h.path mark.0 mark.1 (c, next_contained h.finished w.current c h.current next, refl))

  -- ---- the start

  pub starts : (main : ℕ) (marks : List Mark) → main < length nodes → length marks ≡ length nodes → AreUnseen marks → IsWalk nodes (record { marks = set marks main (Open 0); callers = []; current = new_visit main })
  starts main marks lt long unseen =
      record {
        count = length-set marks main (Open 0) ∙ long;
        path = tt;
        finished = 0;
        marks = λ f. marked f (nat_eq f main) refl;
        callers = All-nil (IsVisit nodes 0);
        current = new_is_visit 0 main lt;
        within =
            let a = opened frames marks main 0 (omega arith) (long ∙ sym (length-map nodes (λ (node : Node). node.frame))) (unseen main) in
            let b = frame_from main in
            let s = unseen_within frames marks in
            omega arith;
      }
    where
      marked : (f : ℕ) (b : Bool) → nat_eq f main ≡ b → IsMarked nodes (main ∷ []) 0 f (get_or (set marks main (Open 0)) f Unseen)
      marked f true e =
          let same : f ≡ main = grind (arith, nat_tests) in
          subst (IsMarked nodes (main ∷ []) 0 f) (sym (ap (λ i. get_or (set marks main (Open 0)) i Unseen) same ∙ get_or-set_same marks main (Open 0) Unseen (omega arith))) (omega arith, sym same)
      marked f false e =
          let other : f ≢ main = grind (arith, nat_tests) in
          subst (IsMarked nodes (main ∷ []) 0 f) (sym (get_or-set_other marks main f (Open 0) Unseen other ∙ unseen f)) tt

  pub starts_as : (main : ℕ) (before marks : List Mark) (current : Visit) → main < length nodes → length before ≡ length nodes → AreUnseen before → marks ≡ set before main (Open 0) → current ≡ new_visit main
      → IsWalk nodes (record { marks = marks; callers = []; current = current }) × (current.function ≡ main)
  starts_as main before marks current lt long unseen is_marks is_current = (
    subst (λ x. IsWalk nodes (record { marks = x; callers = []; current = current })) (sym is_marks)
        (subst (λ x. IsWalk nodes (record { marks = set before main (Open 0); callers = []; current = x })) (sym is_current) (starts main before lt long unseen)),
    ap (λ (v : Visit). v.function) is_current,
  )

  -- ---- the cycle as it is kept

  way_long : (w : Walk) → length (way w) ≡ length w.callers + 1
  way_long w = length_push (numbers w.callers) (w.current).function ∙ ap (λ n. n + 1) (length-map w.callers (λ (v : Visit). v.function))

  -- the place stands before the last function of the way, or is its place
  pub place_within : (w : Walk) (c : Call) (place : ℕ) → IsWalk nodes w → IsNext nodes w.current c → get_or w.marks c.function Unseen ≡ Open place → place ≤ length w.callers
  place_within w c place h next is = let a = (closes w c place h next is).0 in let b = way_long w in omega arith

  pub not_empty : (w : Walk) (place : ℕ) (items : List ℕ) → place ≤ length w.callers → items ≡ drop place (way w) → 0 < length items
  not_empty w place items le is = let a = ap length is in let b = length-drop place (way w) in let d = way_long w in omega arith

  pub kept : (w : Walk) (c : Call) (place : ℕ) (items cycle : List ℕ) → IsWalk nodes w → IsNext nodes w.current c → get_or w.marks c.function Unseen ≡ Open place → items ≡ drop place (way w)
      → IsTurned items cycle → BeginsLeast cycle → IsKeptCycle (CallsBy calls) (main_of w) cycle
  kept w c place items cycle h next is is_items turned least =
      let closed = subst (IsReachedCycle (CallsBy calls) (main_of w)) (sym is_items ∙ turned.before) (closes w c place h next is).1 in
      (subst (IsReachedCycle (CallsBy calls) (main_of w)) (sym turned.after) (turned_cycle (CallsBy calls) (main_of w) turned.front turned.rest closed), least)

-- a row that is turned so that it begins with its least number
pub begins_least : (xs ys : List ℕ) (m : ℕ) → m < length xs → ((k : ℕ) → k < length xs → get_or xs m 0 ≤ get_or xs k 0) → ys ≡ drop m xs ++ take m xs → BeginsLeast ys
begins_least xs ys m lt h is =
    let all : All (λ n. get_or xs m 0 ≤ n) xs = All-from_get_or (λ n. get_or xs m 0 ≤ n) xs 0 h in
    subst BeginsLeast (sym (is ∙ ap (λ zs. zs ++ take m xs) (drop_more xs m 0 lt)))
    (All-append (λ n. get_or xs m 0 ≤ n) (drop (m + 1) xs) (take m xs) (All-drop (λ n. get_or xs m 0 ≤ n) (m + 1) xs all) (All-take (λ n. get_or xs m 0 ≤ n) m xs all))
