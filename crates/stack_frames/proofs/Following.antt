-- What is kept while the code of a frame follows statements over homes; operations that ask nothing.
use Rattle.std.proofs.Common.{◌≡◌, ℕ, ◌+◌, ◌-◌, ◌*◌, ◌≤◌, List, [], ◌∷◌, ◌++◌, length, Option, Some, Bool, true, false, refl, sym, ap, ◌∙◌, subst, arith}
use Rattle.std.specs.Prelude.{nat_eq, if◌then◌else◌, slice_get}
use Rattle.std.proofs.lemmas.Bool.Decides.{nat_tests}
use Rattle.pan_base.specs.Words.{IsWord}
use Rattle.pan_control.specs.Control.{Normal, and_then}
use Rattle.pan_flow.specs.Flow.{has}
use Rattle.pan_stage.specs.Data.{World, Outcome, Meaning, Callee}
use Rattle.pan_stage.specs.Locals.{Locals, write}
use Rattle.pan_stage.specs.Mentions.{Scope, Arity}
use Rattle.pan_stage.specs.Toll.{stepped}
use Rattle.pan_stage.specs.WellFormed.{IsArity, most_words}
use Rattle.pan_stage.proofs.Grows.{CalleeGrows}
use Rattle.pan_stage.proofs.Follows.{View, beside, Ends, Same, matched, Follows, same_as}
use Rattle.pan_stage.proofs.Paid.{Within, Paid, exhausting, paid, left_paid}
use Rattle.stack_lang.specs.Frame.{Frame}
use Rattle.stack_lang.specs.Meaning as stack
use Rattle.stack_lang.specs.declared.syntax.Stmt.{Stmt}
use Rattle.stack_lang.specs.declared.syntax.Stmt.TheVariants as s
use Rattle.stack_lang.specs.declared.syntax.Stmt.TheOpen as o_s
use Rattle.stack_frames.proofs.Machine.{Machine}
use Rattle.stack_frames.proofs.Homes.{IsNumbered, home_value, Carries, Kept}
use Rattle.stack_frames.proofs.Rows.{stack_at, runs, runs_append, runs_one, Ran}
use Rattle.stack_frames.proofs.Moves.{Put}

-- the machine has the memory and the globals, and the world of the stage over frames has none
abbrev pub view : View (List ℕ) (Unit {0})
view = record { memory = λ m. []; globals = λ g. tt }

abbrev pub StackWorld : Type 0
StackWorld = stack.World

-- ---- what passes between functions

-- these words are passed
pub record Carried (names : List (List ℕ)) (ns : List ℕ) (w : World) (u : Frame) : Type 0 where
  pub carries : Carries 0 ns u
  pub machine : Machine names w.globals w.memory u.seen

-- a function gets these words, and the costs of the active calls are at least what is used of the stack
pub record Given (names : List (List ℕ)) (total : ℕ) (ns : List ℕ) (w : World) (u : Frame) : Type 0 where
  pub carried : Carried names ns w u
  pub budget : total ≤ u.room + w.active

-- a function leaves these words, so many
pub record Gives (names : List (List ℕ)) (count : ℕ) (ns : List ℕ) (w : World) (u : Frame) : Type 0 where
  pub count_is : length ns ≡ count
  pub carried : Carried names ns w u

-- an exception leaves a function with these words, as many as it carries
pub record Raises (names : List (List ℕ)) (widths : List ℕ) (i : ℕ) (ns : List ℕ) (w : World) (u : Frame) : Type 0 where
  pub known : slice_get widths i ≡ Some (length ns)
  pub carried : Carried names ns w u

-- functions over frames follow those over homes, where they get as many words as they take
abbrev pub CalleesFollow : List (List ℕ) → Scope → ℕ → Callee (List ℕ) (List ℕ) → stack.Callee → Type 0
CalleesFollow names scope total k k' =
    (kept f : ℕ) (a : Arity) → slice_get scope.arities f ≡ Some a → (ns : List ℕ) (w : World) (u : Frame) (t : ℕ) → length ns ≡ a.parameters → Paid 1 kept (Given names total) ns w u t
    → Same (left_paid view (exhausting total 1) 1 kept (Gives names a.results) (Raises names scope.widths)) (k f ns w) (k' f u (beside view t w))

-- A function with a frame of `size` bytes, with so much room below, while the active calls cost `act` and it costs `own`. Its slots are numbered so, and the stack has `total` bytes.
pub record Setting : Type 0 where
  pub names : List (List ℕ)
  pub slot : ℕ → ℕ
  pub named : List ℕ
  pub numbered : IsNumbered slot named
  pub scope : Scope
  pub results : ℕ
  pub few_arities : (f : ℕ) (a : Arity) → slice_get scope.arities f ≡ Some a → IsArity a
  pub few_widths : (i n : ℕ) → slice_get scope.widths i ≡ Some n → n ≤ most_words
  pub few_results : results ≤ most_words
  pub total : ℕ
  pub size : ℕ
  pub turns : ℕ
  pub room : ℕ
  pub act : ℕ
  pub own : ℕ
  pub costs : size ≤ own
  pub stands : own ≤ act
  pub budget : total ≤ room + size + (act - own)
  pub word_callee : Callee (List ℕ) (List ℕ)
  pub stack_callee : stack.Callee
  pub grows : CalleeGrows word_callee
  pub follows : CalleesFollow names scope total word_callee stack_callee

module _ (at : Setting) where
  abbrev pub value : ℕ → Frame → Option ℕ
  value = home_value at.names at.slot at.named at.numbered

  abbrev pub KeptIn : Frame → Frame → Type 0
  KeptIn = Kept at.names at.slot at.named at.numbered

  abbrev pub PutIn : List ℕ → List ℕ → (x n : ℕ) → Frame → Frame → Type 0
  PutIn g l = Put at.names at.slot at.named at.numbered g l at.size at.turns at.stack_callee

  abbrev pub RanIn : ℕ → List Stmt → Frame → (Frame → Type 0) → Type 0
  RanIn = Ran at.size at.turns at.stack_callee

  -- what code does
  abbrev pub code : List Stmt → stack.Does
  code = runs at.size at.turns at.stack_callee

  abbrev pub does : Stmt → stack.Does
  does = stack.run at.size at.turns at.stack_callee

  -- the variables of which L holds have their words in their homes
  pub record Held (L : ℕ → Type 0) (v : Locals) (w : World) (u : Frame) : Type 0 where
    pub words : (x : ℕ) → has at.named x ≡ true → L x → (value x u ≡ Some (v x)) × IsWord (v x)
    pub machine : Machine at.names w.globals w.memory u.seen
    pub room_is : u.room ≡ at.room
    pub active : w.active ≡ at.act
    pub own_is : w.own ≡ at.own

  abbrev pub ends : (N B C : ℕ → Type 0) → ℕ → Ends (List ℕ) (Unit {0}) Locals Frame (List ℕ) Frame
  ends N B C c = paid view (exhausting at.total 1) 1 c (Held N) (Held B) (Held C) (Gives at.names at.results) (Raises at.names (at.scope).widths)

  abbrev pub SameAt : (N B C : ℕ → Type 0) → ℕ → Outcome Locals (List ℕ) → stack.Outcome Frame Frame → Type 0
  SameAt N B C c o o' = Same (ends N B C c) o o'

  abbrev pub FollowsAt : (N B C L : ℕ → Type 0) → Meaning Locals (List ℕ) → stack.Does → Type 0
  FollowsAt N B C L m m' = (c : ℕ) → Follows (ends N B C c) (Paid 1 c (Held L)) m m'

  -- fewer variables, in a world that differs in what isn't said
  pub fewer : (L L' : ℕ → Type 0) (v : Locals) (w w' : World) (u : Frame) → ((x : ℕ) → L' x → L x) → w'.globals ≡ w.globals → w'.memory ≡ w.memory → w'.active ≡ w.active → w'.own ≡ w.own → Held L v w u → Held L' v w' u
  fewer L L' v w w' u f g m a o r =
      record {
        words = λ x h l. r.words x h (f x l);
        machine = subst (λ g. Machine at.names g w'.memory u.seen) (sym g) (subst (λ m. Machine at.names w.globals m u.seen) (sym m) r.machine);
        room_is = r.room_is;
        active = a ∙ r.active;
        own_is = o ∙ r.own_is;
      }

  -- homes are kept, and the machine is beside this world
  pub kept_held : (L L' : ℕ → Type 0) (v : Locals) (w w' : World) (u u' : Frame) → ((x : ℕ) → L' x → L x) → KeptIn u u' → Machine at.names w'.globals w'.memory u'.seen → w'.active ≡ w.active → w'.own ≡ w.own → Held L v w u → Held L' v w' u'
  kept_held L L' v w w' u u' f k m a o r =
      record {
        words = λ x h l. let p = r.words x h (f x l) in (k.homes x h ∙ p.0, p.1);
        machine = m;
        room_is = k.room ∙ r.room_is;
        active = a ∙ r.active;
        own_is = o ∙ r.own_is;
      }

  -- a variable is written
  pub put_held : (L N : ℕ → Type 0) (x n : ℕ) (v : Locals) (w w' : World) (u u' : Frame) → PutIn w'.globals w'.memory x n u u' → IsWord n → ((y : ℕ) → nat_eq y x ≡ false → N y → L y) → w'.active ≡ w.active → w'.own ≡ w.own → Held L v w u → Held N (write x n v) w' u'
  put_held L N x n v w w' u u' p small f a o r =
      record {
        words = λ y h l. by y h l (nat_eq y x) refl;
        machine = p.beside;
        room_is = (p.written_is).room ∙ r.room_is;
        active = a ∙ r.active;
        own_is = o ∙ r.own_is;
      }
    where
      by : (y : ℕ) → has at.named y ≡ true → N y → (b : Bool) → nat_eq y x ≡ b → (value y u' ≡ Some (if b then n else v y)) × IsWord (if b then n else v y)
      by y h l true is = (ap (λ y. value y u') (let e : y ≡ x = grind (arith, nat_tests) in e) ∙ (p.written_is).here, small)
      by y h l false is = let q = r.words y h (f y is l) in ((p.written_is).others y h is ∙ q.0, q.1)

  -- ---- code before what follows

  module _ (N B C : ℕ → Type 0) (c : ℕ) where
    pub after_code : (limit : ℕ) (before rest : List Stmt) (o : Outcome Locals (List ℕ)) (w : World) (u : Frame) (t : ℕ) (P : Frame → Type 0) → RanIn limit before u P
        → ((u' : Frame) (t' : ℕ) → P u' → t' ≤ t + limit → SameAt N B C c o (code rest u' (beside view t' w))) → SameAt N B C c o (code (before ++ rest) u (beside view t w))
    after_code limit before rest o w u t P a f =
        same_as (ends N B C c) o _ (code rest a.after (beside view (t + a.cost) w))
        (runs_append at.size at.turns at.stack_callee before rest u (beside view t w) ∙ ap (λ o. and_then o (code rest)) (a.is (beside view t w)))
        (f a.after (t + a.cost) a.holds (let l = a.le in omega (arith, l)))

    -- the first goes on in a world with other memory
    pub code_ends : (limit : ℕ) (all : List Stmt) (v : Locals) (w w' : World) (u : Frame) (t : ℕ) (P : Frame → Type 0) → RanIn limit all u P → ((u' : Frame) → P u' → Held N v w' u') → t + limit + c ≤ 1 * w'.toll
        → ((t : ℕ) → beside view t w ≡ beside view t w') → SameAt N B C c (Normal v w') (code all u (beside view t w))
    code_ends limit all v w w' u t P a f le same =
        matched (record { second = a.after; toll = t + a.cost; holds = (f a.after a.holds, let l = a.le in omega (arith, l, le)); is = a.is (beside view t w) ∙ ap (λ w. Normal a.after w) (same (t + a.cost)) })

    pub run_seq : (all : List Stmt) (u : Frame) (w : StackWorld) → does (s.Seq all) u w ≡ code all u w
    run_seq all u w = stack_at at.size at.turns at.stack_callee (o_s.Seq all) (s.Seq all) (s.rolls-Seq all) u w

    pub in_sequence : (o : Outcome Locals (List ℕ)) (all : List Stmt) (u : Frame) (w : StackWorld) → SameAt N B C c o (code all u w) → SameAt N B C c o (does (s.Seq all) u w)
    in_sequence o all u w p = same_as (ends N B C c) o _ _ (run_seq all u w) p

    -- the last statement of a row
    pub last : (o : Outcome Locals (List ℕ)) (x : Stmt) (u : Frame) (w : StackWorld) (o' : stack.Outcome Frame Frame) → does x u w ≡ o' → SameAt N B C c o o' → SameAt N B C c o (code (x ∷ []) u w)
    last o x u w o' e p = same_as (ends N B C c) o _ o' (runs_one at.size at.turns at.stack_callee x u w ∙ e) p

    -- ---- operations that ask nothing

    -- an operation gives a variable a word, in a step
    pub put_same : (L : ℕ → Type 0) (limit x n : ℕ) (all : List Stmt) (v : Locals) (w : World) (u : Frame) (t : ℕ) → limit ≤ 16 → IsWord n → ((y : ℕ) → nat_eq y x ≡ false → N y → L y) → Held L v w u → Within 1 c t w
        → RanIn limit all u (PutIn w.globals w.memory x n u) → SameAt N B C c (Normal (write x n v) (stepped 1 w)) (does (s.Seq all) u (beside view t w))
    put_same L limit x n all v w u t l small f r le a =
        let w' : World = stepped 1 w in
        in_sequence (Normal (write x n v) w') all u (beside view t w)
        (code_ends limit all (write x n v) w w' u t (PutIn w.globals w.memory x n u) a (λ u' p. put_held L N x n v w w' u u' p small f refl refl r) (omega (arith, l, le)) (λ t. refl))
