-- What was seen of a run over homes stays.
use Rattle.std.proofs.Common.{◌≡◌, ℕ, zero, suc, List, [], ◌∷◌, map, length, Some, None, Bool, true, false, refl, sym, subst, arith}
use Rattle.std.specs.Prelude.{◌+◌, ◌*◌, nat_eq, if◌then◌else◌, slice_get}
use Rattle.pan_base.specs.Events.{Load, Foreign}
use Rattle.pan_base.specs.Results.{plus, loads, stores}
use Rattle.pan_control.specs.World.{entered, tolled}
use Rattle.pan_control.specs.Memory.{is_shared, bytes_at}
use Rattle.pan_control.specs.Control.{Normal, Broken, Continued, Returned, Raised, in_turn, with_value, world_of}
use Rattle.pan_control.specs.Runs.{nested, with_reply}
use Rattle.pan_stage.specs.Data.{World, Outcome, Callee, read, write}
use Rattle.pan_stage.specs.Locals.{Locals, no_locals, write_all}
use Rattle.pan_stage.specs.Programs.{Does, caught}
use Rattle.pan_stage.specs.Toll.{stepped, passing_steps, instructions_in_step}
use Rattle.pan_stage.specs.declared.program.Handler.{Handler}
use Rattle.pan_stage.specs.declared.program.Program.{Program}
use Rattle.pan_stage.proofs.Grows.{extends_self, extends_on, extends_same, entered_extends, tolled_extends, Grown, Grows, CalleeGrows, AllGrow, grown_from, in_turn_grows, value_grown, where_grown, choice_grown, ask_grown, turns_grow, call_grown, tail_grown, left_on}
use Rattle.word_lang.specs.Meaning.{outcome, act_layer, run_layer, run, enter}
use Rattle.word_lang.specs.Steps.{own_steps, test_steps}
use Rattle.word_lang.specs.declared.syntax.WordFun.{WordFun}
use Rattle.word_lang.specs.declared.syntax.Stmt.{Stmt, Stmt-F, roll-Stmt, map-Stmt, fold-roll-Stmt}
use Rattle.word_lang.specs.declared.syntax.Stmt.TheOpen as word
use Rattle.word_lang.proofs.Equations.{stmt_induct}

-- what a statement does, at its layer
pub word_roll : (names : List (List ℕ)) (d : ℕ) (k : Callee (List ℕ) (List ℕ)) (y : Stmt-F Stmt) → run names d k (roll-Stmt y) ≡ run_layer names d k (map-Stmt Stmt Does (run names d k) y)
unfolding run
word_roll names d k y = fold-roll-Stmt Does (run_layer names d k) y

-- after so many steps
pub headed_grows : (n : ℕ) (m : Does) → Grows m → Grows (λ (u : Locals) (w : World). m u (stepped n w))
headed_grows n m g = record { at = λ u w. grown_from w (stepped n w) (m u (stepped n w)) (tolled_extends (instructions_in_step * n) w) (g.at u (stepped n w)) }

module _ (names : List (List ℕ)) (d : ℕ) (k : Callee (List ℕ) (List ℕ)) (grows : CalleeGrows k) where
  abbrev Claim : Stmt → Type 0
  Claim s = Grows (run names d k s)

  abbrev parts : Stmt-F ((s : Stmt) × Claim s) → Stmt-F Stmt
  parts y = map-Stmt ((s : Stmt) × Claim s) Stmt (λ p. p.0) y

  still : (o : Outcome Locals (List ℕ)) → Grown (world_of o) o
  still o = record { by = extends_self (world_of o) }

  -- the same was seen in a world with other memory
  as_seen : (u : Locals) (w : World) (g m : List ℕ) → Grown {X = List ℕ} w (Normal u (record w { globals = g; memory = m }))
  as_seen u w g m = record { by = extends_same w (record w { globals = g; memory = m }) refl (omega arith) (omega arith) }

  all_grow : (all : List ((s : Stmt) × Claim s)) → AllGrow (map (run names d k) (map (λ p. p.0) all))
  all_grow [] = tt
  all_grow (p ∷ all) = (p.1, all_grow all)

  chosen : (b : Bool) (w : World) (o o' : Outcome Locals (List ℕ)) → Grown w o → Grown w o' → Grown w (if b then o else o')
  chosen true w o o' a b = a
  chosen false w o o' a b = b

  pub gave_grows : (n : ℕ) (xs : List ℕ) (u : Locals) (ns : List ℕ) (w : World) → Grown {X = List ℕ} w (Normal (write_all xs ns u) (stepped n w))
  gave_grows n xs u ns w = record { by = tolled_extends (instructions_in_step * n) w }

  pub caught_grows : (h : Handler Does) → Grows h.body → (u : Locals) (i : ℕ) (ns : List ℕ) (w : World) → Grown w (caught (Some h) u i ns w)
  caught_grows h g u i ns w =
      chosen (nat_eq i h.exception) w _ _ ((headed_grows (1 + length h.variables) h.body g).at (write_all h.variables ns u) w) (record { by = tolled_extends (instructions_in_step * 1) w })

  act_grows : (y : Stmt-F ((s : Stmt) × Claim s)) (u : Locals) (w : World) → Grown w (act_layer names d k (map-Stmt Stmt Does (run names d k) (parts y)) u w)
  act_grows word.Skip u w = still (Normal u w)
  act_grows (word.Seq all) u w = (in_turn_grows (map (run names d k) (map (λ p. p.0) all)) (all_grow all)).at u w
  act_grows (word.Const x n) u w = record { by = extends_self w }
  act_grows (word.Reg o x a b) u w = record { by = extends_self w }
  act_grows (word.Imm o x a i) u w = record { by = extends_self w }
  act_grows (word.Sh o x a n) u w = record { by = extends_self w }
  act_grows (word.Load o x a i) u w = value_grown (read (loads o) w.globals w.memory (plus (u a) i)) w _ (λ n. record { by = extends_self w })
  act_grows (word.Store o x a i) u w = value_grown (write (stores o) w.globals w.memory (plus (u a) i) (u x)) w _ (λ d. as_seen u w d.0 d.1)
  act_grows (word.If y s t) u w = choice_grown (outcome y u) w _ _ ((s.1).at u w) ((t.1).at u w)
  act_grows (word.While before y s) u w =
      (turns_grow d (λ u w. in_turn (map (run names d k) (map (λ p. p.0) before)) u (stepped test_steps w)) (λ u w. Some (outcome y u)) (run names d k s.0)
      (headed_grows test_steps (in_turn (map (run names d k) (map (λ p. p.0) before))) (in_turn_grows (map (run names d k) (map (λ p. p.0) before)) (all_grow before))) s.1).at u w
  act_grows word.Break u w = still (Broken u w)
  act_grows word.Continue u w = still (Continued u w)
  act_grows (word.Call xs f arguments None) u w = call_grown k grows f (Some (map u arguments)) w _ _ (λ ns w. gave_grows (length xs + 0) xs u ns w) (λ i ns w. still (Raised i ns w))
  act_grows (word.Call xs f arguments (Some h)) u w =
      call_grown k grows f (Some (map u arguments)) w _ _ (λ ns w. gave_grows (length xs + 1) xs u ns w)
      (λ i ns w. caught_grows (record { exception = h.exception; variables = h.variables; body = run names d k (h.body).0 }) (h.body).1 u i ns w)
  act_grows (word.TailCall f arguments) u w = tail_grown Locals k grows f (Some (map u arguments)) w
  act_grows (word.Return xs) u w = still (Returned (map u xs) w)
  act_grows (word.Raise i xs) u w = still (Raised i (map u xs) w)
  act_grows (word.SharedLoad size x a i) u w = where_grown (is_shared size (plus (u a) i)) w _ (ask_grown (Load size (plus (u a) i)) w _ (λ r w. record { by = extends_self w }))
  act_grows (word.SharedStore size x a i) u w = where_grown (is_shared size (plus (u a) i)) w _ (ask_grown _ w _ (λ r w. record { by = extends_self w }))
  act_grows (word.Foreign i conf conf_len array array_len) u w =
      value_grown (slice_get names i) w _ (λ name. value_grown (bytes_at w.memory (u conf) (u conf_len)) w _ (λ c. value_grown (bytes_at w.memory (u array) (u array_len)) w _ (λ a.
      ask_grown (Foreign i name c a) w _ (λ r w. as_seen u w w.globals (with_reply w.memory (u array) r)))))

  layer_grows : (y : Stmt-F ((s : Stmt) × Claim s)) → Grows (run_layer names d k (map-Stmt Stmt Does (run names d k) (parts y)))
  layer_grows y =
      let z = map-Stmt Stmt Does (run names d k) (parts y) in
      record { at = λ u w. grown_from w (stepped (own_steps z) w) (run_layer names d k z u w) (tolled_extends (instructions_in_step * own_steps z) w) (act_grows y u (stepped (own_steps z) w)) }

  pub run_grows : (s : Stmt) → Grows (run names d k s)
  run_grows = stmt_induct Claim (λ y. subst (λ (m : Does). Grows m) (sym (word_roll names d k (parts y))) (layer_grows y))

  pub row_grows : (ss : List Stmt) → Grows (in_turn (map (run names d k) ss))
  row_grows ss = in_turn_grows (map (run names d k) ss) (each ss)
    where
      each : (ss : List Stmt) → AllGrow (map (run names d k) ss)
      each [] = tt
      each (s ∷ ss) = (run_grows s, each ss)

-- a function is entered, and its body runs and leaves
pub enter_grows : (p : Program WordFun) (d : ℕ) (k : Callee (List ℕ) (List ℕ)) → CalleeGrows k → (f : WordFun) (ns : List ℕ) (w : World) → Grown w (enter p d k f ns w)
enter_grows p d k grows f ns w =
    let n = instructions_in_step * (passing_steps + length f.params) in
    let w1 : World = tolled n w in
    let w2 : World = entered f.cost w1 in
    let o = run p.names d k f.body (write_all f.params ns no_locals) w2 in
    record { by = extends_on w w1 _ (tolled_extends n w) (extends_on w1 w2 _ (entered_extends f.cost w1) (extends_on w2 (world_of o) _ ((run_grows p.names d k grows f.body).at (write_all f.params ns no_locals) w2).by (left_on (Unit {0}) o))) }

-- what functions do, with calls nested no deeper than the number
abbrev pub word_calls : Program WordFun → ℕ → Callee (List ℕ) (List ℕ)
word_calls p d = nested (λ d callee f ns w. with_value (slice_get p.functions f) w (λ g. enter p d callee g ns w)) d

pub calls_grow : (p : Program WordFun) (d : ℕ) → CalleeGrows (word_calls p d)
calls_grow p zero f ns w = record { by = extends_self w }
calls_grow p (suc d) f ns w = value_grown (slice_get p.functions f) w _ (λ g. enter_grows p d (word_calls p d) (calls_grow p d) g ns w)
