-- Laws of what rules give.
use Rattle.std.proofs.Common.{◌≡◌, ℕ, zero, suc, ◌+◌, ◌*◌, ◌/◌, ◌%◌, ◌^◌, Bool, true, false, cond, List, [], ◌∷◌, refl, sym, ap, ◌∙◌, add_assoc}
use Rattle.std.proofs.Math.Nat.{mod-add-div, mod-add-mod, add-mul-mod_self_left, add-mul, mul_assoc}
use Rattle.pan_base.specs.declared.events.Size.{Size}
use Rattle.pan_base.specs.declared.events.Size.TheVariants.{B1, B2, B4, B8}
use Rattle.pan_base.specs.Events.{Asked, Load, Store, Foreign, byte_count}
use Rattle.pan_port.specs.Device.{Silent}
use Rattle.device_script.specs.declared.rules.Rule.{Rule}
use Rattle.device_script.specs.declared.rules.Rule.TheVariants as rule
use Rattle.device_script.specs.Rules.{answer_load, answer_store, answer_call, answer, answers, step}
use Rattle.device_script.proofs.StepLemmas.{stepped}

-- ---- silence

load_silent : (r : Rule) → (answer_load r).0 ≡ Silent → (answer_load r).1 ≡ r
load_silent (rule.Register size addr value) silent = refl
load_silent (rule.Queue size addr []) silent = refl
load_silent (rule.Queue size addr (value ∷ values)) silent = absurd (cc)
load_silent (rule.Counter size addr first step loads) silent = absurd (cc)
load_silent (rule.Collector size addr left) silent = refl
load_silent (rule.Foreign name effect) silent = refl

store_silent : (r : Rule) (value : ℕ) → (answer_store r value).0 ≡ Silent → (answer_store r value).1 ≡ r
store_silent (rule.Register size addr old) value silent = absurd (cc)
store_silent (rule.Queue size addr values) value silent = refl
store_silent (rule.Counter size addr first step loads) value silent = refl
store_silent (rule.Collector size addr zero) value silent = refl
store_silent (rule.Collector size addr (suc left)) value silent = absurd (cc)
store_silent (rule.Foreign name effect) value silent = refl

call_silent : (r : Rule) (conf array : List ℕ) → (answer_call r conf array).1 ≡ r
call_silent (rule.Register size addr value) conf array = refl
call_silent (rule.Queue size addr values) conf array = refl
call_silent (rule.Counter size addr first step loads) conf array = refl
call_silent (rule.Collector size addr left) conf array = refl
call_silent (rule.Foreign name effect) conf array = refl

answer_silent : (r : Rule) (q : Asked) → (answer r q).0 ≡ Silent → (answer r q).1 ≡ r
answer_silent r (Load size addr) silent = load_silent r silent
answer_silent r (Store size addr value) silent = store_silent r value silent
answer_silent r (Foreign number name conf array) silent = call_silent r conf array

pub step_silent : (rs : List Rule) (q : Asked) → (step rs q).0 ≡ Silent → (step rs q).1 ≡ rs
step_silent [] q silent = refl
step_silent (r ∷ rs) q silent = by (answers r q) (step_silent rs q) silent
  where
    by : (t : Bool) → ((step rs q).0 ≡ Silent → (step rs q).1 ≡ rs)
        → (cond t (stepped (answer r q).0 ((answer r q).1 ∷ rs)) (stepped (step rs q).0 (r ∷ (step rs q).1))).0 ≡ Silent
        → (cond t (stepped (answer r q).0 ((answer r q).1 ∷ rs)) (stepped (step rs q).0 (r ∷ (step rs q).1))).1 ≡ r ∷ rs
    by true others silent = ap (λ s. s ∷ rs) (answer_silent r q silent)
    by false others silent = ap (λ rs. r ∷ rs) (others silent)

-- ---- counters

-- a count modulo a multiple of the modulus
count_modulo : (m n first step k : ℕ) → (first + (k % (m * n)) * step) % m ≡ (first + k * step) % m
count_modulo m n first step k =
    let low = k % (m * n) in
    let turns = k / (m * n) in
    let product : (low + m * n * turns) * step ≡ low * step + m * (n * (turns * step)) = add-mul low (m * n * turns) step ∙ simp mul_assoc in
    let split : first + k * step ≡ first + low * step + m * (n * (turns * step)) =
    ap (λ j. first + j * step) (sym (mod-add-div k (m * n))) ∙ ap (λ p. first + p) product ∙ sym (add_assoc first (low * step) (m * (n * (turns * step)))) in
    sym (ap (λ x. x % m) split ∙ add-mul-mod_self_left (first + low * step) m (n * (turns * step)))

pub counter_given : (size : Size) (first step k : ℕ) → (first + (k % 2 ^ 64) * step) % 2 ^ (8 * byte_count size) ≡ (first + k * step) % 2 ^ (8 * byte_count size)
counter_given B1 first step k = count_modulo (2 ^ 8) (2 ^ 56) first step k
counter_given B2 first step k = count_modulo (2 ^ 16) (2 ^ 48) first step k
counter_given B4 first step k = count_modulo (2 ^ 32) (2 ^ 32) first step k
counter_given B8 first step k = count_modulo (2 ^ 64) 1 first step k

pub counter_kept : (k : ℕ) → (k % 2 ^ 64 + 1) % 2 ^ 64 ≡ (k + 1) % 2 ^ 64
counter_kept k = mod-add-mod k (2 ^ 64) 1
