-- Foreign names by their numbers.
use Rattle.std.proofs.Common.{◌≡◌, ◌≤◌, ◌<◌, ◌+◌, ℕ, Fits, List, length, Option, Some, None, true, refl, sym, ap, ◌∙◌, arith}
use mir.Syntax.{w32}
use Rattle.std.specs.Prelude.{slice_get, IsTrue, ◌&&◌}
use Rattle.std.proofs.lemmas.Option.{slice_get_past}
use Rattle.pan_base.specs.Events.{Fails}
use Rattle.pan_base.specs.Words.{base_address}
use Rattle.pan_base.specs.Names.{is_foreign_name}
use Rattle.pan_control.specs.Memory.{bytes_at}
use Rattle.pan_tree.specs.Check.{foreign_names, IsWellShaped}
use Rattle.pan_tree.specs.declared.program.Program.{Program as Source}
use Rattle.pan_runner.specs.Machine.{Config, Waits, Calling, Over, or_fails, ask_foreign}
use Rattle.pan_runner.specs.Runner.{names_of, variables_of, frames_of}
use Rattle.pan_runner.specs.View.{part, is_inside, is_one_line}
use Rattle.pan_runner.specs.declared.questions.Buffer.{Buffer}
use Rattle.pan_runner.specs.declared.runner.Runner.{Runner}
use Rattle.pan_runner.proofs.FewNames.{few_names, names_are, one_line}

some_so : {A : Type 0} (o : Option A) (a : A) (next : A → Config) → o ≡ Some a → or_fails o next ≡ next a
some_so o a next is = ap (λ o. or_fails o next) is

-- no name has the number
pub unnamed : (r : Runner) (i conf conf_len array array_len count : ℕ) → count ≡ length (foreign_names r.checked.now) → count ≤ i
    → ask_foreign (names_of r) i conf conf_len array array_len (variables_of r) (frames_of r) r.memory ≡ Over Fails
unnamed r i conf conf_len array array_len count is past =
    let none : slice_get (names_of r) i ≡ None =
    ap (λ ns. slice_get ns i) (names_are r.checked.now) ∙ slice_get_past (foreign_names r.checked.now) i (omega (arith, is, past)) in
    ap (λ o. or_fails o (λ name. or_fails (bytes_at r.memory conf conf_len) (λ c. or_fails (bytes_at r.memory array array_len) (λ a. Waits (Calling i name c array a) (variables_of r) (frames_of r) r.memory)))) none

-- the number of a name takes 32 bits
pub few_fits : (p : Source) → IsWellShaped p → (i count : ℕ) → count ≡ length (foreign_names p) → i < count → Fits w32 i
few_fits p shaped i count is below = let few : i < 1024 = omega (arith, few_names p shaped, is, below) in grind (arith, few)

pub sound_call : (name : List ℕ) (conf array : Buffer) (size : ℕ) → is_foreign_name name ≡ true → is_inside conf size ≡ true → is_inside array size ≡ true
    → IsTrue (is_one_line name && is_inside conf size && is_inside array size)
sound_call name conf array size lawful c a = rw (one_line name lawful, c, a) refl

-- a foreign call asks
pub asked_foreign : (r : Runner) (i conf conf_len array array_len : ℕ) (name : List ℕ) (c a : Buffer)
    → Some name ≡ slice_get (foreign_names r.checked.now) i → bytes_at r.memory conf conf_len ≡ Some (part c r.memory) → bytes_at r.memory array array_len ≡ Some (part a r.memory) → a.at + base_address ≡ array
    → Waits (Calling i name (part c r.memory) (a.at + base_address) (part a r.memory)) (variables_of r) (frames_of r) r.memory
    ≡ ask_foreign (names_of r) i conf conf_len array array_len (variables_of r) (frames_of r) r.memory
asked_foreign r i conf conf_len array array_len name c a named conf_is array_is at =
    let is : slice_get (names_of r) i ≡ Some name = ap (λ ns. slice_get ns i) (names_are r.checked.now) ∙ sym named in
    let waits = λ (n : List ℕ) (x : List ℕ) (addr : ℕ) (y : List ℕ). Waits (Calling i n x addr y) (variables_of r) (frames_of r) r.memory in
    ap (λ addr. waits name (part c r.memory) addr (part a r.memory)) at
    ∙ sym (some_so _ (part a r.memory) (λ y. waits name (part c r.memory) array y) array_is)
    ∙ sym (some_so _ (part c r.memory) (λ x. or_fails (bytes_at r.memory array array_len) (λ y. waits name x array y)) conf_is)
    ∙ sym (some_so _ name (λ n. or_fails (bytes_at r.memory conf conf_len) (λ x. or_fails (bytes_at r.memory array array_len) (λ y. waits n x array y))) is)
