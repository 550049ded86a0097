-- Bytes that spell the lowered lines are the lines at the layout.
use Rattle.std.proofs.Common.{◌≡◌, ℕ, ◌*◌, ◌≤◌, refl, sym, ap, ◌∙◌, List, [], length, map, arith}
use Rattle.std.proofs.lemmas.List.{length-set}
use Rattle.pan_stage.specs.Data.{words_bytes}
use Rattle.pan_stage.specs.Room.{allowed}
use Rattle.pan_stage.specs.declared.program.Program.{Program}
use Rattle.riscv_isa.specs.Held.{AreAt, Spells}
use Rattle.riscv_isa.specs.Image.{ImageParts}
use Rattle.riscv_isa.specs.Machine.{booted, run}
use Rattle.riscv_isa.proofs.Fetching.{spelled_at, with_code, Has32}
use Rattle.lab_lang.specs.Layout.{IsLayout, address_of, address}
use Rattle.machine_start.specs.Start.{started}
use Rattle.lab_lang.specs.declared.syntax.LabFun.{LabFun}
use Rattle.lab_lang.specs.declared.syntax.Line.{Line}
use Rattle.lab_link.specs.Lowered.{all_lowered}
use Rattle.lab_link.specs.Lengths.{AreFit}
use Rattle.lab_link.specs.Linked.{IsLinked}
use Rattle.lab_link.proofs.Places.{total, have_words}
use Rattle.lab_link.proofs.Simulation.{until}

booted_32 : (p : Program LabFun) (m : List ℕ) (size : ℕ) → Has32 (started p m size)
booted_32 p m size = simp length-set

-- the machine of an image at its start is that of the lines, with the code
boot : (p : Program LabFun) (parts : ImageParts) (code : List ℕ) (m : List ℕ) (size : ℕ) → parts.code ≡ code → parts.names ≡ p.names → p.globals ≡ [] → booted parts m size ≡ with_code code (started p m size)
boot p parts code m size is_code is_names no_globals =
    let s = booted parts m size in
    ap (λ c. record s { code = c }) is_code
    ∙ ap (λ ns. record s { code = code; names = ns }) is_names
    ∙ ap (λ g. record s { code = code; names = p.names; memory = record s.memory { globals = words_bytes g } }) (sym no_globals)

pub linked : (p : Program LabFun) (lines : List Line) (layout : List (ℕ × ℕ)) (code : List ℕ) → IsLayout 0 lines layout → AreFit lines layout → 4 * total layout ≤ 0x30000000
    → Spells code (all_lowered lines layout (address lines layout)) → length code ≤ (allowed (map (λ (f : LabFun). f.cost) p.functions)).code → IsLinked p lines layout code
linked p lines layout code laid fit small spells most =
    let held : AreAt (all_lowered lines layout (address lines layout)) code (address_of 0) = spelled_at _ code [] code (address_of 0) spells refl refl in
    record {
      laid = laid;
      fit = fit;
      words = have_words (address lines layout) code 0 lines layout laid held;
      executed = λ parts is_code is_names no_globals size m r k lawful bytes ok.
          ap (λ s. run k s r) (boot p parts code m size is_code is_names no_globals) ∙ until lines layout code laid small held k k (omega arith) (started p m size) (booted_32 p m size) r ok;
      most = most;
    }
