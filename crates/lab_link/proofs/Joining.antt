-- What the parts of linking give together.
use Rattle.std.proofs.Common.{◌≡◌, ℕ, ◌+◌, ◌*◌, ◌<◌, ◌≤◌, refl, sym, ap, ◌∙◌, subst, List, [], ◌∷◌, length, map, arith}
use Rattle.std.specs.Prelude.{Option, slice_index}
use Rattle.std.specs.List.{All}
use Rattle.std.proofs.lemmas.List.{length-append}
use Rattle.pan_stage.specs.Room.{allowed}
use Rattle.pan_stage.specs.declared.program.Program.{Program}
use Rattle.riscv_isa.specs.Held.{Spells}
use Rattle.riscv_isa.specs.Image.{IsLawfulCode}
use Rattle.riscv_isa.specs.Table.{InRange}
use Rattle.riscv_isa.specs.declared.instr.Instr.{Instr}
use Rattle.riscv_isa.proofs.Spelling.{spelled_length, spelled_bytes}
use Rattle.lab_lang.specs.Layout.{IsLayout, address_of, address}
use Rattle.lab_lang.specs.Needs.{code}
use Rattle.lab_lang.specs.WellFormed.{IsWellFormed}
use Rattle.lab_lang.specs.declared.syntax.LabFun.{LabFun}
use Rattle.lab_lang.specs.declared.syntax.Line.{Line}
use Rattle.lab_link.specs.Linked.{IsLinked}
use Rattle.lab_link.specs.Lengths.{laid_out, AreFit}
use Rattle.lab_link.specs.Turns.{IsTable, AreCounts}
use Rattle.lab_link.specs.Lowered.{lowered, all_lowered}
use Rattle.lab_link.proofs.Emitting.{all_in_range, all_whole, table_near, total_within}
use Rattle.lab_link.proofs.Counting.{counts_laid}
use Rattle.lab_link.proofs.Places.{total, lowered_long}
use Rattle.lab_link.proofs.Whole.{linked}

-- what functions may cost is at most as much code as an image may hold
pub code_most : (p : Program LabFun) (lines : List Line) (labels : ℕ) → IsWellFormed p lines labels → code lines ≤ 268439552
code_most p lines labels h = let a = (h.priced).light in let b = h.within in omega arith

-- as many instructions as the layout has
lowered_total : (place : ℕ) (xs : List Line) (ys : List (ℕ × ℕ)) (f : ℕ → Option ℕ) → IsLayout place xs ys → length (all_lowered xs ys f) ≡ total ys
lowered_total place [] [] f laid = refl
lowered_total place [] (y ∷ ys) f laid = absurd laid
lowered_total place (x ∷ xs) [] f laid = absurd laid
lowered_total place (x ∷ xs) (y ∷ ys) f laid =
    let a = lowered_long x y.1 (address_of y.0) f laid.1 in
    let b = lowered_total (place + 4 * y.1) xs ys f laid.2 in
    let c = length-append (lowered x y.1 (address_of y.0) f) (all_lowered xs ys f) in
    omega arith

-- `lines` are those of the program, `view` and `seen` as slices see them and the layout, `table` the places of labels
module _ (p : Program LabFun) (lines view : List Line) (labels : ℕ) (layout seen : List (ℕ × ℕ)) (items table : List ℕ) (h : IsWellFormed p lines labels) (is_view : view ≡ lines)
    (laid : (ns : List ℕ) × AreCounts view ns × (layout ≡ laid_out 0 ns)) (fit : AreFit view layout) (is_seen : seen ≡ layout) (is_table : table ≡ items) (places : IsTable (address view layout) items) where
  laid_view : IsLayout 0 view layout
  laid_view = subst (IsLayout 0 view) (sym laid.2) (counts_laid 0 view laid.0 laid.1)

  pub laid_seen : IsLayout 0 view seen
  laid_seen = subst (IsLayout 0 view) (sym is_seen) laid_view

  is_laid : IsLayout 0 lines layout
  is_laid = subst (λ v. IsLayout 0 v layout) is_view laid_view

  is_fit : AreFit lines layout
  is_fit = subst (λ v. AreFit v layout) is_view fit

  table_is : IsTable (address lines layout) table
  table_is = subst (IsTable (address lines layout)) (sym is_table) (subst (λ v. IsTable (address v layout) items) is_view places)

  pub near : (k : ℕ) → k < length table → slice_index table k ≤ 0x30000000
  near k small = table_near lines layout table k is_laid (code_most p lines labels h) table_is small

  module _ (instrs row : List Instr) (made : (f : ℕ → Option ℕ) → IsTable f table → instrs ≡ all_lowered view seen f) (is_row : row ≡ instrs) where
    row_is : row ≡ all_lowered lines layout (address lines layout)
    row_is = is_row ∙ made (address lines layout) table_is ∙ ap (λ v. all_lowered v seen (address lines layout)) is_view ∙ ap (λ l. all_lowered lines l (address lines layout)) is_seen

    pub in_range : All InRange row
    in_range =
        subst (All InRange) (sym row_is)
        (all_in_range labels 0 lines layout (address lines layout) h.each is_laid refl (all_whole lines layout is_laid (code_most p lines labels h)) (record { each = λ i x y is_line is_place. (is_fit i x y is_line is_place).short }))

    module _ (bytes : List ℕ) (spells : Spells bytes row) where
      long_is : length bytes ≡ 4 * total layout
      long_is =
          let a = spelled_length row bytes spells in
          let b = ap length row_is in
          let c = lowered_total 0 lines layout (address lines layout) is_laid in
          omega arith

      pub lawful : (all : List ℕ) → all ≡ bytes → IsLawfulCode all
      lawful all is =
          let e = long_is in
          let t = total_within 0 lines layout is_laid in
          let most = code_most p lines labels h in
          subst IsLawfulCode (sym is) (record { whole = omega arith; most = omega arith; bytes = spelled_bytes row bytes spells })

      pub whole : (all : List ℕ) → all ≡ bytes → IsLinked p lines layout all
      whole all is =
          let t = total_within 0 lines layout is_laid in
          let most = code_most p lines labels h in
          let within : length bytes ≤ (allowed (map (λ (f : LabFun). f.cost) p.functions)).code = let e = long_is in let w = h.within in omega arith in
          subst (IsLinked p lines layout) (sym is) (linked p lines layout bytes is_laid is_fit (omega arith) (subst (Spells bytes) row_is spells) within)
