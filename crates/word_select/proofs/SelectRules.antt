-- What is selected for a statement, at each variant.
use Rattle.std.proofs.Common.{◌≡◌, ℕ, List, [], map, Option, Some, None, sym, ap, ◌∙◌}
use Rattle.std.specs.Prelude.{pos}
use Rattle.pan_base.specs.declared.events.Size.{Size}
use Rattle.pan_base.specs.declared.operators.BinOp.{BinOp}
use Rattle.pan_base.specs.declared.operators.ShOp.{ShOp}
use Rattle.pan_base.specs.declared.operators.Cmp.{Cmp}
use Rattle.pan_base.specs.declared.operators.IOp.TheVariants as iop
use Rattle.pan_base.specs.declared.operators.LOp.TheVariants as lop
use Rattle.pan_base.specs.declared.operators.SOp.TheVariants as sop
use Rattle.pan_stage.specs.declared.program.Handler.{Handler}
use Rattle.loop_lang.specs.declared.syntax.Stmt.{Stmt as Loop, Stmt-F as Loop-F, roll-Stmt as roll-Loop, map-Stmt as map-Loop}
use Rattle.loop_lang.specs.declared.syntax.Stmt.TheOpen as o
use Rattle.loop_lang.specs.declared.syntax.Stmt.TheVariants as c
use Rattle.word_lang.specs.declared.syntax.Stmt.TheVariants as s
use Rattle.word_select.specs.declared.facts.Fact.TheVariants.{Number, Compared}
use Rattle.word_select.specs.Facts.{Facts, forget, learn}
use Rattle.word_select.specs.Selected.{operation, operation_facts, comparison, test_at, address_at, Selects, in_row, shift_steps, select_layer, selected, selected_handler}
use Rattle.word_select.proofs.LoopLayers.{selected_roll}

at : (t : ℕ) (y : Loop-F Loop) (x : Loop) → roll-Loop y ≡ x → (ps : Facts) → selected t x ps ≡ select_layer t (map-Loop Loop Selects (selected t) y) ps
at t y x is ps = ap (λ x. selected t x ps) (sym is) ∙ ap (λ (f : Selects). f ps) (selected_roll t y)

pub skip : (t : ℕ) (ps : Facts) → selected t c.Skip ps ≡ (record { stmt = s.Skip; facts = ps })
skip t ps = at t o.Skip _ c.rolls-Skip ps

pub seq : (t : ℕ) (all : List Loop) (ps : Facts) → selected t (c.Seq all) ps ≡ (let row = in_row (map (selected t) all) ps in record { stmt = s.Seq row.stmts; facts = row.facts })
seq t all ps = at t (o.Seq all) _ (c.rolls-Seq all) ps

pub const : (t : ℕ) (x n : ℕ) (ps : Facts) → selected t (c.Const x n) ps ≡ (record { stmt = s.Const x n; facts = learn x (Number n) ps })
const t x n ps = at t (o.Const x n) _ (c.rolls-Const x n) ps

pub move : (t : ℕ) (x a : ℕ) (ps : Facts) → selected t (c.Move x a) ps ≡ (record { stmt = s.Imm iop.Ori x a (pos 0); facts = forget x ps })
move t x a ps = at t (o.Move x a) _ (c.rolls-Move x a) ps

pub bin : (t : ℕ) (f : BinOp) (x a b : ℕ) (ps : Facts) → selected t (c.Bin f x a b) ps ≡ (record { stmt = operation f x a b ps; facts = operation_facts f x a b ps })
bin t f x a b ps = at t (o.Bin f x a b) _ (c.rolls-Bin f x a b) ps

pub shift : (t : ℕ) (f : ShOp) (x a n : ℕ) (ps : Facts) → selected t (c.Shift f x a n) ps ≡ (record { stmt = s.Seq (shift_steps t f x a n); facts = forget x (forget t ps) })
shift t f x a n ps = at t (o.Shift f x a n) _ (c.rolls-Shift f x a n) ps

pub compare : (t : ℕ) (f : Cmp) (x a b : ℕ) (ps : Facts) → selected t (c.Compare f x a b) ps ≡ (record { stmt = s.Seq (comparison f x a b ps); facts = learn x (Compared f a b) ps })
compare t f x a b ps = at t (o.Compare f x a b) _ (c.rolls-Compare f x a b) ps

pub load_word : (t : ℕ) (x a : ℕ) (ps : Facts) → selected t (c.LoadWord x a) ps ≡ (let at = address_at a ps in record { stmt = s.Load lop.Ld x at.base at.offset; facts = forget x ps })
load_word t x a ps = at t (o.LoadWord x a) _ (c.rolls-LoadWord x a) ps

pub load_byte : (t : ℕ) (x a : ℕ) (ps : Facts) → selected t (c.LoadByte x a) ps ≡ (let at = address_at a ps in record { stmt = s.Load lop.Lbu x at.base at.offset; facts = forget x ps })
load_byte t x a ps = at t (o.LoadByte x a) _ (c.rolls-LoadByte x a) ps

pub store_word : (t : ℕ) (a x : ℕ) (ps : Facts) → selected t (c.StoreWord a x) ps ≡ (let at = address_at a ps in record { stmt = s.Store sop.Sd x at.base at.offset; facts = ps })
store_word t a x ps = at t (o.StoreWord a x) _ (c.rolls-StoreWord a x) ps

pub store_byte : (t : ℕ) (a x : ℕ) (ps : Facts) → selected t (c.StoreByte a x) ps ≡ (let at = address_at a ps in record { stmt = s.Store sop.Sb x at.base at.offset; facts = ps })
store_byte t a x ps = at t (o.StoreByte a x) _ (c.rolls-StoreByte a x) ps

pub branch : (t : ℕ) (x : ℕ) (first second : Loop) (ps : Facts) → selected t (c.If x first second) ps ≡ (record { stmt = s.If (test_at x ps) (selected t first ps).stmt (selected t second ps).stmt; facts = [] })
branch t x first second ps = at t (o.If x first second) _ (c.rolls-If x first second) ps

pub loop : (t : ℕ) (live : List ℕ) (before : List Loop) (x : ℕ) (body : Loop) (ps : Facts) → selected t (c.While live before x body) ps ≡ (let row = in_row (map (selected t) before) [] in record { stmt = s.While row.stmts (test_at x row.facts) (selected t body row.facts).stmt; facts = [] })
loop t live before x body ps = at t (o.While live before x body) _ (c.rolls-While live before x body) ps

pub leave : (t : ℕ) (ps : Facts) → selected t c.Break ps ≡ (record { stmt = s.Break; facts = [] })
leave t ps = at t o.Break _ c.rolls-Break ps

pub again : (t : ℕ) (ps : Facts) → selected t c.Continue ps ≡ (record { stmt = s.Continue; facts = [] })
again t ps = at t o.Continue _ c.rolls-Continue ps

pub call : (t : ℕ) (live results : List ℕ) (f : ℕ) (arguments : List ℕ) (h : Option (Handler Loop)) (ps : Facts) → selected t (c.Call live results f arguments h) ps ≡ (record { stmt = s.Call results f arguments (selected_handler t h); facts = [] })
call t live results f arguments None ps = at t (o.Call live results f arguments None) _ (c.rolls-Call live results f arguments None) ps
call t live results f arguments (Some h) ps = at t (o.Call live results f arguments (Some h)) _ (c.rolls-Call live results f arguments (Some h)) ps

pub tail_call : (t : ℕ) (f : ℕ) (arguments : List ℕ) (ps : Facts) → selected t (c.TailCall f arguments) ps ≡ (record { stmt = s.TailCall f arguments; facts = [] })
tail_call t f arguments ps = at t (o.TailCall f arguments) _ (c.rolls-TailCall f arguments) ps

pub returns : (t : ℕ) (xs : List ℕ) (ps : Facts) → selected t (c.Return xs) ps ≡ (record { stmt = s.Return xs; facts = [] })
returns t xs ps = at t (o.Return xs) _ (c.rolls-Return xs) ps

pub raises : (t : ℕ) (i : ℕ) (xs : List ℕ) (ps : Facts) → selected t (c.Raise i xs) ps ≡ (record { stmt = s.Raise i xs; facts = [] })
raises t i xs ps = at t (o.Raise i xs) _ (c.rolls-Raise i xs) ps

pub shared_load : (t : ℕ) (size : Size) (x a : ℕ) (ps : Facts) → selected t (c.SharedLoad size x a) ps ≡ (let at = address_at a ps in record { stmt = s.SharedLoad size x at.base at.offset; facts = forget x ps })
shared_load t size x a ps = at t (o.SharedLoad size x a) _ (c.rolls-SharedLoad size x a) ps

pub shared_store : (t : ℕ) (size : Size) (a x : ℕ) (ps : Facts) → selected t (c.SharedStore size a x) ps ≡ (let at = address_at a ps in record { stmt = s.SharedStore size x at.base at.offset; facts = ps })
shared_store t size a x ps = at t (o.SharedStore size a x) _ (c.rolls-SharedStore size a x) ps

pub foreign : (t : ℕ) (live : List ℕ) (i conf conf_len array array_len : ℕ) (ps : Facts) → selected t (c.Foreign live i conf conf_len array array_len) ps ≡ (record { stmt = s.Foreign i conf conf_len array array_len; facts = [] })
foreign t live i conf conf_len array array_len ps = at t (o.Foreign live i conf conf_len array array_len) _ (c.rolls-Foreign live i conf conf_len array array_len) ps

pub ruleset select_rules = (skip, seq, const, move, bin, shift, compare, load_word, load_byte, store_word, store_byte, branch, loop, leave, again, call, tail_call, returns, raises, shared_load, shared_store, foreign)
