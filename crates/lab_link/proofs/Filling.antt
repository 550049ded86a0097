-- Lines that are pushed one after another.
use Rattle.std.proofs.Common.{◌≡◌, ℕ, pos, ◌+◌, refl, sym, subst, List, [], ◌∷◌, ◌++◌, arith}
use Rattle.std.specs.List.{All}
use Rattle.std.proofs.lemmas.List.Elements.{All-nil, All-push}
use Rattle.pan_base.specs.declared.operators.IOp.TheVariants.{Addi}
use Rattle.riscv_isa.specs.declared.instr.Instr.TheVariants.{I}
use Rattle.lab_lang.specs.Layout.{longest}
use Rattle.lab_lang.specs.WellFormed.{IsLine}
use Rattle.lab_lang.specs.declared.syntax.Line.{Line}
use Rattle.lab_lang.specs.declared.syntax.Line.TheVariants.{Plain}
use Rattle.lab_link.proofs.Places.{span}

span_push : (xs : List Line) (x : Line) → span (xs ++ x ∷ []) ≡ span xs + longest x
span_push [] x = omega arith
span_push (y ∷ ys) x = let e = span_push ys x in omega arith

-- lines in range with one label, and so many instructions
pub record Filled (xs : List Line) (n : ℕ) : Type 0 where
  pub all : All (IsLine 1) xs
  pub long_is : span xs ≡ n

pub filled_push : (xs ys : List Line) (x : Line) (n m : ℕ) → Filled xs n → ys ≡ xs ++ x ∷ [] → IsLine 1 x → m ≡ n + longest x → Filled ys m
filled_push xs ys x n m f e is more = subst (λ ys. Filled ys m) (sym e) (record {
  all = All-push (IsLine 1) xs x f.all is;
  long_is = let a = f.long_is in let b = span_push xs x in omega arith;
})

pub filled_none : (xs : List Line) → xs ≡ [] → Filled xs 0
filled_none xs e = subst (λ ys. Filled ys 0) (sym e) (record { all = All-nil (IsLine 1); long_is = refl })

pub step_is : IsLine 1 (Plain (I Addi 15 15 (pos 1)))
step_is = (omega arith, omega arith, omega arith, omega arith)
