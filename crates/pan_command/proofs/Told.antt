-- What told files hold is one thing.
use Rattle.std.proofs.Common.{◌≡◌, ℕ, List, Option, Some, None, sym, ap, ◌∙◌, inl, inr}
use Rattle.pan_base.specs.Files.{Files}
use Rattle.pan_command.specs.Outside.{Call, files_before, Holds, Lacks, IsUndisturbed}
use Rattle.pan_command.specs.Reading.{FileUnread}

pub same_bytes : (o : Option Files) (all : Files) (name bytes other : List ℕ) → o ≡ Some all → all name ≡ Some bytes → Holds o name other → other ≡ bytes
same_bytes None all name bytes other told there h = absurd (cc)
same_bytes (Some f) all name bytes other told there h =
    let g : f ≡ all = cc in
    let k : all name ≡ Some other = sym (ap (λ (f : Files). f name) g) ∙ h in
    cc

pub not_lacks : (o : Option Files) (all : Files) (name bytes : List ℕ) → o ≡ Some all → all name ≡ Some bytes → Lacks o name → ⊥
not_lacks None all name bytes told there h = cc
not_lacks (Some f) all name bytes told there h =
    let g : f ≡ all = cc in
    let k : all name ≡ None = sym (ap (λ (f : Files). f name) g) ∙ h in
    cc

pub not_held : (o : Option Files) (all : Files) (name bytes : List ℕ) → o ≡ Some all → all name ≡ None → Holds o name bytes → ⊥
not_held None all name bytes told gone h = cc
not_held (Some f) all name bytes told gone h =
    let g : f ≡ all = cc in
    let k : all name ≡ Some bytes = sym (ap (λ (f : Files). f name) g) ∙ h in
    cc

-- a file that is there is read where no read failed
pub not_unread : (Prints : List ℕ → Type 0) (call : Call) (all : Files) (name bytes : List ℕ) → IsUndisturbed call all → all name ≡ Some bytes
    → FileUnread Prints call name → ⊥
not_unread Prints call all name bytes fine there u =
    elim u.cause [ inl r ↦ fine.reads r | inr l ↦ not_lacks (files_before call) all name bytes fine.told there l ]
