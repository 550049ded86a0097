-- The bytes of a request.
use Rattle.std.specs.Prelude.{ℕ, ◌≤◌, ◌==◌, not, length, IsTrue}
use Rattle.std.specs.List.{list_all}
use Rattle.pan_base.specs.declared.events.Request.{Request}
use Rattle.pan_base.specs.declared.events.Request.TheVariants.{Foreign}

-- no buffer is longer, and a name has no line feed
abbrev pub BuffersFit : Request → ℕ → Type 0
BuffersFit (Foreign number name conf array) size =
    (length conf.now ≤ size) × (length array.now ≤ size) × IsTrue (list_all (λ b. not (b == 10)) name.now)
BuffersFit _ size = Unit {0}
