-- Accesses of the shared window, as every stage makes them.
use Rattle.std.specs.Prelude.{ℕ, ◌*◌, ◌%◌, ◌^◌}
use Rattle.pan_base.specs.declared.events.Size.{Size}
use Rattle.pan_base.specs.Events.{Load, Store, byte_count}
use Rattle.pan_control.specs.World.{World}
use Rattle.pan_control.specs.Memory.{is_shared}
use Rattle.pan_control.specs.Control.{Outcome, where_true, ask}
use Rattle.pan_control.specs.Runs.{number}

-- goes on with the number that the outside has at the address, or fails where no such access lies in the window
abbrev pub with_loaded : {V X G : Type 0} → Size → ℕ → World G → (ℕ → World G → Outcome G V X) → Outcome G V X
with_loaded size addr w go = where_true (is_shared size addr) w (ask (Load size addr) w (λ r w. go (number r) w))

-- goes on after the number's low bytes are stored at the address, or fails where no such access lies in the window
abbrev pub with_stored : {V X G : Type 0} → Size → (addr n : ℕ) → World G → (World G → Outcome G V X) → Outcome G V X
with_stored size addr n w go = where_true (is_shared size addr) w (ask (Store size addr (n % 2 ^ (8 * byte_count size))) w (λ r w. go w))
