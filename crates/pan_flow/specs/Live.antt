-- Whether a variable is live, computed backwards, with one pass over a loop.
use Rattle.std.specs.Prelude.{ℕ, ◌||◌, ◌&&◌, not, Bool, false}
use Rattle.pan_flow.specs.Flow.{Act, Reads, Writes, Leaves, Exit, AtEnd, Flow, Does, Ends, Then, Either, Loop, with_end, in_body, has}

-- whether it is live before the act, by whether it is after it
abbrev pub live_before_act : ℕ → Act → Bool → Bool
live_before_act x (Reads ys) after = has ys x || after
live_before_act x (Writes ys) after = not (has ys x) && after
live_before_act x (Leaves ys) after = not (has ys x) && after

-- Whether it is live before a statement, by whether it is at each exit. A loop's pass takes nothing as live at its head.
abbrev pub live_before : ℕ → Flow → (Exit → Bool) → Bool
live_before x (Does a) k = live_before_act x a (k AtEnd)
live_before x (Ends e) k = k e
live_before x (Then f g) k = live_before x f (with_end (live_before x g k) k)
live_before x (Either f g) k = live_before x f k || live_before x g k
live_before x (Loop f g) k = live_before x f (with_end (k AtEnd || live_before x g (in_body false k)) k)
