-- Requests, replies, traces and ends, without where their bytes lie in memory.
use Rattle.std.specs.Prelude.{◌≡◌, ℕ, ◌*◌, ◌^◌, List, [], ◌∷◌, ◌++◌, length, Bool, true, false, ◌&&◌, nat_lt, nat_eq, IsTrue}
use Rattle.std.specs.List.{list_all}
use Rattle.std.specs.Int.{Width, w8, w16, w32, w64}
use Rattle.pan_base.specs.declared.events.Size.{Size}
use Rattle.pan_base.specs.declared.events.Size.TheVariants.{B1, B2, B4, B8}
use Rattle.pan_base.specs.declared.events.Request.{Request}
use Rattle.pan_base.specs.declared.events.Request.TheVariants as request
use Rattle.pan_base.specs.declared.events.Reply.{Reply}
use Rattle.pan_base.specs.declared.events.Reply.TheVariants as reply
use Rattle.pan_base.specs.declared.events.End.{End}
use Rattle.pan_base.specs.declared.events.End.TheVariants as told_end

-- what was asked
pub data Asked : Type 0 where
  Load : (size : Size) (addr : ℕ) → Asked
  Store : (size : Size) (addr value : ℕ) → Asked
  Foreign : (number : ℕ) (name conf array : List ℕ) → Asked

-- what was replied
pub data Replied : Type 0 where
  Value : (n : ℕ) → Replied
  Done : Replied
  Bytes : (bytes : List ℕ) → Replied
  Stop : Replied

abbrev pub asked : Request → Asked
asked (request.Load size addr) = Load size addr
asked (request.Store size addr value) = Store size addr value
asked (request.Foreign number name conf array) = Foreign number name.now conf.now array.now

abbrev pub replied : Reply → Replied
replied (reply.Value n) = Value n
replied reply.Done = Done
replied (reply.Bytes bytes) = Bytes bytes.now
replied reply.Stop = Stop

-- how many bytes an access has
abbrev pub byte_count : Size → ℕ
byte_count B1 = 1
byte_count B2 = 2
byte_count B4 = 4
byte_count B8 = 8

-- how wide an access is
abbrev pub width : Size → Width
width B1 = w8
width B2 = w16
width B4 = w32
width B8 = w64

-- whether the reply is one to this request: a value of the size, done, or as many bytes as the array has
abbrev pub fits : Asked → Replied → Bool
fits (Load size addr) (Value n) = nat_lt n (2 ^ (8 * byte_count size))
fits (Store size addr value) Done = true
fits (Foreign number name conf array) (Bytes bytes) = nat_eq (length bytes) (length array) && list_all (λ b. nat_lt b 256) bytes
fits _ _ = false

-- a reply that fits a request
abbrev pub Fits : Asked → Replied → Type 0
Fits q r = IsTrue (fits q r)

-- a request with its reply; in a trace the reply fits
pub record Event : Type 0 where
  pub request : Asked
  pub reply : Replied

-- how a run ends, with the request that is open where it was stopped or has no reply
pub data Ending : Type 0 where
  Exit : (value : ℕ) → Ending
  Uncaught : (number : ℕ) → Ending
  Stopped : (open_request : Asked) → Ending
  Asks : (open_request : Asked) → Ending
  Spent : Ending
  Stack : Ending
  Fault : Ending
  Fails : Ending

-- the end as it is told, without the open request
abbrev pub end_of : Ending → End
end_of (Exit n) = told_end.Exit n
end_of (Uncaught n) = told_end.Uncaught n
end_of (Stopped q) = told_end.Stopped
end_of (Asks q) = told_end.Asks
end_of Spent = told_end.Spent
end_of Stack = told_end.Stack
end_of Fault = told_end.Fault
end_of Fails = told_end.Fails

-- what is seen of a run: its events in order, and how it ends
pub record Behaviour : Type 0 where
  pub events : List Event
  pub ending : Ending

-- no event
abbrev pub only : Ending → Behaviour
only ending = record { events = []; ending = ending }

-- an event before the rest
abbrev pub before : Asked → Replied → Behaviour → Behaviour
before request reply rest = record { events = record { request = request; reply = reply } ∷ rest.events; ending = rest.ending }

-- a list is a prefix of another
pub record IsPrefix (front whole : List Event) : Type 0 where
  pub rest : List Event
  pub all : whole ≡ front ++ rest
