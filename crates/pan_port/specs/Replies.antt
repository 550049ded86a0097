-- A device that answers a list of replies in order.
use Rattle.std.specs.Prelude.{ℕ, List, length, Option, Some, None, if◌then◌else◌, nat_eq}
use Rattle.pan_base.specs.Events.{Asked, Load, Store, Foreign, Replied, Value, Done, Bytes, Stop}
use Rattle.pan_port.specs.Device.{Given, Gave, Silent}
use Rattle.pan_port.specs.declared.replies.OwnReply.{OwnReply}
use Rattle.pan_port.specs.declared.replies.OwnReply.TheVariants as own

-- a load or a store: bytes are answered as Stop
abbrev pub access_reply : OwnReply → Replied
access_reply (own.Value n) = Value n
access_reply own.Done = Done
access_reply (own.Bytes bytes) = Stop
access_reply own.Stop = Stop

-- a foreign call with this array: Done, and bytes of another length, are answered as Stop
abbrev pub call_reply : OwnReply → List ℕ → Replied
call_reply (own.Value n) array = Value n
call_reply own.Done array = Stop
call_reply (own.Bytes bytes) array = if nat_eq (length bytes) (length array) then Bytes bytes else Stop
call_reply own.Stop array = Stop

-- silence where no reply is left
abbrev pub access_given : Option OwnReply → Given
access_given None = Silent
access_given (Some r) = Gave (access_reply r)

abbrev pub call_given : Option OwnReply → List ℕ → Given
call_given None array = Silent
call_given (Some r) array = Gave (call_reply r array)

-- what the next reply gives to a request
abbrev pub next_given : Asked → Option OwnReply → Given
next_given (Load size addr) r = access_given r
next_given (Store size addr value) r = access_given r
next_given (Foreign number name conf array) r = call_given r array

-- the replies that are left, and how often Stop and Quiet were answered
pub record ReplyListState : Type 0 where
  pub left : List OwnReply
  pub stops : ℕ
  pub silences : ℕ
