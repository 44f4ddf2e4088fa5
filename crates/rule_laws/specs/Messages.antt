-- Messages: the least Init and the least Echo that are due.
use Rattle.std.specs.Prelude.{◌≡◌, ℕ, ◌+◌, ◌<◌, Bool, IsTrue, IsFalse, ◌&&◌, not, nat_lt, if◌then◌else◌, Option, Some, None, is_some, option_map, option_and_then, slice_get, slice_index_or, unwrap_or, [], length}
use Rattle.group_defs.specs.Below.{most_places, Statement, Init, InitAt, EchoAt, Message, Echo, payload_of}
use Rattle.group_defs.specs.Views.{is_member}
use Rattle.group_defs.specs.Process.{Inits, Echoes, Setting, Process, earlier, delivered_from}
use Rattle.group_defs.specs.Certified.{heard_on, is_signed, is_ended}
use Rattle.group_defs.specs.Due.{window, least_due}
use Rattle.rule_laws.specs.Heard.{IsPool}
use Rattle.pool_laws.specs.Least.{IsLeastBelow}

-- ---- Init

-- the own Init of this number, of the payload that was accepted for it
abbrev pub own_init : Process → ℕ → Statement
own_init p l = Init p.pool.view.number l (slice_index_or p.accepted (earlier p + l) [])

-- the own Init of this number is not signed
abbrev pub is_init_open : Process → ℕ → Bool
is_init_open p l = not (is_signed p (InitAt p.pool.view.number l))

-- the number is in the window of the own messages, and a payload was accepted for it
abbrev pub has_payload : Process → ℕ → Bool
has_payload p l = nat_lt l (delivered_from p.me p.delivered + window) && nat_lt (earlier p + l) (length p.accepted)

-- a member's least Init is that of the least number not signed, where that has a payload
abbrev pub InitIsLeast : Type 0
InitIsLeast = (s : Setting) (p : Process) (o : Option ℕ) → IsTrue (is_member p.pool.view p.me) → IsLeastBelow most_places (is_init_open p) o
    → least_due s p Inits ≡ option_map (own_init p) (option_and_then (λ l. if has_payload p l then Some l else None) o)

-- ---- Echo

-- the member's message of this number
abbrev pub message_at : ℕ × ℕ → Message
message_at e = record { sender = e.0; number = e.1 }

-- the member's Init of this number is heard, and its Echo is not signed
abbrev pub waits : Process → ℕ → ℕ → Bool
waits p m l = is_some (heard_on p.pool m (InitAt p.pool.view.number l)) && not (is_signed p (EchoAt p.pool.view.number (message_at (m, l))))

-- the Echo of the member's message of this number, of the payload that its Init says
abbrev pub echo_to : Process → ℕ × ℕ → Statement
echo_to p e = Echo p.pool.view.number (message_at e)
    (unwrap_or (option_and_then payload_of (heard_on p.pool e.0 (InitAt p.pool.view.number e.1))) [])

-- of the members one of whose Inits waits, the one of least rank, and its least Init that waits
abbrev pub IsFirstWaiting : Process → Option (ℕ × ℕ) → Type 0
IsFirstWaiting p None = (r m : ℕ) → slice_get p.pool.view.members r ≡ Some m → IsLeastBelow most_places (waits p m) None
IsFirstWaiting p (Some e) = (rank : ℕ) × (slice_get p.pool.view.members rank ≡ Some e.0) × IsLeastBelow most_places (waits p e.0) (Some e.1)
    × ((r m : ℕ) → r < rank → slice_get p.pool.view.members r ≡ Some m → IsLeastBelow most_places (waits p m) None)

-- a member that has not signed its End echoes that one
abbrev pub EchoIsLeast : Type 0
EchoIsLeast = (s : Setting) (p : Process) (o : Option (ℕ × ℕ)) → IsPool p.pool → IsTrue (is_member p.pool.view p.me) → IsFalse (is_ended p)
    → IsFirstWaiting p o
    → least_due s p Echoes ≡ option_map (echo_to p) o
