-- What is handed to a process, read.
use Rattle.std.specs.Prelude.{ℕ, ◌≤◌, Bool, true, false, length}
use Rattle.std.specs.List.{AllByRecursion}
use Rattle.message_defs.specs.Limits.{most_payload_bytes, last_number, most_places}
use Rattle.message_defs.specs.Spelling.{IsClaim}
use Rattle.message_defs.specs.Claims as frames
use Rattle.group_defs.specs.Events as defs
use Rattle.rp_base.specs.Views.{update as update_of}
use Rattle.member_events.specs.Below.{claims_left}
use Rattle.member_state.specs.Perceiving.{asking}
use Rattle.member_taking.specs.declared.inputs.Input.{Input}
use Rattle.member_taking.specs.declared.inputs.Input.TheVariants.{Payload, Claims, Want, Update, Tick}

-- the event that hands it over
abbrev pub handed : Input → defs.Event
handed (Payload payload) = defs.Submit payload.now
handed (Claims from claims) = defs.Hand from (frames.Claims (claims_left claims))
handed (Want from x k) = defs.Hand from (frames.Wants x k)
handed (Update u) = asking (update_of u)
handed Tick = defs.Tick

-- an update is asked for
abbrev pub asks : Input → Bool
asks (Update u) = true
asks _ = false

-- a frame has at most 255 groups, and a group at most 255 signatures: each count is one byte
abbrev pub most_claims : ℕ
most_claims = 65025

-- a payload has at most 1,024 bytes; the claims are as a frame can carry them; a Want asks from a view and a place that there can be
abbrev pub InRange : Input → Type 0
InRange (Payload payload) = length payload.now ≤ most_payload_bytes
InRange (Claims from claims) = AllByRecursion IsClaim (claims_left claims) × (length (claims_left claims) ≤ most_claims)
InRange (Want from x k) = (x ≤ last_number) × (k ≤ most_places)
InRange (Update u) = Unit {0}
InRange Tick = Unit {0}
