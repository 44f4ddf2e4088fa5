-- The claims of a pool as they are sent.
use Rattle.std.specs.Prelude.{ℕ, List, [], map, filter_map, option_and_then, Option, Some, None}
use Rattle.std.specs.List.{AllByRecursion}
use Rattle.message_defs.specs.Statements.{Message, Slot, EchoAt, Claim}
use Rattle.message_defs.specs.Spelling.{IsClaim}
use Rattle.message_defs.specs.Packing.{Signed, signed_of}
use Rattle.group_defs.specs.Process.{Pool}
use Rattle.group_defs.specs.Certified.{claim_on, certificate_on, place_at}
use Rattle.group_defs.specs.Sending.{message_certificates}

-- what is heard is in its ranges, as what a frame carries and what is signed is
abbrev pub IsRanged : Pool → Type 0
IsRanged h = AllByRecursion IsClaim h.heard

-- the claims as they are in a frame
abbrev pub all_signed : List Claim → List Signed
all_signed cs = map signed_of cs

-- the certificate of what is certified on the slot, where there is one
abbrev pub certificate_of : Pool → Option Slot → List Claim
certificate_of h None = []
certificate_of h (Some s) = certificate_on h s

-- what the member's heard claim on the slot is, where there is a slot
abbrev pub said_on : Pool → Option Slot → ℕ → Option Claim
said_on h o member = option_and_then (claim_on h.heard member) o

-- what these say there, in their order
abbrev pub said_by : Pool → Option Slot → List ℕ → List Claim
said_by h o members = filter_map (said_on h o) members

-- the certificate of the message
abbrev pub message_certificate : Pool → Message → List Claim
message_certificate h m = certificate_on h (EchoAt h.view.number m)

-- the certificates of the messages of the batch that is certified of the place, where one is
abbrev pub messages_at : Pool → ℕ → List Claim
messages_at h k = elim (place_at h k) [ None ↦ [] | Some b ↦ message_certificates h b ]
