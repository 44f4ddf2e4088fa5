-- What an event of the code, and what comes of it, are in the definitions.
use Rattle.std.specs.Prelude.{◌≡◌, ℕ, List, map, Option, Some, None}
use Rattle.std.specs.List.{flat_map}
use Rattle.message_defs.specs.Claims.{frame_said}
use Rattle.message_defs.specs.Packing.{signed_of}
use Rattle.group_defs.specs.Events as defs
use Rattle.group_defs.specs.Sending as parcels
use Rattle.view_table.specs.Views.{as_view}
use Rattle.pool_questions.specs.Events.{Event, EventVerdict, Taken, Refused, Note, Outcome, Sending, signed}
use Rattle.pool_questions.specs.Events as events
use Rattle.ending_rules.specs.Perceiving.{fault}

-- the event; of a frame, what its bytes say
abbrev pub event : Event → defs.Event
event (events.Submit payload) = defs.Submit payload.now
event (events.Frame from bytes) = defs.Hand from (frame_said bytes.now)
event (events.Suspect p) = defs.Suspect p
event (events.Join p) = defs.Join p
event events.Renew = defs.RenewView
event events.Tick = defs.Tick

-- the refusal, if it was refused
abbrev pub refusal : EventVerdict → Option defs.EventFault
refusal Taken = None
refusal (Refused f) = Some (fault f)

-- a frame, and to whom it goes
abbrev pub frame_to : Sending → List ℕ × List ℕ
frame_to out = (out.to, out.frame)

-- the frames of a sending, each with those to whom it goes
abbrev pub frames_to : parcels.Sending → List (List ℕ × List ℕ)
frames_to out = map (λ bytes. (out.to, bytes)) (parcels.frames_of out.parcel)

-- what is reported
abbrev pub note : Note → defs.Note
note (events.Delivered view place sender number payload) = defs.Delivers view
    (record { place = place; message = record { sender = sender; number = number }; payload = payload })
note (events.Installed view members) = defs.Installs (as_view view members.items)
note (events.Liar p) = defs.Liar p
note events.Spent = defs.Spent
note (events.Halted delivered cut) = defs.Halts delivered cut

-- this is what came of the event: verdict, claims newly heard, what was signed as it is in a frame, whether a signature was
-- missing, the frames with their addressees, and what is reported
pub record IsOutcome (o : defs.Outcome) (r : Outcome) : Type 0 where
  pub verdict : o.verdict ≡ refusal r.verdict
  pub heard : o.heard ≡ r.heard
  pub signed_now : map signed_of o.signed ≡ map signed r.signed.items
  pub spent : o.spent ≡ r.spent
  pub sends : flat_map frames_to o.sends ≡ map frame_to r.sends.items
  pub reported : o.notes ≡ map note r.notes.items
