-- What was handed to correct processes as frames: those of the sent frames that were, and bytes that no process sent.
use Rattle.std.specs.Prelude.{◌≡◌, ℕ, Bool, List, [], ◌∷◌, map, filter, true, Some, slice_get, slice_set}
use Rattle.std.specs.List.{flat_map, list_all}
use Rattle.message_defs.specs.Statements.{Claim}
use Rattle.message_defs.specs.Claims.{frame_said}
use Rattle.group_defs.specs.Events.{Hand}
use Rattle.group_defs.specs.Family.{claims_in, handed}
use Rattle.replay_defs.specs.Schedules.{Header}
use Rattle.replay_defs.specs.Worlds as plain
use Rattle.replay_defs.specs.Worlds.{family_of}
use Rattle.member_events.specs.declared.events.Event.{Event}
use Rattle.member_events.specs.declared.events.Event.TheVariants as events
use Rattle.replay_world.specs.declared.traffic.Sent.{Sent}

-- the bytes of the frames that a correct process took
abbrev pub handed_frames : List Sent → List (List ℕ)
handed_frames fs = map (λ f. f.bytes) (filter (λ f. f.handed) fs)

-- the bytes that the event hands over as a frame
abbrev pub bytes_in : Event → List (List ℕ)
bytes_in (events.Frame from bytes) = bytes.now ∷ []
bytes_in _ = []

-- the claims of a frame with these bytes
abbrev pub claims_of : List ℕ → List Claim
claims_of bytes = claims_in (Hand 0 (frame_said bytes))

-- the frame of this number was handed over
abbrev pub Marks : List Sent → List Sent → ℕ → Type 0
Marks old new i = (f : Sent) → slice_get old i ≡ Some f → new ≡ slice_set old i (record f { handed = true })

-- The claims that correct processes were handed are those of these bytes: a test that all of the one pass, all of the other pass too.
abbrev pub AreHanded : List (List ℕ) → Header → plain.World → Type 0
AreHanded kept h v = (test : Claim → Bool) → list_all test (handed (family_of h v)) ≡ list_all test (flat_map claims_of kept)
