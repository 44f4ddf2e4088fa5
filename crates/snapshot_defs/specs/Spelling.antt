-- The bytes of an image in either version.
use Rattle.std.specs.Prelude.{ℕ, if◌then◌else◌, List, [], ◌∷◌, ◌++◌, length}
use Rattle.std.specs.List.{flat_map}
use Rattle.byte_defs.specs.Fields.{two_bytes, text}
use Rattle.message_defs.specs.Spelling.{ready_bytes}
use Rattle.group_defs.specs.Process.{Delivered}
use Rattle.image_defs.specs.Images.{Image}
use Rattle.image_defs.specs.Spelling.{list_bytes, claim_bytes, left_bytes, perceived_bytes, conflict_bytes}
use Rattle.snapshot_defs.specs.declared.Version.{Version}
use Rattle.snapshot_defs.specs.declared.Version.TheVariants.{One, Two}

-- the place of a delivered message: version 1 has none
abbrev pub place_bytes : Version → ℕ → List ℕ
place_bytes One place = []
place_bytes Two place = two_bytes place

abbrev pub message_of_bytes : Version → Delivered → List ℕ
message_of_bytes v d = place_bytes v d.place ++ d.message.sender ∷ (two_bytes d.message.number ++ text d.payload)

-- the own number, the views that were left, the perceived pairs and the accepted payloads
abbrev pub reported_bytes : Image → List ℕ
reported_bytes i = i.me ∷ (two_bytes (length i.left) ++ (flat_map left_bytes i.left
    ++ (list_bytes perceived_bytes i.perceived ++ list_bytes text i.accepted)))

-- the signed claims, those that were heard before, those that are heard, and the conflicts
abbrev pub claimed_bytes : Image → List ℕ
claimed_bytes i = list_bytes claim_bytes i.signed ++ (list_bytes claim_bytes i.previous ++ (list_bytes claim_bytes i.heard
    ++ (length i.conflicts ∷ flat_map conflict_bytes i.conflicts)))

-- what was delivered in each view, the decision, and whether the process has halted
abbrev pub settled_bytes : Version → Image → List ℕ
settled_bytes v i = flat_map (list_bytes (message_of_bytes v)) i.delivered ++ (ready_bytes i.decision ++ (if i.halted then 1 else 0) ∷ [])

unfoldable pub spelled : Version → Image → List ℕ
spelled v i = reported_bytes i ++ (claimed_bytes i ++ settled_bytes v i)
