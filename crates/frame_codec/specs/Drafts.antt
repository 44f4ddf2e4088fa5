-- A frame while it is written, and how its bytes hold it.
use Rattle.std.specs.Prelude.{◌≡◌, ℕ, ◌+◌, ◌<◌, ◌≤◌, ◌==◌, List, [], ◌∷◌, ◌++◌, length, drop, Option, Some, None, slice_index, if◌then◌else◌}
use Rattle.std.specs.List.{flat_map, AllByRecursion}
use Rattle.message_defs.specs.Frames.{Group, FrameView, Bundle, Proof, IsGroup, group_bytes, groups_bytes, groups_at}
use Rattle.frame_codec.specs.Views.{items_of}
use Rattle.frame_codec.specs.declared.writer.Last.{Last}

-- what a writer holds: the kind's number, the most bytes of the frame, and the groups so far
pub record Draft : Type 0 where
  pub kind : ℕ
  pub room : ℕ
  pub groups : List Group

-- the frame that it makes
abbrev pub drafted : Draft → FrameView
drafted d = if d.kind == 1 then Bundle d.groups else Proof d.groups

-- ---- its bytes

-- the groups in the bytes of a frame
abbrev pub groups_in : List ℕ → List Group
groups_in bytes = items_of (groups_at (slice_index bytes 2) (drop 3 bytes))

-- the last group is there, and this is its last signer
pub record IsLast (groups : List Group) (last : Last) : Type 0 where
  pub before : List Group
  pub statement : List ℕ
  pub earlier : List (ℕ × List ℕ)
  pub signature : List ℕ
  pub parts : groups ≡ before ++ record { statement = statement; signatures = earlier ++ (last.signer, signature) ∷ [] } ∷ []
  pub statement_at : last.statement_at ≡ 5 + length (flat_map group_bytes before)
  pub count_at : last.count_at ≡ last.statement_at + length statement

-- there is no group, or the last one is there
abbrev pub Ends : List Group → Option Last → Type 0
Ends groups None = groups ≡ []
Ends groups (Some last) = IsLast groups last

-- the bytes are the frame of these groups, within its room
pub record Holds (kind room capacity : ℕ) (bytes : List ℕ) (last : Option Last) (groups : List Group) : Type 0 where
  pub kinds : (1 ≤ kind) × (kind ≤ 2)
  pub rooms : (3 ≤ room) × (room ≤ 61000)
  pub reserved : room ≤ capacity
  pub size : length bytes ≤ room
  pub spelled : bytes ≡ 1 ∷ kind ∷ groups_bytes groups
  pub each : AllByRecursion IsGroup groups
  pub few : length groups < 256
  pub ends : Ends groups last

-- the places of the last group lie within the bytes
abbrev pub IsWithin : List ℕ → Option Last → Type 0
IsWithin bytes None = Unit {0}
IsWithin bytes (Some last) = (last.statement_at ≤ last.count_at) × (last.count_at < length bytes)
