-- Frames: groups of a statement and its signatures. `length2` is a length of two bytes, and that many bytes follow it.
--   Bundle   01 01, number of groups1, groups
--   Proof    01 02, number of groups1, groups
--   Want     01 03, view2, place2
-- A group is length2 statement, number of signatures1, and for each signature signer1, length2 signature.
-- Bytes are a frame exactly where they are at most 61,000, with 1 to 255 groups, in each group 1 to 16 signatures of
-- at most 16,384 bytes by rising signers, and nothing after the last field.
-- Names here (* for this crate alone):
--   Group, FrameView
--   the spelling: signature_bytes, group_bytes, groups_bytes, frame_bytes, AreSignatures, IsGroup, AreGroups, HasParts, IsFrame
--   reading, with the first fault from the left: signature_at, signatures_at, group_at, groups_at, all_groups, want_at, groups_as,
--     frame_of
use Rattle.std.specs.Prelude.{ℕ, zero, suc, ◌+◌, ◌<◌, ◌≤◌, List, [], ◌∷◌, ◌++◌, length, Result, Ok, Err, nat_lt, not, ◌==◌, if◌then◌else◌}
use Rattle.std.specs.List.{flat_map, AllByRecursion}
use Rattle.std.specs.Int.{w8, w16}
use Rattle.byte_defs.specs.Fields.{◌>>=◌, refuse_if, number_at, bytes_at, two_bytes, text}
use Rattle.message_defs.specs.Limits.{most_members, most_signature_bytes, most_frame_bytes}
use Rattle.message_defs.specs.declared.FrameFault.{FrameFault}
use Rattle.message_defs.specs.declared.FrameFault.TheVariants as faults

-- a statement's bytes, and who signed them
pub record Group : Type 0 where
  pub statement : List ℕ
  -- signer and signature
  pub signatures : List (ℕ × List ℕ)

-- what a frame carries
pub data FrameView : Type 0 where
  Bundle : (groups : List Group) → FrameView
  Proof : (groups : List Group) → FrameView
  Want : (view place : ℕ) → FrameView

-- ---- the spelling

-- signer1, length2 signature
abbrev pub signature_bytes : ℕ × List ℕ → List ℕ
signature_bytes s = s.0 ∷ text s.1

-- length2 statement, number of signatures1, signatures
abbrev pub group_bytes : Group → List ℕ
group_bytes g = text g.statement ++ (length g.signatures ∷ flat_map signature_bytes g.signatures)

-- number of groups1, groups
abbrev pub groups_bytes : List Group → List ℕ
groups_bytes gs = length gs ∷ flat_map group_bytes gs

-- the bytes of a frame, as the table above has them
abbrev pub frame_bytes : FrameView → List ℕ
frame_bytes (Bundle gs) = 1 ∷ 1 ∷ groups_bytes gs
frame_bytes (Proof gs) = 1 ∷ 2 ∷ groups_bytes gs
frame_bytes (Want x k) = 1 ∷ 3 ∷ (two_bytes x ++ two_bytes k)

-- the signers rise from this number on, and each signature has its length
abbrev pub AreSignatures : ℕ → List (ℕ × List ℕ) → Type 0
AreSignatures least [] = Unit {0}
AreSignatures least (s ∷ more) = (least ≤ s.0) × (s.0 < 256) × (length s.1 ≤ most_signature_bytes) × AreSignatures (s.0 + 1) more

-- a group has 1 to 16 signatures by rising signers, and a statement whose length fits in two bytes
pub record IsGroup (g : Group) : Type 0 where
  pub statement : length g.statement < 65536
  pub some : 0 < length g.signatures
  pub few : length g.signatures ≤ most_members
  pub signatures : AreSignatures 0 g.signatures

-- there are 1 to 255 groups
pub record AreGroups (gs : List Group) : Type 0 where
  pub some : 0 < length gs
  pub few : length gs < 256
  pub each : AllByRecursion IsGroup gs

-- its groups, or the fields of its Want, can be spelled
abbrev pub HasParts : FrameView → Type 0
HasParts (Bundle gs) = AreGroups gs
HasParts (Proof gs) = AreGroups gs
HasParts (Want x k) = (x < 65536) × (k < 65536)

-- a frame that can be spelled: it has these parts, and at most 61,000 bytes
pub record IsFrame (f : FrameView) : Type 0 where
  pub parts : HasParts f
  pub size : length (frame_bytes f) ≤ most_frame_bytes

-- ---- reading, with the first fault from the left

-- one signature, of this signer or a higher one
unfoldable pub signature_at : ℕ → List ℕ → Result ((ℕ × List ℕ) × List ℕ) FrameFault
signature_at least bytes = do
  signer ← number_at faults.Short w8 bytes
  _ ← refuse_if (nat_lt signer.0 least) faults.Unordered
  len ← number_at faults.Short w16 signer.1
  _ ← refuse_if (nat_lt most_signature_bytes len.0) faults.Length
  signature ← bytes_at faults.Length len.0 len.1
  Ok ((signer.0, signature.0), signature.1)

-- n signatures, of signers that rise from `least` on
unfoldable pub signatures_at : ℕ → ℕ → List ℕ → Result (List (ℕ × List ℕ) × List ℕ) FrameFault
signatures_at zero least bytes = Ok ([], bytes)
signatures_at (suc n) least bytes = do
  first ← signature_at least bytes
  others ← signatures_at n (first.0.0 + 1) first.1
  Ok (first.0 ∷ others.0, others.1)

-- one group, and the bytes after it
unfoldable pub group_at : List ℕ → Result (Group × List ℕ) FrameFault
group_at bytes = do
  len ← number_at faults.Short w16 bytes
  statement ← bytes_at faults.Length len.0 len.1
  count ← number_at faults.Short w8 statement.1
  _ ← refuse_if (count.0 == 0) faults.Count
  _ ← refuse_if (nat_lt most_members count.0) faults.Count
  signatures ← signatures_at count.0 0 count.1
  Ok (record { statement = statement.0; signatures = signatures.0 }, signatures.1)

-- n groups
unfoldable pub groups_at : ℕ → List ℕ → Result (List Group × List ℕ) FrameFault
groups_at zero bytes = Ok ([], bytes)
groups_at (suc n) bytes = do
  first ← group_at bytes
  others ← groups_at n first.1
  Ok (first.0 ∷ others.0, others.1)

-- the count and the groups, and nothing after them
unfoldable pub all_groups : List ℕ → Result (List Group) FrameFault
all_groups bytes = do
  count ← number_at faults.Short w8 bytes
  _ ← refuse_if (count.0 == 0) faults.Count
  groups ← groups_at count.0 count.1
  _ ← refuse_if (not (length groups.1 == 0)) faults.Trailing
  Ok groups.0

-- the fields of a Want, and nothing after them
unfoldable pub want_at : List ℕ → Result FrameView FrameFault
want_at bytes = do
  view ← number_at faults.Short w16 bytes
  place ← number_at faults.Short w16 view.1
  _ ← refuse_if (not (length place.1 == 0)) faults.Trailing
  Ok (Want view.0 place.0)

-- the frame of this kind that has these groups
abbrev pub groups_as : (List Group → FrameView) → Result (List Group) FrameFault → Result FrameView FrameFault
groups_as kind read = read >>= λ gs. Ok (kind gs)

-- the frame that all of the bytes spell, or the first fault
unfoldable pub frame_of : List ℕ → Result FrameView FrameFault
frame_of bytes = do
  _ ← refuse_if (nat_lt most_frame_bytes (length bytes)) faults.Length
  version ← number_at faults.Short w8 bytes
  _ ← refuse_if (not (version.0 == 1)) faults.Version
  kind ← number_at faults.Short w8 version.1
  if kind.0 == 1 then groups_as Bundle (all_groups kind.1) else
      (if kind.0 == 2 then groups_as Proof (all_groups kind.1) else
      (if kind.0 == 3 then want_at kind.1 else Err faults.Kind))
