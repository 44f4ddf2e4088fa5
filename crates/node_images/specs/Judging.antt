-- Which snapshots a node of a kit may begin by, part by part, and what is made of them.
use Rattle.std.specs.Prelude.{◌≡◌, ℕ, ◌≤◌, List, [], ◌∷◌, length, Some}
use Rattle.std.specs.Option.{option_map_or}
use Rattle.signature_defs.specs.Secrets.{total_of, signature_of}
use Rattle.kit_defs.specs.Kits.{Kit}
use Rattle.image_defs.specs.Images.{Image}
use Rattle.image_defs.specs.Kept.{IsKept}
use Rattle.node_defs.specs.Casts.{Cast, host_of, setting_of}
use Rattle.node_defs.specs.Snapshots.{IsSnapshotFor}
use Rattle.snapshot_lines.specs.Said.{Part, SnapSaid, snap_said, snapshot_said}
use Rattle.sig_scheme.specs.Signers.{used, total, signature}
use Rattle.member_restoring.specs.Restored.{IsRestored, signer_in}
use Rattle.node_images.specs.declared.judged.Judged.{Judged}
use Rattle.node_images.specs.declared.snap.Snap.{Snap}

-- how many signatures the key of process p can make, and its signature on a body after so many others
abbrev pub total_in : Kit → ℕ → ℕ
total_in kit p = option_map_or (λ h. total_of h.secret) (host_of kit p) 0

abbrev pub signer_of : Kit → ℕ → ℕ → List ℕ → List ℕ
signer_of kit p used body = option_map_or (λ h. signature_of h.secret used body) (host_of kit p) []

-- the image is kept, and the key of process p can make as many signatures as it has signed claims
pub record IsFitFor (kit : Kit) (p : ℕ) (i : Image) : Type 0 where
  pub kept : IsKept (setting_of kit) i
  pub signed : length i.signed ≤ total_in kit p

-- the part is one for the kit's node at this place
pub record IsPartFor (kit : Kit) (place : ℕ) (part : Part) : Type 0 where
  pub own : part.2.me ≡ part.0
  pub counted : part.1 ≤ place
  pub fit : IsFitFor kit part.0 part.2

-- This is the process of the part, with its count of entries, and it signs with its key of the kit.
pub record IsJudged (kit : Kit) (part : Part) (j : Judged) : Type 0 where
  pub process : j.process ≡ part.0
  pub number : part.2.me ≡ part.0
  pub entries : j.entries ≡ part.1
  pub restored : IsRestored used (setting_of kit) 1 part.2 j.restored
  pub total : total (signer_in j.restored) ≡ total_in kit part.0
  pub signs : signature (signer_in j.restored) ≡ signer_of kit part.0

-- and so of each, in order
abbrev pub AreJudged : Kit → List Part → List Judged → Type 0
AreJudged kit [] [] = Unit {0}
AreJudged kit (part ∷ parts) (j ∷ js) = IsJudged kit part j × AreJudged kit parts js
AreJudged kit _ _ = ⊥

-- This is the snapshot that is said, with its processes.
pub record IsSnapOf (kit : Kit) (t : SnapSaid) (snap : Snap) : Type 0 where
  pub version : snap.version ≡ t.version
  pub header : snap.header ≡ t.header
  pub place : snap.place ≡ t.place
  pub digest : snap.digest ≡ t.digest
  pub processes : AreJudged kit t.parts snap.processes.items

-- the line says a snapshot by which the cast's node may begin
pub record IsSaidFor (c : Cast) (line : List ℕ) : Type 0 where
  pub said : SnapSaid
  pub says : snap_said c.hosted line ≡ Some said
  pub is_for : IsSnapshotFor c (snapshot_said said)
