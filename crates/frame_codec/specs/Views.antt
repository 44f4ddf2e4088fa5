-- What a frame that was read is, and what its iterators have left, as plain data.
use Rattle.std.specs.Prelude.{ℕ, List, [], Result, Ok, Err}
use Rattle.std.specs.Borrow.{Bor}
use Rattle.message_defs.specs.declared.FrameFault.{FrameFault}
use Rattle.message_defs.specs.Frames as plain
use Rattle.frame_codec.specs.declared.groups.Signatures.{Signatures}
use Rattle.frame_codec.specs.declared.groups.Group.{Group}
use Rattle.frame_codec.specs.declared.groups.Groups.{Groups}
use Rattle.frame_codec.specs.declared.groups.FrameView.{FrameView}
use Rattle.frame_codec.specs.declared.groups.FrameView.TheVariants.{Bundle, Proof, Want}

-- the list that was read, or the empty one
abbrev pub items_of : {X : Type 0} → Result (List X × List ℕ) FrameFault → List X
items_of (Ok x) = x.0
items_of (Err e) = []

abbrev pub signature_view : ℕ × Bor (List ℕ) → ℕ × List ℕ
signature_view s = (s.0, s.1.now)

abbrev pub signatures_left : Signatures → List (ℕ × List ℕ)
signatures_left s = items_of (plain.signatures_at s.left s.least s.bytes.now)

abbrev pub group_view : Group → plain.Group
group_view g = record { statement = g.statement.now; signatures = signatures_left g.signatures }

abbrev pub groups_left : Groups → List plain.Group
groups_left g = items_of (plain.groups_at g.left g.bytes.now)

abbrev pub frame_view : FrameView → plain.FrameView
frame_view (Bundle gs) = plain.Bundle (groups_left gs)
frame_view (Proof gs) = plain.Proof (groups_left gs)
frame_view (Want x k) = plain.Want x k
