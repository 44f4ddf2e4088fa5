-- The row of specs/FrameFirst.antt, computed.
use Rattle.std.proofs.Common.{refl}
use Rattle.audit_rows.proofs.Opened.{all_opened}
use Rattle.audit_rows.specs.FrameFirst.{sources, FrameFirst}

pub frame_first : FrameFirst
unfolding all_opened sources
frame_first = refl
