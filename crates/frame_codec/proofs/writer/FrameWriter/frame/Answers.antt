use Rattle.std.proofs.Common.{vec_capacity}
use Rattle.frame_codec.specs.Drafts.{groups_in}
use Rattle.frame_codec.proofs.Drafting.{holds-makes}
use Rattle.frame_codec.proofs.writer.FrameWriter.frame.Goals as goal

pub returns-clause-again : goal.returns-clause-again
returns-clause-again c = rw (c.deref.ensures.value, ← c.self.view_is)
    (holds-makes c.self.inside.kind c.self.inside.room (vec_capacity c.self.inside.bytes) c.self.inside.bytes.items c.self.inside.last
    (groups_in c.self.inside.bytes.items) c.self.invariant (rw (← c.self.view_is) at c.requires)).again
