-- Images of the code, as plain data.
use Rattle.std.specs.Prelude.{ℕ, map}
use Rattle.message_defs.specs.Updates as updates
use Rattle.group_defs.specs.Process as plain
use Rattle.image_defs.specs.Images as images
use Rattle.rp_base.specs.declared.updates.Update.{Update}
use Rattle.rp_base.specs.Views.{update, value}
use Rattle.member_events.specs.declared.events.Delivered.{Delivered}
use Rattle.member_events.specs.Below.{report}
use Rattle.snapshot_rp.specs.declared.image.LeftView.{LeftView}
use Rattle.snapshot_rp.specs.declared.image.Image.{Image}

abbrev pub left_view : LeftView → images.LeftView
left_view l = record { rank = l.rank; value = value l.value; commit = l.commit.items }

abbrev pub perceived : ℕ × Update → ℕ × updates.Update
perceived e = (e.0, update e.1)

abbrev pub delivered : Delivered → plain.Delivered
delivered d = record { place = d.place; message = record { sender = d.sender; number = d.number }; payload = d.payload }

abbrev pub image : Image → images.Image
image i = record {
  me = i.me;
  left = map left_view i.left.items;
  perceived = map perceived i.perceived.items;
  accepted = i.accepted.items;
  signed = i.signed.items;
  previous = i.previous.items;
  heard = i.heard.items;
  conflicts = i.conflicts.items;
  delivered = map (λ ds. map delivered ds.items) i.delivered.items;
  decision = report i.decision;
  halted = i.halted;
}
