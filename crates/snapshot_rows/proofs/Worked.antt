-- The row, computed.
use Rattle.std.proofs.Common.{refl}
use Rattle.message_defs.specs.Reading as messages
use Rattle.snapshot_defs.specs.Steps as steps
use Rattle.snapshot_defs.specs.Reading as images
use Rattle.snapshot_rows.specs.Worked.{WorkedImage, worked, first, second, first_cut, second_cut, first_raised, second_raised}

pub worked_image : WorkedImage
unfolding messages.message_at messages.messages_at messages.count_at messages.payload_at messages.update_at messages.value_at
    messages.report_at messages.init_at messages.echo_at messages.placed_at messages.notify_at messages.end_at messages.last_at
    messages.valued_at messages.content_at messages.statement_in messages.statement_of steps.times_at steps.number_to steps.text_to
    images.statement_at images.claim_at images.update_at images.value_at images.left_at images.perceived_at images.conflict_at images.place_at
    images.message_at images.delivered_at images.view_at images.decision_at images.halted_at images.reported_at images.claimed_at
    images.settled_at images.image_at images.whole_at images.image_in worked first second first_cut second_cut first_raised second_raised
worked_image = record {
  read_first = refl;
  read_second = refl;
  fronts_first = refl;
  fronts_second = refl;
  raised_first = refl;
  raised_second = refl;
}
