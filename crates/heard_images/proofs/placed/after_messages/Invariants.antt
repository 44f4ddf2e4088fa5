use Rattle.std.proofs.Common.{◌≡◌, map, drop}
use Rattle.member_events.specs.Below.{message_of}
use Rattle.snapshot_rp.specs.Views.{delivered}
use Rattle.heard_images.specs.Walks.{after_batch}
use Rattle.heard_images.proofs.placed.after_messages.Given as goal

abbrev pub invariant-loop-message : goal.invariant-loop-message
invariant-loop-message l =
    after_batch l.place (map message_of (drop l.message-index l.messages)) (map delivered l.left)
    ≡ after_batch l.place (map message_of l.messages) (map delivered l.delivered)
