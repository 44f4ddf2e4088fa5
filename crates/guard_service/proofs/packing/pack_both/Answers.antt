use Rattle.member_events.specs.Below.{claim as claim_of}
use Rattle.guard_service.proofs.Packed.{has-groups, room-for-first, room-for-second}
use Rattle.guard_service.proofs.packing.pack_both.Goals as goal

pub put-requires-clause-room : goal.put-requires-clause-room
put-requires-clause-room c =
    room-for-first (claim_of c.args.first.now) (claim_of c.args.second.now) c.in_ok-writer.writer c.in_ok-writer.ensures c.requires.first

pub put-requires-2-clause-room : goal.put-requires-2-clause-room
put-requires-2-clause-room c =
    room-for-second (claim_of c.args.first.now) (claim_of c.args.second.now) c.in_ok-writer.writer c.in_ok-writer.ensures c.requires.first
    c.put.new.writer c.put.ensures c.requires.second

pub frame-requires : goal.frame-requires
frame-requires c =
    has-groups (claim_of c.args.first.now) (claim_of c.args.second.now) c.in_ok-writer.writer c.in_ok-writer.ensures c.requires.first
    c.put.new.writer c.put.ensures c.requires.second c.put-2.new.writer c.put-2.ensures
