use Rattle.std.proofs.Common.{◌≡◌, ◌≤◌, ◌++◌, length, map, drop}
use Rattle.message_defs.specs.Packing.{pack_from}
use Rattle.reliable_mcast.specs.Packed.{frame_as, frames_as}
use Rattle.reliable_mcast.proofs.frames.pack.Given as goal

abbrev pub invariant-claims : goal.invariant-claims
invariant-claims l = record {
  packed : l.done.items ++ map (frame_as l.kind) (pack_from l.sheet.writer.groups (drop l.place l.list)) ≡ l.fn.done.items
      ++ frames_as l.kind l.list;
  begun : 1 ≤ length l.sheet.writer.groups;
}
