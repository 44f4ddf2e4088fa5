use Rattle.std.specs.Prelude.{is_ok}
use Rattle.rp_devices.proofs.Changes.{synced_or_same}
use Rattle.rp_devices.proofs.mem_disk.MemDisk.keep.Goals as goal

pub invariant_of-self : goal.invariant_of-self
invariant_of-self c =
    record {
      remembered = synced_or_same c.args.self.now.first.items c.args.self.now.log.items c.args.self.now.bytes.items
          c.args.self.now.remembered (is_ok c.push.result) c.push.new.self.items c.push.ensures.items;
    }
