use Rattle.rp_devices.proofs.Changes.{synced_durable, synced_crash, synced_time}
use Rattle.rp_devices.proofs.mem_disk.MemDiskDisk.sync.Goals as goal

pub returns-in-Ok-clause-durable : goal.returns-in-Ok-clause-durable
returns-in-Ok-clause-durable c =
    synced_durable c.args.self.now.first.items c.args.self.now.log.items c.args.self.now.bytes.items c.args.self.now.remembered
    c.keep.new.self.log.items c.in-Ok.ensures.ok c.keep.new.self.first.items c.in-Ok.ensures.first

pub returns-in-Ok-clause-crash : goal.returns-in-Ok-clause-crash
returns-in-Ok-clause-crash c =
    synced_crash c.args.self.now.first.items c.args.self.now.log.items c.args.self.now.bytes.items c.args.self.now.remembered
    c.keep.new.self.log.items c.in-Ok.ensures.ok c.keep.new.self.first.items c.in-Ok.ensures.first

pub returns-in-Ok-clause-time : goal.returns-in-Ok-clause-time
returns-in-Ok-clause-time c =
    synced_time c.args.self.now.first.items c.args.self.now.log.items c.args.self.now.bytes.items c.args.self.now.remembered
    c.keep.new.self.log.items c.in-Ok.ensures.ok c.keep.new.self.first.items c.in-Ok.ensures.first
