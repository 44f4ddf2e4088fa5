use Rattle.rp_devices.proofs.Changes.{written_crash_of, written_time_of}
use Rattle.rp_devices.proofs.mem_disk.MemDiskDisk.write_at.Goals as goal

pub returns-in-Ok-clause-crash : goal.returns-in-Ok-clause-crash
returns-in-Ok-clause-crash c =
    let w = c.in-Ok.ensures.ok in
    written_crash_of c.args.self.now.first.items c.args.self.now.log.items c.args.self.now.bytes.items c.args.self.now.remembered
    c.args.at w.copy c.args.piece.now w.copied c.write.new.self.log.items w.log c.write.new.self.first.items c.in-Ok.ensures.first
    c.requires

pub returns-in-Ok-clause-time : goal.returns-in-Ok-clause-time
returns-in-Ok-clause-time c =
    let w = c.in-Ok.ensures.ok in
    written_time_of c.args.self.now.first.items c.args.self.now.log.items c.args.self.now.bytes.items c.args.self.now.remembered
    c.args.at w.copy c.args.piece.now w.copied c.write.new.self.log.items w.log c.write.new.self.first.items c.in-Ok.ensures.first

pub returns-in-Ok-2-clause-crash : goal.returns-in-Ok-2-clause-crash
returns-in-Ok-2-clause-crash c =
    let w = c.in-Ok-2.ensures.ok in
    written_crash_of c.args.self.now.first.items c.args.self.now.log.items c.args.self.now.bytes.items c.args.self.now.remembered
    c.args.at w.copy c.args.piece.now w.copied c.write.new.self.log.items w.log c.write.new.self.first.items c.in-Ok.ensures.first
    c.requires

pub returns-in-Ok-2-clause-time : goal.returns-in-Ok-2-clause-time
returns-in-Ok-2-clause-time c =
    let w = c.in-Ok.ensures.ok in
    written_time_of c.args.self.now.first.items c.args.self.now.log.items c.args.self.now.bytes.items c.args.self.now.remembered
    c.args.at w.copy c.args.piece.now w.copied c.write.new.self.log.items w.log c.write.new.self.first.items c.in-Ok.ensures.first
