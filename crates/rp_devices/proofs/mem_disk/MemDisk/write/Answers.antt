use Rattle.std.proofs.Common.{◌≡◌, rules}
use Rattle.rp_devices.proofs.Changes.{written_file}
use Rattle.rp_devices.proofs.mem_disk.MemDisk.write.Goals as goal

pub invariant_of-self-in-Ok : goal.invariant_of-self-in-Ok
invariant_of-self-in-Ok c =
    let copied : c.in_ok-to_vec.field-0.items ≡ c.args.piece.now = search rules in
    record {
      remembered = written_file c.args.self.now.first.items c.args.self.now.log.items c.args.self.now.bytes.items c.args.self.now.remembered
          c.args.at c.in_ok-to_vec.field-0 c.args.piece.now copied c.push.new.self.items c.in_ok-push.ensures.items
          c.put_over.new.bytes.items c.in-Ok.ensures.ok;
    }

pub returns-in-Ok-clause-ok : goal.returns-in-Ok-clause-ok
returns-in-Ok-clause-ok c =
    let copied : c.in_ok-to_vec.field-0.items ≡ c.args.piece.now = search rules in
    record { copy = c.in_ok-to_vec.field-0; copied = copied; log = c.in_ok-push.ensures.items; bytes = c.in-Ok.ensures.ok }
