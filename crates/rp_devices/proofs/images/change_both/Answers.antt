use Rattle.std.proofs.Common.{◌≡◌, length, sym, subst, rules}
use Rattle.rp_devices.specs.declared.change.Change.{Change}
use Rattle.rp_devices.specs.Held.{ChangesBoth}
use Rattle.rp_devices.proofs.Changes.{wrote_both}
use Rattle.rp_devices.proofs.images.change_both.Goals as goal

pub returns-in_ok-smear-in-Wrote : goal.returns-in_ok-smear-in-Wrote
returns-in_ok-smear-in-Wrote c =
    let put_is = c.in_ok-put_anywhere-in-Wrote.ensures in
    let size : c.len.result ≡ length c.in-Wrote.piece.items = search rules in
    subst (λ (x : Change). ChangesBoth c.args.byte x c.args.file.now.items c.args.image.now.items c.put_anywhere.new.bytes.items
    c.smear.new.bytes.items) (sym c.in-Wrote.is)
    (wrote_both c.args.byte c.in-Wrote.at c.len.result c.in-Wrote.piece c.args.file.now.items c.args.image.now.items
    c.put_anywhere.new.bytes.items c.smear.new.bytes.items size (search rules) c.in_ok-smear-in-Wrote.ensures)
