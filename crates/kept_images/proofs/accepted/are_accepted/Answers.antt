use Rattle.std.proofs.Common.{◌-◌, length, ap, ◌∙◌}
use Rattle.std.specs.Prelude.{◌&&◌, ◌==◌, nat_le}
use Rattle.std.specs.List.{list_all}
use Rattle.group_defs.specs.Process.{Delivered}
use Rattle.snapshot_rp.specs.Views.{delivered}
use Rattle.kept_images.specs.Tests.{is_short}
use Rattle.kept_images.proofs.Counted.{counts-same}
use Rattle.kept_images.proofs.Facts.{accepted-all}
use Rattle.kept_images.proofs.accepted.are_accepted.Goals as goal

pub returns : goal.returns
returns c = accepted-all c.args.accepted.now _ c.are_taken.result
    (c.are_taken.ensures ∙ ap (λ n. nat_le (length c.args.accepted.now - n) 256 && list_all is_short c.args.accepted.now)
    (counts-same delivered (λ (d : Delivered). d.message.sender == c.args.me) (λ ds. ds.items) c.args.delivered.now))
