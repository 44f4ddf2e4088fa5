use Rattle.std.proofs.Common.{◌++◌, map, ap, ◌∙◌}
use Rattle.node_snapshots.specs.Parts.{front_of, part_as, parts_of}
use Rattle.node_snapshots.proofs.Joined.{whole}
use Rattle.node_snapshots.proofs.whole.snapshot_text.Goals as goal

pub returns : goal.returns
returns c = λ version b n at are.
    let kit = c.args.kit.now in
    c.in_ok-push_parts.ensures
    ∙ ap (λ t. t ++ parts_of (map part_as c.args.parts.now))
    (c.in_ok-push_front.ensures ∙ ap (λ t. t ++ front_of kit c.args.place c.args.digest.now) c.new-out.ensures.items)
    ∙ whole kit version b n c.args.digest.now c.args.place c.args.parts.now at are
