use Rattle.std.proofs.Common.{◌<◌, length, get_or, rules}
use Rattle.std.specs.Prelude.{bit_xor}
use Rattle.std.proofs.lemmas.List.Edits.{map_over_more}
use Rattle.std.proofs.lemmas.List.{get_or_default}
use Rattle.auth_link.proofs.tag.xor_with.Goals as goal

pub loop-b-preserved : goal.loop-b-preserved
loop-b-preserved c =
    let within : c.loop-b.b-index < length c.loop-b.block = search rules in
    map_over_more (λ x. bit_xor x c.args.pad) c.args.block.now c.loop-b.block c.loop-b.b-index (get_or c.loop-b.block c.loop-b.b-index 0)
    (search rules) c.loop-b.invariant (get_or_default c.loop-b.block c.loop-b.b-index 0 _ within)
