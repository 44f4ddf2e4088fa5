use Rattle.snapshot_defs.specs.Steps.{list_at}
use Rattle.snapshot_defs.specs.Reading.{perceived_at, perceived_key}
use Rattle.snapshot_rp.specs.Views.{perceived}
use Rattle.snapshot_rp.proofs.Pairs.{risen, not_risen}
use Rattle.snapshot_rp.proofs.reading.perceived_pairs.Goals as goal

pub returns-then-rises : goal.returns-then-rises
returns-then-rises c = risen perceived perceived_key (list_at (λ k. perceived_at)) c.args.cursor.now.rest.now c.list.new.cursor.rest.now
    c.in_ok-pairs.pairs.items c.as_slice.result.now c.in_ok-pairs.ensures c.as_slice.ensures.value c.rises.result c.rises.ensures
    c.if-rises.true

pub returns-else-rises : goal.returns-else-rises
returns-else-rises c = not_risen perceived perceived_key (list_at (λ k. perceived_at)) c.args.cursor.now.rest.now
    c.list.new.cursor.rest.now c.in_ok-pairs.pairs.items c.as_slice.result.now c.in_ok-pairs.ensures c.as_slice.ensures.value c.rises.result
    c.rises.ensures c.if-rises.false
