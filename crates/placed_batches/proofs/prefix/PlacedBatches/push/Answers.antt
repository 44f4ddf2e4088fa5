use Rattle.std.proofs.Common.{◌∙◌, ◌<◌, ◌∷◌, [], length, ap, arith, length-append}
use Rattle.placed_batches.specs.Rows.{Prefix}
use Rattle.placed_batches.proofs.Counted.{rows-push, last-row, last-small}
use Rattle.placed_batches.proofs.prefix.PlacedBatches.push.Goals as goal

pub count_batch-requires : goal.count_batch-requires
count_batch-requires c r =
    let lt : length c.self.inside.batches.items < 1024 = omega (arith, c.requires, ap (λ (p : Prefix). length p.batches) c.self.view_is) in
    last-small c.self.inside.view c.self.inside.batches.items c.self.inside.names.items c.len.result c.index.result.now
    c.self.invariant.counted lt (c.len.ensures ∙ c.self.inside.batches.ok.0) c.index.ensures r

pub invariant_of-self : goal.invariant_of-self
invariant_of-self c =
    let lt : length c.self.inside.batches.items < 1024 = omega (arith, c.requires, ap (λ (p : Prefix). length p.batches) c.self.view_is) in
    let row = last-row c.self.inside.view c.self.inside.batches.items c.self.inside.names.items c.len.result c.index.result.now
    c.self.invariant.counted (c.len.ensures ∙ c.self.inside.batches.ok.0) c.index.ensures in
    rw (c.in-Ok.ensures.items, c.in-Ok-push.ensures.items) (record {
      counted = rows-push c.self.inside.view c.self.inside.batches.items c.self.inside.names.items c.args.batch c.count_batch.new.row
          c.self.invariant.counted (omega (arith, c.len-few.ensures.count, c.len-few.ensures.few)) (c.count_batch.ensures _ row);
      most = omega (arith, lt, length-append c.self.inside.batches.items (c.args.batch ∷ []));
      room = omega (arith, c.self.invariant.room, c.push.ensures.capacity);
      rows_room = omega (arith, c.self.invariant.rows_room, c.push-2.ensures.capacity);
    })
