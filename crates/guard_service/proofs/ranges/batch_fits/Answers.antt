use Rattle.guard_service.proofs.Carried.{batch-by}
use Rattle.guard_service.proofs.ranges.batch_fits.Goals as goal

pub returns : goal.returns
returns c =
    batch-by c.messages.result.now c.args.batch.now c.messages_fit.result c.messages.ensures.list c.messages.ensures.some
    c.messages.ensures.few c.messages_fit.ensures
