use Rattle.std.proofs.Common.{sym, ◌∙◌}
use Rattle.store_records.proofs.Orders.{below-partial_cmp}
use Rattle.vote_client.proofs.content.is_below.Goals as goal

pub returns : goal.returns
returns c = c.lt.ensures ∙ sym (below-partial_cmp c.args.a.now c.args.b.now)
