use Rattle.interop_pool.proofs.Deliveries.{has_delivered}
use Rattle.interop_pool.proofs.hearers.own.Goals as goal

pub returns-clause-delivered : goal.returns-clause-delivered
returns-clause-delivered c = has_delivered _ c.args.view.now c.args.counts.now c.requires c.members-members.ensures.within.1.distinct
    c.greatest.ensures c.counts_of.ensures
