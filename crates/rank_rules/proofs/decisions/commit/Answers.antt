use Rattle.ending_rules.specs.Questions.{content_of}
use Rattle.rank_rules.proofs.Deciding.{certified-readied}
use Rattle.rank_rules.proofs.decisions.commit.Goals as goal

pub returns-clause-ready : goal.returns-clause-ready
returns-clause-ready c = certified-readied content_of c.args.pool.now.pool c.number-view.result c.args.rank c.certificate.result
    c.certificate.ensures.content
