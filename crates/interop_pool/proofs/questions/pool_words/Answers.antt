use Rattle.std.proofs.Common.{refl}
use Rattle.interop_pool.specs.Hearers.{hearer}
use Rattle.interop_pool.proofs.questions.pool_words.Goals as goal

pub returns : goal.returns
returns c = c.words_in.ensures (hearer c.args.view c.args.counts.now) c.own-own.ensures.delivered refl
