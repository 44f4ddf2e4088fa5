use Rattle.story_reading.proofs.Spelled.{is_assembled}
use Rattle.story_reading.proofs.assembling.assemble.Goals as goal

pub returns-clause-only : goal.returns-clause-only
returns-clause-only c s fits bytes e = is_assembled (λ v. v.items) c.args.text.now c.read.result s fits bytes e c.read.ensures.exact
