use Rattle.std.proofs.Common.{rules}
use Rattle.statements.proofs.Batching.{batches_equal, batch_itself}
use Rattle.statements.proofs.statement.is_same.Goals as goal

pub returns : goal.returns
returns c = (λ reported. grind (rules, batches_equal), λ same. grind (rules, batch_itself))
