use Rattle.std.proofs.Common.{◌∙◌, ap, Some, None}
use Rattle.kv_service.proofs.Entries.{found}
use Rattle.kv_service.proofs.pairs.value_of.Goals as goal

pub returns-in-Some : goal.returns-in-Some
returns-in-Some c = ap Some c.as_slice.ensures.value
    ∙ found c.args.key.now c.args.pairs.now.entries (Some c.in-Some.value.now) c.in-Some.ensures.value

pub returns-in-None : goal.returns-in-None
returns-in-None c = found c.args.key.now c.args.pairs.now.entries None c.in-None.ensures.value
