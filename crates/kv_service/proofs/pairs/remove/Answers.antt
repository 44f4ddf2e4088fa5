use Rattle.std.proofs.Common.{◌∙◌, ap, []}
use Rattle.kv_service.proofs.Entries.{is-found, removed, pairs}
use Rattle.kv_service.proofs.pairs.remove.Goals as goal

pub returns-clause-found : goal.returns-clause-found
returns-clause-found c =
    c.is_some.ensures ∙ is-found c.args.key.now c.args.pairs.now.entries c.remove.result c.remove.ensures.value

pub returns-clause-removed : goal.returns-clause-removed
returns-clause-removed c = ap pairs c.remove.ensures.entries ∙ removed c.args.key.now [] c.args.pairs.now.entries c.requires
