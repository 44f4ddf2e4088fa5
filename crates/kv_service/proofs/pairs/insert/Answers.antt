use Rattle.std.proofs.Common.{◌≡◌, ◌∙◌, ap, rules}
use Rattle.store_defs.specs.Stores.{with_pair}
use Rattle.kv_service.proofs.Entries.{inserted, pairs}
use Rattle.kv_service.proofs.pairs.insert.Goals as goal

pub returns-clause-inserted : goal.returns-clause-inserted
returns-clause-inserted c =
    let key : c.in_ok-key.key.items ≡ c.args.key.now = search rules in
    let value : c.in_ok-value.value.items ≡ c.args.value.now = search rules in
    ap pairs c.in_ok-insert.ensures.entries
    ∙ inserted c.args.pairs.now.entries c.in_ok-key.key c.in_ok-value.value
    ∙ λ i. with_pair (key i) (value i) (pairs c.args.pairs.now.entries)
