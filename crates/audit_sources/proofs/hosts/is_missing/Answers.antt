use Rattle.std.proofs.Common.{sym, ap, ◌∙◌}
use Rattle.std.specs.Prelude.{◌==◌}
use Rattle.audit_sources.proofs.Counting.{hosts-counted}
use Rattle.audit_sources.proofs.hosts.is_missing.Goals as goal

pub returns : goal.returns
returns c = ap (λ n. n == 0) (c.count_hosts.ensures ∙ sym (hosts-counted c.args.p c.args.sources.now))
