use Rattle.std.proofs.Common.{sym, ap, ◌∙◌}
use Rattle.std.specs.Prelude.{nat_lt}
use Rattle.audit_sources.proofs.Counting.{hosts-counted}
use Rattle.audit_sources.proofs.hosts.is_repeated.Goals as goal

pub returns : goal.returns
returns c = ap (λ n. nat_lt 1 n) (c.count_hosts.ensures ∙ sym (hosts-counted c.args.p c.args.sources.now))
