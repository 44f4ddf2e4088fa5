use Rattle.std.proofs.Common.{◌++◌, ℕ, List, length, map, sum, sym, ap, ◌∙◌, Vec, Global}
use Rattle.group_defs.specs.Accounts as reported
use Rattle.member_events.specs.declared.events.Delivered.{Delivered}
use Rattle.node_text.proofs.Hosts.{host-is}
use Rattle.node_text.proofs.lines.push_host.Goals as goal

pub returns-clause-pushed : goal.returns-clause-pushed
returns-clause-pushed c = λ p so.
    c.in_ok-push_host_line.ensures.pushed ∙ ap (λ (t : List ℕ). c.args.out.now.items ++ t)
    (host-is p c.args.reported.now _ _ c.args.entries so
    (c.view_number.ensures _ p.pool.view (c.as_slice.ensures.value ∙ ap (λ (t : reported.Account). t.views) (sym so)))
    (c.in_ok-delivered.ensures
    ∙ ap (λ (dss : List (Vec Delivered Global)). sum (map (λ ds. length ds.items) dss)) c.deref.ensures.value))
