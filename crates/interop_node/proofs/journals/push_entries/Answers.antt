use Rattle.std.proofs.Common.{length, ◌∙◌}
use Rattle.journal_defs.proofs.Gates.{broken_gate_breaks, closed_gate_ends}
use Rattle.interop_node.proofs.Telling.{goes_less, next_reported, starts, within}
use Rattle.interop_node.proofs.journals.push_entries.Goals as goal

pub entries-init : goal.entries-init
entries-init c = record { reported = starts c.args.bytes.now c.args.out.now.items c.requires; within = c.requires }

pub entries-smaller : goal.entries-smaller
entries-smaller c = goes_less _ _ _ _ c.entries.invariant.within (rw c.in-Ok-Some.field-0-is at c.in-Ok-Some.ensures.found)

pub entries-preserved : goal.entries-preserved
entries-preserved c =
    let next = next_reported _ _ _ _ _ _ _ _ c.entries.invariant.reported
    (rw c.in-Ok-Some.field-0-is at c.in-Ok-Some.ensures.found) c.in_ok-push_entry-in-Ok-Some.ensures in
    record { reported = next; within = within _ _ next.0 _ next.1 }

pub returns-in-Ok-None-clause-entries : goal.returns-in-Ok-None-clause-entries
returns-in-Ok-None-clause-entries c =
    let before = c.entries.invariant.reported in
    (before.0, closed_gate_ends _ _ before.0 _ before.1 (rw c.in-Ok-None.field-0-is at c.in-Ok-None.ensures.closed), before.2)

pub returns-in-Err-clause-broken : goal.returns-in-Err-clause-broken
returns-in-Err-clause-broken c =
    let before = c.entries.invariant.reported in
    rw c.in-Err.ensures.broken.0 (broken_gate_breaks _ _ before.0 _ before.1 c.in-Err.ensures.broken.1)
