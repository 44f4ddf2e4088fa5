use Rattle.std.proofs.Common.{sym, ap, ◌∙◌}
use Rattle.std.specs.Option.{option_copied}
use Rattle.rp_base.specs.PidsLeft.{pids_left}
use Rattle.kit_file.proofs.Copying.{Next, next, none_found, then_found}
use Rattle.kit_file.proofs.roster.roster_of.Goals as goal
use Rattle.kit_file.proofs.roster.roster_of.Goals.{In-Some}

at_next : (c : In-Some) → Next c.roster-listed.result.now c.loop-process.roster c.in-Some.process (pids_left c.next.new.self)
at_next c = next c.roster-listed.result.now c.loop-process.roster c.in-Some.process (pids_left c.next.new.self)
    (pids_left c.loop-process.process-iterator) c.loop-process.invariant c.in-Some.ensures.steps c.processes.ensures.rising

pub unreachable-requires : goal.unreachable-requires
unreachable-requires c = none_found _ _ _ _ (at_next (goal.at.unreachable-requires c).In-Some)
    (ap option_copied (sym c.in_default.is) ∙ c.key.ensures)

pub add-requires : goal.add-requires
add-requires c = (at_next (goal.at.add-requires c).In-Some).below

pub loop-process-preserved : goal.loop-process-preserved
loop-process-preserved c = then_found _ _ _ _ _ _ (at_next (goal.at.loop-process-preserved c).In-Some)
    (ap option_copied (sym c.in-Some-key.is) ∙ c.key.ensures) c.in_ok-add.ensures.added
