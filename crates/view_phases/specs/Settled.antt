-- What becomes of a process whose view is decided.
use Rattle.std.specs.Prelude.{◌≡◌, ℕ, ◌<◌, true}
use Rattle.rp_base.specs.Views.{update}
use Rattle.group_defs.specs.Process.{Process}
use Rattle.group_defs.specs.Settle.{install}
use Rattle.view_phases.specs.declared.phases.DecidedView.{DecidedView}
use Rattle.view_phases.specs.declared.settling.Settled.{Settled}
use Rattle.view_phases.specs.declared.settling.Settled.TheVariants.{Waiting, Install, Halted}
use Rattle.view_phases.specs.Phases.{decided, IsHalted}

-- below the cut it waits, decided as it is; at the cut it installs by the decided update; above it it halts, with both numbers
abbrev pub Settles : DecidedView → ℕ → Settled → Type 0
Settles d delivered (Waiting w) = (delivered < d.decision.value.cut) × (w ≡ d)
Settles d delivered (Install u) = (delivered ≡ d.decision.value.cut) × (u ≡ d.decision.value.update)
Settles d delivered (Halted h) = (d.decision.value.cut < delivered) × (h.decision ≡ d.decision) × (h.delivered ≡ delivered)

-- the process p, decided so, is q when it has left: itself where it waits, else in the next view, or halted
abbrev pub Leaves : DecidedView → Process → Settled → Process → Type 0
Leaves d p (Waiting w) q = q ≡ p
Leaves d p (Install u) q = q ≡ install (decided d) p
Leaves d p (Halted h) q = (q ≡ record p { halted = true }) × IsHalted h q
