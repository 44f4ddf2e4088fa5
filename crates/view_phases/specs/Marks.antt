-- The phase at a mark.
use Rattle.view_phases.specs.declared.phases.Phase.{Phase}
use Rattle.view_phases.specs.declared.phases.Phase.TheVariants.{Observing, OpenView, ClosingView, DecidedView, HaltedView}
use Rattle.view_phases.specs.declared.phases.PhaseMark.{PhaseMark}
use Rattle.view_phases.specs.declared.phases.Was.{Was}
use Rattle.view_phases.specs.declared.phases.Was.TheVariants as was

-- the phase that keeps this
abbrev pub phase_as : Was → Phase
phase_as was.Observing = Observing (record { 0 = tt })
phase_as was.OpenView = OpenView (record { 0 = tt })
phase_as (was.ClosingView n) = ClosingView (record { length = n })
phase_as (was.DecidedView d) = DecidedView (record { decision = d })
phase_as (was.HaltedView d n) = HaltedView (record { decision = d; delivered = n })

-- the phase of the mark
abbrev pub marked : PhaseMark → Phase
marked m = phase_as m.was
