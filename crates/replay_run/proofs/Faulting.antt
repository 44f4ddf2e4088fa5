-- A report by what was read.
use Rattle.std.proofs.Common.{◌≡◌, ℕ, Bool, List, Option, Some, None, Ok, Err, sym, ap, subst}
use Rattle.std.specs.Prelude.{IfSome}
use Rattle.std.specs.Option.{option_map}
use Rattle.replay_defs.specs.declared.Fault.{Fault}
use Rattle.replay_defs.specs.Schedules.{Schedule}
use Rattle.replay_defs.specs.Reading.{schedule_of}
use Rattle.replay_defs.specs.Worlds.{world_of}
use Rattle.replay_defs.specs.Reports as plain
use Rattle.replay_defs.specs.Reports.{ReplayFault, report_if_run, report_if_read, report_of}

-- bytes that are no schedule have no report
pub bytes_stop : (short : Bool) (bytes : List ℕ) (o : Option Fault) (p : Option ReplayFault) → p ≡ option_map plain.NoSchedule o
    → IfSome o (λ e. schedule_of bytes ≡ Err e)
    → IfSome p (λ e. report_of short bytes ≡ Err e)
unfolding report_of
bytes_stop short bytes None p of known = subst (λ o. IfSome o (λ e. report_if_read short (schedule_of bytes) ≡ Err e)) (sym of) tt
bytes_stop short bytes (Some e) p of known = subst (λ o. IfSome o (λ e. report_if_read short (schedule_of bytes) ≡ Err e)) (sym of)
    (ap (report_if_read short) known)

-- a schedule that was read has the report of its run
pub read_so : (short : Bool) (bytes : List ℕ) (sch : Schedule) → schedule_of bytes ≡ Ok sch
    → report_of short bytes ≡ report_if_run short sch (world_of sch)
unfolding report_of
read_so short bytes sch read = ap (report_if_read short) read
