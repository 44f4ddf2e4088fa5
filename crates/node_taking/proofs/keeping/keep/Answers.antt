use Rattle.std.proofs.Common.{◌^◌, length}
use Rattle.journal_rp.specs.Stages.{gate_of}
use Rattle.journal_rp.specs.Turns.{staged_of}
use Rattle.journal_rp.specs.Answers.{of_append}
use Rattle.sealing_laws.specs.Running.{stop as stop_of}
use Rattle.sealing_laws.proofs.Passed.{by-fault}
use Rattle.node_taking.proofs.Kept.{fits-below, kept, stopped}
use Rattle.node_taking.proofs.keeping.keep.Goals as goal

pub returns-in-Ok-clause-keeps : goal.returns-in-Ok-clause-keeps
returns-in-Ok-clause-keeps g c = λ k snap most f n p e ts x is of turn.
    kept g.D.Disk.seen g.D.Disk.may_leave g.D.Disk.moment g.D.Disk.left_since (λ d image left. g.D.Disk.only_now d image left) k snap most f n
    p e ts x c.args.disk.now c.append.new.disk c.args.journal (staged_of c.args.away.turn) is of turn c.in-Ok.journal c.in-Ok.ensures.room
    c.in-Ok.ensures.any_moment c.in-Ok.ensures.ok c.in-Ok.ensures.place c.in-Ok.ensures.length c.in-Ok.ensures.untold

pub returns-in-Ok-clause-room : goal.returns-in-Ok-clause-room
returns-in-Ok-clause-room g c =
    fits-below (2 ^ 30) (gate_of c.args.journal) (length (staged_of c.args.away.turn)) c.in-Ok.ensures.room

pub returns-in-Err-clause-stops : goal.returns-in-Err-clause-stops
returns-in-Err-clause-stops g c = λ k snap most f n p e ts x is of turn.
    stopped g.D.Disk.seen g.D.Disk.may_leave g.D.Disk.moment g.D.Disk.left_since (λ d image left. g.D.Disk.only_now d image left) k snap most f
    n p e ts x c.args.disk.now c.append.new.disk c.args.journal (staged_of c.args.away.turn) is of turn c.in-Err.fault
    (g.D.Disk.faults c.args.disk.now) (g.D.Disk.faults c.append.new.disk) (stop_of c.stop_at.result) c.in-Err.ensures.cause c.in-Err.ensures.full
    c.in-Err.ensures.room c.in-Err.ensures.any_moment c.in-Err.ensures.stands c.stop_at.ensures

pub returns-in-Err-clause-cause : goal.returns-in-Err-clause-cause
returns-in-Err-clause-cause g c = by-fault (Unit {0}) of_append (g.D.Disk.faults c.args.disk.now) (g.D.Disk.faults c.append.new.disk) c.in-Err.fault
    (stop_of c.stop_at.result) c.in-Err.ensures.cause c.stop_at.ensures
