use Rattle.std.proofs.Common.{sym, ap, ◌∙◌}
use Rattle.replay_run.specs.Faults.{fault_in}
use Rattle.replay_run.proofs.Answering.{gives_next, gives_stop}
use Rattle.replay_run.proofs.pieces.next_event.Goals as goal

pub returns-in-Ok-clause-gives : goal.returns-in-Ok-clause-gives
returns-in-Ok-clause-gives c = λ run fed midway.
    gives_next c.args.reader.now c.next.new.self run fed midway c.next.result c.next.ensures.gives c.next.ensures.again c.next.ensures.moves
    c.next.ensures.room c.in-Ok.next c.in-Ok.is

pub returns-in-Fault-clause-gives : goal.returns-in-Fault-clause-gives
returns-in-Fault-clause-gives c = λ run fed midway.
    gives_stop c.args.reader.now c.next.new.self run fed midway c.next.result c.next.ensures.gives c.next.ensures.again c.next.ensures.moves
    c.next.ensures.room c.in-Err.fault c.in-Fault.field-0 c.in-Err.is
    (sym (ap fault_in c.in-Fault.is) ∙ c.from.ensures)
