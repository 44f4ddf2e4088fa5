use Rattle.std.proofs.Common.{arith}
use Rattle.replay_defs.specs.Reading.{roles_of}
use Rattle.replay_defs.specs.Pieces.{most_waiting}
use Rattle.schedule_file.specs.Views.{event}
use Rattle.schedule_pieces.proofs.Giving.{gives_event, moves_on}
use Rattle.schedule_pieces.proofs.reader.ScheduleReader.next.Goals as goal

pub returns-in-Ok-Some-clause-gives : goal.returns-in-Ok-Some-clause-gives
returns-in-Ok-Some-clause-gives c fed es stands =
    let front = rw c.in-Ok-Some.field-0-is at c.in-Ok-Some.ensures.sees in
    rw (c.give.ensures.rest, c.give.ensures.event)
    (gives_event c.args.self.now front.0 (event c.in-Ok-Some.next.event) c.in-Ok-Some.next.size front.1 front.2.0 front.2.1 fed es stands)

pub returns-in-Ok-None-clause-room : goal.returns-in-Ok-None-clause-room
unfolding most_waiting
returns-in-Ok-None-clause-room c =
    let front = rw c.in-Ok-None.field-0-is at c.in-Ok-None.ensures.sees in
    omega (arith, front.2)

pub returns-in-Ok-Some-clause-moves : goal.returns-in-Ok-Some-clause-moves
returns-in-Ok-Some-clause-moves c =
    let front = rw c.in-Ok-Some.field-0-is at c.in-Ok-Some.ensures.sees in
    rw c.give.ensures.rest (moves_on c.args.self.now (roles_of front.0.processes)
    (event c.in-Ok-Some.next.event) c.in-Ok-Some.next.size front.2.0 front.2.1)
