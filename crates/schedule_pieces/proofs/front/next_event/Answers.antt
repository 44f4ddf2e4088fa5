use Rattle.std.proofs.Common.{ℕ, ◌≡◌, ◌∙◌, List, Ok, ap, sym, arith}
use Rattle.schedule_file.specs.Views.{event}
use Rattle.schedule_events.specs.Seen.{roles}
use Rattle.schedule_pieces.proofs.Taken.{end_of_event}
use Rattle.schedule_pieces.proofs.front.next_event.Goals as goal

pub overflow_sub-size : goal.overflow_sub-size
overflow_sub-size c = (end_of_event (roles c.args.of.now) c.requires.0 c.args.steps c.args.readable.now
    (event c.in_ok-event.event) c.read_event.new.reader.rest.now c.requires.1
    (λ i. omega (arith, c.type_inv.readable i)) c.in_ok-event.ensures).within

pub returns-clause-ok : goal.returns-clause-ok
returns-clause-ok c =
    let end = end_of_event (roles c.args.of.now) c.requires.0 c.args.steps c.args.readable.now
    (event c.in_ok-event.event) c.read_event.new.reader.rest.now c.requires.1
    (λ i. omega (arith, c.type_inv.readable i)) c.in_ok-event.ensures in
    (c.in_ok-event.ensures ∙ ap (λ (rest : List ℕ). Ok (event c.in_ok-event.event, rest)) (sym end.is), omega arith)
