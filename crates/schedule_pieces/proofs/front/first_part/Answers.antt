use Rattle.std.proofs.Common.{ℕ, ◌≡◌, ◌∙◌, List, Ok, ap, sym, arith}
use Rattle.replay_defs.specs.Schedules.{Header}
use Rattle.schedule_header.specs.Heads.{head_of}
use Rattle.schedule_pieces.proofs.Taken.{end_of_header}
use Rattle.schedule_pieces.proofs.front.first_part.Goals as goal

pub overflow_sub-size : goal.overflow_sub-size
overflow_sub-size c = (end_of_header c.args.waiting.now (head_of c.in-Ok.head) c.in-Ok.rest.now
    (λ i. omega (arith, c.type_inv.waiting i)) c.in-Ok.ensures).within

pub returns-in-Ok : goal.returns-in-Ok
returns-in-Ok c =
    let end = end_of_header c.args.waiting.now (head_of c.in-Ok.head) c.in-Ok.rest.now
    (λ i. omega (arith, c.type_inv.waiting i)) c.in-Ok.ensures in
    (c.in-Ok.ensures ∙ ap (λ (rest : List ℕ). Ok (head_of c.in-Ok.head, rest)) (sym end.is), omega arith)
