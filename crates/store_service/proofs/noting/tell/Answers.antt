use Rattle.std.proofs.Common.{ap, ◌∙◌}
use Rattle.std.specs.Prelude.{◌==◌}
use Rattle.std.specs.List.{position_from}
use Rattle.store_service.specs.Served.{whose}
use Rattle.store_service.proofs.Reported.{reported-none}
use Rattle.store_service.proofs.noting.tell.Goals as goal

pub returns-in-Some : goal.returns-in-Some
returns-in-Some c = λ xs are.
    c.tell_at.ensures c.args.p xs
    (c.in-Some.ensures.place ∙ ap (position_from (λ x. whose x == c.args.p) 0) c.deref.ensures.value) are

pub returns-in-None : goal.returns-in-None
returns-in-None c = λ xs are.
    reported-none c.args.p c.args.note.now xs c.args.servers.now.items are c.new.result.items
    (c.in-None.ensures.place ∙ ap (position_from (λ x. whose x == c.args.p) 0) c.deref.ensures.value) c.new.ensures.items
