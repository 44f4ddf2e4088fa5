use Rattle.store_defs.specs.Stores.{Store, Get, Absent, Value}
use Rattle.kv_service.specs.Pairs.{pairs_of}
use Rattle.kv_service.proofs.Carrying.{said, get_absent, get_there}
use Rattle.kv_service.proofs.commands.get.Goals as goal

pub returns-in_default-clause-answer : goal.returns-in_default-clause-answer
returns-in_default-clause-answer c =
    let s : Store = pairs_of c.args.pairs.now in
    said (Get c.args.key.now) s s Absent _ _ (get_absent c.args.key.now s c.in_default.ensures) c.say.ensures

pub returns-clause-answer : goal.returns-clause-answer
returns-clause-answer c =
    let s : Store = pairs_of c.args.pairs.now in
    said (Get c.args.key.now) s s (Value c.in-Some.value.now) _ _ (get_there c.args.key.now c.in-Some.value.now s c.in-Some.ensures)
    c.in_ok-say_value.ensures.said
