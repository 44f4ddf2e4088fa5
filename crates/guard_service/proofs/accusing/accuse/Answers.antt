use Rattle.std.proofs.Common.{sym}
use Rattle.std.proofs.lemmas.Result.{on_ok_weaker}
use Rattle.guard_service.proofs.Sent.{accused-none}
use Rattle.guard_service.proofs.accusing.accuse.Goals as goal

pub returns-in-Some-clause-accuses : goal.returns-in-Some-clause-accuses
returns-in-Some-clause-accuses c = λ version p now is.
    c.accuse_by.ensures.accuses version p now is
    (sym (c.in-Some.ensures _ now (rw (← c.core-core.ensures) at is.core)))

pub returns-in-None-clause-accuses : goal.returns-in-None-clause-accuses
returns-in-None-clause-accuses c = λ version p now is.
    on_ok_weaker c.push_accuse.result
    (accused-none _ p now c.args.q c.me.result c.args.lines.now.items c.push_accuse.new.out.items c.args.sends.now.items
    (c.me.ensures.process _ now (rw (← c.core-core.ensures) at is.core))
    (sym (c.in-None.ensures _ now (rw (← c.core-core.ensures) at is.core))))
    c.push_accuse.ensures.pushed
