use Rattle.member_events.specs.Below.{claim as claim_of}
use Rattle.guard_service.proofs.Sent.{accused-some}
use Rattle.guard_service.proofs.accusing.accuse_by.Goals as goal

pub returns-clause-accuses : goal.returns-clause-accuses
returns-clause-accuses c = λ version p now is some.
    accused-some _ p now c.args.q c.me.result (claim_of c.args.heard.now) (claim_of c.args.other.now) c.others_of-to.result
    c.in_ok-frame.frame c.args.lines.now.items c.push_accuse.new.out.items c.args.sends.now.items c.reserve.new.self.items
    c.put_frame.new.sends.items is.number (c.me.ensures.process _ now (rw (← c.core.ensures) at is.core)) some
    (c.others_of-to.ensures version p now is) c.in_ok-frame.ensures c.in_ok-push_accuse.ensures.pushed c.reserve.ensures.items
    c.put_frame.ensures
