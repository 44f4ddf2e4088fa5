use Rattle.std.proofs.Common.{◌∙◌}
use Rattle.member_core.proofs.Back.{real-so}
use Rattle.member_core.proofs.attempts.attempt.Goals as goal

pub returns-in_err-mark-clause-real : goal.returns-in_err-mark-clause-real
returns-in_err-mark-clause-real g c = real-so c.args.state.now c.mark.new.self c.in_err-mark.ensures.same c.requires.real

pub run-requires-clause-real : goal.run-requires-clause-real
run-requires-clause-real g c = real-so c.args.state.now c.mark.new.self c.in_ok-mark.ensures.same c.requires.real

pub returns-in-Ok-clause-taken : goal.returns-in-Ok-clause-taken
returns-in-Ok-clause-taken g c s p shares kinds made is = c.in-Ok.ensures.taken s p shares kinds made (c.in_ok-mark.ensures.same s p is)

pub returns-in-Ok-clause-back : goal.returns-in-Ok-clause-back
returns-in-Ok-clause-back g c s p is =
    c.in-Ok.ensures.since c.mark.new.before c.args.state.now
    (λ asked. c.in_ok-mark.ensures.asks (c.is_asking.ensures ∙ asked)) (c.in_ok-mark.ensures.stands s p is)

pub returns-in-Err-clause-lost : goal.returns-in-Err-clause-lost
returns-in-Err-clause-lost g c s p is =
    c.rewind.ensures.back c.args.state.now
    (c.in-Err.ensures.since c.mark.new.before c.args.state.now
    (λ asked. c.in_ok-mark.ensures.asks (c.is_asking.ensures ∙ asked)) (c.in_ok-mark.ensures.stands s p is)) s p is

pub returns-in-Err-clause-real : goal.returns-in-Err-clause-real
returns-in-Err-clause-real g c =
    real-so c.args.state.now c.rewind.new.self
    (λ s p is. c.rewind.ensures.back c.args.state.now
    (c.in-Err.ensures.since c.mark.new.before c.args.state.now
    (λ asked. c.in_ok-mark.ensures.asks (c.is_asking.ensures ∙ asked)) (c.in_ok-mark.ensures.stands s p is)) s p is) c.requires.real
