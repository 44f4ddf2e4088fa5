use Rattle.std.proofs.Common.{◌≡◌, ◌++◌, [], map, sym, ap, subst}
use Rattle.std.specs.Prelude.{IsOk, OnOk, flat_map}
use Rattle.group_defs.specs.Events as defs
use Rattle.member_taking.specs.States.{frame_to, frames_to}
use Rattle.member_taking.specs.Inputs.{handed}
use Rattle.member_sending.proofs.answers.send_answers.Goals as goal

pub returns-in-Tick-clause-sent : goal.returns-in-Tick-clause-sent
returns-in-Tick-clause-sent c = λ s q is.
    subst (λ (e : defs.Event). OnOk c.ask.result
    (map frame_to c.ask.new.sends.items ≡ map frame_to c.args.sends.now.items ++ flat_map frames_to (defs.answers s q e)))
    (sym (ap handed c.in-Tick.is)) (c.ask.ensures.sent s q is)

pub returns-in-Tick-clause-none : goal.returns-in-Tick-clause-none
returns-in-Tick-clause-none c = λ s q is.
    subst (λ (e : defs.Event). defs.answers s q e ≡ [] → IsOk c.ask.result) (sym (ap handed c.in-Tick.is)) (c.ask.ensures.none s q is)
