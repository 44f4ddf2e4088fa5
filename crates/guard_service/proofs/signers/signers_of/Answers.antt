use Rattle.std.proofs.Common.{◌∙◌, ap, sym}
use Rattle.byte_defs.specs.Members.{has}
use Rattle.member_events.specs.Below.{given}
use Rattle.guard_service.specs.Evidence.{makes_one}
use Rattle.guard_service.proofs.signers.signers_of.Goals as goal

pub returns-in-Ok : goal.returns-in-Ok
returns-in-Ok c = λ q. c.signers_among.ensures q ∙ ap (λ read. makes_one (given read) q) (sym c.in-Ok.ensures.exact)

pub returns-in-Err : goal.returns-in-Err
returns-in-Err c = λ q. ap (λ ps. has ps q) c.new.ensures ∙ ap (λ read. makes_one (given read) q) (sym c.in-Err.ensures.exact)
