use Rattle.std.proofs.Common.{◌≡◌, ◌<◌, None, Result, Ok, arith}
use Rattle.std.specs.Prelude.{IsErrOf, IsOkUnless}
use Rattle.lms_hss.specs.declared.key.HssKey.{HssKey}
use Rattle.lms_hss.specs.declared.faults.KeyFault.{KeyFault}
use Rattle.lms_hss.specs.declared.faults.KeyFault.TheVariants.{NoMemory}
use Rattle.lms_hss.specs.Key.{total_of}
use Rattle.lms_hss.specs.Refusals.{refusal}
use Rattle.interop_signatures.specs.Views.{level_signing}
use Rattle.interop_signatures.proofs.LevelLaws.{granted, ready}
use Rattle.interop_signatures.proofs.levels.key_at.Goals as goal

pub returns-clause-ready : goal.returns-clause-ready
returns-clause-ready c =
    let asked = c.args.asked.now in
    let made : Result HssKey KeyFault = Ok c.in-Ok.key in
    let none : refusal asked.levels asked.typecode asked.ots ≡ None =
    granted (refusal asked.levels asked.typecode asked.ots) (IsOkUnless made NoMemory) (λ e. IsErrOf made e)
    (λ e err. cc) c.in-Ok.ensures.refused in
    let low : asked.number < total_of c.in-Ok.key = omega arith in
    ready (level_signing asked) c.in-Ok.key c.skip_to.new.self c.in-Ok.ensures.made none low c.skip_to.ensures.key c.skip_to.ensures.used
    c.skip_to.ensures.total
