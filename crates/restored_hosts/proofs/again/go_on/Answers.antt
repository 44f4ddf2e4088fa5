use Rattle.std.proofs.Common.{sym, ap, subst, ◌∙◌}
use Rattle.std.proofs.Math.Logic.{∥∥₁_map}
use Rattle.image_defs.specs.Images.{process_of}
use Rattle.node_defs.specs.Casts.{setting_of}
use Rattle.sig_scheme.specs.Signers.{used}
use Rattle.node_service.specs.Hosts.{IsCore, core_of, signer_of}
use Rattle.node_service.proofs.Below.{me-so}
use Rattle.node_images.specs.Real.{HasImage}
use Rattle.restored_hosts.proofs.Going.{hosted-so}
use Rattle.restored_hosts.proofs.again.go_on.Goals as goal

pub returns-clause-is : goal.returns-clause-is
returns-clause-is c = λ version kit part same is.
    let s = setting_of kit in
    let core = c.in_ok-core.ensures.is s 1 part.2 is.restored in
    hosted-so kit version c.args.batch_limit part c.args.judged c.again.result is
    (subst (λ x. IsCore used s (process_of s c.args.batch_limit part.2) x) (sym c.again.ensures.core) core)
    (ap signer_of c.again.ensures.core ∙ c.in_ok-core.ensures.signer)

pub returns-clause-number : goal.returns-clause-number
returns-clause-number c = λ kit part is.
    let s = setting_of kit in
    let core = c.in_ok-core.ensures.is s 1 part.2 is.restored in
    sym (me-so used s (process_of s c.args.batch_limit part.2) (core_of c.again.result)
    (subst (λ x. IsCore used s (process_of s c.args.batch_limit part.2) x) (sym c.again.ensures.core) core)) ∙ is.number

pub returns-clause-real : goal.returns-clause-real
returns-clause-real c = ∥∥₁_map c.args.judged.real (λ (has : HasImage c.args.judged.restored). record {
  setting = has.setting;
  process = process_of has.setting c.args.batch_limit has.image;
  core = subst (λ x. IsCore used has.setting (process_of has.setting c.args.batch_limit has.image) x) (sym c.again.ensures.core)
      (c.in_ok-core.ensures.is has.setting 1 has.image has.restored);
})
