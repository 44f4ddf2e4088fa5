use Rattle.std.proofs.Common.{◌≡◌, ◌∙◌, ◌≤◌, length, refl, arith}
use Rattle.std.proofs.lemmas.List.{length-take-le, take_at, drop_at}
use Rattle.signature_defs.specs.Hss.{hss_signature_length}
use Rattle.signature_defs.specs.Laws.{IsHssSecret}
use Rattle.signature_defs.proofs.HssLaws.{hss_signature_is_valid}
use Rattle.lms_hss.specs.Plans.{secret}
use Rattle.lms_hss.proofs.key.HssKeySigner.sign.Goals as goal

pub returns-clause-admitted : goal.returns-clause-admitted
returns-clause-admitted c =
    let plan = c.args.self.now.plan in
    let now = c.make_ready.new.self in
    let is : IsHssSecret (secret plan) = record {
      some = plan.some;
      few = omega (arith, plan.few);
      known = plan.known;
      sized = plan.sized;
    } in
    let same : c.sig_len-length.result
    ≡ hss_signature_length plan.levels plan.ots plan.height = c.sig_len-length.ensures.value ∙ rw c.make_ready.ensures.key.plan refl in
    let room : c.sig_len-length.result ≤ length c.args.out.now = rw same c.requires in
    let long : length c.write_signature.new.out
    ≡ c.sig_len-length.result = c.write_signature.auto.out ∙ length-take-le c.sig_len-length.result c.args.out.now room in
    rw (take_at c.write_signature.new.out _ c.sig_len-length.result long, c.write_signature.ensures, c.make_ready.ensures.key.plan)
    (hss_signature_is_valid (secret plan) now.ready c.args.body.now is)

pub returns-clause-rest : goal.returns-clause-rest
returns-clause-rest c =
    let plan = c.args.self.now.plan in
    let same : c.sig_len-length.result
    ≡ hss_signature_length plan.levels plan.ots plan.height = c.sig_len-length.ensures.value ∙ rw c.make_ready.ensures.key.plan refl in
    let room : c.sig_len-length.result ≤ length c.args.out.now = rw same c.requires in
    let long : length c.write_signature.new.out
    ≡ c.sig_len-length.result = c.write_signature.auto.out ∙ length-take-le c.sig_len-length.result c.args.out.now room in
    drop_at c.write_signature.new.out _ c.sig_len-length.result long
