use Rattle.std.proofs.Common.{◌≡◌, ◌∙◌, ◌^◌, ◌<◌, length, arith}
use Rattle.std.proofs.lemmas.List.{length-take-le, take_at, drop_at}
use Rattle.signature_defs.proofs.LmsLaws.{signature_is_valid}
use Rattle.lms_tree.proofs.key.LmsKeySigner.sign.Goals as goal

pub returns-clause-admitted : goal.returns-clause-admitted
returns-clause-admitted c =
    let key = c.args.self.now in
    let tree = key.tree in
    let unspent : key.used < 2 ^ tree.height = omega arith in
    let long : length c.sign_into.new.out
    ≡ c.sig_len-length.result = c.sign_into.auto.out ∙ length-take-le c.sig_len-length.result c.args.out.now (omega arith) in
    rw (take_at c.sign_into.new.out _ c.sig_len-length.result long, c.sign_into.ensures)
    (signature_is_valid tree.ots tree.typecode tree.height tree.id tree.seed key.used c.args.body.now tree.known tree.sized unspent)

pub returns-clause-rest : goal.returns-clause-rest
returns-clause-rest c =
    let key = c.args.self.now in
    let long : length c.sign_into.new.out
    ≡ c.sig_len-length.result = c.sign_into.auto.out ∙ length-take-le c.sig_len-length.result c.args.out.now (omega arith) in
    drop_at c.sign_into.new.out _ c.sig_len-length.result long
