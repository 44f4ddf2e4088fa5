use Rattle.std.proofs.Common.{◌≡◌, ◌∙◌, ◌-◌, ◌++◌, ℕ, List, length, drop, length-append, refl, sym, ap, arith}
use Rattle.std.proofs.lemmas.List.{length-take-le}
use Rattle.signature_defs.specs.Hss.{level_signature, signed_keys}
use Rattle.signature_defs.proofs.HssLaws.{length-signed_keys}
use Rattle.lms_ots.proofs.Pieces.{two_pieces}
use Rattle.lms_hss.specs.Plans.{secret}
use Rattle.lms_hss.proofs.key.HssKey.write_signature.Goals as goal

pub copy_from_slice-requires : goal.copy_from_slice-requires
copy_from_slice-requires c =
    let self = c.args.self.now in
    let long : length self.front.items
    ≡ c.front_len-front.result = ap length self.signed ∙ length-signed_keys
    (secret self.plan) self.ready self.plan.sized ∙ sym c.front_len-front.ensures in
    length-take-le c.front_len-front.result c.args.out.now (omega arith) ∙ sym long ∙ rw c.deref.ensures.value refl

pub returns : goal.returns
returns c =
    let self = c.args.self.now in
    let key = secret self.plan in
    let n : ℕ = c.front_len-front.result in
    let front : List ℕ = signed_keys key self.ready in
    let lowest : List ℕ = level_signature key self.ready (key.levels - 1) c.args.body.now in
    let one : c.copy_from_slice.new.self ≡ front = c.copy_from_slice.ensures.after ∙ c.deref.ensures.value ∙ self.signed in
    let long : length front ≡ n = length-signed_keys key self.ready self.plan.sized ∙ sym c.front_len-front.ensures in
    let whole : length (c.copy_from_slice.new.self ++ drop n c.args.out.now) - n
    ≡ length (drop n c.args.out.now) = rw (one, length-append) (omega arith) in
    rw whole (two_pieces front lowest (drop n c.args.out.now) c.copy_from_slice.new.self c.sign_lowest.new.out n
    (length (drop n c.args.out.now)) long refl one c.sign_lowest.ensures)
