use Rattle.std.proofs.Common.{◌≡◌, ◌≤◌, ◌+◌, ◌-◌, ◌++◌, length, take, refl, ap, ◌∙◌, arith}
use Rattle.std.proofs.lemmas.Slice.{take-put_mid, drop-put_mid}
use Rattle.byte_fields.proofs.fields.put_bytes.Goals as goal

pub returns : goal.returns
returns c =
    let within : c.args.at ≤ length c.args.out.now = omega arith in
    let written : length c.copy_from_slice.new.self ≡ length c.args.bytes.now = ap length c.copy_from_slice.ensures.after in
    let size = c.args.at + length c.args.bytes.now - c.args.at in
    record {
      length = refl;
      front = take-put_mid c.args.at size c.args.out.now c.copy_from_slice.new.self (c.args.at + length c.args.bytes.now)
          (omega arith) within ∙ ap (λ t. take c.args.at c.args.out.now ++ t) c.copy_from_slice.ensures.after;
      behind = drop-put_mid c.args.at size c.args.out.now c.copy_from_slice.new.self (c.args.at + length c.args.bytes.now)
          (omega arith) within (omega arith);
    }
