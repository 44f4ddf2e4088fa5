use Rattle.std.proofs.Common.{◌≡◌, ◌∙◌, ◌+◌, ◌-◌, refl, arith}
use Rattle.signature_defs.specs.LmOts.{ots_signature_length}
use Rattle.lms_tree.proofs.verify.valid_by.Goals as goal

pub returns-in_default : goal.returns-in_default
returns-in_default c =
    let width : 4 + c.ots_signature_length.result - 4 ≡ ots_signature_length c.args.kind = omega arith in
    let none = rw (width, c.id_of-id.ensures, c.u32_at-q.ensures) at c.in_default.ensures in
    rw (← c.if-not-has_types.ensures, ← none) refl

pub returns : goal.returns
returns c =
    let width : 4 + c.ots_signature_length.result - 4 ≡ ots_signature_length c.args.kind = omega arith in
    let found = rw (width, c.id_of-id.ensures, c.u32_at-q.ensures) at c.in-Some.ensures in
    c.eq.ensures ∙ rw (
      c.as_slice.ensures,
      c.root_candidate.ensures,
      c.id_of-id.ensures,
      c.u32_at-q.ensures,
      ← c.if-not-has_types.ensures,
      ← found,
    ) refl
