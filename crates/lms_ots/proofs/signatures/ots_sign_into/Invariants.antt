use Rattle.std.proofs.Common.{◌≡◌, ◌+◌, ◌*◌, ◌++◌, take}
use Rattle.signature_defs.specs.Strings.{u32str, strings}
use Rattle.signature_defs.specs.LmOts.{message_hash, ots_typecode, randomizer, signed_value}
use Rattle.lms_ots.proofs.signatures.ots_sign_into.Given as goal

abbrev pub invariant-loop-i : goal.invariant-loop-i
invariant-loop-i l =
    let c = randomizer l.fn.id l.fn.q l.fn.seed in
    take (36 + 32 * l.i) l.out ≡ u32str (ots_typecode l.fn.kind) ++ c
    ++ strings (signed_value l.fn.kind l.fn.id l.fn.q l.fn.seed (message_hash l.fn.id l.fn.q c l.fn.message)) l.i
