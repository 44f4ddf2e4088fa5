use Rattle.std.proofs.Common.{◌≡◌, ◌<◌, [], slice_index_or, ◌≤◌, ◌∙◌, ◌+◌, ◌-◌, ◌*◌, ◌++◌, ℕ, List, length, drop, refl, ap, arith}
use Rattle.std.proofs.Math.Nat.{sub-zero}
use Rattle.std.proofs.lemmas.Slice.{take-put_mid}
use borrow.Rule.Slice.PartMut.{mid_len}
use Rattle.sha2.proofs.Facts256.{length-sha256}
use Rattle.signature_defs.specs.Strings.{u32str}
use Rattle.signature_defs.specs.LmOts.{message_hash, ots_typecode, randomizer, signed_value}
use Rattle.signature_defs.proofs.StringLaws.{before_strings_more, before_strings_none}
use Rattle.lms_ots.proofs.Pieces.{take_next}
use Rattle.lms_ots.proofs.signatures.ots_sign_into.Goals as goal

pub loop-i-init : goal.loop-i-init
loop-i-init c =
    let code : List ℕ = u32str (ots_typecode c.args.kind) in
    let random : List ℕ = randomizer c.args.id.now c.args.q c.args.seed.now in
    let one : c.copy_from_slice.new.self ≡ code = c.copy_from_slice.ensures.after ∙ c.to_be_bytes.ensures ∙ rw c.ots_typecode.ensures in
    let two : c.copy_from_slice-2.new.self
    ≡ random = c.copy_from_slice-2.ensures.after ∙ c.secret-c.ensures ∙ rw (c.chain_head.ensures, c.key_head-key.ensures) in
    rw (one, two)
    (take_next code random (drop 4 c.args.out.now) 4 32 36 refl (ap (λ (n : ℕ). 4 + n) (length-sha256 _)) ∙ before_strings_none
    (code ++ random) _)

pub loop-i-preserved : goal.loop-i-preserved
loop-i-preserved c =
    let random : List ℕ = randomizer c.args.id.now c.args.q c.args.seed.now in
    let value : ℕ → List ℕ = signed_value c.args.kind c.args.id.now c.args.q c.args.seed.now
    (message_hash c.args.id.now c.args.q random c.args.message.now) in
    let low : c.loop-i.i < c.ots_chains-count.result = omega arith in
    let there : slice_index_or c.walk_by_length-ends.result c.from-in-loop-i.result [] ≡ value c.loop-i.i =
    rw c.from-in-loop-i.ensures (c.walk_by_length-ends.ensures c.loop-i.i low
    ∙ rw (
      c.secrets.ensures c.loop-i.i low,
      c.same.ensures c.loop-i.i (omega arith),
      sub-zero,
      c.all.ensures.value c.loop-i.i (omega arith),
      c.new-digits.ensures,
      c.message_hash.ensures,
      c.secret-c.ensures,
      c.chain_head.ensures,
      c.key_head-key.ensures,
    )) in
    let here : c.copy_from_slice-in-loop-i.new.self ≡ value c.loop-i.i = c.copy_from_slice-in-loop-i.ensures.after ∙ there in
    let at : ℕ = 36 + 32 * c.from.result in
    let fits : at + 32 ≤ length c.loop-i.out = omega arith in
    let long : length c.copy_from_slice-in-loop-i.new.self
    ≡ at + 32 - at = c.copy_from_slice-in-loop-i.ensures.len ∙ mid_len at (at + 32) c.loop-i.out fits in
    let same : 36 + 32 * c.loop-i.i ≡ at = omega arith in
    take-put_mid at _ c.loop-i.out c.copy_from_slice-in-loop-i.new.self _ (omega arith) (omega arith)
    ∙ rw (here, ← same, c.loop-i.invariant) (before_strings_more (u32str (ots_typecode c.args.kind) ++ random) value c.loop-i.i)
