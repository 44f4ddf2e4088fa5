use Rattle.std.proofs.Common.{◌≡◌, ◌∙◌, ◌+◌, ◌-◌, ◌*◌, ◌≤◌, ◌++◌, ℕ, List, length, drop, length-append, refl, add-one, arith}
use Rattle.std.proofs.Math.Nat.{mul-le-mul_right, suc-mul}
use Rattle.std.proofs.lemmas.List.{take-append-drop, take_at}
use Rattle.std.proofs.lemmas.Slice.{take-put_mid}
use borrow.Rule.Slice.PartMut.{mid_len}
use Rattle.signature_defs.specs.Strings.{u32str}
use Rattle.signature_defs.specs.Lms.{lms_signature_length}
use Rattle.signature_defs.specs.Hss.{signed_key}
use Rattle.signature_defs.proofs.StringLaws.{before_strings_more, before_strings_none}
use Rattle.lms_hss.specs.Plans.{secret}
use Rattle.lms_hss.proofs.TreeFacts.{tree_at}
use Rattle.lms_hss.proofs.trees.write_signed_keys.Goals as goal

pub loop-level-init : goal.loop-level-init
loop-level-init c =
    let key = secret c.args.plan.now in
    let count : List ℕ = u32str (key.levels - 1) in
    let one : c.copy_from_slice.new.self
    ≡ count = c.copy_from_slice.ensures.after ∙ c.to_be_bytes.ensures ∙ rw c.levels-count.ensures.value refl in
    let none : 4 + 0 * (c.level_len-length.result + 56) ≡ 4 = omega arith in
    rw (one, none) (take_at count (drop 4 c.args.out.now) 4 refl ∙ before_strings_none count (signed_key key c.args.number))

pub write_signed_key-requires-clause-above : goal.write_signed_key-requires-clause-above
write_signed_key-requires-clause-above c =
    tree_at (secret c.args.plan.now) c.args.number c.loop-level.level c.args.trees.now c.index-trees-d.result c.requires.trees
    (omega arith) c.index-trees-d.is

pub write_signed_key-requires-clause-below : goal.write_signed_key-requires-clause-below
write_signed_key-requires-clause-below c =
    tree_at (secret c.args.plan.now) c.args.number
    (c.loop-level.level + 1) c.args.trees.now c.index-trees-d-in-loop-level.result c.requires.trees
    (omega arith) c.index-trees-d-in-loop-level.is

pub loop-level-preserved : goal.loop-level-preserved
loop-level-preserved c =
    let key = secret c.args.plan.now in
    let k : ℕ = c.level_len-length.result + 56 in
    let at : ℕ = 4 + c.loop-level.level * k in
    let value : c.level_len-length.result ≡ lms_signature_length key.kind key.h = c.level_len-length.ensures.value in
    let out = c.args.out.now in
    let whole : length (c.copy_from_slice.new.self ++ drop 4 out) ≡ length out =
    length-append c.copy_from_slice.new.self (drop 4 out) ∙ rw (c.copy_from_slice.ensures.len, ← length-append, take-append-drop) refl in
    let room : length c.loop-level.out ≡ 4 + (key.levels - 1) * k = c.loop-level.auto.out ∙ whole ∙ c.requires.room ∙ rw value refl in
    let next : (c.loop-level.level + 1) * k ≡ c.loop-level.level * k + k = rw add-one (suc-mul c.loop-level.level k) in
    let below : (c.loop-level.level + 1) * k ≤ (key.levels - 1) * k = mul-le-mul_right k (omega arith) in
    let fits : at + k ≤ length c.loop-level.out = omega arith in
    let long : length c.write_signed_key.new.out ≡ at + k - at = c.write_signed_key.auto.out ∙ mid_len at (at + k) c.loop-level.out fits in
    take-put_mid at _ c.loop-level.out c.write_signed_key.new.out (4 + (c.loop-level.level + 1) * k) (omega arith) (omega arith)
    ∙ rw (c.loop-level.invariant, c.write_signed_key.ensures)
    (before_strings_more (u32str (key.levels - 1)) (signed_key key c.args.number) c.loop-level.level)
