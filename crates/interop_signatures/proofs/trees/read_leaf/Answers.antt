use Rattle.std.proofs.Common.{◌≡◌, ◌*◌, ◌%◌, ◌^◌, arith}
use Rattle.std.proofs.lemmas.Nat.{one_shl, pow_pos}
use Rattle.interop_signatures.proofs.TreeLaws.{leaf_read}
use Rattle.interop_signatures.proofs.trees.read_leaf.Goals as goal

pub overflow_sub-height : goal.overflow_sub-height
overflow_sub-height c =
    let leaves : 1 * 2 ^ c.args.height % 2 ^ 32 ≡ 2 ^ c.args.height = one_shl c.args.height 32 (omega arith) in
    omega (arith, leaves, pow_pos c.args.height)

pub returns-clause-read : goal.returns-clause-read
returns-clause-read c =
    let leaves : 1 * 2 ^ c.args.height % 2 ^ 32 ≡ 2 ^ c.args.height = one_shl c.args.height 32 (omega arith) in
    leaf_read c.read_number.result c.args.word.now _ _ (omega (arith, leaves, pow_pos c.args.height)) c.read_number.ensures.read

pub returns-clause-none : goal.returns-clause-none
returns-clause-none c = λ e leaf low is.
    let leaves : 1 * 2 ^ c.args.height % 2 ^ 32 ≡ 2 ^ c.args.height = one_shl c.args.height 32 (omega arith) in
    c.read_number.ensures.none e leaf (omega arith) (omega (arith, leaves, low)) is
