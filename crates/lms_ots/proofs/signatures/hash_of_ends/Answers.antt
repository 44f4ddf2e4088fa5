use Rattle.std.proofs.Common.{◌≡◌, ◌++◌, ℕ, List, [], slice_index_or, arith}
use Rattle.signature_defs.specs.Strings.{u16str}
use Rattle.signature_defs.specs.LmOts.{D_PBLC}
use Rattle.signature_defs.proofs.StringLaws.{before_strings_more, before_strings_none}
use Rattle.lms_ots.proofs.signatures.hash_of_ends.Goals as goal

pub loop-i-init : goal.loop-i-init
loop-i-init c = rw (← before_strings_none) c.tagged-hasher.ensures

pub loop-i-preserved : goal.loop-i-preserved
loop-i-preserved c =
    let end : ℕ → List ℕ = λ (i : ℕ). slice_index_or c.args.ends.now i [] in
    let here : slice_index_or c.args.ends.now c.from.result [] ≡ slice_index_or c.args.ends.now c.loop-i.i [] = rw c.from.ensures in
    rw (← before_strings_more (c.args.key.now ++ u16str D_PBLC) end c.loop-i.i, ← here)
    (c.update.ensures _ c.loop-i.invariant)

pub returns : goal.returns
returns c =
    let done : c.loop-i.i ≡ c.args.count = omega arith in
    rw (← done) (c.finalize.ensures _ c.loop-i.invariant)
