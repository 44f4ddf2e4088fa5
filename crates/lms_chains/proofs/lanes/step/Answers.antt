use Rattle.std.proofs.Common.{ℕ, List, ◌++◌, ◌∙◌, slice_index, sym, arith}
use Rattle.std.proofs.lemmas.Nat.{from_be_bytes-to_be_bytes_4}
use Rattle.sha2.specs.Sha256.{digest_bytes}
use Rattle.sha256_lanes.specs.Lanes.{lane}
use Rattle.sha256_lanes.proofs.InLane.{below_sixteen}
use Rattle.signature_defs.specs.Strings.{u8str, u16str}
use Rattle.lms_chains.proofs.lanes.step.Goals as goal

pub returns : goal.returns
unfolding digest_bytes
returns c l low small =
    let key : List ℕ = c.args.key.now in
    let m : List ℕ = (digest_bytes key 5 ++ u16str (slice_index c.args.number l)) ++ u8str c.args.j ++ digest_bytes (lane l c.args.value) 8 in
    c.hash_short.ensures l low m (omega arith)
    (below_sixteen _
    (c.splat.ensures l low ∙ sym (from_be_bytes-to_be_bytes_4 (slice_index key 0) (c.fits-key 0)))
    (c.splat-2.ensures l low ∙ sym (from_be_bytes-to_be_bytes_4 (slice_index key 1) (c.fits-key 1)))
    (c.splat-3.ensures l low ∙ sym (from_be_bytes-to_be_bytes_4 (slice_index key 2) (c.fits-key 2)))
    (c.splat-4.ensures l low ∙ sym (from_be_bytes-to_be_bytes_4 (slice_index key 3) (c.fits-key 3)))
    (c.splat-5.ensures l low ∙ sym (from_be_bytes-to_be_bytes_4 (slice_index key 4) (c.fits-key 4)))
    (c.first_word.ensures l low small)
    (c.joined.ensures l low)
    (c.joined-2.ensures l low)
    (c.joined-3.ensures l low)
    (c.joined-4.ensures l low)
    (c.joined-5.ensures l low)
    (c.joined-6.ensures l low)
    (c.joined-7.ensures l low)
    (c.last_word.ensures l low)
    (c.splat-6.ensures l low)
    (c.splat-7.ensures l low))
