use Rattle.std.proofs.Common.{◌≡◌, ℕ, ◌-◌, ◌<◌, ◌≤◌, ◌^◌, ◌++◌, min, slice_index}
use Rattle.sha2.specs.Sha256.{digest_bytes}
use Rattle.sha256_lanes.specs.Lanes.{lane}
use Rattle.signature_defs.specs.Strings.{u16str}
use Rattle.signature_defs.specs.LmOts.{chain}
use Rattle.lms_chains.proofs.lanes.walk_four.Given as goal

abbrev pub invariant-steps : goal.invariant-steps
invariant-steps l = (n : ℕ) → n < 4 → slice_index l.number n < 2 ^ 16 → l.first ≤ slice_index l.from n
    → slice_index l.from n ≤ slice_index l.to n → slice_index l.to n ≤ l.last
    → digest_bytes (lane n l.value) 8 ≡ chain (digest_bytes l.key 5 ++ u16str (slice_index l.number n)) (slice_index l.from n)
    (min l.j (slice_index l.to n) - slice_index l.from n) (digest_bytes (lane n l.fn.start) 8)
