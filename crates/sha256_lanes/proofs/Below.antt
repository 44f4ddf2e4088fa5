-- Each lane of a vector is below 2^32.
use Rattle.std.proofs.Common.{◌≡◌, ℕ, ◌<◌, ◌^◌, List, length, slice_index, w32, arith}
use Rattle.std.proofs.lemmas.Simd.{Each1-get_or}
use lib.Lanes.{Each1}
use mir.Val.{Fits}

pub lane_below : (x : List ℕ) → (length x ≡ 4) × Each1 (Fits w32) x → (j : ℕ) → j < 4 → slice_index x j < 2 ^ 32
lane_below x fits j low = (Each1-get_or (Fits w32) x j 0 (omega arith) fits.1).fits
