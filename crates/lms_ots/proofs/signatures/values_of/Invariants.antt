use Rattle.std.proofs.Common.{◌≡◌, ℕ, ◌+◌, ◌*◌, ◌<◌, [], length, slice_index_or}
use Rattle.signature_defs.specs.Strings.{part}
use Rattle.lms_ots.proofs.signatures.values_of.Given as goal

abbrev pub invariant-values : goal.invariant-values
invariant-values l = record {
  whole : length l.values ≡ 265;
  value : (k : ℕ) → k < l.i → slice_index_or l.values k [] ≡ part (36 + 32 * k) 32 l.fn.sig;
}
