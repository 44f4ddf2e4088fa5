use Rattle.std.proofs.Common.{◌++◌, ℕ, [], slice_index_or}
use Rattle.sha2.specs.Hashers.{Holds256}
use Rattle.signature_defs.specs.Strings.{u16str, strings}
use Rattle.signature_defs.specs.LmOts.{D_PBLC}
use Rattle.lms_ots.proofs.signatures.hash_of_ends.Given as goal

abbrev pub invariant-loop-i : goal.invariant-loop-i
invariant-loop-i l = Holds256 l.hasher (l.key ++ u16str D_PBLC ++ strings (λ (i : ℕ). slice_index_or l.ends i []) l.i)
