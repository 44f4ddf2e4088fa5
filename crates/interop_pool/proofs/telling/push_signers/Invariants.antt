use Rattle.std.proofs.Common.{◌≡◌, ◌++◌, length}
use Rattle.std.specs.List.{flat_map}
use Rattle.interop_pool.specs.Telling.{signer_word}
use Rattle.interop_pool.proofs.telling.push_signers.Given as goal

abbrev pub invariant-signers : goal.invariant-signers
invariant-signers l = l.out.items ++ flat_map signer_word l.left ≡ l.fn.out.items ++ flat_map signer_word l.fn.signers

abbrev pub decreases-signers : goal.decreases-signers
decreases-signers l = length l.left
