use Rattle.std.proofs.Common.{◌≡◌, take}
use Rattle.claim_index.specs.Hashes.{written}
use Rattle.claim_index.proofs.hasher.KeyHasherHasher.write.Given as goal

abbrev pub invariant-loop-byte : goal.invariant-loop-byte
invariant-loop-byte l = l.self ≡ written l.initial.self (take l.byte-index l.bytes)
