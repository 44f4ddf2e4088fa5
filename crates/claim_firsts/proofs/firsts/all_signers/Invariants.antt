use Rattle.std.proofs.Common.{◌≡◌, take}
use Rattle.claim_firsts.specs.Entries.{signers_of}
use Rattle.claim_firsts.proofs.firsts.all_signers.Given as goal

abbrev pub invariant-loop-second : goal.invariant-loop-second
invariant-loop-second l = l.found ≡ signers_of (take l.second-index l.seconds)
