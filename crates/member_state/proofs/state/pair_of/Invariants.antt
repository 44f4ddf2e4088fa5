use Rattle.std.proofs.Common.{◌≡◌, drop}
use Rattle.member_state.specs.States.{kept_of}
use Rattle.member_state.proofs.state.pair_of.Given as goal

-- it is not among those before this place
abbrev pub invariant-pairs : goal.invariant-pairs
invariant-pairs l = kept_of l.signer (drop l.place l.conflicts.pairs) ≡ kept_of l.signer l.conflicts.pairs
