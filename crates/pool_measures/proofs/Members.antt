-- The members of a pool.
use Rattle.std.proofs.Common.{◌≡◌, refl}
use Rattle.message_defs.specs.Statements.{Claim}
use Rattle.group_defs.specs.Process.{Pool}
use Rattle.group_defs.specs.Certified.{number_of_members}
use Rattle.group_defs.specs.Hearing.{Verdict, Old, Early, Stranger, OutOfWindow, Known, Unsigned, Conflict, Heard}
use Rattle.claim_pool.specs.Verdicts.{after}

-- they stay, whatever becomes of a claim
pub after_members : (v : Verdict) (h : Pool) (c : Claim) → number_of_members (after v h c) ≡ number_of_members h
after_members Heard h c = refl
after_members Conflict h c = refl
after_members Old h c = refl
after_members Early h c = refl
after_members Stranger h c = refl
after_members OutOfWindow h c = refl
after_members Known h c = refl
after_members Unsigned h c = refl
