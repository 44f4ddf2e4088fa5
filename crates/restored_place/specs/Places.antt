-- The state of a process in its view, apart from what it has signed.
use Rattle.std.specs.Prelude.{◌≡◌, ◌≢◌, ℕ, All, AllPairs}
use Rattle.byte_defs.specs.Members.{has}
use Rattle.message_defs.specs.Statements.{slot_of}
use Rattle.message_defs.specs.Spelling.{IsClaim}
use Rattle.group_defs.specs.Views.{rank_of}
use Rattle.group_defs.specs.Process.{Setting, Process, keyed, earlier}
use Rattle.own_place.specs.declared.own.Own.{Own}
use Rattle.own_place.specs.Owns.{HasDelivered}

-- the place is that of this process in this setting, but for what it has signed
pub record IsOwnSoFar (s : Setting) (p : Process) (own : Own) : Type 0 where
  pub number : p.me ≡ own.me
  pub position : rank_of p.pool.view p.me ≡ own.position
  pub keys : (q : ℕ) → has (keyed s) q ≡ has own.keyed q
  pub delivered : HasDelivered own p
  pub before : earlier p ≡ own.earlier

-- each claim is the process's own, and in range, and each slot is signed once
pub record SignedOnce (p : Process) : Type 0 where
  pub own : All (λ c. c.signer ≡ p.me) p.signed
  pub ranged : All IsClaim p.signed
  pub once : AllPairs (λ c d. slot_of c.statement ≢ slot_of d.statement) p.signed
