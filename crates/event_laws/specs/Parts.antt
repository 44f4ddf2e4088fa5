-- What each part of an event leaves as it is.
use Rattle.std.specs.Prelude.{◌≡◌, ℕ, List, ◌++◌, All}
use Rattle.message_defs.specs.Statements.{Claim, view_of}
use Rattle.group_defs.specs.Process.{Setting, Process}
use Rattle.group_defs.specs.Signing.{Signer, sign_all}
use Rattle.group_defs.specs.Settle.{settle}
use Rattle.group_defs.specs.Events.{Event, take_in}

-- q is p but for what was heard in the same view, the conflicts, what was accepted and what was perceived
abbrev pub HasTakenIn : Process → Process → Type 0
HasTakenIn p q = q ≡ record p {
  pool = record { view = p.pool.view; heard = q.pool.heard };
  conflicts = q.conflicts;
  accepted = q.accepted;
  perceived = q.perceived;
}

-- taking in changes nothing else
abbrev pub TakingInLeaves : Type 0
TakingInLeaves = (s : Setting) (p : Process) (e : Event) → HasTakenIn p (take_in s p e)

-- q is p but for what was heard in the same view, and for claims of this view that were signed
pub record HasSigned (p q : Process) : Type 0 where
  pub rest : q ≡ record p { pool = record { view = p.pool.view; heard = q.pool.heard }; signed = q.signed }
  pub more : List Claim
  pub signed : q.signed ≡ p.signed ++ more
  pub here : All (λ c. view_of c.statement ≡ p.pool.view.number) more

-- signing changes nothing else
abbrev pub SigningLeaves : Type 0
SigningLeaves = (s : Setting) (signer : Signer) (left : ℕ) (p : Process) → HasSigned p (sign_all s signer left p).now

-- both have the same number, batch limit, signed claims, conflicts, accepted payloads and perceived updates
pub record HasSettled (p q : Process) : Type 0 where
  pub me : q.me ≡ p.me
  pub limit : q.batch_limit ≡ p.batch_limit
  pub signed : q.signed ≡ p.signed
  pub conflicts : q.conflicts ≡ p.conflicts
  pub accepted : q.accepted ≡ p.accepted
  pub perceived : q.perceived ≡ p.perceived

-- settling changes none of these
abbrev pub SettlingLeaves : Type 0
SettlingLeaves = (s : Setting) (p : Process) → HasSettled p (settle s p)
