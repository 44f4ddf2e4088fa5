-- What holds of a process at each moment of an event.
use Rattle.std.specs.Prelude.{◌≡◌, ℕ, ◌+◌, ◌≤◌, List, [], ◌∷◌, ◌++◌, length, All, IsTrue}
use Rattle.message_defs.specs.Limits.{most_messages, most_payload_bytes}
use Rattle.message_defs.specs.Statements.{Statement, Claim, view_of}
use Rattle.message_defs.specs.Spelling.{IsClaim, IsStatement, IsUpdate, IsViewNumber}
use Rattle.message_defs.specs.Updates.{Value}
use Rattle.group_defs.specs.Views.{View, IsView, next_view}
use Rattle.group_defs.specs.Process.{Setting, Process, start}
use Rattle.group_defs.specs.Hearing.{hear}
use Rattle.group_defs.specs.Due.{may_sign}
use Rattle.group_defs.specs.Signing.{Signer, own_claim, signs}
use Rattle.group_defs.specs.Settle.{install}
use Rattle.rule_laws.specs.Heard.{IsPool}

-- What is heard is of the view and in range; what is signed is the process's own, of this view or one before it, and in range; no
-- accepted payload is too long, no batch of its own Orders either, and what it perceived is of processes that there can be.
pub record IsLawful (p : Process) : Type 0 where
  pub number : IsViewNumber p.pool.view.number
  pub pool : IsPool p.pool
  pub own : All (λ c. c.signer ≡ p.me) p.signed
  pub past : All (λ c. view_of c.statement ≤ p.pool.view.number) p.signed
  pub said : All IsClaim p.signed
  pub short : All (λ b. length b ≤ most_payload_bytes) p.accepted
  pub batches : p.batch_limit ≤ most_messages
  pub asked : All (λ e. IsUpdate e.1) p.perceived

-- a process is lawful as it starts
abbrev pub StartIsLawful : Type 0
StartIsLawful = (s : Setting) (me limit : ℕ) → limit ≤ most_messages → IsViewNumber s.genesis.number → IsView s.genesis
    → IsLawful (start s me limit)

-- a lawful process is lawful after it heard a claim that is in range
abbrev pub HearingIsLawful : Type 0
HearingIsLawful = (s : Setting) (p : Process) (c : Claim) → IsClaim c → IsLawful p → IsLawful (hear s p c)

-- a lawful process is lawful after it signed a statement that it may sign, in a claim that is in range
abbrev pub SigningIsLawful : Type 0
SigningIsLawful = (s : Setting) (signer : Signer) (p : Process) (st : Statement) → IsTrue (may_sign s p st)
    → IsClaim (own_claim s signer p st) → IsLawful p → IsLawful (signs s signer p st)

-- a lawful process is lawful after it accepted a payload that is not too long
abbrev pub AcceptingIsLawful : Type 0
AcceptingIsLawful = (p : Process) (payload : List ℕ) → length payload ≤ most_payload_bytes → IsLawful p
    → IsLawful (record p { accepted = p.accepted ++ payload ∷ [] })

-- a lawful process is lawful after it installed a view that there can be
abbrev pub InstallingIsLawful : Type 0
InstallingIsLawful = (p : Process) (d : ℕ × Value) → IsViewNumber (p.pool.view.number + 1) → IsView (next_view p.pool.view d.1.update)
    → IsLawful p → IsLawful (install d p)

-- what a lawful process may sign is in range
abbrev pub DueIsInRange : Type 0
DueIsInRange = (s : Setting) (p : Process) (st : Statement) → IsLawful p → IsTrue (may_sign s p st) → IsStatement st
