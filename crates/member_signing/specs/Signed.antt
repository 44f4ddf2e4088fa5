-- What has become of a process and its state where it signed what is due.
use Rattle.std.specs.Prelude.{◌≡◌, ℕ, ◌-◌, ◌≤◌, ◌++◌, Bool, List, length, map, drop, IsTrue}
use Rattle.message_defs.specs.Spelling.{IsStatement}
use Rattle.message_defs.specs.Packing.{Signed, signed_of}
use Rattle.message_defs.specs.Statements as plain
use Rattle.group_defs.specs.Process.{Setting, Process}
use Rattle.group_defs.specs.Due.{may_sign}
use Rattle.group_defs.specs.Signing.{Signing, own_claim}
use Rattle.stmt_codec.specs.Views.{signed}
use Rattle.stmt_codec.specs.declared.own.OwnClaim.{OwnClaim}
use Rattle.member_state.specs.Below.{Phase}
use Rattle.member_state.specs.Phases.{Observing, OpenView, ClosingView, DecidedView, HaltedView}
use Rattle.member_state.specs.declared.state.ProcessState.{ProcessState}
use Rattle.member_state.specs.States.{IsStateOf}

-- the view is not decided
abbrev pub IsUndecided : Phase → Type 0
IsUndecided (Observing o) = Unit {0}
IsUndecided (OpenView o) = Unit {0}
IsUndecided (ClosingView c) = Unit {0}
IsUndecided (DecidedView d) = ⊥
IsUndecided (HaltedView h) = ⊥

-- a claim that has these bytes, with a statement that a frame can carry
pub record HasClaim (c : OwnClaim) : Type 0 where
  pub said : plain.Claim
  pub range : IsStatement said.statement
  pub same : signed c ≡ signed_of said

-- the bytes are those of some claim that a frame can carry
pub record IsReadable (c : OwnClaim) : Type 0 where
  pub claim : ∥ HasClaim c ∥₁
  pub short : length c.signature ≤ 16384

-- a process that has this state and may sign the statement of this claim, which is its own
pub record HasSigner (st : ProcessState) (c : OwnClaim) : Type 0 where
  pub setting : Setting
  pub process : Process
  pub said : plain.Statement
  pub state : IsStateOf setting process st
  pub may : IsTrue (may_sign setting process said)
  pub own : signed c ≡ signed_of (own_claim setting (λ used body. c.signature) process said)

-- some process that has this state may sign the statement of this claim, which is its own, with a signature that a frame can carry
pub record IsOwed (st : ProcessState) (c : OwnClaim) : Type 0 where
  pub signer : ∥ HasSigner st c ∥₁
  pub short : length c.signature ≤ 16384

-- Process p has signed, and `one` is what it came to: this is its state now; one more was due exactly where it lacks a signature; of
-- `total` signatures `many` are used; and what it signed more comes after what was signed `before`, each as in a frame.
pub record IsSigned (s : Setting) (p : Process) (one : Signing) (st : ProcessState) (total many : ℕ) (before now : List Signed)
    (lacks : Bool) : Type 0 where
  pub state : IsStateOf s one.now st
  pub spent : one.spent ≡ lacks
  pub used : length one.now.signed ≡ many
  pub left : one.left ≡ total - many
  pub grown : p.signed ++ drop (length p.signed) one.now.signed ≡ one.now.signed
  pub reported : now ≡ before ++ map signed_of (drop (length p.signed) one.now.signed)
