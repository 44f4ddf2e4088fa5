-- Lies of corrupt processes.
use Rattle.std.specs.Prelude.{◌≡◌, ℕ, List, Option, Some, None, slice_get, slice_set}
use Rattle.message_defs.specs.Statements.{Statement}
use Rattle.sig_scheme.specs.Signers.{total, signature}
use Rattle.replay_cast.specs.declared.liar.Liar.{Liar}
use Rattle.replay_cast.specs.Liars.{Reported, Silent}

-- the liar at a place keeps its number and its key
pub record SameLiar (old new : Liar) : Type 0 where
  pub process : new.process ≡ old.process
  pub total : total new.signer ≡ total old.signer
  pub secret : signature new.signer ≡ signature old.signer

-- the corrupt process lied in this frame; or it could not: its key is spent, and nothing changed
abbrev pub Lied : List ℕ → Statement → Liar → Liar → Option (List ℕ) → Type 0
Lied group st old new (Some frame) = Reported group st old new frame
Lied group st old new None = Silent old new

-- the corrupt process x, which is at place i, lied or could not, and all others are as before
pub record LiedAt (group : List ℕ) (st : Statement) (old new : List Liar) (i : ℕ) (x : Liar) (lie : Option (List ℕ)) : Type 0 where
  pub now : Liar
  pub same : SameLiar x now
  pub all : new ≡ slice_set old i now
  pub lied : Lied group st x now lie

-- the corrupt process at place i, whichever it is, lied or could not
abbrev pub LiesAt : List ℕ → Statement → List Liar → List Liar → ℕ → Option (List ℕ) → Type 0
LiesAt group st old new i lie = (x : Liar) → slice_get old i ≡ Some x → LiedAt group st old new i x lie
