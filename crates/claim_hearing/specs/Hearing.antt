-- Which setting claims are judged in, and what is kept of a process that hears.
use Rattle.std.specs.Prelude.{◌≡◌, ℕ, Bool, List}
use Rattle.message_defs.specs.Statements.{Claim}
use Rattle.group_defs.specs.Process.{Setting, Pool, Process}

-- the setting of this rule of signatures, this group and this roster
pub record Shares (s : Setting) (valid : List ℕ → List ℕ → List ℕ → Bool) (group : List ℕ) (roster : List (ℕ × List ℕ)) : Type 0 where
  pub rule : s.valid ≡ valid
  pub bound : s.group ≡ group
  pub keys : s.roster ≡ roster

-- the process's pool is this, and its conflicts are these
pub record IsHeard (p : Process) (h : Pool) (cs : List (Claim × Claim)) : Type 0 where
  pub pool : p.pool ≡ h
  pub pairs : p.conflicts ≡ cs
