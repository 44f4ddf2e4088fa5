-- Which process of an audit a player is.
use Rattle.std.specs.Prelude.{◌≡◌, ◌==◌, ◌&&◌, ℕ, Bool, []}
use Rattle.group_defs.specs.Process.{Setting, start}
use Rattle.group_defs.specs.Family.{handed_to}
use Rattle.journal_defs.specs.Entries.{Entry}
use Rattle.rp_base.specs.Signer.{count_total, count_used}
use Rattle.claim_firsts.specs.Seen.{Saw}
use Rattle.member_core.specs.Cores.{IsCore, me_of, signer_of}
use Rattle.audit_defs.specs.Players as audit
use Rattle.audit_defs.specs.Players.{is_written, most_signatures}
use Rattle.audit_turns.specs.declared.player.Player.{Player}

-- the process's number
abbrev pub number_of : Player → ℕ
number_of p = me_of p.core

-- the process of this number as it starts, hosted by the journal of this index
abbrev pub begun : Setting → ℕ → ℕ → ℕ → audit.Player
begun s me limit journal = record { me = me; batch_limit = limit; journal = journal; now = start s me limit; turns = [] }

-- This is process c of the audit: its core is the process as it is now, with a key of the most signatures that there are; the journal is the
-- one that hosts it; and what was handed to it was seen.
pub record IsPlayer (s : Setting) (c : audit.Player) (p : Player) : Type 0 where
  pub core : IsCore count_used s c.now p.core
  pub number : c.now.me ≡ c.me
  pub total : count_total (signer_of p.core) ≡ most_signatures
  pub journal : c.journal ≡ p.journal
  pub handed : Saw s (handed_to c.turns) [] p.handed

-- the process takes an entry of the journal of this index
abbrev pub is_taken : Setting → ℕ → Entry → audit.Player → Bool
is_taken s j e c = (c.journal == j) && is_written s c.now e
