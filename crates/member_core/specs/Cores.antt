-- Which process of the definitions a core is, and what a step of it gives.
use Rattle.std.specs.Prelude.{◌≡◌, ℕ, ◌-◌, ◌≤◌, List, length}
use Rattle.group_defs.specs.Views.{View}
use Rattle.group_defs.specs.Process.{Setting, Process, all_kinds}
use Rattle.group_defs.specs.Events as defs
use Rattle.event_laws.specs.Slots.{most_signed}
use Rattle.member_events.specs.declared.events.Outcome.{Outcome}
use Rattle.member_signing.specs.States.{IsStateOf, IsOutcome}
use Rattle.member_core.specs.declared.member.Core.{Core}
use Rattle.member_core.specs.declared.member.Keyless.{Keyless}

-- the setting of this group, roster and genesis view, in which all kinds are signed
pub record Shares (s : Setting) (g : List ℕ) (r : List (ℕ × List ℕ)) (v : View) : Type 0 where
  pub group : s.group ≡ g
  pub roster : s.roster ≡ r
  pub genesis : s.genesis ≡ v
  pub kinds : s.signs ≡ all_kinds

-- the signer
abbrev pub signer_of : {G : Type 0} → Core G → G
signer_of c = c.signer

-- the process's number
abbrev pub me_of : {G : Type 0} → Core G → ℕ
me_of c = c.keyless.state.value.own.me

-- This is process p in this setting, whoever signs for it: its state, its group and its roster are.
pub record IsKeyless (s : Setting) (p : Process) (k : Keyless) : Type 0 where
  pub state : IsStateOf s p k.state.value
  pub group : s.group ≡ k.group
  pub roster : s.roster ≡ k.roster
  pub kinds : s.signs ≡ all_kinds

-- The core is this process in this setting, and its key has made as many signatures as the process has signed statements. `used` says how
-- many signatures a signer has made.
pub record IsProcess {G : Type 0} (used : G → ℕ) (s : Setting) (p : Process) (c : Core G) : Type 0 where
  pub keyless : IsKeyless s p c.keyless
  pub signed : length p.signed ≡ used c.signer

-- the core is this process in this setting (`IsProcess`), as one word that proofs leave closed
unfoldable pub IsCore : {G : Type 0} → (G → ℕ) → Setting → Process → Core G → Type 0
IsCore used s p c = IsProcess used s p c

-- how many signatures may still be made: as many as the key has left
abbrev pub left_of : {G : Type 0} → (G → ℕ) → (G → ℕ) → Core G → ℕ
left_of used total c = total c.signer - used c.signer

-- the turn of this event: the signatures that are left may be made, and the signer makes them
abbrev pub turn_of : {G : Type 0} → (G → ℕ) → (G → ℕ) → (G → ℕ → List ℕ → List ℕ) → Core G → defs.Event → defs.Turn
turn_of used total signature c e = record { event = e; allowance = left_of used total c; signer = signature c.signer }

-- the process has taken the turn, `many` signatures are used then, no more than a view has slots, and the outcome is that of the turn
pub record Takes (s : Setting) (p : Process) (t : defs.Turn) (new : Keyless) (many : ℕ) (r : Outcome) : Type 0 where
  pub keyless : IsKeyless s (defs.after s p t) new
  pub used : length (defs.after s p t).signed ≡ many
  pub few : length (defs.outcome s p t).signed ≤ most_signed
  pub outcome : IsOutcome (defs.outcome s p t) r

-- the new core is the process after the turn, and the outcome is that of the turn
pub record Steps {G : Type 0} (used total : G → ℕ) (signature : G → ℕ → List ℕ → List ℕ) (s : Setting) (p : Process) (old new : Core G)
    (e : defs.Event) (r : Outcome) : Type 0 where
  pub core : IsCore used s (defs.after s p (turn_of used total signature old e)) new
  pub outcome : IsOutcome (defs.outcome s p (turn_of used total signature old e)) r
