-- Which processes of an audit those of a walk are, and what an entry makes of them.
use Rattle.std.specs.Prelude.{◌≡◌, ◌==◌, ◌++◌, ℕ, List, [], ◌∷◌, Option, Some, Result, IsTrue, OnOk, ◌↔◌, Contains, IsOkUnless, flat_map, slice_get, slice_set}
use Rattle.std.specs.List.{AllZip}
use Rattle.message_defs.specs.Statements.{Claim}
use Rattle.group_defs.specs.Process.{Setting}
use Rattle.group_defs.specs.Events.{outcome}
use Rattle.journal_defs.specs.Entries.{Entry}
use Rattle.claim_firsts.specs.Seen.{Saw}
use Rattle.claim_firsts.specs.Tables.{Table}
use Rattle.member_core.specs.declared.absorbing.AbsorbFault.{AbsorbFault}
use Rattle.member_core.specs.declared.absorbing.AbsorbFault.TheVariants.{NoMemory}
use Rattle.audit_defs.specs.Players as audit
use Rattle.audit_defs.specs.Players.{Taken, claims_of, turn_of, with_turn}
use Rattle.audit_defs.specs.Audits.{Known}
use Rattle.audit_turns.specs.declared.player.Player.{Player}
use Rattle.audit_turns.specs.declared.walk.Walk.{Walk}
use Rattle.audit_turns.specs.Players.{IsPlayer, is_taken}

-- what all of these processes signed
abbrev pub all_signed : List audit.Player → List Claim
all_signed cs = flat_map (λ c. c.now.signed) cs

-- These are the processes and the claims that are known; and of the claims those that these processes signed were seen as own words.
pub record IsWalk (s : Setting) (k : Known) (own : List Claim) (w : Walk) : Type 0 where
  pub players : AllZip (IsPlayer s) k.players w.players.items
  pub claims : Saw s k.claims own w.claims
  pub said : (c : Claim) → Contains own c ↔ Contains (all_signed k.players) c

-- the walk goes on to what the entry makes of the known processes and claims
pub record WalksTo (s : Setting) (k : Known) (own : List Claim) (t : Taken) (w : Walk) : Type 0 where
  pub more : List Claim
  pub walk : IsWalk s (record { players = t.players; claims = k.claims ++ t.claims }) (own ++ more) w

-- the entry is taken, and the walk goes on
abbrev pub GoesOn : Setting → Known → List Claim → Option Taken → Walk → Type 0
GoesOn s k own taken w = (t : Taken) × (taken ≡ Some t) × WalksTo s k own t w

-- what the process at this place makes of the entry, whichever process of the audit it is
pub record TakesAt (s : Setting) (at j : ℕ) (e : Entry) (old new : List Player) (before after : Table) (r : Result (Unit {0}) AbsorbFault)
    : Type 0 where
  pub taken : (c : audit.Player) (p : Player) (claims own : List Claim) → slice_get old at ≡ Some p → IsPlayer s c p → Saw s claims own before
      → OnOk r (IsTrue (is_taken s j e c)
      × ((q : Player) × (new ≡ slice_set old at q) × IsPlayer s (with_turn s c (turn_of c.now e)) q)
      × Saw s (claims ++ claims_of s c.now (turn_of c.now e)) (own ++ (outcome s c.now (turn_of c.now e)).signed) after)
  pub only : (c : audit.Player) (p : Player) (claims own : List Claim) → slice_get old at ≡ Some p → IsPlayer s c p → Saw s claims own before
      → IsTrue (c.me == e.process) → IsTrue (is_taken s j e c) → IsOkUnless r NoMemory

-- with one process more
abbrev pub with_player : Known → audit.Player → Known
with_player k c = record { players = k.players ++ c ∷ []; claims = k.claims }
