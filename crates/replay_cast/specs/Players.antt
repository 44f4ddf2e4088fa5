-- Which players of the definitions the processes of the code are.
use Rattle.std.specs.Prelude.{◌≡◌, ℕ, List, [], ◌∷◌}
use Rattle.std.specs.List.{list_any}
use Rattle.std.specs.Str.{bytes_eq}
use Rattle.message_defs.specs.Spelling.{spelling}
use Rattle.group_defs.specs.Process.{Setting, Process}
use Rattle.group_defs.specs.Events.{outcome}
use Rattle.replay_defs.specs.Signers.{key_total, key_signature}
use Rattle.replay_defs.specs.Worlds as plain
use Rattle.replay_defs.specs.Worlds.{with_turn, turn_of}
use Rattle.sig_scheme.specs.Signers.{used, total, signature}
use Rattle.sig_scheme.specs.declared.any_signer.AnySigner.{AnySigner}
use Rattle.member_events.specs.declared.events.Event.{Event}
use Rattle.member_events.specs.declared.events.Outcome.{Outcome}
use Rattle.member_core.specs.Events.{event, IsOutcome}
pub use Rattle.member_core.specs.declared.member.Core.{Core}
unfoldable pub use Rattle.member_core.specs.Cores.{IsCore}
use Rattle.member_core.specs.Cores.{signer_of}
use Rattle.said_index.specs.declared.index.SaidIndex.{SaidIndex}
use Rattle.said_index.specs.Said.{is_said}
pub use Rattle.replay_cast.specs.declared.player.Player.{Player}

-- the number of the player's process
abbrev pub process_of : Player → ℕ
process_of p = p.process

-- the core is the player's process in this setting, and has its key
pub record HasCore (s : Setting) (c : plain.Player) (core : Core AnySigner) : Type 0 where
  pub is : IsCore used s c.now core
  pub total : total (signer_of core) ≡ key_total c.listed.key
  pub signs : signature (signer_of core) ≡ key_signature c.listed.key

-- a statement was said exactly where the process signed one that is spelled so
abbrev pub HasSaid : Process → SaidIndex → Type 0
HasSaid p said = (x : List ℕ) → is_said x said ≡ list_any (λ c. bytes_eq x (spelling c.statement)) p.signed

-- p, of the code, is the player c of the definitions
pub record Plays (s : Setting) (p : Player) (c : plain.Player) : Type 0 where
  pub process : p.process ≡ c.listed.process
  pub core : HasCore s c p.core
  pub said : HasSaid c.now p.said

-- each player of the code is the one of the definitions at its place
abbrev pub ArePlayers : Setting → List Player → List plain.Player → Type 0
ArePlayers s [] [] = Unit {0}
ArePlayers s (p ∷ ps) (c ∷ cs) = Plays s p c × ArePlayers s ps cs
ArePlayers s _ _ = ⊥

-- the player c has taken one turn more, of event e, is `new` after it, and r came of the event
pub record Stepped (s : Setting) (c : plain.Player) (new : Player) (e : Event) (r : Outcome) : Type 0 where
  pub plays : Plays s new (with_turn s (turn_of c (event e)) c)
  pub outcome : IsOutcome (outcome s c.now (turn_of c (event e))) r
