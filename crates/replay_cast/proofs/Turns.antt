-- A step of a core is a turn of its player.
use Rattle.std.proofs.Common.{◌≡◌, ℕ, ◌-◌, ◌||◌, List, length, sym, ap, subst, ◌∙◌}
use Rattle.group_defs.specs.Process.{Setting, Process}
use Rattle.group_defs.specs.Signing.{Signer}
use Rattle.group_defs.specs.Events as group
use Rattle.group_defs.specs.Events.{Turn, after, outcome}
use Rattle.replay_defs.specs.Signers.{key_total}
use Rattle.replay_defs.specs.Worlds as plain
use Rattle.replay_defs.specs.Worlds.{with_turn}
use Rattle.sig_scheme.specs.Signers.{used, total, signature}
use Rattle.sig_scheme.specs.declared.any_signer.AnySigner.{AnySigner}
use Rattle.member_events.specs.declared.events.Event.{Event}
use Rattle.member_events.specs.declared.events.Outcome.{Outcome}
use Rattle.member_core.specs.Events.{event, IsOutcome}
use Rattle.member_core.specs.declared.member.Core.{Core}
use Rattle.member_core.specs.Cores.{IsCore, Steps, signer_of}
use Rattle.member_core.specs.Cores as cores
use Rattle.replay_cast.specs.declared.player.Player.{Player}
use Rattle.said_index.specs.Said.{is_said, is_among_claims}
use Rattle.replay_cast.specs.Players.{HasCore, Plays, Stepped}
use Rattle.replay_cast.proofs.Saying.{says_more}

-- a core's key has made as many signatures as its process has signed statements
signed_count : (s : Setting) (p : Process) (core : Core AnySigner) → IsCore used s p core → length p.signed ≡ used (signer_of core)
unfolding IsCore
signed_count s p core is = is.signed

abbrev turn_with : group.Event → ℕ → Signer → Turn
turn_with e allowance signer = record { event = e; allowance = allowance; signer = signer }

-- the turn of the player's core is the player's
turn_same : (s : Setting) (c : plain.Player) (core : Core AnySigner) (e : group.Event) → HasCore s c core
    → cores.turn_of used total signature core e ≡ plain.turn_of c e
turn_same s c core e has =
    ap (λ n. turn_with e (n - used (signer_of core)) (signature (signer_of core))) has.total
    ∙ (ap (λ n. turn_with e (key_total c.listed.key - n) (signature (signer_of core))) (sym (signed_count s c.now core has.is))
    ∙ ap (turn_with e (key_total c.listed.key - length c.now.signed)) has.signs)

-- the core after a step is the player's again
pub stepped : (s : Setting) (c : plain.Player) (p q : Player) (e : Event) (r : Outcome) → Plays s p c
    → Steps used total signature s c.now p.core q.core (event e) r
    → total (signer_of q.core) ≡ total (signer_of p.core) → signature (signer_of q.core) ≡ signature (signer_of p.core)
    → q.process ≡ p.process
    → ((x : List ℕ) → is_said x q.said ≡ (is_said x p.said || is_among_claims x r.signed.items))
    → Stepped s c q e r
stepped s c p q e r plays steps same_total same_secret process said =
    let Q : Turn → Type 0 = λ t. IsCore used s (after s c.now t) q.core in
    let R : Turn → Type 0 = λ t. IsOutcome (outcome s c.now t) r in
    let turn = turn_same s c p.core (event e) plays.core in
    let came : IsOutcome (outcome s c.now (plain.turn_of c (event e))) r = subst R turn steps.outcome in
    record {
      plays = record {
        process = process ∙ plays.process;
        core = record {
          is = subst Q turn steps.core;
          total = same_total ∙ plays.core.total;
          signs = same_secret ∙ plays.core.signs;
        };
        said = says_more s c.now (plain.turn_of c (event e)) r p.said q.said plays.said came said;
      };
      outcome = came;
    }
