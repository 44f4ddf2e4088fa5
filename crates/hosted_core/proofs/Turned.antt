-- A turn of a hosted process.
use Rattle.std.proofs.Common.{◌≡◌, ℕ, List, ◌∷◌, [], Option, None, Some, Bool, refl, sym, ap, subst, ◌∙◌}
use Rattle.std.specs.Prelude.{◌≤◌}
use Rattle.std.proofs.Math.Logic.{∥∥₁_elim, ∥∥₁_map}
use Rattle.std.proofs.Props.{props}
use Rattle.message_defs.specs.Limits.{most_signature_bytes}
use Rattle.group_defs.specs.Process.{Setting, Process}
use Rattle.group_defs.specs.Events as defs
use Rattle.member_events.specs.declared.events.Event.{Event}
use Rattle.member_events.specs.declared.events.Outcome.{Outcome}
use Rattle.journal_defs.specs.Entries as plain
use Rattle.journal_defs.specs.Entries.{Entry, IsEntry, IsEvent, AreSignatures}
use Rattle.journal_entries.specs.Views.{event as plain_event, turn_entry}
use Rattle.member_core.specs.declared.member.Core.{Core}
use Rattle.member_core.specs.Cores.{IsCore, Steps, me_of, turn_of}
use Rattle.member_core.specs.Events.{event as event_of, fault as fault_of, refusal as refusal_of, IsOutcome}
use Rattle.member_core.proofs.Joined.{after-me, after-refused}
use Rattle.member_core.proofs.Spelled.{verdict-is}
use Rattle.member_core.proofs.Stepped.{me-so, with-rule}
use Rattle.member_events.specs.declared.events.EventFault.{EventFault}
use Rattle.member_events.specs.declared.events.EventVerdict.TheVariants as verdicts
use Rattle.journal_defs.specs.Crashes.{staged}
use Rattle.journal_rp.specs.declared.turn.Turn.{Turn}
use Rattle.journal_rp.specs.declared.turn.Unsynced.{Unsynced}
use Rattle.journal_rp.specs.Turns.{outcome_of, process_of, staged_of}
use Rattle.hosted_core.specs.declared.hosted.Hosted.{Hosted}
use Rattle.hosted_core.specs.declared.taking.Taken.TheVariants as taken
use Rattle.hosted_core.specs.Hosts.{HasProcess, IsReal, core_of}
use Rattle.hosted_core.specs.Turns.{Took, TakesTurn}

-- ---- that an entry has a spelling has one proof at most

event-once : (e : plain.Event) → IsProp (IsEvent e)
event-once (plain.Submit payload) = hlevel props
event-once (plain.Frame from bytes) = hlevel props
event-once (plain.Suspect q) = hlevel props
event-once (plain.Join q) = hlevel props
event-once plain.Renew = hlevel props
event-once plain.Tick = hlevel props

signatures-once : (ss : List (List ℕ)) → IsProp (AreSignatures ss)
signatures-once [] = hlevel props
signatures-once (s ∷ ss) = let rest : IsProp (AreSignatures ss) = signatures-once ss in hlevel (props, rest)

entry-once : (e : Entry) → IsProp (IsEntry e)
entry-once e = hlevel (props, event-once, signatures-once)

-- ---- what was taken

module _ {G : Type 0} (used total : G → ℕ) (signature : G → ℕ → List ℕ → List ℕ) (rule : List ℕ → List ℕ → List ℕ → Bool)
    (old new : Hosted G) (e : Event) (r : Outcome)
    (steps : (s : Setting) (p : Process) → IsCore used s p (core_of old) → s.valid ≡ rule
    → Steps used total signature s p (core_of old) (core_of new) (event_of e) r) where
  -- the number stays
  pub stays-me : (s : Setting) (p : Process) → IsCore used s p (core_of old) → s.valid ≡ rule → p.me ≡ me_of (core_of new)
  stays-me s p is same =
      let t = turn_of used total signature (core_of old) (event_of e) in
      sym (after-me s p t) ∙ me-so used s (defs.after s p t) (core_of new) (steps s p is same).core

  pub took-so : IsReal used old
      → ((s : Setting) (p : Process) → IsCore used s p (core_of old) → s.valid ≡ rule → IsEntry (turn_entry p.me (plain_event e) r))
      → Took used total signature new e r
  took-so real entry = record {
    before = core_of old;
    rule = rule;
    steps = steps;
    entry = ∥∥₁_elim real (entry-once _) (λ has.
        let s : Setting = record has.setting { valid = rule } in
        let is = with-rule used has.setting has.process (core_of old) rule has.core in
        subst (λ n. IsEntry (turn_entry n (plain_event e) r)) (stays-me s has.process is refl) (entry s has.process is refl));
  }

  -- some process is the new one
  pub real-after : IsReal used old → IsReal used new
  real-after real = ∥∥₁_map real (λ has.
      let s : Setting = record has.setting { valid = rule } in
      let is = with-rule used has.setting has.process (core_of old) rule has.core in
      record { setting = s; process = _; core = (steps s has.process is refl).core })

  -- within a turn too
  pub real-within : (made : Turn Unsynced (Hosted G)) → process_of made ≡ new → IsReal used old → IsReal used (process_of made)
  real-within made process real = subst (λ (h : Hosted G). IsReal used h) (sym process) (real-after real)

  -- what became of a process of the definitions
  module _ (s : Setting) (p : Process) (is : IsCore used s p (core_of old)) (same : s.valid ≡ rule) where
    refused-by : refusal_of r.verdict ≡ defs.refusal s p (event_of e)
    refused-by = sym (steps s p is same).outcome.verdict ∙ verdict-is s p (turn_of used total signature (core_of old) (event_of e))

    pub refused-so : (fault : EventFault) → r.verdict ≡ verdicts.Refused fault
        → TakesTurn used s p (turn_of used total signature (core_of old) (event_of e)) (plain_event e) (taken.Refused new fault)
    refused-so fault verdict =
        let t = turn_of used total signature (core_of old) (event_of e) in
        let refusal : defs.refusal s p (event_of e) ≡ Some (fault_of fault) = sym refused-by ∙ ap refusal_of verdict in (
          subst (λ (q : Process). IsCore used s q (core_of new)) (after-refused s p t (fault_of fault) refusal) (steps s p is same).core,
          refusal,
        )

    pub turn-so : (made : Turn Unsynced (Hosted G)) → process_of made ≡ new → outcome_of made ≡ r
        → staged_of made ≡ staged (turn_entry (me_of (core_of new)) (plain_event e) r) → r.verdict ≡ verdicts.Taken
        → IsEntry (turn_entry p.me (plain_event e) r)
        → TakesTurn used s p (turn_of used total signature (core_of old) (event_of e)) (plain_event e) (taken.Turn made)
    turn-so made process came bytes verdict entry =
        let t = turn_of used total signature (core_of old) (event_of e) in
        let R : Outcome → Type 0 = λ o. IsOutcome (defs.outcome s p t) o in
        let S : Outcome → Type 0 = λ o. staged_of made ≡ staged (turn_entry p.me (plain_event e) o) in
        let E : Outcome → Type 0 = λ o. IsEntry (turn_entry p.me (plain_event e) o) in (
          subst (λ (h : Hosted G). IsCore used s (defs.after s p t) (core_of h)) (sym process) (steps s p is same).core,
          sym refused-by ∙ ap refusal_of verdict,
          subst R (sym came) (steps s p is same).outcome,
          subst S (sym came) (bytes ∙ ap (λ n. staged (turn_entry n (plain_event e) r)) (sym (stays-me s p is same))),
          subst E (sym came) entry,
        )
