-- A process that has taken an entry.
use Rattle.std.proofs.Common.{◌≡◌, ℕ, List, [], ◌∷◌, ◌++◌, refl, sym, ap, subst, ◌∙◌}
use Rattle.std.specs.Prelude.{All, IsTrue}
use Rattle.std.specs.List.{list_all}
use Rattle.std.proofs.lemmas.List.{append-nil, append_assoc}
use Rattle.message_defs.specs.Statements.{Claim}
use Rattle.message_defs.specs.Spelling.{IsClaim, IsStatement}
use Rattle.message_defs.specs.Claims.{Frame, Claims, Wants, Faulty, frame_said}
use Rattle.group_defs.specs.Process.{Setting, Process}
use Rattle.group_defs.specs.Events.{Turn, Hand, after, outcome, journalled}
use Rattle.group_defs.specs.Hearing.{is_valid}
use Rattle.group_defs.specs.Family.{claims_in, handed_to}
use Rattle.rp_base.specs.declared.scheme.Count.{Count}
use Rattle.rp_base.specs.Signer.{count_total, count_used}
use Rattle.std.specs.Borrow.{Bor}
use Rattle.journal_entries.specs.Views.{entry as entry_of, event as plain_event}
use Rattle.member_events.specs.declared.events.Event.{Event}
use Rattle.member_events.specs.declared.events.Event.TheVariants as events
use Rattle.member_events.specs.declared.entry.Entry.{Entry}
use Rattle.member_events.specs.declared.events.Outcome.{Outcome}
use Rattle.member_events.specs.Kept.{signatures_left}
use Rattle.pool_laws.proofs.Members.{Mem, All-mem, mem-All, mem-behind}
use Rattle.claim_firsts.specs.Seen.{Saw}
use Rattle.audit_claims.specs.Handed.{claims_handed, claims_of_frame}
use Rattle.member_core.specs.declared.member.Core.{Core}
use Rattle.member_core.specs.Cores.{IsCore, left_of, signer_of}
use Rattle.member_core.specs.Entries.{Absorbs, Agrees}
use Rattle.member_core.specs.Events.{event as event_in, IsOutcome}
use Rattle.member_core.proofs.Joined.{after-me, signed-more}
use Rattle.audit_defs.specs.Players as audit
use Rattle.audit_defs.specs.Players.{event_of, is_written, turn_of, with_turn}
use Rattle.audit_turns.specs.declared.player.Player.{Player}
use Rattle.audit_turns.specs.Players.{IsPlayer}
use Rattle.audit_turns.proofs.Written.{agrees-with, event-is, written-by}

-- ---- what is handed over

frame-claims : (from : ℕ) (f : Frame) → claims_of_frame f ≡ claims_in (Hand from f)
frame-claims from (Claims cs) = refl
frame-claims from (Wants x k) = refl
frame-claims from (Faulty fault) = refl

pub handed-claims : (from : ℕ) (bytes : List ℕ) → claims_handed bytes ≡ claims_in (Hand from (frame_said bytes))
handed-claims from bytes = frame-claims from (frame_said bytes)

pub none-handed : (cs : List Claim) → cs ≡ cs ++ []
none-handed cs = sym (append-nil cs)

pub handed-more : (ts : List Turn) (t : Turn) → handed_to (ts ++ t ∷ []) ≡ handed_to ts ++ claims_in t.event
handed-more [] t = append-nil (claims_in t.event)
handed-more (u ∷ ts) t = ap (λ cs. claims_in u.event ++ cs) (handed-more ts t)
    ∙ sym (append_assoc (claims_in u.event) (handed_to ts) (claims_in t.event))

-- ---- what is signed

pub said-range : (s : Setting) (p : Process) (t : Turn) (c : Core Count) → IsCore count_used s (after s p t) c
    → All (λ (c : Claim). IsStatement c.statement) (outcome s p t).signed
unfolding IsCore
said-range s p t c is =
    mem-All (λ (c : Claim). IsStatement c.statement) (outcome s p t).signed
    (λ d m. (All-mem IsClaim (after s p t).signed d is.keyless.state.lawful.said
    (subst (Mem d) (sym (signed-more s p t)) (mem-behind p.signed (outcome s p t).signed d m))).1)

-- ---- the process

module _ (s : Setting) (c : audit.Player) (p : Player) (e : Entry) (is : IsPlayer s c p) (left : ℕ) (new : Core Count) (r : Outcome)
    (absorbs : Absorbs count_used s c.now left new (event_in e.event) (signatures_left e.signatures) e.spent r) where
  -- its core
  pub core-after : IsCore count_used s (after s c.now (turn_of c.now (entry_of e))) new
  core-after = subst (λ x. IsCore count_used s (after s c.now (journalled c.now x (signatures_left e.signatures))) new)
      (event-is e.event) absorbs.core

  pub said-after : All (λ (c : Claim). IsStatement c.statement) (outcome s c.now (turn_of c.now (entry_of e))).signed
  said-after = said-range s c.now (turn_of c.now (entry_of e)) new core-after

  pub player-after : (q : Player) → q.core ≡ new → q.journal ≡ p.journal
      → Saw s (handed_to c.turns ++ claims_in (event_of (plain_event e.event))) [] q.handed
      → count_total (signer_of new) ≡ count_total (signer_of p.core) → IsPlayer s (with_turn s c (turn_of c.now (entry_of e))) q
  player-after q core journal saw sum = record {
    core = subst (IsCore count_used s (after s c.now (turn_of c.now (entry_of e)))) (sym core) core-after;
    number = after-me s c.now (turn_of c.now (entry_of e)) ∙ is.number;
    total = ap (λ (x : Core Count). count_total (signer_of x)) core ∙ sum ∙ is.total;
    journal = is.journal ∙ sym journal;
    handed = subst (λ cs. Saw s cs [] q.handed) (sym (handed-more c.turns (turn_of c.now (entry_of e)))) saw;
  }

-- ---- the outcome

module _ (s : Setting) (c : audit.Player) (e : Entry) (left : ℕ) (new : Core Count) (r : Outcome)
    (absorbs : Absorbs count_used s c.now left new (event_in e.event) (signatures_left e.signatures) e.spent r) where
  pub outcome-after : IsOutcome (outcome s c.now (turn_of c.now (entry_of e))) r
  outcome-after = subst (λ x. IsOutcome (outcome s c.now (journalled c.now x (signatures_left e.signatures))) r) (event-is e.event) absorbs.outcome

  pub valid-after : IsTrue (list_all (is_valid s) (outcome s c.now (turn_of c.now (entry_of e))).signed)
  valid-after = subst (λ x. IsTrue (list_all (is_valid s) (outcome s c.now (journalled c.now x (signatures_left e.signatures))).signed))
      (event-is e.event) absorbs.agrees.valid

-- ---- before it, whatever was handed over

module _ (s : Setting) (c : audit.Player) (p : Player) (e : Entry) (is : IsPlayer s c p) (core : Core Count) (same : core ≡ p.core) where
  abbrev AgreesOf : Core Count → Type 0
  AgreesOf x = Agrees s c.now (left_of count_used count_total x) (event_in e.event) (signatures_left e.signatures) e.spent

  pub core-is : IsCore count_used s c.now core
  core-is = subst (IsCore count_used s c.now) (sym same) is.core

  pub agrees-so : IsTrue (is_written s c.now (entry_of e)) → AgreesOf core
  agrees-so written = subst AgreesOf (sym same) (agrees-with s c p e is written)

  pub written-so : AgreesOf core → IsTrue (is_written s c.now (entry_of e))
  written-so agrees = written-by s c p e is (subst AgreesOf same agrees)

-- ---- the event

pub frame-handed : (e : Event) (from : ℕ) (bytes : Bor (List ℕ)) → e ≡ events.Frame from bytes
    → claims_handed bytes.now ≡ claims_in (event_of (plain_event e))
frame-handed e from bytes is = handed-claims from bytes.now ∙ ap (λ (e : Event). claims_in (event_of (plain_event e))) (sym is)

pub no-frame-handed : (e : Event) → ((from : ℕ) (bytes : Bor (List ℕ)) → e ≡ events.Frame from bytes → ⊥) → claims_in (event_of (plain_event e)) ≡ []
no-frame-handed (events.Submit payload) other = refl
no-frame-handed (events.Frame from bytes) other = absurd (other from bytes refl)
no-frame-handed (events.Suspect q) other = refl
no-frame-handed (events.Join q) other = refl
no-frame-handed events.Renew other = refl
no-frame-handed events.Tick other = refl
