-- The entry of a turn that was taken.
use Rattle.std.proofs.Common.{◌≡◌, ℕ, ◌+◌, ◌-◌, ◌<◌, ◌≤◌, ◌^◌, List, [], ◌∷◌, map, length, Option, None, Some, Bool, true, false, Result, Ok, Err, refl, sym, ap, subst, ◌∙◌, arith, inl, inr}
use Rattle.std.specs.Prelude.{◌==◌, nat_lt, not}
use Rattle.std.proofs.lemmas.List.{length-map}
use Rattle.std.proofs.lemmas.Bool.{ltb-false}
use Rattle.byte_defs.specs.Choices.{first_that_holds}
use Rattle.byte_defs.proofs.Fields.{refuse_ok}
use Rattle.message_defs.specs.Limits.{last_process, most_frame_bytes, most_payload_bytes, most_signature_bytes}
use Rattle.message_defs.specs.declared.FrameFault.{FrameFault}
use Rattle.message_defs.specs.declared.FrameFault.TheVariants as faults
use Rattle.message_defs.specs.Frames.{FrameView, frame_of}
use Rattle.message_defs.specs.Claims.{frame_said, said_by}
use Rattle.message_defs.specs.Spelling.{IsClaim}
use Rattle.message_defs.specs.Statements.{Claim}
use Rattle.message_defs.specs.Packing.{signed_of}
use Rattle.group_defs.specs.Views.{is_member}
use Rattle.group_defs.specs.Process.{Setting, Process, earlier, delivered_from}
use Rattle.group_defs.specs.Events.{Hand, EventFault, Outsider, TooLong, Backlog, Turn, refusal, refusals, outcome, after}
use Rattle.pool_laws.proofs.Members.{Mem, All-mem, mem-behind}
use Rattle.event_laws.specs.Slots.{most_signed}
use Rattle.member_events.specs.Below.{signed, OwnClaim}
use Rattle.member_events.specs.declared.events.Event.{Event}
use Rattle.member_events.specs.declared.events.Event.TheVariants as events
use Rattle.member_events.specs.declared.events.Outcome.{Outcome}
use Rattle.member_events.specs.declared.events.EventVerdict.TheVariants.{Taken}
use Rattle.journal_defs.specs.Entries.{IsEntry, IsEvent, AreSignatures}
use Rattle.journal_entries.specs.Views.{event as plain_event, turn_entry, signatures_of}
use Rattle.member_signing.specs.States.{event, refusal as verdict-of}
use Rattle.member_core.specs.declared.member.Keyless.{Keyless}
use Rattle.member_core.specs.Cores.{Takes}
use Rattle.member_core.specs.Entries.{NamesProcesses}
use Rattle.member_core.proofs.Absorbed.{counted-so}
use Rattle.member_core.proofs.Joined.{signed-more, outcome-answered, outcome-refusing}

-- ---- what is not refused has a spelling

none-first : {A : Type 0} (b : Bool) (x : A) (more : List (Bool × A)) → first_that_holds ((b, x) ∷ more) ≡ None
    → (b ≡ false) × (first_that_holds more ≡ None)
none-first true x more e = absurd cc
none-first false x more e = (refl, e)

read-short : (bytes : List ℕ) (f : FrameView) → frame_of bytes ≡ Ok f → length bytes ≤ most_frame_bytes
unfolding frame_of
read-short bytes f e = ltb-false most_frame_bytes (length bytes)
    (refuse_ok (nat_lt most_frame_bytes (length bytes)) faults.Length _ f e).0

frame-short : (s : Setting) (p : Process) (from : ℕ) (bytes : List ℕ)
    → first_that_holds (refusals s p (Hand from (frame_said bytes))) ≡ None → length bytes ≤ most_frame_bytes
unfolding frame_said
frame-short s p from bytes none = go (frame_of bytes) refl none
  where
    go : (r : Result FrameView FrameFault) → frame_of bytes ≡ r → first_that_holds (refusals s p (Hand from (said_by r))) ≡ None
        → length bytes ≤ most_frame_bytes
    go (Ok f) e none = read-short bytes f e
    go (Err fault) e none = absurd cc

event-so : (s : Setting) (p : Process) (e : Event) → NamesProcesses e → refusal s p (event e) ≡ None → IsEvent (plain_event e)
event-so s p (events.Submit payload) names none =
    let waiting : Bool × EventFault = (length p.accepted - (earlier p + delivered_from p.me p.delivered) == 256, Backlog) in
    let long = nat_lt most_payload_bytes (length payload.now) in
    let over : Bool × EventFault = (long, TooLong) in
    let admitted = (none-first p.halted _ (refusals s p (event (events.Submit payload))) none).1 in
    let inside = (none-first (not (is_member p.pool.view p.me)) Outsider (over ∷ waiting ∷ []) admitted).1 in
    let short = ltb-false most_payload_bytes (length payload.now) (none-first long TooLong (waiting ∷ []) inside).0 in
    omega (arith, short)
event-so s p (events.Frame from bytes) names none =
    let admitted = (none-first p.halted _ (refusals s p (event (events.Frame from bytes))) none).1 in
    let short = frame-short s p from bytes.now admitted in
    (names, omega (arith, short))
event-so s p (events.Suspect q) names none = names
event-so s p (events.Join q) names none = names
event-so s p events.Renew names none = tt
event-so s p events.Tick names none = tt

-- the verdict is the refusal
pub verdict-is : (s : Setting) (p : Process) (t : Turn) → (outcome s p t).verdict ≡ refusal s p t.event
verdict-is s p t = go (refusal s p t.event) refl
  where
    go : (o : Option EventFault) → refusal s p t.event ≡ o → (outcome s p t).verdict ≡ refusal s p t.event
    go None is = ap (λ o. o.verdict) (outcome-answered s p t is) ∙ sym is
    go (Some fault) is = ap (λ o. o.verdict) (outcome-refusing s p t fault is) ∙ sym is

-- ---- the signatures

are-short : (xs : List OwnClaim) (cs : List Claim) → map signed xs ≡ map signed_of cs
    → ((c : Claim) → Mem c cs → length c.signature ≤ most_signature_bytes) → AreSignatures (signatures_of xs)
are-short [] cs e each = tt
are-short (x ∷ xs) [] e each = absurd cc
are-short (x ∷ xs) (c ∷ cs) e each =
    let first : signed x ≡ signed_of c = cc in
    let rest : map signed xs ≡ map signed_of cs = cc in (
      subst (λ l. length l ≤ most_signature_bytes) (sym (ap (λ m. m.signature) first)) (each c (inl refl)),
      are-short xs cs rest (λ d m. each d (inr m)),
    )

-- ---- the entry

module _ (s : Setting) (p : Process) (t : Turn) (new : Keyless) (many : ℕ) (r : Outcome) (is : Takes s p t new many r) where
  pub few-signed : length r.signed.items ≤ most_signed
  few-signed = subst (λ n. n ≤ most_signed) (counted-so (outcome s p t) r is.outcome) is.few

  pub entry-so : (e : Event) → t.event ≡ event e → p.me ≤ last_process → NamesProcesses e → r.verdict ≡ Taken
      → IsEntry (turn_entry p.me (plain_event e) r)
  entry-so e same me names taken = record {
    process = me;
    event = event-so s p e names
        (subst (λ x. refusal s p x ≡ None) same (sym (verdict-is s p t) ∙ is.outcome.verdict ∙ ap verdict-of taken));
    count = (let few = few-signed in omega (arith, few, length-map r.signed.items (λ (c : OwnClaim). c.signature)));
    each = are-short r.signed.items (outcome s p t).signed (sym is.outcome.signed_now)
        (λ c m. (All-mem IsClaim (after s p t).signed c is.keyless.state.lawful.said
        (subst (Mem c) (sym (signed-more s p t)) (mem-behind p.signed (outcome s p t).signed c m))).2);
  }
