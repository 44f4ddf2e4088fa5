-- A turn of a hosted process is a live turn of the cast.
use Rattle.std.proofs.Common.{◌≡◌, ℕ, ◌-◌, List, [], ◌∷◌, map, length, refl, sym, ap, subst, ◌∙◌}
use Rattle.message_defs.specs.Statements.{Claim}
use Rattle.message_defs.specs.Packing.{Signed, signed_of}
use Rattle.group_defs.specs.Process.{Process}
use Rattle.group_defs.specs.Events as defs
use Rattle.group_defs.specs.Events.{after}
use Rattle.journal_defs.specs.Entries as plain
use Rattle.journal_defs.specs.Entries.{Entry, IsEntry}
use Rattle.journal_defs.specs.Crashes.{staged}
use Rattle.journal_entries.specs.Views.{event as plain_event, turn_entry}
use Rattle.member_events.specs.declared.events.Event.{Event}
use Rattle.member_events.specs.declared.events.Event.TheVariants as events
use Rattle.member_events.specs.declared.events.Outcome.{Outcome}
use Rattle.member_events.specs.Below.{OwnClaim, signed}
use Rattle.journal_rp.specs.Turns as rp
use Rattle.sig_scheme.specs.declared.any_signer.AnySigner.{AnySigner}
use Rattle.sig_scheme.specs.Signers.{used, total, signature}
use Rattle.hosted_core.specs.Cores.{IsCore, left_of, signer_of, turn_of}
use Rattle.hosted_core.specs.Cores.{event as event_of, IsOutcome}
use Rattle.hosted_core.proofs.Cores.{after-me}
use Rattle.hosted_core.specs.declared.hosted.Hosted.{Hosted}
use Rattle.hosted_core.specs.declared.taking.Taken.{Taken}
use Rattle.hosted_core.specs.declared.taking.Taken.TheVariants.{Refused, Lost, Turn}
use Rattle.hosted_core.specs.Hosts.{core_of}
use Rattle.hosted_core.specs.Turns.{TakesTurn, hosted_in}
use Rattle.node_defs.specs.Casts.{Cast, entry_for, handed, live, outcome_of}
use Rattle.node_hosts.specs.Places.{IsHosted}
use Rattle.node_hosts.specs.Turns.{TakesLive}

-- ---- the turn

pub event-is : (e : Event) → event_of e ≡ handed (plain_event e)
event-is (events.Submit payload) = refl
event-is (events.Frame from bytes) = refl
event-is (events.Suspect q) = refl
event-is (events.Join q) = refl
event-is events.Renew = refl
event-is events.Tick = refl

-- as many signatures are left as the cast's key has left
pub left-is : (c : Cast) (q : ℕ) (p : Process) (h : Hosted AnySigner) → IsHosted c q p h
    → left_of used total (core_of h) ≡ c.total p.me - length p.signed
unfolding IsCore
left-is c q p h is = ap (λ n. n - used (signer_of (core_of h))) (is.total ∙ ap c.total (sym is.number))
    ∙ ap (λ n. c.total p.me - n) (sym is.core.signed)

-- the turn that a hosted process takes is the node's
pub turn-is : (c : Cast) (q : ℕ) (p : Process) (h : Hosted AnySigner) (e : Event) → IsHosted c q p h
    → turn_of used total signature (core_of h) (event_of e) ≡ live c p (plain_event e)
turn-is c q p h e is =
    let left = left-is c q p h is in
    let signs : signature (signer_of (core_of h)) ≡ c.signer p.me = is.signs ∙ ap c.signer (sym is.number) in
    let turn : defs.Event → ℕ → (ℕ → List ℕ → List ℕ) → defs.Turn = λ x n s. record { event = x; allowance = n; signer = s } in
    ap (λ x. turn x (left_of used total (core_of h)) (signature (signer_of (core_of h)))) (event-is e)
    ∙ ap (λ n. turn (handed (plain_event e)) n (signature (signer_of (core_of h)))) left
    ∙ ap (turn (handed (plain_event e)) (c.total p.me - length p.signed)) signs

-- ---- the entry

of-claims : (cs : List Claim) → map (λ (s : Signed). s.signature) (map signed_of cs) ≡ map (λ (d : Claim). d.signature) cs
of-claims [] = refl
of-claims (c ∷ cs) = ap (λ more. c.signature ∷ more) (of-claims cs)

of-own : (cs : List OwnClaim) → map (λ (s : Signed). s.signature) (map signed cs) ≡ map (λ (d : OwnClaim). d.signature) cs
of-own [] = refl
of-own (c ∷ cs) = ap (λ more. c.signature ∷ more) (of-own cs)

-- what a journal keeps of the outcome is the node's entry
pub entry-is : (c : Cast) (p : Process) (e : plain.Event) (r : Outcome) → IsOutcome (outcome_of c p e) r
    → turn_entry p.me e r ≡ entry_for c p e
entry-is c p e r is =
    let o = outcome_of c p e in
    let signatures : map (λ (d : OwnClaim). d.signature) r.signed.items ≡ map (λ (d : Claim). d.signature) o.signed =
    sym (of-own r.signed.items) ∙ ap (map (λ (s : Signed). s.signature)) (sym is.signed_now) ∙ of-claims o.signed in
    ap (λ b. let x : Entry = record { process = p.me; event = e; spent = b; signatures = map (λ (d : OwnClaim). d.signature) r.signed.items } in x)
    (sym is.spent)
    ∙ ap (λ ss. let x : Entry = record { process = p.me; event = e; spent = o.spent; signatures = ss } in x) signatures

-- ---- what became of it

-- a process that took a turn, or none, signs as before
hosted-on : (c : Cast) (q : ℕ) (p r : Process) (h g : Hosted AnySigner) → IsHosted c q p h → IsCore used c.setting r (core_of g) → r.me ≡ p.me
    → total (signer_of (core_of g)) ≡ total (signer_of (core_of h))
    → signature (signer_of (core_of g)) ≡ signature (signer_of (core_of h)) → IsHosted c q r g
hosted-on c q p r h g is core me sum signs = record {
  core = core;
  number = me ∙ is.number;
  total = sum ∙ is.total;
  signs = signs ∙ is.signs;
}

-- What `Hosted::take` says of a turn, in the node's words.
pub takes-live : (c : Cast) (q : ℕ) (p : Process) (h : Hosted AnySigner) (e : Event) (t : Taken AnySigner) → IsHosted c q p h
    → TakesTurn used c.setting p (turn_of used total signature (core_of h) (event_of e)) (plain_event e) t
    → total (signer_of (core_of (hosted_in t))) ≡ total (signer_of (core_of h))
    → signature (signer_of (core_of (hosted_in t))) ≡ signature (signer_of (core_of h)) → TakesLive c q p (plain_event e) t
takes-live c q p h e t is takes sum signs = go t sum signs
    (subst (λ turn. TakesTurn used c.setting p turn (plain_event e) t) (turn-is c q p h e is) takes)
  where
    go : (x : Taken AnySigner) → total (signer_of (core_of (hosted_in x))) ≡ total (signer_of (core_of h))
        → signature (signer_of (core_of (hosted_in x))) ≡ signature (signer_of (core_of h))
        → TakesTurn used c.setting p (live c p (plain_event e)) (plain_event e) x → TakesLive c q p (plain_event e) x
    go (Refused g fault) m s so = (hosted-on c q p p h g is so.0 refl m s, so.1)
    go (Lost g) m s so = hosted-on c q p p h g is so refl m s
    go (Turn turn) m s so =
        let same = entry-is c p (plain_event e) (rp.outcome_of turn) so.2 in (
          hosted-on c q p (after c.setting p (live c p (plain_event e))) h (rp.process_of turn) is so.0
              (after-me c.setting p (live c p (plain_event e))) m s,
          so.1,
          so.2,
          so.3 ∙ ap staged same,
          subst IsEntry same so.4,
        )
