-- What an event that is not refused accepts and perceives, the process after it has.
use Rattle.std.proofs.Common.{◌≡◌, List, [], ◌∷◌, Option, Some, None, refl, ap, ◌∙◌}
use Rattle.message_defs.specs.Statements.{Claim}
use Rattle.group_defs.specs.Process.{Setting, Process}
use Rattle.group_defs.specs.Hearing.{Verdict, Old, Early, Stranger, OutOfWindow, Known, Unsigned, Conflict, Heard, verdict, with_verdict, hear, hear_all}
use Rattle.group_defs.specs.Settle.{settle}
use Rattle.group_defs.specs.Events.{Turn, EventFault, refusal, take_in, signing, after}
use Rattle.event_laws.proofs.Signed.{signing_leaves}
use Rattle.event_laws.proofs.Settled.{settling_leaves}

-- the second has accepted and perceived what the first has, and keeps the same conflicts
pub record HasSame (p q : Process) : Type 0 where
  pub accepted : q.accepted ≡ p.accepted
  pub perceived : q.perceived ≡ p.perceived
  pub conflicts : q.conflicts ≡ p.conflicts

-- either the event is refused and nothing changes, or it is taken in
pub data Came (s : Setting) (p : Process) (t : Turn) : Type 0 where
  Stayed : after s p t ≡ p → Came s p t
  WasTaken : refusal s p t.event ≡ None → HasSame (take_in s p t.event) (after s p t) → Came s p t

pub came : (s : Setting) (p : Process) (t : Turn) → Came s p t
unfolding after
came s p t = go (refusal s p t.event) refl
  where
    settled : Process
    settled = settle s (signing s p t).now

    go : (o : Option EventFault) → refusal s p t.event ≡ o → Came s p t
    go None e =
        let is : after s p t ≡ settled = ap (λ (o : Option EventFault). elim o [ None ↦ settled | Some fault ↦ p ]) e in
        let signed = signing_leaves s t.signer t.allowance (take_in s p t.event) in
        let left = settling_leaves s (signing s p t).now in
        WasTaken e (record {
          accepted = ap (λ (q : Process). q.accepted) is ∙ left.accepted ∙ ap (λ (q : Process). q.accepted) signed.rest;
          perceived = ap (λ (q : Process). q.perceived) is ∙ left.perceived ∙ ap (λ (q : Process). q.perceived) signed.rest;
          conflicts = ap (λ (q : Process). q.conflicts) is ∙ left.conflicts ∙ ap (λ (q : Process). q.conflicts) signed.rest;
        })
    go (Some fault) e = Stayed (ap (λ (o : Option EventFault). elim o [ None ↦ settled | Some f ↦ p ]) e)

-- ---- hearing accepts and perceives nothing

pub record HasOnlyHeard (p q : Process) : Type 0 where
  pub accepted : q.accepted ≡ p.accepted
  pub perceived : q.perceived ≡ p.perceived

one-heard : (p : Process) (c : Claim) (v : Verdict) → HasOnlyHeard p (with_verdict v p c)
one-heard p c Heard = record { accepted = refl; perceived = refl }
one-heard p c Conflict = record { accepted = refl; perceived = refl }
one-heard p c Old = record { accepted = refl; perceived = refl }
one-heard p c Early = record { accepted = refl; perceived = refl }
one-heard p c Stranger = record { accepted = refl; perceived = refl }
one-heard p c OutOfWindow = record { accepted = refl; perceived = refl }
one-heard p c Known = record { accepted = refl; perceived = refl }
one-heard p c Unsigned = record { accepted = refl; perceived = refl }

pub all-heard : (s : Setting) (p : Process) (cs : List Claim) → HasOnlyHeard p (hear_all s p cs)
unfolding hear_all
all-heard s p [] = record { accepted = refl; perceived = refl }
all-heard s p (c ∷ cs) =
    let one = one-heard p c (verdict s p c) in
    let rest = all-heard s (hear s p c) cs in
    record { accepted = rest.accepted ∙ one.accepted; perceived = rest.perceived ∙ one.perceived }
