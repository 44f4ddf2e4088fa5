-- What is decided stays fit to be kept.
use Rattle.std.proofs.Common.{◌≡◌, ◌≢◌, ℕ, zero, suc, ◌-◌, ◌<◌, List, [], ◌∷◌, ◌++◌, Bool, true, false, Option, Some, None, refl, sym, ap, ◌∙◌, subst, inl, inr}
use Rattle.std.specs.Prelude.{if◌then◌else◌, nat_lt, ◌==◌, IsTrue}
use Rattle.std.proofs.lemmas.Bool.{ltb-true, lt-ltb, eqb-false}
use Rattle.byte_defs.specs.Choices.{first_that_holds}
use Rattle.message_defs.specs.Updates.{Value}
use Rattle.message_defs.specs.Statements.{Ready, Claim}
use Rattle.group_defs.specs.Views.{is_member, is_possible}
use Rattle.group_defs.specs.Process.{Setting, Delivered, Process, keyed, places_in}
use Rattle.group_defs.specs.Certified.{is_certified}
use Rattle.group_defs.specs.Settle.{decided_by, decide, limit, deliverable, deliver_more, deliver, install, leave_by, leave, settle}
use Rattle.group_defs.specs.Family.{claims_in}
use Rattle.group_defs.specs.Events.{Event, EventFault, refusals, refusal, take_in, signing, after}
use Rattle.pool_laws.proofs.Growing.{is_certified-stays}
use Rattle.pool_laws.proofs.Tests.{none-some, option_or-is, some-same}
use Rattle.safety_laws.proofs.Installed.{IsDecided, decided_by-is}
use Rattle.safety_laws.proofs.Induction.{Keeps, AreFrom, take_in-keeps, sign_all-keeps, deliver-keeps}
use Rattle.event_laws.proofs.Taken.{taking_in_leaves}
use Rattle.event_laws.proofs.Signed.{signing_leaves}
use Rattle.image_laws.specs.Keeping.{DecisionFits, DecisionIsKept}

-- ---- what is decided is certified and possible, whatever the event does up to leaving

pub record IsBacked (s : Setting) (p : Process) : Type 0 where
  pub decided : (d : ℕ × Value) → p.decision ≡ Some d → IsDecided s p.pool d

pub stays-backed : (s : Setting) (from : List Claim) → Keeps s from (IsBacked s)
stays-backed s from = record {
  accepts = λ p payload ok. record { decided = ok.decided };
  perceives = λ p e ok. record { decided = ok.decided };
  hears = λ p c m e ok. record {
    decided = λ d is. (
        let was = ok.decided d is in (was.0, is_certified-stays p.pool (c ∷ []) (Ready p.pool.view.number d.0 d.1) was.1)
        );
  };
  doubts = λ p conflicts ok. record { decided = ok.decided };
  signs = λ p signer st next none ok. record { decided = λ d is. absurd (none-some none is) };
  decides = λ p ok. record {
    decided = λ d is. elim (option_or-is p.decision (decided_by s p.pool) d is) [
      | inl before ↦ ok.decided d before
      | inr by ↦ decided_by-is s p.pool d by
    ];
  };
  delivers = λ p ds member room e ok. record { decided = ok.decided };
  installs = λ p d decided whole ok. record { decided = λ d e. absurd cc };
  halts = λ p d decided member ok. record { decided = ok.decided };
}

-- ---- up to leaving nothing halts

more-goes-on : (more : ℕ) (p : Process) → (deliver_more more p).halted ≡ p.halted
unfolding deliver_more
more-goes-on zero p = refl
more-goes-on (suc more) p = go (deliverable p) (more-goes-on more)
  where
    go : (o : Option (List Delivered)) → ((q : Process) → (deliver_more more q).halted ≡ q.halted)
        → let it : Process = elim o [ None ↦ p | Some ds ↦ deliver_more more (record p { delivered = p.delivered ++ ds }) ] in
        it.halted ≡ p.halted
    go None next = refl
    go (Some ds) next = next (record p { delivered = p.delivered ++ ds })

delivering-goes-on : (p : Process) → (deliver p).halted ≡ p.halted
delivering-goes-on p = go (is_member p.pool.view p.me)
  where
    go : (b : Bool) → (if b then deliver_more (limit p - places_in p.delivered) p else p).halted ≡ p.halted
    go true = more-goes-on (limit p - places_in p.delivered) p
    go false = refl

-- one that is not refused has not halted
goes-on : (s : Setting) (p : Process) (e : Event) → refusal s p e ≡ None → p.halted ≡ false
goes-on s p e free = go p.halted _ (refusals s p e) free
  where
    go : (b : Bool) (f : EventFault) (more : List (Bool × EventFault)) → first_that_holds ((b, f) ∷ more) ≡ None → b ≡ false
    go true f more free = absurd cc
    go false f more free = refl

-- ---- leaving

undecided : (s : Setting) (p : Process) → p.decision ≡ None → p.halted ≡ false → DecisionFits s p
undecided s p none on = record {
  decided = λ d is. absurd (none-some none is);
  halted = (λ h. absurd (not-both (sym h ∙ on)), λ by. absurd (none-some none by.1));
}
  where
    not-both : true ≡ false → ⊥
    not-both e = absurd cc

left-fits : (s : Setting) (p : Process) (d : ℕ × Value) → p.decision ≡ Some d → IsDecided s p.pool d → p.halted ≡ false
    → DecisionFits s (leave_by d p)
left-fits s p d is by on = go (is_member p.pool.view p.me) refl (places_in p.delivered == d.1.cut) refl
  where
    waits : is_member p.pool.view p.me ≡ true → (places_in p.delivered == d.1.cut) ≡ false → DecisionFits s (record p { halted = nat_lt d.1.cut (places_in p.delivered) })
    waits member other = record {
      decided = λ e same. (
          let one : d ≡ e = some-same d e (sym is ∙ same) in
          subst (λ (e : ℕ × Value). IsTrue (is_certified p.pool (Ready p.pool.view.number e.0 e.1))
          × IsTrue (is_possible (keyed s) p.pool.view e.1.update) × IsTrue (is_member p.pool.view p.me) × (places_in p.delivered ≢ e.1.cut)) one
          (by.1, by.0, member, eqb-false (places_in p.delivered) d.1.cut other)
          );
      halted = (
        λ h. (d, is, ltb-true d.1.cut (places_in p.delivered) h),
        λ beyond. (
            let one : beyond.0 ≡ d = some-same beyond.0 d (sym beyond.1 ∙ is) in
            lt-ltb d.1.cut (places_in p.delivered) (subst (λ (e : ℕ × Value). e.1.cut < places_in p.delivered) one beyond.2)
            ),
      );
    }

    go : (b : Bool) → is_member p.pool.view p.me ≡ b → (whole : Bool) → (places_in p.delivered == d.1.cut) ≡ whole
        → DecisionFits s (if b then (if whole then install d p else record p { halted = nat_lt d.1.cut (places_in p.delivered) }) else install d p)
    go true member true whole = undecided s (install d p) refl on
    go true member false other = waits member other
    go false member whole same = undecided s (install d p) refl on

leaving-fits : (s : Setting) (p : Process) → IsBacked s p → p.halted ≡ false → DecisionFits s (leave p)
leaving-fits s p backed on = go p.decision refl
  where
    go : (o : Option (ℕ × Value)) → p.decision ≡ o → DecisionFits s (elim o [ None ↦ p | Some d ↦ leave_by d p ])
    go None none = undecided s p none on
    go (Some d) is = left-fits s p d is (backed.decided d is) on

-- ---- the law

pub decision_is_kept : DecisionIsKept
unfolding after settle
decision_is_kept s p t fits = go (refusal s p t.event) refl
  where
    from : List Claim
    from = claims_in t.event

    k : Keeps s from (IsBacked s)
    k = stays-backed s from

    one : Process
    one = (signing s p t).now

    backed : IsBacked s (deliver (decide s (signing s p t).now))
    backed = deliver-keeps s (claims_in t.event) (IsBacked s) k (decide s (signing s p t).now)
        (k.decides (signing s p t).now
        (sign_all-keeps s (claims_in t.event) (IsBacked s) k t.signer t.allowance (take_in s p t.event)
        (take_in-keeps s (claims_in t.event) (IsBacked s) k t.event (unfold AreFrom in λ c m. m) p
        (record { decided = λ d is. (let was = fits.decided d is in (was.1, was.0)) }))))

    same : (signing s p t).now.halted ≡ p.halted
    same = ap (λ (q : Process). q.halted) (signing_leaves s t.signer t.allowance (take_in s p t.event)).rest
        ∙ ap (λ (q : Process). q.halted) (taking_in_leaves s p t.event)

    go : (o : Option EventFault) → refusal s p t.event ≡ o → DecisionFits s (elim o [ None ↦ settle s (signing s p t).now | Some fault ↦ p ])
    go None free = leaving-fits s (deliver (decide s (signing s p t).now)) backed
        (delivering-goes-on (decide s (signing s p t).now) ∙ same ∙ goes-on s p t.event free)
    go (Some fault) e = fits
