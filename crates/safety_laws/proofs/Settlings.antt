-- What each change keeps holds where an event settles, and from there to the end.
use Rattle.std.proofs.Common.{◌≡◌, inl, inr, List, [], ◌∷◌, Option, Some, None, refl, sym, ap, subst}
use Rattle.group_defs.specs.Below.{Claim}
use Rattle.group_defs.specs.Process.{Setting, Process}
use Rattle.group_defs.specs.Settle.{decide, deliver, leave, settle}
use Rattle.group_defs.specs.Events.{Turn, EventFault, refusal, signing, after, run}
use Rattle.group_defs.specs.Family.{claims_in, handed_to}
use Rattle.group_defs.specs.Laws.{settlings_from}
use Rattle.safety_laws.proofs.Induction.{AreFrom, Keeps, after-keeps, back, deliver-keeps, front, leave-keeps, sign_all-keeps, take_in-keeps, turns-keep}
use Rattle.pool_laws.proofs.Members.{Mem}

pub settles-none : (s : Setting) (p : Process) (t : Turn) (ts : List Turn) → refusal s p t.event ≡ None
    → settlings_from s p (t ∷ ts) ≡ (signing s p t).now ∷ settlings_from s (after s p t) ts
settles-none s p t ts e = cc

pub settles-some : (s : Setting) (p : Process) (t : Turn) (ts : List Turn) (fault : EventFault) → refusal s p t.event ≡ Some fault
    → settlings_from s p (t ∷ ts) ≡ settlings_from s (after s p t) ts
settles-some s p t ts fault e = cc

pub after-none : (s : Setting) (p : Process) (t : Turn) → refusal s p t.event ≡ None → after s p t ≡ settle s (signing s p t).now
unfolding after
after-none s p t e = ap (λ (o : Option EventFault). elim o [ None ↦ settle s (signing s p t).now | Some fault ↦ p ]) e

module _ (s : Setting) (from : List Claim) (P : Process → Type 0) (k : Keeps s from P) where
  -- as the event settles
  signing-keeps : (t : Turn) → AreFrom s from P k (claims_in t.event) → (p : Process) → P p → P (signing s p t).now
  signing-keeps t are p ok = sign_all-keeps s from P k t.signer t.allowance _ (take_in-keeps s from P k t.event are p ok)

  -- where an event settles
  pub settling-keeps : (ts : List Turn) → AreFrom s from P k (handed_to ts) → (p : Process) → P p → (q : Process)
      → Mem q (settlings_from s p ts) → P q
  unfolding AreFrom
  settling-keeps [] are p ok q m = absurd m
  settling-keeps (t ∷ ts) are p ok q m =
      let head : AreFrom s from P k (claims_in t.event) = λ c m. are c (front s from P k (claims_in t.event) (handed_to ts) c m) in
      let tail : AreFrom s from P k (handed_to ts) = λ c m. are c (back s from P k (claims_in t.event) (handed_to ts) c m) in
      go (refusal s p t.event) refl (λ e. subst P e (signing-keeps t head p ok))
      (settling-keeps ts tail (after s p t) (after-keeps s from P k t head p ok) q)
    where
      go : (o : Option EventFault) → refusal s p t.event ≡ o → ((signing s p t).now ≡ q → P q)
          → (Mem q (settlings_from s (after s p t) ts) → P q) → P q
      go None e here there = elim (subst (Mem q) (settles-none s p t ts e) m) [ inl is ↦ here is | inr m' ↦ there m' ]
      go (Some fault) e here there = there (subst (Mem q) (settles-some s p t ts fault e) m)

  -- and from where it has delivered to the end
  pub settled-keeps : (ts : List Turn) → AreFrom s from P k (handed_to ts) → (p q : Process) → Mem q (settlings_from s p ts)
      → P (deliver (decide s q)) → P (run s p ts)
  unfolding AreFrom run settle
  settled-keeps [] are p q m ok = absurd m
  settled-keeps (t ∷ ts) are p q m ok =
      let tail : AreFrom s from P k (handed_to ts) = λ c m. are c (back s from P k (claims_in t.event) (handed_to ts) c m) in
      go (refusal s p t.event) refl (λ ok. turns-keep s from P k ts tail (after s p t) ok) (λ m. settled-keeps ts tail (after s p t) q m ok)
    where
      go : (o : Option EventFault) → refusal s p t.event ≡ o → (P (after s p t) → P (run s (after s p t) ts))
          → (Mem q (settlings_from s (after s p t) ts) → P (run s (after s p t) ts)) → P (run s (after s p t) ts)
      go None e here there = elim (subst (Mem q) (settles-none s p t ts e) m) [
        | inl is ↦ here (subst P (sym (after-none s p t e))
            (subst (λ q. P (leave (deliver (decide s q)))) (sym is) (leave-keeps s from P k (deliver (decide s q)) ok)))
        | inr m' ↦ there m'
      ]
      go (Some fault) e here there = there (subst (Mem q) (settles-some s p t ts fault e) m)

  pub delivering-keeps : (q : Process) → P q → P (deliver (decide s q))
  delivering-keeps q ok = deliver-keeps s from P k (decide s q) (k.decides q ok)

pub reaches : (s : Setting) (P : Process → Type 0) (ts : List Turn) → Keeps s (handed_to ts) P → (p q : Process) → P p
    → Mem q (settlings_from s p ts) → P q
reaches s P ts k p q ok m = settling-keeps s (handed_to ts) P k ts (unfold AreFrom in λ c m. m) p ok q m

pub goes-on : (s : Setting) (P : Process → Type 0) (ts : List Turn) → Keeps s (handed_to ts) P → (p q : Process)
    → Mem q (settlings_from s p ts) → P (deliver (decide s q)) → P (run s p ts)
goes-on s P ts k p q m ok = settled-keeps s (handed_to ts) P k ts (unfold AreFrom in λ c m. m) p q m ok
