-- What a turn adds to what a process signed, and to what was handed to it.
use Rattle.std.proofs.Common.{◌≡◌, ◌⊎◌, inl, inr, List, [], ◌∷◌, ◌++◌, length, drop, Option, Some, None, false, refl, sym, ap, ◌∙◌, subst}
use Rattle.std.proofs.lemmas.List.{append-nil}
use Rattle.message_defs.specs.Statements.{Claim}
use Rattle.group_defs.specs.Process.{Setting, Process}
use Rattle.group_defs.specs.Events.{Turn, EventFault, Outcome, refusal, take_in, signing, answered, outcome, after, run}
use Rattle.group_defs.specs.Family.{claims_in, handed_to}
use Rattle.event_laws.proofs.Taken.{taking_in_leaves}
use Rattle.event_laws.proofs.Signed.{signing_leaves}
use Rattle.event_laws.proofs.Settled.{settling_leaves}
use Rattle.pool_laws.proofs.Members.{Mem, append-mem, mem-append, mem-behind}
use Rattle.safety_laws.proofs.GroupGrows.{run-append}
use Rattle.safety_laws.proofs.Settlings.{after-none}

drop-front : {A : Type 0} (xs ys : List A) → drop (length xs) (xs ++ ys) ≡ ys
drop-front [] ys = refl
drop-front (x ∷ xs) ys = drop-front xs ys

-- ---- what is signed

module _ (s : Setting) (p : Process) (t : Turn) where
  signing-adds : (signing s p t).now.signed ≡ p.signed ++ (signing_leaves s t.signer t.allowance (take_in s p t.event)).more
  signing-adds = (signing_leaves s t.signer t.allowance (take_in s p t.event)).signed
      ∙ ap (λ (q : Process). q.signed ++ (signing_leaves s t.signer t.allowance (take_in s p t.event)).more) (taking_in_leaves s p t.event)

  answered-signed : (answered s p t (signing s p t)).signed ≡ (signing_leaves s t.signer t.allowance (take_in s p t.event)).more
  answered-signed = ap (drop (length p.signed)) signing-adds ∙
      drop-front p.signed (signing_leaves s t.signer t.allowance (take_in s p t.event)).more

  outcome-none : refusal s p t.event ≡ None → outcome s p t ≡ answered s p t (signing s p t)
  outcome-none e = ap (λ (o : Option EventFault). elim o [
    | None ↦ answered s p t (signing s p t)
    | Some fault ↦ record { verdict = Some fault; heard = 0; signed = []; spent = false; sends = []; notes = [] }
  ]) e

  outcome-some : (fault : EventFault) → refusal s p t.event ≡ Some fault → (outcome s p t).signed ≡ []
  outcome-some fault e = cc

  after-some : (fault : EventFault) → refusal s p t.event ≡ Some fault → after s p t ≡ p
  unfolding after
  after-some fault e = cc

  pub turn-signs : (after s p t).signed ≡ p.signed ++ (outcome s p t).signed
  turn-signs = go (refusal s p t.event) refl
    where
      go : (o : Option EventFault) → refusal s p t.event ≡ o → (after s p t).signed ≡ p.signed ++ (outcome s p t).signed
      go None e = ap (λ (q : Process). q.signed) (after-none s p t e) ∙ (settling_leaves s (signing s p t).now).signed ∙ signing-adds
          ∙ ap (λ cs. p.signed ++ cs) (sym (ap (λ (o : Outcome). o.signed) (outcome-none e) ∙ answered-signed))
      go (Some fault) e = ap (λ (q : Process). q.signed) (after-some fault e) ∙ sym (append-nil p.signed)
          ∙ ap (λ cs. p.signed ++ cs) (sym (outcome-some fault e))

-- ---- turn by turn

pub run-one : (s : Setting) (p : Process) (t : Turn) → run s p (t ∷ []) ≡ after s p t
unfolding run
run-one s p t = refl

pub run-more : (s : Setting) (p : Process) (ts : List Turn) (t : Turn) → run s p (ts ++ t ∷ []) ≡ after s (run s p ts) t
run-more s p ts t = run-append s p ts (t ∷ []) ∙ run-one s (run s p ts) t

pub handed-more : (ts : List Turn) (t : Turn) (c : Claim) → Mem c (handed_to (ts ++ t ∷ [])) → Mem c (handed_to ts) ⊎ Mem c (claims_in t.event)
handed-more [] t c m = inr (subst (Mem c) (append-nil (claims_in t.event)) m)
handed-more (u ∷ ts) t c m = elim (append-mem (claims_in u.event) (handed_to (ts ++ t ∷ [])) c m) [
  | inl here ↦ inl (mem-append (claims_in u.event) (handed_to ts) c here)
  | inr there ↦ elim (handed-more ts t c there) [
    | inl before ↦ inl (mem-behind (claims_in u.event) (handed_to ts) c before)
    | inr last ↦ inr last
  ]
]

pub handed-before : (ts : List Turn) (t : Turn) (c : Claim) → Mem c (handed_to ts) → Mem c (handed_to (ts ++ t ∷ []))
handed-before [] t c m = absurd m
handed-before (u ∷ ts) t c m = elim (append-mem (claims_in u.event) (handed_to ts) c m) [
  | inl here ↦ mem-append (claims_in u.event) (handed_to (ts ++ t ∷ [])) c here
  | inr there ↦ mem-behind (claims_in u.event) (handed_to (ts ++ t ∷ [])) c (handed-before ts t c there)
]

pub handed-last : (ts : List Turn) (t : Turn) (c : Claim) → Mem c (claims_in t.event) → Mem c (handed_to (ts ++ t ∷ []))
handed-last [] t c m = subst (Mem c) (sym (append-nil (claims_in t.event))) m
handed-last (u ∷ ts) t c m = mem-behind (claims_in u.event) (handed_to (ts ++ t ∷ [])) c (handed-last ts t c m)
