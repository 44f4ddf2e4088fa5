-- What is perceived stays fit to be kept.
use Rattle.std.proofs.Common.{◌≡◌, ◌⊎◌, ℕ, ◌<◌, ◌≤◌, List, ◌∷◌, Bool, true, false, Option, Some, None, refl, sym, ap, subst, arith, inl, inr}
use Rattle.std.specs.Prelude.{if◌then◌else◌, is_none, not, map, option_to_list, ◌&&◌, IsTrue}
use Rattle.byte_defs.specs.Choices.{first_that_holds}
use Rattle.byte_defs.specs.Members.{has}
use Rattle.byte_defs.specs.Orders.{put}
use Rattle.message_defs.specs.Updates.{Update, Remove, Add, Renew}
use Rattle.message_defs.specs.Statements.{Claim}
use Rattle.message_defs.specs.Claims.{Claims, Wants, Faulty}
use Rattle.group_defs.specs.Views.{View, UpdateFault, next_fault, is_member, is_possible}
use Rattle.group_defs.specs.Process.{Setting, Process, keyed}
use Rattle.group_defs.specs.Due.{is_perceived}
use Rattle.group_defs.specs.Family.{claims_in}
use Rattle.group_defs.specs.Events.{Event, Submit, Hand, Suspect, Join, RenewView, Tick, EventFault, NoNext, NoKey, Outsider, refusal, take_in, perceives, perceived_numbers, after}
use Rattle.pool_laws.proofs.Members.{Mem, All-mem, mem-All}
use Rattle.pool_laws.proofs.Sorting.{mem-put}
use Rattle.pool_laws.proofs.Tests.{both-true}
use Rattle.safety_laws.proofs.Induction.{Keeps, after-keeps, AreFrom}
use Rattle.image_laws.specs.Keeping.{PerceivedFits, PerceivedIsKept}
use Rattle.image_laws.proofs.Taken.{Stayed, WasTaken, came, all-heard}

-- ---- the view, and views after it

abbrev InOrAfter : View → Process → Type 0
InOrAfter v p = (p.pool.view ≡ v) ⊎ (v.number < p.pool.view.number)

goes-on : (s : Setting) (from : List Claim) (v : View) → Keeps s from (InOrAfter v)
goes-on s from v = record {
  accepts = λ p payload ok. ok;
  perceives = λ p e ok. ok;
  hears = λ p c m e ok. ok;
  doubts = λ p conflicts ok. ok;
  signs = λ p signer st next none ok. ok;
  decides = λ p ok. ok;
  delivers = λ p ds member room e ok. ok;
  installs = λ p d decided whole ok. elim ok [
    | inl here ↦ inr (let same : p.pool.view.number ≡ v.number = ap (λ (w : View). w.number) here in omega (arith, same))
    | inr later ↦ inr (omega (arith, later))
  ];
  halts = λ p d decided member ok. ok;
}

-- ---- one update more

-- an update that may be, of this view
abbrev Fits : Setting → View → ℕ × Update → Type 0
Fits s v e = (e.0 ≤ v.number) × (e.0 ≡ v.number → IsTrue (is_possible (keyed s) v e.1))

abbrev EachFits : Setting → View → List (ℕ × Update) → Type 0
EachFits s v es = (e : ℕ × Update) → Mem e es → Fits s v e

perceived-fits : (s : Setting) (p : Process) (u : Update) → is_possible (keyed s) p.pool.view u ≡ true → EachFits s p.pool.view p.perceived
    → EachFits s p.pool.view (perceives p u).perceived
perceived-fits s p u may each = go (is_perceived p (p.pool.view.number, u))
  where
    go : (b : Bool) → EachFits s p.pool.view
        (if b then p else record p { perceived = put perceived_numbers (p.pool.view.number, u) p.perceived }).perceived
    go true e m = each e m
    go false e m = elim (mem-put perceived_numbers (p.pool.view.number, u) p.perceived e m) [
      | inl is ↦ subst (Fits s p.pool.view) is (omega arith, λ same. may)
      | inr there ↦ each e there
    ]

-- ---- what is not refused is possible

none-is : (o : Option UpdateFault) (a b : Bool) (f g : EventFault)
    → first_that_holds ((a, f) ∷ (b, g) ∷ map (λ fault. (true, NoNext fault)) (option_to_list o)) ≡ None → is_none o ≡ true
none-is None a b f g e = refl
none-is (Some fault) true b f g e = absurd cc
none-is (Some fault) false true f g e = absurd cc
none-is (Some fault) false false f g e = absurd cc

joins-is : (o : Option UpdateFault) (a b : Bool) (f g h : EventFault) (keyed' : Bool)
    → first_that_holds ((a, f) ∷ (b, g) ∷ (not keyed', h) ∷ map (λ fault. (true, NoNext fault)) (option_to_list o)) ≡ None
    → (is_none o && keyed') ≡ true
joins-is None true b f g h k e = absurd cc
joins-is None false true f g h k e = absurd cc
joins-is None false false f g h true e = refl
joins-is None false false f g h false e = absurd cc
joins-is (Some fault) true b f g h k e = absurd cc
joins-is (Some fault) false true f g h k e = absurd cc
joins-is (Some fault) false false f g h true e = absurd cc
joins-is (Some fault) false false f g h false e = absurd cc

taken-fits : (s : Setting) (p : Process) (event : Event) → refusal s p event ≡ None → EachFits s p.pool.view p.perceived
    → EachFits s p.pool.view (take_in s p event).perceived
taken-fits s p (Submit payload) free each = each
taken-fits s p (Hand from (Claims claims)) free each = subst (EachFits s p.pool.view) (sym (all-heard s p claims).perceived) each
taken-fits s p (Hand from (Wants x k)) free each = each
taken-fits s p (Hand from (Faulty fault)) free each = each
taken-fits s p (Suspect q) free each = perceived-fits s p (Remove q)
    (both-true _ _ (none-is (next_fault p.pool.view (Remove q)) p.halted (not (is_member p.pool.view p.me)) _ Outsider free) refl) each
taken-fits s p (Join q) free each = perceived-fits s p (Add q)
    (joins-is (next_fault p.pool.view (Add q)) p.halted (not (is_member p.pool.view p.me)) _ Outsider NoKey (has (keyed s) q) free) each
taken-fits s p RenewView free each = perceived-fits s p Renew
    (both-true _ _ (none-is (next_fault p.pool.view Renew) p.halted (not (is_member p.pool.view p.me)) _ Outsider free) refl) each
taken-fits s p Tick free each = each

-- ---- the law

later-fits : (s : Setting) (v w : View) (e : ℕ × Update) → (w ≡ v) ⊎ (v.number < w.number) → Fits s v e → Fits s w e
later-fits s v w e (inl here) fits = subst (λ (x : View). Fits s x e) (sym here) fits
later-fits s v w e (inr later) fits = (
  (let le = fits.0 in omega (arith, le, later)),
  λ same. absurd (let le = fits.0 in omega (arith, le, later, same)),
)

pub perceived_is_kept : PerceivedIsKept
perceived_is_kept s p t fits = elim (came s p t) [
  | Stayed is ↦ subst (PerceivedFits s) (sym is) fits
  | WasTaken free same ↦
      let each = taken-fits s p t.event free (λ e m. All-mem (Fits s p.pool.view) p.perceived e fits m) in
      let on = after-keeps s (claims_in t.event) (InOrAfter p.pool.view) (goes-on s (claims_in t.event) p.pool.view) t
      (unfold AreFrom in λ c m. m) p (inl refl) in
      mem-All (Fits s (after s p t).pool.view) (after s p t).perceived
      (λ e m. later-fits s p.pool.view (after s p t).pool.view e on (each e (subst (Mem e) same.perceived m)))
]
