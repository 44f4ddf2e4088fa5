-- What is accepted stays fit to be kept.
use Rattle.std.proofs.Common.{◌≡◌, ℕ, ◌+◌, ◌-◌, ◌≤◌, List, [], ◌∷◌, ◌++◌, length, map, sum, Bool, true, false, None, refl, sym, ap, ◌∙◌, subst, arith}
use Rattle.std.specs.Prelude.{if◌then◌else◌, not, nat_lt, ◌==◌, All, cond}
use Rattle.std.proofs.lemmas.List.{map-append, length-append}
use Rattle.std.proofs.lemmas.List.Sums.{fold-append, sum_by-append}
use Rattle.std.proofs.lemmas.Bool.{ltb-false, eqb-false}
use Rattle.byte_defs.specs.Choices.{first_that_holds}
use Rattle.message_defs.specs.Limits.{most_payload_bytes}
use Rattle.message_defs.specs.Updates.{Update, Remove, Add, Renew, Value}
use Rattle.message_defs.specs.Statements.{Claim, Ready}
use Rattle.message_defs.specs.Claims.{Claims, Wants, Faulty}
use Rattle.group_defs.specs.Views.{is_member}
use Rattle.group_defs.specs.Process.{Setting, Delivered, Left, Process, earlier, delivered_from}
use Rattle.byte_defs.specs.Orders.{put}
use Rattle.group_defs.specs.Certified.{certificate}
use Rattle.group_defs.specs.Due.{is_perceived}
use Rattle.group_defs.specs.Settle.{install}
use Rattle.group_defs.specs.Family.{claims_in}
use Rattle.group_defs.specs.Events.{Event, Submit, Hand, Suspect, Join, RenewView, Tick, EventFault, Outsider, TooLong, Backlog, perceived_numbers, perceives, refusal, take_in}
use Rattle.pool_laws.proofs.Members.{All-mem, mem-All, each-snoc}
use Rattle.safety_laws.proofs.Induction.{Keeps, after-keeps, AreFrom}
use Rattle.image_laws.specs.Keeping.{AcceptedFits, AcceptedIsKept}
use Rattle.image_laws.proofs.Taken.{Stayed, WasTaken, came, all-heard}

-- ---- the own messages that were delivered never grow fewer

delivered-more : (m : ℕ) (ds es : List Delivered) → delivered_from m (ds ++ es) ≡ delivered_from m ds + delivered_from m es
delivered-more m ds es = sum_by-append (λ (d : Delivered). cond (d.message.sender == m) 1 0) ds es

abbrev own : Process → ℕ
own p = earlier p + delivered_from p.me p.delivered

installs-same : (me : ℕ) (ls : List Left) (l : Left) → sum (map (λ (v : Left). delivered_from me v.delivered) (ls ++ l ∷ []))
    ≡ sum (map (λ (v : Left). delivered_from me v.delivered) ls) + delivered_from me l.delivered
installs-same me ls l =
    ap sum (map-append (λ (v : Left). delivered_from me v.delivered) ls (l ∷ [])) ∙ fold-append (λ (a b : ℕ). a + b) 0
    (map (λ (v : Left). delivered_from me v.delivered) ls) (delivered_from me l.delivered ∷ [])

-- what is kept of the view that is left
abbrev left-now : Process → ℕ × Value → Left
left-now p d = record { view = p.pool.view; delivered = p.delivered; commit = certificate p.pool (Ready p.pool.view.number d.0 d.1) }

never-fewer : (s : Setting) (from : List Claim) (n : ℕ) → Keeps s from (λ p. n ≤ own p)
never-fewer s from n = record {
  accepts = λ p payload ok. ok;
  perceives = λ p e ok. ok;
  hears = λ p c m e ok. ok;
  doubts = λ p conflicts ok. ok;
  signs = λ p signer st next none ok. ok;
  decides = λ p ok. ok;
  delivers = λ p ds member room e ok. (let more = delivered-more p.me p.delivered ds in omega (arith, more, ok));
  installs = λ p d decided whole ok. (
      let same : earlier (install d p) ≡ earlier p + delivered_from p.me p.delivered = installs-same p.me p.left (left-now p d) in
      omega (arith, same, ok));
  halts = λ p d decided member ok. ok;
}

-- ---- one payload more

not-refused : (a b c d : Bool) (f g h i : EventFault) → first_that_holds ((a, f) ∷ (b, g) ∷ (c, h) ∷ (d, i) ∷ []) ≡ None
    → (c ≡ false) × (d ≡ false)
not-refused true b c d f g h i e = absurd cc
not-refused false true c d f g h i e = absurd cc
not-refused false false true d f g h i e = absurd cc
not-refused false false false true f g h i e = absurd cc
not-refused false false false false f g h i e = (refl, refl)

-- of a list of payloads, by how many of them are delivered
abbrev Fits : List (List ℕ) → ℕ → Type 0
Fits payloads n = All (λ payload. length payload ≤ most_payload_bytes) payloads × (length payloads - n ≤ 256)

asks-nothing : (p : Process) (u : Update) → (perceives p u).accepted ≡ p.accepted
asks-nothing p u = go (is_perceived p (p.pool.view.number, u))
  where
    go : (b : Bool) → (if b then p else record p { perceived = put perceived_numbers (p.pool.view.number, u) p.perceived }).accepted ≡ p.accepted
    go true = refl
    go false = refl

taken-fits : (s : Setting) (p : Process) (event : Event) → refusal s p event ≡ None → Fits p.accepted (own p)
    → Fits (take_in s p event).accepted (own p)
taken-fits s p (Submit payload) free fits =
    let tests = not-refused p.halted (not (is_member p.pool.view p.me)) (nat_lt most_payload_bytes (length payload))
    (length p.accepted - own p == 256) _ Outsider TooLong Backlog free in
    let short = ltb-false most_payload_bytes (length payload) tests.0 in
    let other = eqb-false (length p.accepted - own p) 256 tests.1 in (
      mem-All (λ (x : List ℕ). length x ≤ most_payload_bytes) (p.accepted ++ payload ∷ [])
          (each-snoc (λ (x : List ℕ). length x ≤ most_payload_bytes) p.accepted payload
          (λ x m. All-mem (λ (x : List ℕ). length x ≤ most_payload_bytes) p.accepted x fits.0 m) short),
      (let long = length-append p.accepted (payload ∷ []) in let le = fits.1 in omega (arith, long, le, other)),
    )
taken-fits s p (Hand from (Claims claims)) free fits = subst (λ xs. Fits xs (own p)) (sym (all-heard s p claims).accepted) fits
taken-fits s p (Hand from (Wants x k)) free fits = fits
taken-fits s p (Hand from (Faulty fault)) free fits = fits
taken-fits s p (Suspect q) free fits = subst (λ xs. Fits xs (own p)) (sym (asks-nothing p (Remove q))) fits
taken-fits s p (Join q) free fits = subst (λ xs. Fits xs (own p)) (sym (asks-nothing p (Add q))) fits
taken-fits s p RenewView free fits = subst (λ xs. Fits xs (own p)) (sym (asks-nothing p Renew)) fits
taken-fits s p Tick free fits = fits

-- ---- the law

pub accepted_is_kept : AcceptedIsKept
accepted_is_kept s p t fits = elim (came s p t) [
  | Stayed is ↦ subst AcceptedFits (sym is) fits
  | WasTaken free same ↦
      let now = taken-fits s p t.event free (fits.short, fits.backlog) in
      let more = after-keeps s (claims_in t.event) (λ q. own p ≤ own q) (never-fewer s (claims_in t.event) (own p)) t
      (unfold AreFrom in λ c m. m) p (omega arith) in
      record {
        short = subst (λ xs. All (λ payload. length payload ≤ most_payload_bytes) xs) (sym same.accepted) now.0;
        backlog = (let le = now.1 in let long = ap (λ (xs : List (List ℕ)). length xs) same.accepted in omega (arith, le, long, more));
      }
]
