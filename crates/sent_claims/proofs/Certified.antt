-- The claims of a certificate, one signer after another.
use Rattle.std.proofs.Common.{◌≡◌, ℕ, suc, ◌+◌, ◌-◌, ◌<◌, List, [], ◌∷◌, ◌++◌, take, Option, Some, None, Bool, true, false, refl, sym, ap, ◌∙◌, subst, arith, inl, inr}
use Rattle.std.specs.Prelude.{if◌then◌else◌, option_and_then}
use Rattle.std.specs.List.{cons_option, AllByRecursion}
use Rattle.byte_defs.specs.Orders.{sorted}
use Rattle.message_defs.specs.Updates.{Value}
use Rattle.message_defs.specs.Statements.{Statement, Ready, Slot, ReadyAt, Claim, slot_of}
use Rattle.message_defs.specs.Spelling.{IsClaim}
use Rattle.group_defs.specs.Views.{quorum}
use Rattle.group_defs.specs.Process.{Pool}
use Rattle.group_defs.specs.Certified.{backers, is_certified, certified_on, certificate, number_of_members, value_at}
use Rattle.pool_laws.proofs.Members.{Mem, find-is}
use Rattle.pool_laws.proofs.Heard.{certified_on-is}
use Rattle.pool_laws.proofs.Slots.{ready-is}
use Rattle.pool_laws.proofs.Sorting.{by_number}
use Rattle.pool_laws.proofs.Tests.{then-some}
use Rattle.sent_claims.specs.Certificates.{IsRanged, all_signed, certificate_of, said_on, said_by}

pub all-mem : {A : Type 0} (P : A → Type 0) (xs : List A) (x : A) → AllByRecursion P xs → Mem x xs → P x
all-mem P [] x all m = absurd m
all-mem P (y ∷ xs) x all (inl e) = subst P e all.0
all-mem P (y ∷ xs) x all (inr m) = all-mem P xs x all.1 m

-- a heard claim is in range
pub said-ranged : (h : Pool) (o : Option Slot) (member : ℕ) (c : Claim) → IsRanged h → said_on h o member ≡ Some c → IsClaim c
said-ranged h None member c ranged e = absurd cc
said-ranged h (Some s) member c ranged e = all-mem IsClaim h.heard c ranged (find-is _ h.heard c e).0

-- one member more
pub said_by-next : (h : Pool) (o : Option Slot) (member : ℕ) (more : List ℕ)
    → all_signed (said_by h o (member ∷ more)) ≡ all_signed (said_by h o (member ∷ [])) ++ all_signed (said_by h o more)
said_by-next h o member more = go (said_on h o member)
  where
    go : (c : Option Claim) → all_signed (cons_option c (said_by h o more)) ≡ all_signed (cons_option c []) ++ all_signed (said_by h o more)
    go None = refl
    go (Some c) = refl

-- the first so many, where one is taken
pub take-next : (count done p : ℕ) (left rest : List ℕ) → done < count → left ≡ p ∷ rest
    → take (count - done) left ≡ p ∷ take (count - (done + 1)) rest
take-next count done p left rest lt e = let n : count - done
    ≡ suc (count - (done + 1)) = omega arith in ap (take (count - done)) e ∙ ap (λ k. take k (p ∷ rest)) n

-- the certificate of what is certified there is of the first Q backers
pub certificate_of-is : (h : Pool) (o : Option Slot) (st : Statement) → option_and_then (certified_on h) o ≡ Some st
    → certificate_of h o ≡ said_by h o (take (quorum (number_of_members h)) (sorted by_number (backers h st)))
certificate_of-is h None st e = absurd cc
certificate_of-is h (Some s) st e =
    let is = certified_on-is h s st e in
    ap (λ (o : Option Statement). let it : List Claim = elim o [ None ↦ [] | Some st ↦ certificate h st ] in it) e
    ∙ ap (λ (b : Bool). if b then said_by h (Some (slot_of st)) (take (quorum (number_of_members h)) (sorted by_number (backers h st)))
    else []) is.0
    ∙ ap (λ (t : Slot). said_by h (Some t) (take (quorum (number_of_members h)) (sorted by_number (backers h st)))) is.1

-- and none where nothing is certified
pub certificate_of-none : (h : Pool) (o : Option Slot) → option_and_then (certified_on h) o ≡ None → certificate_of h o ≡ []
certificate_of-none h None e = refl
certificate_of-none h (Some s) e = ap
    (λ (o : Option Statement). let it : List Claim = elim o [ None ↦ [] | Some st ↦ certificate h st ] in it) e

-- the certificate of the Ready that decides
pub commit-is : (h : Pool) (r : ℕ) (v : Value) → value_at h (ReadyAt h.view.number r) ≡ Some v
    → certificate_of h (Some (ReadyAt h.view.number r)) ≡ certificate h (Ready h.view.number r v)
commit-is h r v e =
    let found = then-some _ (certified_on h (ReadyAt h.view.number r)) v e in
    let is = certified_on-is h (ReadyAt h.view.number r) found.0 found.1 in
    ap (λ (o : Option Statement). let it : List Claim = elim o [ None ↦ [] | Some st ↦ certificate h st ] in it) found.1
    ∙ ap (certificate h) (ready-is found.0 h.view.number r v found.2 is.1)

pub certificate-parts : (h : Pool) (o' o : Option Slot) (st : Statement) (signers : List ℕ) (count : ℕ) → o' ≡ o
    → option_and_then (certified_on h) o ≡ Some st → signers ≡ sorted by_number (backers h st) → count ≡ quorum (number_of_members h)
    → all_signed (certificate_of h o) ≡ all_signed (said_by h o' (take count signers))
certificate-parts h o' o st signers count same e is n = ap all_signed (certificate_of-is h o st e) ∙ sym
    (λ i. all_signed (said_by h (same i) (take (n i) (is i))))

-- ---- what holds of its claims

pub said_by-ranged : (h : Pool) (o : Option Slot) (members : List ℕ) → IsRanged h → AllByRecursion IsClaim (said_by h o members)
said_by-ranged h o [] ranged = tt
said_by-ranged h o (m ∷ ms) ranged = go (said_on h o m) refl (said_by-ranged h o ms ranged)
  where
    go : (c : Option Claim) → said_on h o m ≡ c → AllByRecursion IsClaim (said_by h o ms)
        → AllByRecursion IsClaim (cons_option c (said_by h o ms))
    go None e all = all
    go (Some c) e all = (said-ranged h o m c ranged e, all)

pub certificate-ranged : (h : Pool) (st : Statement) → IsRanged h → AllByRecursion IsClaim (certificate h st)
certificate-ranged h st ranged = go (is_certified h st)
  where
    go : (b : Bool) → AllByRecursion IsClaim
        (if b then said_by h (Some (slot_of st)) (take (quorum (number_of_members h)) (sorted by_number (backers h st))) else [])
    go true = said_by-ranged h (Some (slot_of st)) (take (quorum (number_of_members h)) (sorted by_number (backers h st))) ranged
    go false = tt
