-- A certificate tells what it certifies: it has a claim, and that says the content.
use Rattle.std.proofs.Common.{◌≡◌, ℕ, zero, suc, ◌≤◌, List, [], ◌∷◌, length, take, Bool, true, false, refl, sym, ap, subst, arith, Option, Some, None, inl, inr}
use Rattle.std.specs.Prelude.{filter, filter_map, if◌then◌else◌, option_map}
use Rattle.std.specs.List.{cons_option}
use Rattle.std.proofs.lemmas.Bool.{leb-true}
use Rattle.byte_defs.specs.Choices.{is_some_and}
use Rattle.byte_defs.specs.Orders.{sorted}
use Rattle.message_defs.specs.Statements.{Statement, Claim, slot_of, same_statement}
use Rattle.group_defs.specs.Views.{quorum}
use Rattle.group_defs.specs.Process.{Pool}
use Rattle.group_defs.specs.Certified.{claim_on, number_of_members, says, backers, is_certified, certificate}
use Rattle.pool_laws.proofs.Members.{Mem}
use Rattle.pool_laws.proofs.Sorting.{mem-sorted, length-sorted}
use Rattle.pool_laws.proofs.Slots.{same_statement-is}

-- the first claim of the certificate
pub record First (st : Statement) (cs : List Claim) : Type 0 where
  pub claim : Claim
  pub more : List Claim
  pub is : cs ≡ claim ∷ more
  pub says : claim.statement ≡ st

mem-passes : {A : Type 0} (test : A → Bool) (xs : List A) (y : A) → Mem y (filter test xs) → test y ≡ true
mem-passes test [] y m = absurd m
mem-passes {A} test (x ∷ xs) y m = go (test x) refl m (mem-passes test xs y)
  where
    go : (b : Bool) → test x ≡ b → Mem y (if b then x ∷ filter test xs else filter test xs) → (Mem y (filter test xs) → test y ≡ true)
        → test y ≡ true
    go true e (inl is) rest = subst (λ z. test z ≡ true) is e
    go true e (inr there) rest = rest there
    go false e there rest = rest there

module _ (h : Pool) (st : Statement) where
  abbrev pub claim-of : ℕ → Option Claim
  claim-of m = claim_on h.heard m (slot_of st)

  pub said : (m : ℕ) → says h st m ≡ true → (c : Claim) × (claim-of m ≡ Some c) × (c.statement ≡ st)
  said m ok = go (claim-of m) refl ok
    where
      go : (o : Option Claim) → claim-of m ≡ o → is_some_and (option_map (λ (c : Claim). c.statement) o) (same_statement st) ≡ true
          → (c : Claim) × (claim-of m ≡ Some c) × (c.statement ≡ st)
      go None e ok = cc
      go (Some c) e ok = (c, e, sym (same_statement-is st c.statement ok))

  first-of : (n : ℕ) (ms : List ℕ) → 1 ≤ n → n ≤ length ms → ((m : ℕ) → Mem m ms → says h st m ≡ true)
      → First st (filter_map claim-of (take n ms))
  first-of zero ms some enough all = absurd (omega (arith, some))
  first-of (suc n) [] some enough all = absurd (omega (arith, enough))
  first-of (suc n) (m ∷ ms) some enough all =
      let is = said m (all m (inl refl)) in
      record {
        claim = is.0;
        more = filter_map claim-of (take n ms);
        is = ap (λ (o : Option Claim). cons_option o (filter_map claim-of (take n ms))) is.1;
        says = is.2;
      }

  pub certificate-first : 1 ≤ length h.view.members → is_certified h st ≡ true → First st (certificate h st)
  certificate-first some certified =
      let many : quorum (number_of_members h) ≤ length (backers h st) = leb-true _ _ certified in
      let long = length-sorted (λ (m : ℕ). m ∷ []) (backers h st) in
      subst (First st) (sym (ap (λ b. if b then
      filter_map claim-of (take (quorum (number_of_members h)) (sorted (λ (m : ℕ). m ∷ []) (backers h st))) else []) certified))
      (first-of (quorum (number_of_members h)) (sorted (λ (m : ℕ). m ∷ []) (backers h st)) (least (length h.view.members) some)
      (subst (λ n. quorum (number_of_members h) ≤ n) (sym long) many)
      (λ m there. mem-passes (says h st) h.view.members m (mem-sorted (λ (m : ℕ). m ∷ []) (backers h st) m there)))
    where
      least : (n : ℕ) → 1 ≤ n → 1 ≤ quorum n
      least n some = omega (arith, some)
