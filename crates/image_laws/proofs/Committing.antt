-- A certificate is the claims of a quorum of members by rising numbers, each on what it certifies.
use Rattle.std.proofs.Common.{◌≡◌, ℕ, ◌≤◌, List, [], ◌∷◌, length, map, take, true, refl, sym, ap, ◌∙◌, subst, Option, Some, inl, inr}
use Rattle.std.specs.Prelude.{filter_map, if◌then◌else◌, ◌&&◌, ◌==◌, AllPairs, ◌≢◌}
use Rattle.std.specs.List.{cons_option}
use Rattle.std.specs.List.Sorted.{IsStrictlyIncreasing}
use Rattle.std.proofs.lemmas.Bool.{leb-true, eqb-true, eq-eqb}
use Rattle.std.proofs.lemmas.List.{length-map}
use Rattle.byte_defs.specs.Orders.{sorted}
use Rattle.message_defs.specs.Statements.{Statement, Claim, slot_of, same_slot}
use Rattle.group_defs.specs.Views.{is_member, quorum}
use Rattle.group_defs.specs.Process.{Pool}
use Rattle.group_defs.specs.Certified.{number_of_members, says, backers, is_certified, certificate}
use Rattle.pool_laws.proofs.Members.{Mem, filter-mem, filter_map-mem, find-is, mem-list_any}
use Rattle.pool_laws.proofs.Places.{take-length}
use Rattle.pool_laws.proofs.Sorting.{by_number, mem-sorted, length-sorted}
use Rattle.pool_laws.proofs.Tests.{and-first, some-same}
use Rattle.image_laws.proofs.Certificates.{claim-of, said}
use Rattle.image_laws.proofs.Rising.{sorted-up, take-up, mem-take, up-rises, filter-apart, distinct-apart}

-- what a certificate of the content is
pub record Certifies (h : Pool) (st : Statement) (cs : List Claim) : Type 0 where
  pub many : length cs ≡ quorum (number_of_members h)
  pub rising : IsStrictlyIncreasing (map (λ c. c.signer) cs)
  pub each : (c : Claim) → Mem c cs → (is_member h.view c.signer ≡ true) × (c.statement ≡ st) × Mem c h.heard

module _ (h : Pool) (st : Statement) where
  signer-is : (m : ℕ) (c : Claim) → claim-of h st m ≡ Some c → c.signer ≡ m
  signer-is m c e = eqb-true c.signer m
      (and-first _ _ (find-is (λ (c : Claim). (c.signer == m) && same_slot (slot_of c.statement) (slot_of st)) h.heard c e).1)

  signers-are : (ms : List ℕ) → ((m : ℕ) → Mem m ms → says h st m ≡ true) → map (λ (c : Claim). c.signer) (filter_map (claim-of h st) ms) ≡ ms
  signers-are [] all = refl
  signers-are (m ∷ ms) all =
      let is = said h st m (all m (inl refl)) in
      ap (λ (o : Option Claim). map (λ (c : Claim). c.signer) (cons_option o (filter_map (claim-of h st) ms))) is.1
      ∙ ap (λ (x : ℕ). x ∷ map (λ (c : Claim). c.signer) (filter_map (claim-of h st) ms)) (signer-is m is.0 is.1)
      ∙ ap (λ xs. m ∷ xs) (signers-are ms (λ n there. all n (inr there)))

  abbrev first-backers : List ℕ
  first-backers = take (quorum (number_of_members h)) (sorted by_number (backers h st))

  backs : (m : ℕ) → Mem m first-backers → Mem m (backers h st)
  backs m there = mem-sorted by_number (backers h st) m (mem-take (quorum (number_of_members h)) (sorted by_number (backers h st)) m there)

  pub certificate-is : AllPairs (λ m n. m ≢ n) h.view.members → is_certified h st ≡ true → Certifies h st (certificate h st)
  certificate-is distinct certified =
      subst (Certifies h st) (sym (ap (λ b. if b then filter_map (claim-of h st) first-backers else []) certified)) (record {
        many = sym (length-map (filter_map (claim-of h st) first-backers) (λ (c : Claim). c.signer))
            ∙ ap (λ (xs : List ℕ). length xs) are ∙ take-length (quorum (number_of_members h)) (sorted by_number (backers h st)) enough;
        rising = subst IsStrictlyIncreasing (sym are)
            (up-rises first-backers (take-up (quorum (number_of_members h)) (sorted by_number (backers h st))
            (sorted-up (backers h st) (filter-apart (says h st) h.view.members (distinct-apart h.view.members distinct)))));
        each = λ c m. of-one c (filter_map-mem (claim-of h st) first-backers c m);
      })
    where
      all : (m : ℕ) → Mem m first-backers → says h st m ≡ true
      all m there = (filter-mem (says h st) h.view.members m (backs m there)).1

      are : map (λ (c : Claim). c.signer) (filter_map (claim-of h st) first-backers) ≡ first-backers
      are = signers-are first-backers all

      enough : quorum (number_of_members h) ≤ length (sorted by_number (backers h st))
      enough = subst (λ n. quorum (number_of_members h) ≤ n) (sym (length-sorted by_number (backers h st))) (leb-true _ _ certified)

      of-one : (c : Claim) → (m : ℕ) × Mem m first-backers × (claim-of h st m ≡ Some c)
          → (is_member h.view c.signer ≡ true) × (c.statement ≡ st) × Mem c h.heard
      of-one c from =
          let is = said h st from.0 (all from.0 from.1) in
          let same : is.0 ≡ c = some-same is.0 c (sym is.1 ∙ from.2) in
          let member = (filter-mem (says h st) h.view.members from.0 (backs from.0 from.1)).0 in (
            subst (λ (q : ℕ). is_member h.view q ≡ true) (sym (signer-is from.0 c from.2))
                (mem-list_any (λ q. q == from.0) h.view.members from.0 member (eq-eqb from.0 from.0 refl)),
            ap (λ (d : Claim). d.statement) (sym same) ∙ is.2,
            (find-is (λ (c : Claim). (c.signer == from.0) && same_slot (slot_of c.statement) (slot_of st)) h.heard c from.2).0,
          )
