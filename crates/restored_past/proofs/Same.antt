-- Claims that are compared with those of a commit certificate, by signer and signature.
use Rattle.std.proofs.Common.{◌≡◌, ℕ, zero, suc, ◌+◌, ◌≤◌, List, [], ◌∷◌, ◌++◌, length, map, drop, take, Bool, true, false, Option, Some, None, refl, sym, ap, ◌∙◌, subst, inl, inr, arith, slice_get}
use Rattle.std.specs.Prelude.{◌==◌, ◌&&◌, ◌↔◌, if◌then◌else◌, option_and_then, nat_le, filter_map, IsTrue, All}
use Rattle.std.proofs.lemmas.Bool.{eqb-true, eq-eqb, le-leb}
use Rattle.std.proofs.lemmas.List.{length-map}
use Rattle.byte_defs.specs.Choices.{is_some_and}
use Rattle.byte_defs.specs.Equality.{is_yes, bytes_discrete}
use Rattle.message_defs.specs.Statements.{Statement, Ready, Claim}
use Rattle.message_defs.specs.Packing.{Signed, signed_of}
use Rattle.group_defs.specs.Views.{View, IsView, quorum, is_member}
use Rattle.group_defs.specs.Process.{Setting, Pool}
use Rattle.group_defs.specs.Certified.{backers, certificate, is_certified, number_of_members}
use Rattle.group_defs.specs.Hearing.{is_valid}
use Rattle.image_defs.specs.Images.{LeftView}
use Rattle.image_defs.specs.Kept.{IsLeft}
use Rattle.byte_defs.specs.Orders.{sorted}
use Rattle.image_laws.proofs.Certificates.{claim-of}
use Rattle.image_laws.proofs.Committing.{certificate-is}
use Rattle.pool_laws.proofs.Sorting.{by_number}
use Rattle.pool_laws.proofs.Members.{Mem, All-mem}
use Rattle.pool_laws.proofs.Places.{slice_get-last}
use Rattle.pool_laws.proofs.Tests.{and-first, and-second, both-true, yes-is, is-yes}
use Rattle.reliable_mcast.specs.Certificates.{all_signed}
use Rattle.restored_past.specs.Keeping.{is_kept_at, are_kept_at}

drop-first : {A : Type 0} (xs : List A) (i : ℕ) (y : A) (ys : List A) → drop i xs ≡ y ∷ ys → (slice_get xs i ≡ Some y) × (drop (suc i) xs ≡ ys)
drop-first [] zero y ys e = absurd cc
drop-first [] (suc i) y ys e = absurd cc
drop-first (x ∷ xs) zero y ys e = (cc, cc)
drop-first (x ∷ xs) (suc i) y ys e = drop-first xs i y ys e

module _ (commits : List (List Signed)) (x : ℕ) (xs : List Signed) (at : slice_get commits x ≡ Some xs) (st : Statement) where
  abbrev test : Claim → Signed → Bool
  test c d = d.signer == c.signer && is_yes (bytes_discrete d.signature c.signature)

  one : (i : ℕ) (c : Claim) (d : Signed) → slice_get xs i ≡ Some d → is_kept_at commits x i c ≡ test c d
  one i c d there = ap (λ (o : Option (List Signed)). is_some_and (option_and_then (λ cs. slice_get cs i) o) (test c)) at
      ∙ ap (λ (o : Option Signed). is_some_and o (test c)) there

  next : (i : ℕ) → i + 1 ≡ suc i
  next i = omega arith

  same-so : (i : ℕ) (cs ds : List Claim) → drop i xs ≡ all_signed ds → length cs ≡ length ds → ((c : Claim) → Mem c cs → c.statement ≡ st)
      → ((d : Claim) → Mem d ds → d.statement ≡ st) → are_kept_at commits x i cs ≡ true → cs ≡ ds
  same-so i [] [] there long says says' ok = refl
  same-so i [] (d ∷ ds) there long says says' ok = absurd (omega (arith, long))
  same-so i (c ∷ cs) [] there long says says' ok = absurd (omega (arith, long))
  same-so i (c ∷ cs) (d ∷ ds) there long says says' ok =
      let parts = drop-first xs i (signed_of d) (all_signed ds) there in
      let here = sym (one i c (signed_of d) parts.0) ∙ and-first (is_kept_at commits x i c) (are_kept_at commits x (i + 1) cs) ok in
      let signer : d.signer ≡ c.signer = eqb-true d.signer c.signer (and-first (d.signer == c.signer) (is_yes (bytes_discrete d.signature c.signature)) here) in
      let signature : d.signature ≡ c.signature = yes-is (bytes_discrete d.signature c.signature)
      (and-second (d.signer == c.signer) (is_yes (bytes_discrete d.signature c.signature)) here) in
      let statement : c.statement ≡ d.statement = says c (inl refl) ∙ sym (says' d (inl refl)) in
      let rest = same-so (suc i) cs ds parts.1 (omega (arith, long)) (λ e m. says e (inr m)) (λ e m. says' e (inr m))
      (ap (λ n. are_kept_at commits x n cs) (sym (next i)) ∙ and-second (is_kept_at commits x i c) (are_kept_at commits x (i + 1) cs) ok) in
      λ j. record { signer = sym signer j; statement = statement j; signature = sym signature j } ∷ rest j

  so-same : (i : ℕ) (cs : List Claim) → drop i xs ≡ all_signed cs → are_kept_at commits x i cs ≡ true
  so-same i [] there = refl
  so-same i (c ∷ cs) there =
      let parts = drop-first xs i (signed_of c) (all_signed cs) there in
      both-true (is_kept_at commits x i c) (are_kept_at commits x (i + 1) cs)
      (one i c (signed_of c) parts.0 ∙ both-true (c.signer == c.signer) (is_yes (bytes_discrete c.signature c.signature))
      (eq-eqb c.signer c.signer refl) (is-yes (bytes_discrete c.signature c.signature) refl))
      (ap (λ n. are_kept_at commits x n cs) (next i) ∙ so-same (suc i) cs parts.1)

-- the last of several lists is at their end
at-end : (commits : List (List Signed)) (xs : List Signed) (x : ℕ) → x ≡ length commits → slice_get (commits ++ xs ∷ []) x ≡ Some xs
at-end commits xs x e = slice_get-last commits xs x e

module _ (s : Setting) (h : Pool) (view : IsView h.view) (l : LeftView) (is : IsLeft s h.view l) (old : List (List Signed)) (x : ℕ)
    (end : x ≡ length old) where
  abbrev ready : Statement
  ready = Ready h.view.number l.rank l.value

  says : (c : Claim) → Mem c l.commit → c.statement ≡ ready
  says c m = (All-mem (λ (c : Claim). IsTrue (is_member h.view c.signer) × (c.statement ≡ ready) × IsTrue (is_valid s c)) l.commit c is.each m).1

  -- where it is certified, the claims are compared with its certificate
  pub compared : is_certified h ready ≡ true
      → (are_kept_at (old ++ all_signed (certificate h ready) ∷ []) x 0 l.commit ≡ true) ↔ (l.commit ≡ certificate h ready)
  compared certified =
      let cert = certificate-is h ready view.distinct certified in
      let commits : List (List Signed) = old ++ all_signed (certificate h ready) ∷ [] in
      let at = at-end old (all_signed (certificate h ready)) x end in (
        λ ok. same-so commits x (all_signed (certificate h ready)) at ready 0 l.commit (certificate h ready) refl
            (is.many ∙ sym cert.many) says (λ d m. (cert.each d m).1) ok,
        λ same. so-same commits x (all_signed (certificate h ready)) at ready 0 l.commit (ap all_signed (sym same)),
      )

  -- where it is not, they are not it
  pub uncertified : (is_certified h ready ≡ true → ⊥) → l.commit ≡ certificate h ready → ⊥
  uncertified not_so same = go (is_certified h ready) refl
    where
      positive : (n : ℕ) → 1 ≤ n → quorum n ≡ 0 → ⊥
      positive n le e = omega (arith, le, e)

      go : (b : Bool) → is_certified h ready ≡ b → ⊥
      go true e = not_so e
      go false e =
          let none : l.commit ≡ [] = same ∙ ap (λ (b : Bool). if b then filter_map (claim-of h ready) (take (quorum (number_of_members h)) (sorted by_number (backers h ready))) else []) e in
          positive (length h.view.members) view.some (sym is.many ∙ ap (λ (cs : List Claim). length cs) none)

  -- as the code compares them
  pub last-is : (b : Bool) (new : List (List Signed)) → is_certified h ready ≡ true → new ≡ old ++ all_signed (certificate h ready) ∷ []
      → b ≡ (nat_le (length l.commit) 16 && are_kept_at new x 0 l.commit) → IsTrue b ↔ (l.commit ≡ certificate h ready)
  last-is b new certified grown found =
      let both = compared certified in
      let few : nat_le (length l.commit) 16 ≡ true = le-leb (length l.commit) 16 (few-of (length h.view.members) view.few is.many) in (
        λ ok. both.0 (ap (λ (cs : List (List Signed)). are_kept_at cs x 0 l.commit) (sym grown)
            ∙ and-second (nat_le (length l.commit) 16) (are_kept_at new x 0 l.commit) (sym found ∙ ok)),
        λ same. found ∙ both-true (nat_le (length l.commit) 16) (are_kept_at new x 0 l.commit) few
            (ap (λ (cs : List (List Signed)). are_kept_at cs x 0 l.commit) grown ∙ both.1 same),
      )
    where
      few-of : {m : ℕ} (n : ℕ) → n ≤ 16 → m ≡ quorum n → m ≤ 16
      few-of n le e = omega (arith, le, e)
