-- The claims of a commit certificate, heard alone, certify their Ready, and are its certificate.
use Rattle.std.proofs.Common.{◌≡◌, ◌≢◌, ℕ, ◌+◌, ◌<◌, ◌≤◌, List, [], ◌∷◌, ◌++◌, length, map, take, Bool, true, false, Option, Some, None, refl, sym, ap, ◌∙◌, subst, inl, inr, arith}
use Rattle.std.specs.Prelude.{◌==◌, ◌&&◌, if◌then◌else◌, is_some, option_map, filter, filter_map, IsTrue, nat_le, All}
use Rattle.std.specs.List.{cons_option}
use Rattle.std.proofs.lemmas.Bool.{eqb-true, eq-eqb, le-leb}
use Rattle.std.proofs.lemmas.List.{length-map, append-nil, append_assoc}
use Rattle.byte_defs.specs.Choices.{is_some_and}
use Rattle.byte_defs.specs.Orders.{numbers_below, put, sorted}
use Rattle.message_defs.specs.Statements.{Statement, Ready, Claim, Slot, slot_of, same_slot, same_statement}
use Rattle.group_defs.specs.Views.{View, IsView, is_member, quorum}
use Rattle.group_defs.specs.Process.{Setting, Pool}
use Rattle.group_defs.specs.Hearing.{is_valid}
use Rattle.group_defs.specs.Certified.{claim_on, heard_on, says, backers, is_certified, certificate, number_of_members}
use Rattle.image_defs.specs.Images.{LeftView}
use Rattle.image_defs.specs.Kept.{IsLeft}
use Rattle.pool_laws.proofs.Members.{Mem, All-mem, mem-map, map-mem, mem-filter, filter-mem, find-is, mem-find, list_any-mem, put-mem, snoc-mem}
use Rattle.pool_laws.proofs.Sorting.{by_number, mem-sorted, length-sorted}
use Rattle.pool_laws.proofs.Slots.{is-same_slot, is-same_statement}
use Rattle.pool_laws.proofs.Tests.{and-first, both-true}
use Rattle.image_laws.proofs.Certificates.{claim-of, said}
use Rattle.image_laws.proofs.Rising.{Up, sorted-up, filter-apart, distinct-apart}
use Rattle.image_parts.specs.Heard.{with_own}
use Rattle.restored_past.specs.Hearing.{with_all}
use Rattle.restored_past.proofs.Rising.{rises-up, same-up, take-whole}

-- ---- heard one after the other

-- who has said nothing has said nothing on this slot
none-on : (xs : List Claim) (q : ℕ) (slot : Slot) → ((x : Claim) → Mem x xs → x.signer ≢ q) → claim_on xs q slot ≡ None
none-on [] q slot none = refl
none-on (x ∷ xs) q slot none = go (x.signer == q) refl (none-on xs q slot (λ y m. none y (inr m)))
  where
    go : (b : Bool) → (x.signer == q) ≡ b → claim_on xs q slot ≡ None
        → (if b && same_slot (slot_of x.statement) slot then Some x else claim_on xs q slot) ≡ None
    go true is rest = absurd (none x (inl refl) (eqb-true x.signer q is))
    go false is rest = rest

heard-more : (v : View) (xs cs : List Claim) → Up (map (λ (c : Claim). c.signer) cs)
    → ((x c : Claim) → Mem x xs → Mem c cs → x.signer < c.signer)
    → with_all (record { view = v; heard = xs }) cs ≡ record { view = v; heard = xs ++ cs }
heard-more v xs [] up below = λ i. record { view = v; heard = sym (append-nil xs) i }
heard-more v xs (c ∷ cs) up below =
    ap (λ (o : Option Statement). with_all (if is_some o then record { view = v; heard = xs } else record { view = v; heard = xs ++ c ∷ [] }) cs)
    (ap (option_map (λ (d : Claim). d.statement)) (none-on xs c.signer (slot_of c.statement)
    (λ x m is. (let lt = below x c m (inl refl) in absurd (omega (arith, lt, is))))))
    ∙ heard-more v (xs ++ c ∷ []) cs up.1 (λ x d m n. elim (snoc-mem xs c x m) [
      | inl before ↦ below x d before (inr n)
      | inr is ↦ subst (λ (y : Claim). y.signer < d.signer) is (up.0 d.signer (mem-map (λ (c : Claim). c.signer) cs d n))
    ])
    ∙ (λ i. record { view = v; heard = append_assoc xs (c ∷ []) cs i })

pub all-heard : (v : View) (cs : List Claim) → Up (map (λ (c : Claim). c.signer) cs)
    → with_all (record { view = v; heard = [] }) cs ≡ record { view = v; heard = cs }
all-heard v cs up = heard-more v [] cs up (λ x c m n. absurd m)

-- ---- what they certify

module _ (v : View) (view : IsView v) (st : Statement) (cs : List Claim) (up : Up (map (λ (c : Claim). c.signer) cs))
    (each : (c : Claim) → Mem c cs → (is_member v c.signer ≡ true) × (c.statement ≡ st)) where
  abbrev h : Pool
  h = record { view = v; heard = cs }

  abbrev ms : List ℕ
  ms = map (λ (c : Claim). c.signer) cs

  -- each is the first of its signer
  found-in : (ds : List Claim) → Up (map (λ (c : Claim). c.signer) ds) → ((d : Claim) → Mem d ds → d.statement ≡ st)
      → (c : Claim) → Mem c ds → claim_on ds c.signer (slot_of st) ≡ Some c
  found-in [] up says c m = absurd m
  found-in (d ∷ ds) up says c (inl is) =
      ap (λ (b : Bool). if b then Some d else claim_on ds c.signer (slot_of st))
      (both-true (d.signer == c.signer) (same_slot (slot_of d.statement) (slot_of st)) (eq-eqb d.signer c.signer (ap (λ (x : Claim). x.signer) is))
      (is-same_slot (slot_of d.statement) (slot_of st) (ap slot_of (says d (inl refl))))) ∙ ap Some is
  found-in (d ∷ ds) up says c (inr m) =
      go (d.signer == c.signer) refl (found-in ds up.1 (λ e n. says e (inr n)) c m)
    where
      go : (b : Bool) → (d.signer == c.signer) ≡ b → claim_on ds c.signer (slot_of st) ≡ Some c
          → (if b && same_slot (slot_of d.statement) (slot_of st) then Some d else claim_on ds c.signer (slot_of st)) ≡ Some c
      go true is rest =
          let lt = up.0 c.signer (mem-map (λ (c : Claim). c.signer) ds c m) in
          let same = eqb-true d.signer c.signer is in
          absurd (omega (arith, lt, same))
      go false is rest = rest

  found : (c : Claim) → Mem c cs → claim-of h st c.signer ≡ Some c
  found c m = found-in cs up (λ d n. (each d n).1) c m

  says-so : (c : Claim) → Mem c cs → says h st c.signer ≡ true
  says-so c m = ap (λ (o : Option Claim). is_some_and (option_map (λ (c : Claim). c.statement) o) (same_statement st)) (found c m)
      ∙ is-same_statement st c.statement (sym (each c m).1)

  -- the backers are the signers
  backed : (z : ℕ) → Mem z ms → Mem z (backers h st)
  backed z m =
      let c = map-mem (λ (c : Claim). c.signer) cs z m in
      let member = list_any-mem (λ q. q == c.0.signer) v.members (each c.0 c.1).0 in
      let there : Mem c.0.signer v.members = subst (λ q. Mem q v.members) (eqb-true member.0 c.0.signer member.2) member.1 in
      subst (λ q. Mem q (backers h st)) c.2 (mem-filter (says h st) v.members c.0.signer there (says-so c.0 c.1))

  backs : (z : ℕ) → Mem z (backers h st) → Mem z ms
  backs z m =
      let is = said h st z (filter-mem (says h st) v.members z m).1 in
      let at = find-is (λ (c : Claim). (c.signer == z) && same_slot (slot_of c.statement) (slot_of st)) cs is.0 is.1 in
      subst (λ q. Mem q ms) (eqb-true is.0.signer z (and-first (is.0.signer == z) (same_slot (slot_of is.0.statement) (slot_of st)) at.1))
      (mem-map (λ (c : Claim). c.signer) cs is.0 at.0)

  put-there : (x : ℕ) (xs : List ℕ) → Mem x (put by_number x xs)
  put-there x [] = inl refl
  put-there x (y ∷ ys) = go (numbers_below (by_number x) (by_number y)) (put-there x ys)
    where
      go : (b : Bool) → Mem x (put by_number x ys) → Mem x (if b then x ∷ y ∷ ys else y ∷ put by_number x ys)
      go true rest = inl refl
      go false rest = inr rest

  -- what is in a list is in it when it is sorted
  sorted-mem : (xs : List ℕ) (y : ℕ) → Mem y xs → Mem y (sorted by_number xs)
  sorted-mem [] y m = absurd m
  sorted-mem (x ∷ xs) y (inl is) = subst (λ z. Mem z (sorted by_number (x ∷ xs))) is (put-there x (sorted by_number xs))
  sorted-mem (x ∷ xs) y (inr m) = put-mem by_number x (sorted by_number xs) y (sorted-mem xs y m)

  pub in-order : sorted by_number (backers h st) ≡ ms
  in-order = same-up (sorted by_number (backers h st)) ms
      (sorted-up (backers h st) (filter-apart (says h st) v.members (distinct-apart v.members view.distinct))) up
      (λ z m. backs z (mem-sorted by_number (backers h st) z m)) (λ z m. sorted-mem (backers h st) z (backed z m))

  claims-are : (ds : List Claim) → ((d : Claim) → Mem d ds → Mem d cs)
      → filter_map (claim-of h st) (map (λ (c : Claim). c.signer) ds) ≡ ds
  claims-are [] within = refl
  claims-are (d ∷ ds) within =
      ap (λ (o : Option Claim). cons_option o (filter_map (claim-of h st) (map (λ (c : Claim). c.signer) ds))) (found d (within d (inl refl)))
      ∙ ap (λ xs. d ∷ xs) (claims-are ds (λ e m. within e (inr m)))

  module _ (many : length cs ≡ quorum (length v.members)) where
    how-many : length (backers h st) ≡ quorum (length v.members)
    how-many = sym (length-sorted by_number (backers h st)) ∙ ap (λ (xs : List ℕ). length xs) in-order
        ∙ length-map cs (λ (c : Claim). c.signer) ∙ many

    pub certified-so : is_certified h st ≡ true
    certified-so = le-leb (quorum (length v.members)) (length (backers h st)) (let e = how-many in omega (arith, e))

    pub certificate-so : certificate h st ≡ cs
    certificate-so =
        ap (λ (b : Bool). if b then filter_map (claim-of h st) (take (quorum (number_of_members h)) (sorted by_number (backers h st))) else []) certified-so
        ∙ ap (λ (xs : List ℕ). filter_map (claim-of h st) (take (quorum (number_of_members h)) xs)) in-order
        ∙ ap (filter_map (claim-of h st)) (take-whole (quorum (number_of_members h)) ms (length-map cs (λ (c : Claim). c.signer) ∙ many))
        ∙ claims-are cs (λ d m. m)

-- ---- of a view that was left so

module _ (s : Setting) (v : View) (view : IsView v) (l : LeftView) (is : IsLeft s v l) where
  abbrev ready : Statement
  ready = Ready v.number l.rank l.value

  rises : Up (map (λ (c : Claim). c.signer) l.commit)
  rises = rises-up (map (λ (c : Claim). c.signer) l.commit) is.rising

  each-says : (c : Claim) → Mem c l.commit → (is_member v c.signer ≡ true) × (c.statement ≡ ready)
  each-says c m =
      let so = All-mem (λ (c : Claim). IsTrue (is_member v c.signer) × (c.statement ≡ ready) × IsTrue (is_valid s c)) l.commit c is.each m in
      (so.0, so.1)

  pub heard-left : (h : Pool) → h.view ≡ v → h.heard ≡ [] → with_all h l.commit ≡ record { view = v; heard = l.commit }
  heard-left h at none = (λ i. with_all (record { view = at i; heard = none i }) l.commit) ∙ all-heard v l.commit rises

  pub certified-left : is_certified (record { view = v; heard = l.commit }) ready ≡ true
  certified-left = certified-so v view ready l.commit rises each-says is.many

  pub certificate-left : certificate (record { view = v; heard = l.commit }) ready ≡ l.commit
  certificate-left = certificate-so v view ready l.commit rises each-says is.many
