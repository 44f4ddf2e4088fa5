-- Parts of the hosted processes, one of each.
use Rattle.std.proofs.Common.{◌≡◌, ℕ, ◌+◌, ◌≤◌, ◌==◌, Bool, true, false, List, [], ◌∷◌, map, Option, None, Some, inl, inr, refl, sym, ap, subst, ◌∙◌, arith}
use Rattle.std.specs.Prelude.{find, if◌then◌else◌, IsTrue}
use Rattle.std.proofs.lemmas.Bool.{eq-eqb, eqb-true, ne_eqb}
use Rattle.byte_defs.specs.Members.{has}
use Rattle.signature_defs.specs.Schemes.{Scheme}
use Rattle.kit_defs.specs.Kits.{AreHosts, Host}
use Rattle.pool_laws.proofs.Members.{Mem, list_any-mem, map-mem, mem-list_any, mem-map, mem-find, find-is}
use Rattle.snapshot_lines.specs.Said.{Part, part_of}

-- the first of them is found
find-first : (test : Part → Bool) (x : Part) (xs : List Part) → test x ≡ true → find test (x ∷ xs) ≡ Some x
find-first test x xs e = ap (λ b. if b then Some x else find test xs) e

find-later : (test : Part → Bool) (x : Part) (xs : List Part) → test x ≡ false → find test (x ∷ xs) ≡ find test xs
find-later test x xs e = ap (λ b. if b then Some x else find test xs) e

-- their numbers are no less than the least
at-least : (scheme : Scheme) (keys : List (ℕ × List ℕ)) (least : ℕ) (hosts : List Host) (parts : List Part) → AreHosts scheme keys least hosts
    → map (λ (x : Part). x.0) parts ≡ map (λ (h : Host). h.process) hosts → (part : Part) → Mem part parts → least ≤ part.0
at-least scheme keys least hosts [] are same part m = absurd m
at-least scheme keys least [] (x ∷ parts) are same part m = absurd cc
at-least scheme keys least (h ∷ hosts) (x ∷ parts) are same part (inl is) =
    let first : x.0 ≡ h.process = head-same x.0 h.process _ _ same in
    subst (λ (y : Part). least ≤ y.0) is (let low = are.0 in omega (arith, first, low))
  where
    head-same : (a b : ℕ) (xs ys : List ℕ) → a ∷ xs ≡ b ∷ ys → a ≡ b
    head-same a b xs ys e = cc
at-least scheme keys least (h ∷ hosts) (x ∷ parts) are same part (inr m) =
    let later = at-least scheme keys (h.process + 1) hosts parts are.2 (tail-same x.0 h.process _ _ same) part m in
    let low = are.0 in
    omega (arith, later, low)
  where
    tail-same : (a b : ℕ) (xs ys : List ℕ) → a ∷ xs ≡ b ∷ ys → xs ≡ ys
    tail-same a b xs ys e = cc

-- each is found by its number
pub found-self : (scheme : Scheme) (keys : List (ℕ × List ℕ)) (least : ℕ) (hosts : List Host) (parts : List Part)
    → AreHosts scheme keys least hosts → map (λ (x : Part). x.0) parts ≡ map (λ (h : Host). h.process) hosts
    → (part : Part) → Mem part parts → part_of parts part.0 ≡ Some part
found-self scheme keys least hosts [] are same part m = absurd m
found-self scheme keys least [] (x ∷ parts) are same part m = absurd cc
found-self scheme keys least (h ∷ hosts) (x ∷ parts) are same part (inl is) =
    subst (λ (y : Part). part_of (x ∷ parts) y.0 ≡ Some y) is (find-first (λ y. y.0 == x.0) x parts (eq-eqb x.0 x.0 refl))
found-self scheme keys least (h ∷ hosts) (x ∷ parts) are same part (inr m) =
    let others : map (λ (x : Part). x.0) parts ≡ map (λ (h : Host). h.process) hosts = tail-same x.0 h.process _ _ same in
    let first : x.0 ≡ h.process = head-same x.0 h.process _ _ same in
    let above = at-least scheme keys (h.process + 1) hosts parts are.2 others part m in
    find-later (λ y. y.0 == part.0) x parts (ne_eqb x.0 part.0 (λ e. omega (arith, e, above, first)))
    ∙ found-self scheme keys (h.process + 1) hosts parts are.2 others part m
  where
    head-same : (a b : ℕ) (xs ys : List ℕ) → a ∷ xs ≡ b ∷ ys → a ≡ b
    head-same a b xs ys e = cc

    tail-same : (a b : ℕ) (xs ys : List ℕ) → a ∷ xs ≡ b ∷ ys → xs ≡ ys
    tail-same a b xs ys e = cc

-- a hosted process has a part
pub has-part : (parts : List Part) (ps : List ℕ) (p : ℕ) → map (λ (x : Part). x.0) parts ≡ ps → IsTrue (has ps p)
    → (part : Part) × (part_of parts p ≡ Some part) × Mem part parts × (part.0 ≡ p)
has-part parts ps p numbers hosted =
    let q = list_any-mem (λ q. q == p) ps hosted in
    let is : q.0 ≡ p = eqb-true q.0 p q.2 in
    let there : Mem q.0 (map (λ (x : Part). x.0) parts) = subst (λ ns. Mem q.0 ns) (sym numbers) q.1 in
    let one = map-mem (λ (x : Part). x.0) parts q.0 there in
    let found = mem-find (λ (x : Part). x.0 == p) parts one.0 one.1 (eq-eqb one.0.0 p (one.2 ∙ is)) in
    let of = find-is (λ (x : Part). x.0 == p) parts found.0 found.1 in
    (found.0, found.1, of.0, eqb-true found.0.0 p of.1)

-- the process of a part is hosted
pub part-hosted : (parts : List Part) (ps : List ℕ) → map (λ (x : Part). x.0) parts ≡ ps → (part : Part) → Mem part parts → IsTrue (has ps part.0)
part-hosted parts ps numbers part m =
    mem-list_any (λ q. q == part.0) ps part.0 (subst (λ ns. Mem part.0 ns) numbers (mem-map (λ (x : Part). x.0) parts part m)) (eq-eqb part.0 part.0 refl)

-- a process that isn't hosted has none
pub no-part : (parts : List Part) (ps : List ℕ) (p : ℕ) → map (λ (x : Part). x.0) parts ≡ ps → has ps p ≡ false → part_of parts p ≡ None
no-part parts ps p numbers not = go (part_of parts p) refl
  where
    clash : {b : Bool} → b ≡ true → b ≡ false → ⊥
    clash e f = cc

    go : (o : Option Part) → part_of parts p ≡ o → part_of parts p ≡ None
    go None is = is
    go (Some part) is =
        let of = find-is (λ (x : Part). x.0 == p) parts part is in
        absurd (clash (subst (λ q. IsTrue (has ps q)) (eqb-true part.0 p of.1) (part-hosted parts ps numbers part of.0)) not)
