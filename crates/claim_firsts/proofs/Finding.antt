-- Searches in lists of claims, and the first claims of each signer and slot.
use Rattle.std.proofs.Common.{◌≡◌, inl, inr, List, [], ◌∷◌, ◌++◌, Option, Some, None, Bool, true, false, refl, sym, ap, ◌∙◌, subst}
use Rattle.std.specs.Prelude.{if◌then◌else◌, ◌==◌, ◌&&◌, cond, filter, find}
use Rattle.std.specs.List.{list_any}
use Rattle.std.specs.Option.{option_or}
use Rattle.std.proofs.lemmas.List.{append-nil, append_assoc}
use Rattle.std.proofs.lemmas.List.Folds.{find-append}
use Rattle.std.proofs.lemmas.Bool.{eqb-true, eq-eqb}
use Rattle.message_defs.specs.Statements.{Claim, slot_of}
use Rattle.group_defs.specs.Process.{Setting}
use Rattle.group_defs.specs.Hearing.{is_valid}
use Rattle.pool_laws.proofs.Members.{Mem, append-mem, find-is, list_any-mem, mem-append, mem-behind, mem-find, mem-list_any}
use Rattle.pool_laws.proofs.Slots.{is-same_slot, same_slot-is}
use Rattle.pool_laws.proofs.Tests.{and-first, and-second, both-true, none-some}
use Rattle.conviction_defs.specs.Convictions as defs
use Rattle.conviction_defs.specs.Convictions.{is_on_slot, claims_by, firsts_behind}
use Rattle.claim_firsts.specs.Seen.{is_beside}

-- ---- lists

-- a search that ends in nothing has no member to end in
pub none-found : {A : Type 0} (test : A → Bool) (xs : List A) (x : A) → find test xs ≡ None → Mem x xs → test x ≡ true → ⊥
none-found test xs x none m t = none-some none (mem-find test xs x m t).1

-- one of these passes where the search finds one
pub any-found : {A : Type 0} (test : A → Bool) (xs : List A) (y : A) → find test xs ≡ Some y → list_any test xs ≡ true
any-found test xs y e = let at = find-is test xs y e in mem-list_any test xs y at.0 at.1

pub any-not-found : {A : Type 0} (test : A → Bool) (xs : List A) → find test xs ≡ None → list_any test xs ≡ false
any-not-found {A} test xs none = go (list_any test xs) refl
  where
    go : (b : Bool) → list_any test xs ≡ b → b ≡ false
    go false e = refl
    go true e = let some = list_any-mem test xs e in absurd (none-found test xs some.0 none some.1 some.2)

-- a search by two tests, one of which may thin out the list before
pub find-thinned : {A : Type 0} (valid of on : A → Bool) (xs : List A)
    → find (λ x. of x && on x) (filter valid xs) ≡ find on (filter (λ x. of x && valid x) xs)
find-thinned valid of on [] = refl
find-thinned {A} valid of on (x ∷ xs) = go (valid x) (find-thinned valid of on xs)
  where
    inner : (o : Bool) → find (λ x. of x && on x) (filter valid xs) ≡ find on (filter (λ x. of x && valid x) xs)
        → (if o && on x then Some x else find (λ x. of x && on x) (filter valid xs))
        ≡ find on (cond (o && true) (x ∷ filter (λ x. of x && valid x) xs) (filter (λ x. of x && valid x) xs))
    inner true rest = ap (λ (r : Option A). if on x then Some x else r) rest
    inner false rest = rest

    outer : (o : Bool) → find (λ x. of x && on x) (filter valid xs) ≡ find on (filter (λ x. of x && valid x) xs)
        → find (λ x. of x && on x) (filter valid xs)
        ≡ find on (cond (o && false) (x ∷ filter (λ x. of x && valid x) xs) (filter (λ x. of x && valid x) xs))
    outer true rest = rest
    outer false rest = rest

    go : (v : Bool) → find (λ x. of x && on x) (filter valid xs) ≡ find on (filter (λ x. of x && valid x) xs)
        → find (λ x. of x && on x) (cond v (x ∷ filter valid xs) (filter valid xs))
        ≡ find on (cond (of x && v) (x ∷ filter (λ x. of x && valid x) xs) (filter (λ x. of x && valid x) xs))
    go true rest = inner (of x) rest
    go false rest = outer (of x) rest

-- ---- first claims

-- of one signer and on one slot
pub beside-is : (c b : Claim) → is_beside c b ≡ true → (b.signer ≡ c.signer) × (slot_of b.statement ≡ slot_of c.statement)
beside-is c b e = (
  eqb-true b.signer c.signer (and-first (b.signer == c.signer) (is_on_slot c b) e),
  same_slot-is (slot_of b.statement) (slot_of c.statement) (and-second (b.signer == c.signer) (is_on_slot c b) e),
)

pub is-beside : (c b : Claim) → b.signer ≡ c.signer → slot_of b.statement ≡ slot_of c.statement → is_beside c b ≡ true
is-beside c b signer slot = both-true (b.signer == c.signer) (is_on_slot c b) (eq-eqb b.signer c.signer signer)
    (is-same_slot (slot_of b.statement) (slot_of c.statement) slot)

-- what is beside a claim is beside those that it is beside of
pub beside-both : (c x b : Claim) → is_beside x b ≡ true → is_beside c x ≡ true → is_beside c b ≡ true
beside-both c x b one two =
    let near = beside-is x b one in
    let far = beside-is c x two in
    is-beside c b (near.0 ∙ far.0) (near.1 ∙ far.1)

-- with one claim more
abbrev pub with-one : List Claim → Claim → List Claim
with-one fs c = if list_any (is_beside c) fs then fs else fs ++ c ∷ []

pub firsts-more : (before cs : List Claim) (c : Claim) → firsts_behind before (cs ++ c ∷ []) ≡ with-one (firsts_behind before cs) c
unfolding firsts_behind
firsts-more before [] c = refl
firsts-more before (x ∷ cs) c = go (list_any (is_beside x) before) (firsts-more before cs c) (firsts-more (before ++ x ∷ []) cs c)
  where
    go : (b : Bool) → firsts_behind before (cs ++ c ∷ []) ≡ with-one (firsts_behind before cs) c
        → firsts_behind (before ++ x ∷ []) (cs ++ c ∷ []) ≡ with-one (firsts_behind (before ++ x ∷ []) cs) c
        → (if b then firsts_behind before (cs ++ c ∷ []) else firsts_behind (before ++ x ∷ []) (cs ++ c ∷ []))
        ≡ with-one (if b then firsts_behind before cs else firsts_behind (before ++ x ∷ []) cs) c
    go true one other = one
    go false one other = other

-- the first claims answer a search for a signer and a slot as all claims do
pub find-firsts : (c : Claim) (before cs : List Claim) → find (is_beside c) (firsts_behind before cs) ≡ find (is_beside c) (before ++ cs)
unfolding firsts_behind
find-firsts c before [] = ap (find (is_beside c)) (sym (append-nil before))
find-firsts c before (x ∷ cs) = go (list_any (is_beside x) before) refl (find-firsts c before cs) (find-firsts c (before ++ x ∷ []) cs)
  where
    passes : (o : Option Claim) → find (is_beside c) before ≡ o → list_any (is_beside x) before ≡ true → (t : Bool) → is_beside c x ≡ t
        → option_or o (find (is_beside c) cs) ≡ option_or o (if t then Some x else find (is_beside c) cs)
    passes (Some b) f any t e = refl
    passes None f any false e = refl
    passes None f any true e =
        let b = list_any-mem (is_beside x) before any in
        absurd (none-found (is_beside c) before b.0 f b.1 (beside-both c x b.0 b.2 e))

    go : (b : Bool) → list_any (is_beside x) before ≡ b
        → find (is_beside c) (firsts_behind before cs) ≡ find (is_beside c) (before ++ cs)
        → find (is_beside c) (firsts_behind (before ++ x ∷ []) cs) ≡ find (is_beside c) (before ++ x ∷ [] ++ cs)
        → find (is_beside c) (if b then firsts_behind before cs else firsts_behind (before ++ x ∷ []) cs)
        ≡ find (is_beside c) (before ++ x ∷ cs)
    go true any one other =
        one ∙ find-append (is_beside c) before cs ∙ passes (find (is_beside c) before) refl any (is_beside c x) refl
        ∙ sym (find-append (is_beside c) before (x ∷ cs))
    go false any one other = other ∙ ap (find (is_beside c)) (append_assoc before (x ∷ []) cs)

-- so what is found beside a claim among the first ones is the first of its signer's valid claims on its slot
pub first-is : (s : Setting) (claims : List Claim) (c : Claim)
    → find (is_beside c) (defs.firsts s claims) ≡ find (is_on_slot c) (claims_by s claims c.signer)
first-is s claims c = find-firsts c [] (filter (is_valid s) claims)
    ∙ find-thinned (is_valid s) (λ (b : Claim). b.signer == c.signer) (is_on_slot c) claims

-- the first claims are among the claims
pub first-mem : (before cs : List Claim) (z : Claim) → Mem z (firsts_behind before cs) → Mem z (before ++ cs)
unfolding firsts_behind
first-mem before [] z m = subst (Mem z) (sym (append-nil before)) m
first-mem before (x ∷ cs) z m =
    go (list_any (is_beside x) before) m (first-mem before cs z) (first-mem (before ++ x ∷ []) cs z)
  where
    go : (b : Bool) → Mem z (if b then firsts_behind before cs else firsts_behind (before ++ x ∷ []) cs)
        → (Mem z (firsts_behind before cs) → Mem z (before ++ cs))
        → (Mem z (firsts_behind (before ++ x ∷ []) cs) → Mem z ((before ++ x ∷ []) ++ cs)) → Mem z (before ++ x ∷ cs)
    go true m one other = elim (append-mem before cs z (one m)) [
      | inl here ↦ mem-append before (x ∷ cs) z here
      | inr there ↦ mem-behind before (x ∷ cs) z (inr there)
    ]
    go false m one other = subst (Mem z) (append_assoc before (x ∷ []) cs) (other m)
