-- Own words, and whether each slot of a process has one.
use Rattle.std.proofs.Common.{◌≡◌, ℕ, List, [], ◌∷◌, ◌++◌, map, length, take, Option, Some, None, Bool, true, false, refl, sym, ap, ◌∙◌, subst}
use Rattle.std.specs.Prelude.{if◌then◌else◌, ◌==◌, ◌||◌, ◌&&◌, not, filter, find, Contains, IsTrue, ◌↔◌}
use Rattle.std.specs.List.{list_any, list_all, AllByRecursion}
use Rattle.std.specs.Map.{keys_of}
use Rattle.std.proofs.lemmas.Bool.{eqb-true, eq-eqb}
use Rattle.message_defs.specs.Statements.{Claim, slot_of}
use Rattle.group_defs.specs.Process.{Setting}
use Rattle.group_defs.specs.Hearing.{is_valid}
use Rattle.pool_laws.proofs.Members.{Mem, Contains-mem, mem-Contains, find-is, filter-mem, mem-filter, map-mem, mem-map, list_any-mem, mem-list_any, list_all-mem, each-list_all, mem-find}
use Rattle.pool_laws.proofs.Tests.{and-first, and-second, both-true, implied, implies}
use Rattle.conviction_defs.specs.Convictions.{Convicts}
use Rattle.conviction_laws.proofs.Convicted.{by-convicts, convicts-by}
use Rattle.indexmap.specs.IndexSet.{insert_key}
use Rattle.claim_index.specs.declared.key.Key.{Key}
use Rattle.claim_index.specs.Keys.{same_key}
use Rattle.claim_index.proofs.Keyed.{same_key-of, same_key-is}
use Rattle.claim_firsts.specs.declared.kept.Kept.{Kept}
use Rattle.claim_firsts.specs.Tables.{Table, key}
use Rattle.claim_firsts.specs.Seen.{Saw, IsAnswered, is_beside}
use Rattle.claim_firsts.specs.Seeing.{answering, contradicted, forgetting, has_second, seeing, seeing_by, with_second}
use Rattle.claim_firsts.specs.Answered.{is_answered, is_listed}
use Rattle.claim_firsts.specs.Entries.{claim_at, kept_claim, IsEntry}
use Rattle.claim_firsts.proofs.Finding.{beside-is, first-mem, is-beside, find-firsts}
use Rattle.claim_firsts.proofs.Seeing.{saw-more}
use Rattle.claim_firsts.proofs.Convicting.{has-second}

-- ---- one own word more

or-none : (b : Bool) → b ≡ (b || false)
or-none true = refl
or-none false = refl

any-last : {A : Type 0} (test : A → Bool) (xs : List A) (y : A) → list_any test (xs ++ y ∷ []) ≡ (list_any test xs || test y)
any-last test [] y = sym (or-none (test y))
any-last test (x ∷ xs) y = go (test x) (any-last test xs y)
  where
    go : (b : Bool) → list_any test (xs ++ y ∷ []) ≡ (list_any test xs || test y)
        → (b || list_any test (xs ++ y ∷ [])) ≡ ((b || list_any test xs) || test y)
    go true rest = refl
    go false rest = rest

-- a key that is put among these is among them
key-more : (k l : Key) (ks : List Key) → list_any (same_key l) (insert_key same_key ks k) ≡ (list_any (same_key l) ks || same_key l k)
key-more k l ks = go (list_any (same_key k) ks) refl (same_key l k) refl
  where
    go : (b : Bool) → list_any (same_key k) ks ≡ b → (t : Bool) → same_key l k ≡ t
        → list_any (same_key l) (if b then ks else ks ++ k ∷ []) ≡ (list_any (same_key l) ks || t)
    go false e t is = any-last (same_key l) ks k ∙ ap (λ t. list_any (same_key l) ks || t) is
    go true e false is = or-none (list_any (same_key l) ks)
    go true e true is =
        let there : list_any (same_key l) ks ≡ true = ap (λ (l : Key). list_any (same_key l) ks) (same_key-is l k is) ∙ e in
        there ∙ sym (ap (λ b. b || true) there)

-- a slot that is answered changes nothing of what the claim does
answers-first : (t : Table) (k : Key) (c : Claim) (o : Option Bool) → seeing_by (answering t k) c o ≡ answering (seeing_by t c o) k
answers-first t k c None = refl
answers-first t k c (Some false) = refl
answers-first t k c (Some true) = go (has_second t c.signer)
  where
    go : (b : Bool) → (if b then answering t k else with_second (answering t k) c) ≡ answering (if b then t else with_second t c) k
    go true = refl
    go false = refl

pub saw-own : (s : Setting) (claims own : List Claim) (t : Table) → Saw s claims own t → (c : Claim) → is_valid s c ≡ true
    → Saw s (claims ++ c ∷ []) (own ++ c ∷ []) (seeing (answering t (key c)) c)
saw-own s claims own t saw c valid =
    let more = saw-more s claims own t saw c valid in
    subst (Saw s (claims ++ c ∷ []) (own ++ c ∷ [])) (sym (answers-first t (key c) c (contradicted t c))) (record {
      firsts = more.firsts;
      seconds = more.seconds;
      answered = λ d. key-more (key c) (key d) (seeing t c).answered
          ∙ ap (λ b. b || same_key (key d) (key c)) (more.answered d)
          ∙ ap (λ b. list_any (is_beside d) own || b) (same_key-of d.signer c.signer (slot_of d.statement) (slot_of c.statement))
          ∙ sym (any-last (is_beside d) own c);
    })

abbrev forgetting-to : Table → List Key → Table
forgetting-to t ks = record { firsts = t.firsts; seconds = t.seconds; answered = ks }

-- what is forgotten again
take-front : {A : Type 0} (xs ys : List A) → take (length xs) (xs ++ ys) ≡ xs
take-front [] ys = refl
take-front (x ∷ xs) ys = ap (λ zs. x ∷ zs) (take-front xs ys)

take-whole : {A : Type 0} (xs : List A) → take (length xs) xs ≡ xs
take-whole [] = refl
take-whole (x ∷ xs) = ap (λ zs. x ∷ zs) (take-whole xs)

pub forgotten : (t : Table) (k : Key) (n : ℕ) → n ≡ length t.answered → forgetting (answering t k) n ≡ t
forgotten t k n is = ap (λ ks. forgetting-to t ks) (ap (λ n. take n (insert_key same_key t.answered k)) is ∙ go (list_any (same_key k) t.answered))
  where
    go : (b : Bool) → take (length t.answered) (if b then t.answered else t.answered ++ k ∷ []) ≡ t.answered
    go true = take-whole t.answered
    go false = take-front t.answered (k ∷ [])

-- ---- all slots that are answered

listed-is : (listed : List ℕ) (p : ℕ) → Contains listed p → is_listed listed p ≡ true
listed-is listed p there = mem-list_any (λ q. q == p) listed p (Contains-mem listed p there) (eq-eqb p p refl)

is-listed : (listed : List ℕ) (p : ℕ) → is_listed listed p ≡ true → Contains listed p
is-listed listed p e =
    let at = list_any-mem (λ q. q == p) listed e in
    subst (Contains listed) (eqb-true at.0 p at.2) (mem-Contains listed at.0 at.1)

clash : {b : Bool} → b ≡ true → b ≡ false → ⊥
clash e f = cc

module _ (s : Setting) (claims own : List Claim) (t : Table) (saw : Saw s claims own t) (listed : List ℕ) where
  abbrev any_second : Bool
  any_second = list_any (λ (c : Claim). is_listed listed c.signer) t.seconds

  abbrev all_answered : Bool
  all_answered = list_all (is_answered listed t.answered) (map key t.firsts)

  -- who has a second claim is convicted, and the other way round
  second-of : (q : ℕ) → Convicts s claims q → (d : Claim) × Mem d t.seconds × (d.signer ≡ q)
  second-of q convicts =
      let at = list_any-mem (λ (c : Claim). c.signer == q) t.seconds
      (has-second s claims own t saw q ∙ by-convicts s claims q convicts) in
      (at.0, at.1, eqb-true at.0.signer q at.2)

  convicts-of : (d : Claim) → Mem d t.seconds → Convicts s claims d.signer
  convicts-of d m = convicts-by s claims d.signer (sym (has-second s claims own t saw d.signer)
      ∙ mem-list_any (λ (c : Claim). c.signer == d.signer) t.seconds d m (eq-eqb d.signer d.signer refl))

  -- the first claim beside a valid one
  first-of : (c : Claim) → Mem c claims → is_valid s c ≡ true → (z : Claim) × Mem z t.firsts × (is_beside c z ≡ true)
  first-of c m valid =
      let at = mem-find (is_beside c) (filter (is_valid s) claims) c (mem-filter (is_valid s) claims c m valid) (is-beside c c refl refl) in
      let found = find-is (is_beside c) t.firsts at.0
      (ap (find (is_beside c)) saw.firsts ∙ find-firsts c [] (filter (is_valid s) claims) ∙ at.1) in
      (at.0, found.0, found.1)

  reported : any_second ≡ false → all_answered ≡ true → IsAnswered s claims own listed
  reported none all = record {
    spared = λ q there convicts.
        let d = second-of q convicts in
        clash (mem-list_any (λ (c : Claim). is_listed listed c.signer) t.seconds d.0 d.1
        (ap (is_listed listed) d.2 ∙ listed-is listed q there)) none;
    said = λ c there valid its.
        let z = first-of c (Contains-mem claims c there) valid in
        let near = beside-is c z.0 z.2 in
        let slot = list_all-mem (is_answered listed t.answered) (map key t.firsts) (key z.0) all (mem-map key t.firsts z.0 z.1) in
        let answered = implied (is_listed listed z.0.signer) (list_any (same_key (key z.0)) t.answered) slot
        (ap (is_listed listed) near.0 ∙ listed-is listed c.signer its) in
        let d = list_any-mem (is_beside z.0) own (sym (saw.answered z.0) ∙ answered) in
        let far = beside-is z.0 d.0 d.2 in
        (d.0, mem-Contains own d.0 d.1, far.0 ∙ near.0, far.1 ∙ near.1);
  }

  no-second : IsAnswered s claims own listed → any_second ≡ false
  no-second is = go any_second refl
    where
      go : (b : Bool) → any_second ≡ b → b ≡ false
      go false e = refl
      go true e =
          let d = list_any-mem (λ (c : Claim). is_listed listed c.signer) t.seconds e in
          absurd (is.spared d.0.signer (is-listed listed d.0.signer d.2) (convicts-of d.0 d.1))

  answers : IsAnswered s claims own listed → all_answered ≡ true
  answers is = each-list_all (is_answered listed t.answered) (map key t.firsts) (λ k m.
      let z = map-mem key t.firsts k m in
      subst (λ k. is_answered listed t.answered k ≡ true) z.2
      (implies (is_listed listed z.0.signer) (list_any (same_key (key z.0)) t.answered) (slot z.0 z.1)))
    where
      slot : (z : Claim) → Mem z t.firsts → is_listed listed z.signer ≡ true → list_any (same_key (key z)) t.answered ≡ true
      slot z m its =
          let valid = filter-mem (is_valid s) claims z (first-mem [] (filter (is_valid s) claims) z (subst (Mem z) saw.firsts m)) in
          let d = is.said z (mem-Contains claims z valid.0) valid.1 (is-listed listed z.signer its) in
          saw.answered z ∙ mem-list_any (is_beside z) own d.0 (Contains-mem own d.0 d.1) (is-beside z d.0 d.2 d.3)

  no-is-false : (b : Bool) → not b ≡ true → b ≡ false
  no-is-false false e = refl
  no-is-false true e = absurd cc

  pub is-answered : IsTrue (not any_second && all_answered) ↔ IsAnswered s claims own listed
  is-answered = (
    λ e. reported (no-is-false any_second (and-first (not any_second) all_answered e)) (and-second (not any_second) all_answered e),
    λ is. both-true (not any_second) all_answered (ap not (no-second is)) (answers is),
  )

-- asked one after the other
pub asked-both : (any all : Bool) → any ≡ false → all ≡ (not any && all)
asked-both any all e = sym (ap (λ b. not b && all) e)

pub asked-one : (any all : Bool) → any ≡ true → not any ≡ (not any && all)
asked-one any all e = ap not e ∙ sym (ap (λ b. not b && all) e)

-- ---- as they are kept

pub keys-are : (es : List (Key × Kept)) → AllByRecursion IsEntry es → keys_of es ≡ map key (map claim_at es)
keys-are [] entries = refl
keys-are (e ∷ es) entries = λ i. entries.0.keyed i ∷ keys-are es entries.1 i

pub any-kept : (test : Claim → Bool) (xs : List Kept) → list_any (λ (x : Kept). test (kept_claim x)) xs ≡ list_any test (map kept_claim xs)
any-kept test [] = refl
any-kept test (x ∷ xs) = ap (λ b. test (kept_claim x) || b) (any-kept test xs)
