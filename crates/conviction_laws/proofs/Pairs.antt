-- The first pair of claims that conflict.
use Rattle.std.proofs.Common.{◌≡◌, ◌≢◌, ◌⊎◌, inl, inr, ℕ, List, [], ◌∷◌, ◌++◌, Option, Some, None, Bool, true, false, refl, sym, ap, ◌∙◌, subst}
use Rattle.std.specs.Prelude.{if◌then◌else◌, ◌&&◌, ◌||◌, not, find, option_map}
use Rattle.std.specs.List.{list_any}
use Rattle.std.proofs.lemmas.List.{append-nil, append_assoc}
use Rattle.message_defs.specs.Statements.{Claim, slot_of, same_slot, same_statement}
use Rattle.pool_laws.proofs.Members.{Mem, append-mem, find-is, list_any-mem, mem-append, mem-behind, mem-find, mem-list_any, snoc-mem}
use Rattle.pool_laws.proofs.Slots.{is-same_slot, is-same_statement, same_slot-is, same_statement-is}
use Rattle.pool_laws.proofs.Tests.{and-first, and-second, both-true, not-both, not-false}
use Rattle.conviction_defs.specs.Convictions.{is_on_slot, is_conflict, earliest_with, pair_behind}

-- ---- lists

-- where a search ends, and what stands before that
pub record Split {A : Type 0} (test : A → Bool) (xs : List A) (y : A) : Type 0 where
  pub front : List A
  pub back : List A
  pub parts : xs ≡ front ++ y ∷ back
  pub passes : test y ≡ true
  pub before : (x : A) → Mem x front → test x ≡ false

pub find-splits : {A : Type 0} (test : A → Bool) (xs : List A) (y : A) → find test xs ≡ Some y → Split test xs y
find-splits test [] y e = absurd cc
find-splits {A} test (x ∷ xs) y e = go (test x) refl e (find-splits test xs y)
  where
    go : (b : Bool) → test x ≡ b → (if b then Some x else find test xs) ≡ Some y → (find test xs ≡ Some y → Split test xs y)
        → Split test (x ∷ xs) y
    go true t e rest =
        let is : x ≡ y = cc in
        record {
          front = [];
          back = xs;
          parts = ap (λ z. z ∷ xs) is;
          passes = subst (λ z. test z ≡ true) is t;
          before = λ z m. absurd m;
        }
    go false t e rest =
        let r = rest e in
        record {
          front = x ∷ r.front;
          back = r.back;
          parts = ap (λ zs. x ∷ zs) r.parts;
          passes = r.passes;
          before = λ z m. elim m [ inl is ↦ subst (λ z. test z ≡ false) is t | inr m' ↦ r.before z m' ];
        }

pub none-passes : {A : Type 0} (test : A → Bool) (xs : List A) → list_any test xs ≡ false → (x : A) → Mem x xs → test x ≡ false
none-passes {A} test xs e x m = go (test x) refl
  where
    go : (b : Bool) → test x ≡ b → test x ≡ false
    go false t = t
    go true t = absurd (let some = mem-list_any test xs x m t in cc)

-- ---- conflicts

-- no two of these claims conflict
abbrev pub NoneConflict : List Claim → Type 0
NoneConflict cs = (d e : Claim) → Mem d cs → Mem e cs → slot_of d.statement ≡ slot_of e.statement → d.statement ≡ e.statement

pub conflict-test : (c b : Claim) → is_conflict c b ≡ true → (slot_of b.statement ≡ slot_of c.statement) × (b.statement ≢ c.statement)
conflict-test c b e = (
  same_slot-is (slot_of b.statement) (slot_of c.statement) (and-first (is_on_slot c b) (not (same_statement b.statement c.statement)) e),
  λ is. not-both (same_statement b.statement c.statement) (is-same_statement b.statement c.statement is)
      (and-second (is_on_slot c b) (not (same_statement b.statement c.statement)) e),
)

pub test-conflict : (c b : Claim) → slot_of b.statement ≡ slot_of c.statement → b.statement ≢ c.statement → is_conflict c b ≡ true
test-conflict c b same differ = both-true (is_on_slot c b) (not (same_statement b.statement c.statement))
    (is-same_slot (slot_of b.statement) (slot_of c.statement) same)
    (never (same_statement b.statement c.statement) (λ e. differ (same_statement-is b.statement c.statement e)))
  where
    never : (t : Bool) → (t ≡ true → ⊥) → not t ≡ true
    never true nay = absurd (nay refl)
    never false nay = refl

no-conflict-test : (c b : Claim) → is_conflict c b ≡ false → slot_of b.statement ≡ slot_of c.statement → b.statement ≡ c.statement
no-conflict-test c b e same = go (same_slot (slot_of b.statement) (slot_of c.statement))
    (is-same_slot (slot_of b.statement) (slot_of c.statement) same) e
  where
    go : (on : Bool) → on ≡ true → (on && not (same_statement b.statement c.statement)) ≡ false → b.statement ≡ c.statement
    go true t e = same_statement-is b.statement c.statement (not-false (same_statement b.statement c.statement) e)
    go false t e = absurd cc

none-more : (before : List Claim) (c : Claim) → NoneConflict before → list_any (is_conflict c) before ≡ false → NoneConflict (before ++ c ∷ [])
none-more before c none e d f m n same = go (snoc-mem before c d m) (snoc-mem before c f n)
  where
    at : (x : Claim) → Mem x before → slot_of x.statement ≡ slot_of c.statement → x.statement ≡ c.statement
    at x m = no-conflict-test c x (none-passes (is_conflict c) before e x m)

    go : Mem d before ⊎ (c ≡ d) → Mem f before ⊎ (c ≡ f) → d.statement ≡ f.statement
    go (inl m) (inl n) = none d f m n same
    go (inl m) (inr is) = at d m (same ∙ sym (ap (λ (x : Claim). slot_of x.statement) is)) ∙ ap (λ (x : Claim). x.statement) is
    go (inr is) (inl n) = sym (ap (λ (x : Claim). x.statement) is) ∙
        sym (at f n (sym same ∙ sym (ap (λ (x : Claim). slot_of x.statement) is)))
    go (inr is) (inr is') = ap (λ (x : Claim). x.statement) (sym is ∙ is')

-- ---- the pair

pub record IsFirst (cs : List Claim) (pair : Claim × Claim) : Type 0 where
  pub front : List Claim
  pub between : List Claim
  pub back : List Claim
  pub parts : cs ≡ front ++ pair.0 ∷ (between ++ pair.1 ∷ back)
  pub slots : slot_of pair.0.statement ≡ slot_of pair.1.statement
  pub differ : pair.0.statement ≢ pair.1.statement
  pub earliest : (d : Claim) → Mem d front → slot_of d.statement ≢ slot_of pair.1.statement
  pub none : NoneConflict (front ++ pair.0 ∷ between)

found-first : (before : List Claim) (c : Claim) (cs : List Claim) (pair : Claim × Claim) → NoneConflict before
    → list_any (is_conflict c) before ≡ true → earliest_with before c ≡ Some pair → IsFirst (before ++ c ∷ cs) pair
found-first before c cs pair none any e = go (find (is_on_slot c) before) refl e
  where
    go : (o : Option Claim) → find (is_on_slot c) before ≡ o → option_map (λ b. (b, c)) o ≡ Some pair → IsFirst (before ++ c ∷ cs) pair
    go None f e = absurd cc
    go (Some b) f e =
        let one : b ≡ pair.0 = cc in
        let two : c ≡ pair.1 = cc in
        let at = find-splits (is_on_slot c) before b f in
        let on = same_slot-is (slot_of b.statement) (slot_of c.statement) at.passes in
        let bad = list_any-mem (is_conflict c) before any in
        let reported = conflict-test c bad.0 bad.2 in
        let b_in : Mem b before = subst (Mem b) (sym at.parts) (mem-behind at.front (b ∷ at.back) b (inl refl)) in
        let differ : b.statement ≢ c.statement = λ is. reported.1 (none bad.0 b bad.1 b_in (reported.0 ∙ sym on) ∙ is) in
        let made : IsFirst (before ++ c ∷ cs) (b, c) = record {
          front = at.front;
          between = at.back;
          back = cs;
          parts = ap (λ xs. xs ++ c ∷ cs) at.parts ∙ append_assoc at.front (b ∷ at.back) (c ∷ cs);
          slots = on;
          differ = differ;
          earliest = λ d m same. not-on d (at.before d m) same;
          none = subst NoneConflict at.parts none;
        } in
        subst (IsFirst (before ++ c ∷ cs)) (λ i. (one i, two i)) made
      where
        not-on : (d : Claim) → is_on_slot c d ≡ false → slot_of d.statement ≡ slot_of c.statement → ⊥
        not-on d e same = let yes' = is-same_slot (slot_of d.statement) (slot_of c.statement) same in cc

pub pair-some : (before cs : List Claim) (pair : Claim × Claim) → NoneConflict before → pair_behind before cs ≡ Some pair
    → IsFirst (before ++ cs) pair
unfolding pair_behind
pair-some before [] pair none e = absurd cc
pair-some before (c ∷ cs) pair none e = go (list_any (is_conflict c) before) refl e
    (λ none' e'. subst (λ xs. IsFirst xs pair) (append_assoc before (c ∷ []) cs) (pair-some (before ++ c ∷ []) cs pair none' e'))
  where
    go : (b : Bool) → list_any (is_conflict c) before ≡ b
        → (if b then earliest_with before c else pair_behind (before ++ c ∷ []) cs) ≡ Some pair
        → (NoneConflict (before ++ c ∷ []) → pair_behind (before ++ c ∷ []) cs ≡ Some pair → IsFirst (before ++ c ∷ cs) pair)
        → IsFirst (before ++ c ∷ cs) pair
    go true t e rest = found-first before c cs pair none t e
    go false t e rest = rest (none-more before c none t) e

pub pair-none : (before cs : List Claim) → NoneConflict before → pair_behind before cs ≡ None → NoneConflict (before ++ cs)
unfolding pair_behind
pair-none before [] none e = subst NoneConflict (sym (append-nil before)) none
pair-none before (c ∷ cs) none e = go (list_any (is_conflict c) before) refl e
    (λ none' e'. subst NoneConflict (append_assoc before (c ∷ []) cs) (pair-none (before ++ c ∷ []) cs none' e'))
  where
    go : (b : Bool) → list_any (is_conflict c) before ≡ b
        → (if b then earliest_with before c else pair_behind (before ++ c ∷ []) cs) ≡ None
        → (NoneConflict (before ++ c ∷ []) → pair_behind (before ++ c ∷ []) cs ≡ None → NoneConflict (before ++ c ∷ cs))
        → NoneConflict (before ++ c ∷ cs)
    go true t e rest =
        let bad = list_any-mem (is_conflict c) before t in
        let on = mem-find (is_on_slot c) before bad.0 bad.1
        (and-first (is_on_slot c bad.0) (not (same_statement bad.0.statement c.statement)) bad.2) in
        absurd (clash (find (is_on_slot c) before) on.0 on.1 e)
      where
        clash : (o : Option Claim) (b : Claim) → o ≡ Some b → option_map {U = Claim × Claim} (λ b. (b, c)) o ≡ None → ⊥
        clash None b f e = cc
        clash (Some x) b f e = cc
    go false t e rest = rest (none-more before c none t) e
