-- A table's map of first claims answers as the list of them does.
use Rattle.std.proofs.Common.{◌≡◌, ℕ, List, [], ◌∷◌, ◌++◌, ◌||◌, map, Option, Some, None, Bool, true, false, refl, sym, ap, ◌∙◌, subst}
use Rattle.std.specs.Prelude.{if◌then◌else◌, ◌==◌, cond, find, fold, is_some, option_map}
use Rattle.std.specs.List.{AllByRecursion, list_any}
use Rattle.std.specs.Map.{lookup}
use Rattle.std.proofs.lemmas.List.{map-append}
use Rattle.message_defs.specs.Statements.{Claim, slot_of}
use Rattle.message_defs.specs.Spelling.{IsStatement}
use Rattle.rp_base.specs.Pids.{put_once}
use Rattle.conviction_defs.specs.Convictions.{is_conflict}
use Rattle.indexmap.specs.IndexMap.{IndexMap, insert_entry}
use Rattle.indexmap.proofs.CallerLemmas.{insert_entry-new}
use Rattle.claim_index.specs.declared.key.Key.{Key}
use Rattle.claim_index.specs.Keys.{same_key}
use Rattle.claim_index.proofs.Keyed.{same_key-of}
use Rattle.claim_firsts.specs.declared.kept.Kept.{Kept}
use Rattle.claim_firsts.specs.Tables.{key}
use Rattle.claim_firsts.specs.Seen.{is_beside}
use Rattle.claim_firsts.specs.Entries.{claim_at, kept_claim, IsEntry, IsKept}
use Rattle.claim_firsts.proofs.Convicting.{put_signers}

none-from-map : {A B : Type 0} (f : A → B) (o : Option A) → option_map f o ≡ None → o ≡ None
none-from-map f None e = refl
none-from-map f (Some a) e = absurd cc

module _ (c : Claim) where
  -- one entry
  test-is : (e : Key × Kept) → IsEntry e → same_key (key c) e.0 ≡ is_beside c (claim_at e)
  test-is e entry = ap (same_key (key c)) entry.keyed
      ∙ same_key-of c.signer (claim_at e).signer (slot_of c.statement) (slot_of (claim_at e).statement)

  -- all of them
  pub looked-up : (es : List (Key × Kept)) → AllByRecursion IsEntry es
      → option_map kept_claim (lookup (same_key (key c)) es) ≡ find (is_beside c) (map claim_at es)
  looked-up [] entries = refl
  looked-up (e ∷ es) entries =
      head (same_key (key c) e.0) (looked-up es entries.1)
      ∙ ap (λ (b : Bool). if b then Some (claim_at e) else find (is_beside c) (map claim_at es)) (test-is e entries.0)
    where
      head : (b : Bool) → option_map kept_claim (lookup (same_key (key c)) es) ≡ find (is_beside c) (map claim_at es)
          → option_map kept_claim (cond b (Some e.1) (lookup (same_key (key c)) es))
          ≡ (if b then Some (claim_at e) else find (is_beside c) (map claim_at es))
      head true rest = refl
      head false rest = rest

  -- a new entry goes last
  pub put-last : {S : Type 0} (m : IndexMap Key Kept S) (x : Kept) → AllByRecursion IsEntry m.entries
      → option_map (is_conflict c) (find (is_beside c) (map claim_at m.entries)) ≡ None
      → insert_entry same_key m.entries (key c) x ≡ m.entries ++ (key c, x) ∷ []
  put-last m x entries none = insert_entry-new same_key m (key c) x
      (none-from-map kept_claim (lookup (same_key (key c)) m.entries)
      (looked-up m.entries entries ∙ none-from-map (is_conflict c) (find (is_beside c) (map claim_at m.entries)) none))

pub all-push : {A : Type 0} (P : A → Type 0) (xs : List A) (x : A) → AllByRecursion P xs → P x → AllByRecursion P (xs ++ x ∷ [])
all-push P [] x all new = (new, tt)
all-push P (y ∷ ys) x all new = (all.0, all-push P ys x all.1 new)

-- a search among the second claims is one among those that are kept
pub any-second : (q : ℕ) (xs : List Kept)
    → list_any (λ (x : Kept). (kept_claim x).signer == q) xs ≡ is_some (find (λ (c : Claim). c.signer == q) (map kept_claim xs))
any-second q [] = refl
any-second q (x ∷ xs) = go ((kept_claim x).signer == q) (any-second q xs)
  where
    go : (b : Bool) → list_any (λ (x : Kept). (kept_claim x).signer == q) xs ≡ is_some (find (λ (c : Claim). c.signer == q) (map kept_claim xs))
        → (b || list_any (λ (x : Kept). (kept_claim x).signer == q) xs)
        ≡ is_some (if b then Some (kept_claim x) else find (λ (c : Claim). c.signer == q) (map kept_claim xs))
    go true rest = refl
    go false rest = rest

-- the signers of the second claims are those of what is kept
pub same-signers : (xs : List Kept) (found : List ℕ)
    → fold (λ found x. put_once (kept_claim x).signer found) found xs ≡ put_signers found (map kept_claim xs)
same-signers [] found = refl
same-signers (x ∷ xs) found = same-signers xs (put_once (kept_claim x).signer found)

-- a search among the second claims, by signer
pub find-second : (q : ℕ) (xs : List Kept) → option_map kept_claim (find (λ (x : Kept). (kept_claim x).signer == q) xs)
    ≡ find (λ (c : Claim). c.signer == q) (map kept_claim xs)
find-second q [] = refl
find-second q (x ∷ xs) = go ((kept_claim x).signer == q) (find-second q xs)
  where
    go : (b : Bool) → option_map kept_claim (find (λ (x : Kept). (kept_claim x).signer == q) xs)
        ≡ find (λ (c : Claim). c.signer == q) (map kept_claim xs)
        → option_map kept_claim (if b then Some x else find (λ (x : Kept). (kept_claim x).signer == q) xs)
        ≡ (if b then Some (kept_claim x) else find (λ (c : Claim). c.signer == q) (map kept_claim xs))
    go true rest = refl
    go false rest = rest

-- one claim more among the first ones
module _ {S : Type 0} (c : Claim) (es : List (Key × Kept)) (m : IndexMap Key Kept S) (k : Key) (x : Kept) (now : List (Key × Kept))
    (same : m.entries ≡ es) (keyed : k ≡ key c) (is : kept_claim x ≡ c) (put : now ≡ insert_entry same_key m.entries k x)
    (entries : AllByRecursion IsEntry es) (none : option_map (is_conflict c) (find (is_beside c) (map claim_at es)) ≡ None) where
  at-end : now ≡ es ++ (key c, x) ∷ []
  at-end =
      put ∙ ap (λ k. insert_entry same_key m.entries k x) keyed
      ∙ put-last c m x (subst (AllByRecursion IsEntry) (sym same) entries)
      (ap (λ es. option_map (is_conflict c) (find (is_beside c) (map claim_at es))) same ∙ none)
      ∙ ap (λ es. es ++ (key c, x) ∷ []) same

  pub added-entries : IsStatement c.statement → AllByRecursion IsEntry now
  added-entries range = subst (AllByRecursion IsEntry) (sym at-end) (all-push IsEntry es (key c, x) entries (record {
    range = subst (λ (c : Claim). IsStatement c.statement) (sym is) range;
    keyed = ap key (sym is);
  }))

  pub added-claims : map claim_at now ≡ map claim_at es ++ c ∷ []
  added-claims = ap (map claim_at) at-end ∙ map-append claim_at es ((key c, x) ∷ []) ∙ ap (λ c. map claim_at es ++ c ∷ []) is

-- ---- what is kept is in its ranges

the-same : {A : Type 0} (x y : A) → Some x ≡ Some y → x ≡ y
the-same x y e = cc

pub second-kept : (q : ℕ) (xs : List Kept) (x : Kept) → AllByRecursion IsKept xs → Some x ≡ find (λ (x : Kept). (kept_claim x).signer == q) xs
    → IsKept x
second-kept q [] x all e = absurd cc
second-kept q (y ∷ ys) x all e = go ((kept_claim y).signer == q) (second-kept q ys x all.1) e
  where
    go : (b : Bool) → (Some x ≡ find (λ (x : Kept). (kept_claim x).signer == q) ys → IsKept x)
        → Some x ≡ (if b then Some y else find (λ (x : Kept). (kept_claim x).signer == q) ys) → IsKept x
    go true rest e = subst IsKept (sym (the-same x y e)) all.0
    go false rest e = rest e

pub first-kept : (test : Key → Bool) (es : List (Key × Kept)) (x : Kept) → AllByRecursion IsEntry es → Some x ≡ lookup test es → IsKept x
first-kept test [] x all e = absurd cc
first-kept test (y ∷ ys) x all e = go (test y.0) (first-kept test ys x all.1) e
  where
    go : (b : Bool) → (Some x ≡ lookup test ys → IsKept x) → Some x ≡ cond b (Some y.1) (lookup test ys) → IsKept x
    go true rest e = subst IsKept (sym (the-same x y.1 e)) all.0.range
    go false rest e = rest e
