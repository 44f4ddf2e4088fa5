-- What a map's calls do to its pairs is what the definitions do to a store.
use Rattle.std.proofs.Common.{◌≡◌, ℕ, suc, length, List, [], ◌∷◌, map, Option, Some, None, Bool, true, false, refl, sym, ap, ◌∙◌, subst, Ordering, Less, Equal, Greater, Vec}
use Rattle.std.specs.Prelude.{if◌then◌else◌, not, cond, option_map, is_some}
use Rattle.std.specs.declared.alloc.Global.{Global}
use Rattle.std.specs.Ordering.{is_eq, is_lt, nat_cmp, match_ordering}
use Rattle.std.specs.Cmp.Lexicographic.{slice_cmp}
use Rattle.std.specs.BTreeMap.{insert_entry, is_at}
use Rattle.std.specs.Map.{lookup, set_value, remove_entry}
use Rattle.std.proofs.lemmas.Map.Text.{is_eq-slice_cmp}
use Rattle.byte_defs.specs.Equality.{same_bytes}
use Rattle.byte_defs.specs.Orders.{numbers_below}
use Rattle.store_defs.specs.Stores.{Pair, Store, is_of_key, value_of, with_pair, without, AreRising}
use Rattle.store_laws.proofs.Maps.{same-is, is-same, other-than, first}
use Rattle.store_laws.proofs.Orders.{below-below, not-below-itself}
use Rattle.store_laws.proofs.Tests.{false-true}
use Rattle.kv_service.specs.Pairs.{pair_of}
use Rattle.store_records.proofs.Orders.{below-slice_cmp}

abbrev pub Bytes : Type 0
Bytes = Vec ℕ Global

abbrev pub Entries : Type 0
Entries = List (Bytes × Bytes)

-- how a query compares to a stored key
abbrev pub compare : List ℕ → Bytes → Ordering
compare key k = slice_cmp nat_cmp key k.items

-- the pairs of these entries
abbrev pub pairs : Entries → Store
pairs es = map pair_of es

pub length-pairs : (es : Entries) → length (pairs es) ≡ length es
length-pairs [] = refl
length-pairs (e ∷ es) = ap suc (length-pairs es)

-- what an order says of a key and another
abbrev Ordered : Ordering → List ℕ → List ℕ → Type 0
Ordered Less key k = numbers_below key k ≡ true
Ordered Equal key k = (numbers_below key k ≡ false) × (same_bytes k key ≡ true)
Ordered Greater key k = (numbers_below key k ≡ false) × (same_bytes k key ≡ false)

turned : (a b : List ℕ) (t : Bool) → same_bytes a b ≡ t → same_bytes b a ≡ t
turned a b true e = is-same b a (sym (same-is a b e))
turned a b false e = other-than b a (λ is. false-true e (is-same a b (sym is)))

pub at-key : (key k : List ℕ) → is_eq (slice_cmp nat_cmp key k) ≡ same_bytes k key
at-key key k = is_eq-slice_cmp key k ∙ sym (turned key k (same_bytes key k) refl)

ordered : (key k : List ℕ) (o : Ordering) → slice_cmp nat_cmp key k ≡ o → Ordered o key k
ordered key k Less e = below-slice_cmp key k ∙ ap is_lt e
ordered key k Equal e = (below-slice_cmp key k ∙ ap is_lt e, sym (at-key key k) ∙ ap is_eq e)
ordered key k Greater e = (below-slice_cmp key k ∙ ap is_lt e, sym (at-key key k) ∙ ap is_eq e)

some-none : {v : List ℕ} → Some v ≡ None → ⊥
some-none h = cc

some-is : {a b : List ℕ} → Some a ≡ Some b → a ≡ b
some-is h = cc

-- ---- pairs that are all above a key

none-above : (key : List ℕ) (s : Store) → AreRising key s → value_of key s ≡ None
none-above key [] rising = refl
none-above key (e ∷ s) rising =
    first (is_of_key key) e s false (other-than e.0 key (λ is. not-below-itself key (subst (λ (k : List ℕ). numbers_below key k ≡ true) is rising.0)))
    ∙ none-above key s (lower key e.0 s rising.0 rising.1)
  where
    lower : (key k : List ℕ) (s : Store) → numbers_below key k ≡ true → AreRising k s → AreRising key s
    lower key k [] below r = tt
    lower key k (d ∷ s) below r = (below-below key k d.0 below r.0, r.1)

-- where no pair has the key, all stay
pub all-others : (key : List ℕ) (s : Store) → value_of key s ≡ None → without key s ≡ s
all-others key [] none = refl
all-others key (e ∷ s) none = go (is_of_key key e) refl (all-others key s)
  where
    go : (b : Bool) → is_of_key key e ≡ b → (value_of key s ≡ None → without key s ≡ s)
        → (if not b then e ∷ without key s else without key s) ≡ e ∷ s
    go true is rest = absurd (some-none (sym (first (is_of_key key) e s true is) ∙ none))
    go false is rest = ap (λ (t : Store). e ∷ t) (rest (sym (first (is_of_key key) e s false is) ∙ none))

-- ---- what the calls find and leave

pub value-of : (key : List ℕ) (es : Entries) → value_of key (pairs es) ≡ option_map (λ v. v.items) (lookup (is_at (compare key)) es)
value-of key [] = refl
value-of key (e ∷ es) = first (is_of_key key) (pair_of e) (pairs es) (same_bytes e.0.items key) refl
    ∙ go (same_bytes e.0.items key) (value-of key es)
    ∙ ap (λ (t : Bool). option_map (λ (v : Bytes). v.items) (cond t (Some e.1) (lookup (is_at (compare key)) es))) (sym (at-key key e.0.items))
  where
    go : (t : Bool) → value_of key (pairs es) ≡ option_map (λ v. v.items) (lookup (is_at (compare key)) es)
        → (if t then Some e.1.items else value_of key (pairs es))
        ≡ option_map (λ (v : Bytes). v.items) (cond t (Some e.1) (lookup (is_at (compare key)) es))
    go true rest = refl
    go false rest = rest

-- what a look-up answered is the key's value
pub found : (key : List ℕ) (es : Entries) (o : Option Bytes) → o ≡ lookup (is_at (compare key)) es
    → option_map (λ (v : Bytes). v.items) o ≡ value_of key (pairs es)
found key es o is = ap (option_map (λ (v : Bytes). v.items)) is ∙ sym (value-of key es)

pub is-found : (key : List ℕ) (es : Entries) (o : Option Bytes) → o ≡ lookup (is_at (compare key)) es
    → is_some o ≡ is_some (value_of key (pairs es))
is-found key es o is = mapped o ∙ ap is_some (found key es o is)
  where
    mapped : (o : Option Bytes) → is_some o ≡ is_some (option_map (λ (v : Bytes). v.items) o)
    mapped None = refl
    mapped (Some v) = refl

-- with a pair more, by how the key compares to the first one
pub step : (key value : List ℕ) (e : Pair) (s : Store) (b c : Bool) → numbers_below key e.0 ≡ b → same_bytes e.0 key ≡ c
    → with_pair key value (e ∷ s) ≡ (if b then (key, value) ∷ e ∷ s else if c then (key, value) ∷ s else e ∷ with_pair key value s)
unfolding with_pair
step key value e s b c below same =
    λ i. if below i then (key, value) ∷ e ∷ s else if same i then (key, value) ∷ s else e ∷ with_pair key value s

pub alone : (key value : List ℕ) → with_pair key value [] ≡ (key, value) ∷ []
unfolding with_pair
alone key value = refl

pub inserted : (es : Entries) (k v : Bytes)
    → pairs (insert_entry (λ (x y : Bytes). slice_cmp nat_cmp x.items y.items) es k v) ≡ with_pair k.items v.items (pairs es)
inserted [] k v = sym (alone k.items v.items)
inserted (e ∷ es) k v = go (slice_cmp nat_cmp k.items e.0.items) (ordered k.items e.0.items _ refl) (inserted es k v)
  where
    more : Entries
    more = insert_entry (λ (x y : Bytes). slice_cmp nat_cmp x.items y.items) es k v

    here : same_bytes e.0.items k.items ≡ true → pairs ((e.0, v) ∷ es) ≡ (k.items, v.items) ∷ pairs es
    here same = ap (λ (key : List ℕ). (key, v.items) ∷ pairs es) (same-is e.0.items k.items same)

    go : (o : Ordering) → Ordered o k.items e.0.items → pairs more ≡ with_pair k.items v.items (pairs es)
        → pairs (match_ordering o ((k, v) ∷ e ∷ es) ((e.0, v) ∷ es) (e ∷ more)) ≡ with_pair k.items v.items (pairs (e ∷ es))
    go Less is rest = sym (step k.items v.items (pair_of e) (pairs es) true _ is refl)
    go Equal is rest = here is.1 ∙ sym (step k.items v.items (pair_of e) (pairs es) false true is.0 is.1)
    go Greater is rest = ap (λ (s : Store). pair_of e ∷ s) rest ∙ sym (step k.items v.items (pair_of e) (pairs es) false false is.0 is.1)

-- a value that is written where the key stands
pub written : (key before : List ℕ) (es : Entries) (w : Bytes) → AreRising before (pairs es) → is_some (value_of key (pairs es)) ≡ true
    → pairs (set_value (is_at (compare key)) es w) ≡ with_pair key w.items (pairs es)
written key before [] w rising there = absurd cc
written key before (e ∷ es) w rising there =
    ap (λ (t : Bool). pairs (cond t ((e.0, w) ∷ es) (e ∷ set_value (is_at (compare key)) es w))) (at-key key e.0.items)
    ∙ go (numbers_below key e.0.items) (same_bytes e.0.items key) refl refl (written key e.0.items es w rising.1)
  where
    above : numbers_below key e.0.items ≡ true → value_of key (pairs (e ∷ es)) ≡ None
    above lower = none-above key (pairs (e ∷ es)) (lower, rising.1)

    later : same_bytes e.0.items key ≡ false → is_some (value_of key (pairs es)) ≡ true
    later other = sym (ap is_some (first (is_of_key key) (pair_of e) (pairs es) false other)) ∙ there

    go : (b c : Bool) → numbers_below key e.0.items ≡ b → same_bytes e.0.items key ≡ c
        → (is_some (value_of key (pairs es)) ≡ true → pairs (set_value (is_at (compare key)) es w) ≡ with_pair key w.items (pairs es))
        → pairs (cond c ((e.0, w) ∷ es) (e ∷ set_value (is_at (compare key)) es w)) ≡ with_pair key w.items (pairs (e ∷ es))
    go true c lower same rest = absurd (false-true (ap is_some (above lower)) there)
    go false true lower same rest = ap (λ (k : List ℕ). (k, w.items) ∷ pairs es) (same-is e.0.items key same)
        ∙ sym (step key w.items (pair_of e) (pairs es) false true lower same)
    go false false lower same rest = ap (λ (s : Store). pair_of e ∷ s) (rest (later same))
        ∙ sym (step key w.items (pair_of e) (pairs es) false false lower same)

-- and one that is written over its like
pub rewritten : (key old : List ℕ) (es : Entries) (w : Bytes) → value_of key (pairs es) ≡ Some old → w.items ≡ old
    → pairs (set_value (is_at (compare key)) es w) ≡ pairs es
rewritten key old [] w there same = refl
rewritten key old (e ∷ es) w there same =
    ap (λ (t : Bool). pairs (cond t ((e.0, w) ∷ es) (e ∷ set_value (is_at (compare key)) es w))) (at-key key e.0.items)
    ∙ go (same_bytes e.0.items key) refl (λ there. rewritten key old es w there same)
  where
    go : (c : Bool) → same_bytes e.0.items key ≡ c
        → (value_of key (pairs es) ≡ Some old → pairs (set_value (is_at (compare key)) es w) ≡ pairs es)
        → pairs (cond c ((e.0, w) ∷ es) (e ∷ set_value (is_at (compare key)) es w)) ≡ pairs (e ∷ es)
    go true is rest =
        let its : e.1.items ≡ old = some-is (sym (first (is_of_key key) (pair_of e) (pairs es) true is) ∙ there) in
        ap (λ (v : List ℕ). (e.0.items, v) ∷ pairs es) (same ∙ sym its)
    go false is rest =
        ap (λ (s : Store). pair_of e ∷ s) (rest (sym (first (is_of_key key) (pair_of e) (pairs es) false is) ∙ there))

-- the key removed
pub removed : (key before : List ℕ) (es : Entries) → AreRising before (pairs es)
    → pairs (remove_entry (is_at (compare key)) es) ≡ without key (pairs es)
removed key before [] rising = refl
removed key before (e ∷ es) rising =
    ap (λ (t : Bool). pairs (cond t es (e ∷ remove_entry (is_at (compare key)) es))) (at-key key e.0.items)
    ∙ go (same_bytes e.0.items key) refl (removed key e.0.items es rising.1)
  where
    stays : (s : Store) → AreRising key s → without key s ≡ s
    stays s rising = all-others key s (none-above key s rising)

    go : (c : Bool) → same_bytes e.0.items key ≡ c → pairs (remove_entry (is_at (compare key)) es) ≡ without key (pairs es)
        → pairs (cond c es (e ∷ remove_entry (is_at (compare key)) es))
        ≡ (if not c then pair_of e ∷ without key (pairs es) else without key (pairs es))
    go true is rest = sym (stays (pairs es) (subst (λ (k : List ℕ). AreRising k (pairs es)) (same-is e.0.items key is) rising.1))
    go false is rest = ap (λ (s : Store). pair_of e ∷ s) rest
