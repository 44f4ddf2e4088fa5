-- What each command answers and leaves, where its key is found and where it is missed.
use Rattle.std.proofs.Common.{◌≡◌, ℕ, List, ◌++◌, Option, Some, None, Bool, true, false, length, refl, sym, ap, subst, ◌∙◌, Ok, Err}
use Rattle.std.specs.Prelude.{if◌then◌else◌, is_some, ◌==◌}
use Rattle.std.proofs.lemmas.Bool.{eq-eqb, eqb-true}
use Rattle.byte_defs.specs.Equality.{same_bytes}
use Rattle.store_defs.specs.Stores.{Store, Command, Set, Get, Remove, Exchange, Answer, Done, Value, Absent, Full, Differs, NoCommand, answer_bytes, Reading, IsStore, applied, request_of, carried_out, found, missed, key_of, most_keys, value_of, with_pair, without}
use Rattle.store_laws.proofs.Staying.{stays_store}
use Rattle.store_laws.proofs.Tests.{false-true, unless}
use Rattle.kv_service.proofs.Entries.{all-others}

-- typed, for where a pair alone says too little
abbrev both : Answer → Store → Answer × Store
both a s = (a, s)

by-value : (c : Command) (s : Store) (o : Option (List ℕ)) → value_of (key_of c) s ≡ o
    → carried_out c s ≡ elim o [ None ↦ missed c s | Some old ↦ found c old s ]
unfolding carried_out
by-value c s o is = ap (λ (v : Option (List ℕ)). elim v [ None ↦ missed c s | Some old ↦ found c old s ]) is

-- what a command leaves, and what it says, where it is known what it comes to
pub left : (c : Command) (s n m : Store) (a : Answer) → carried_out c s ≡ (a, n) → m ≡ n → m ≡ (carried_out c s).1
left c s n m a comes is = is ∙ sym (ap (λ (x : Answer × Store). x.1) comes)

pub said : (c : Command) (s n : Store) (a : Answer) (before after : List ℕ) → carried_out c s ≡ (a, n) → after ≡ before ++ answer_bytes a
    → after ≡ before ++ answer_bytes (carried_out c s).0
said c s n a before after comes is = is ∙ sym (ap (λ (x : Answer × Store). before ++ answer_bytes x.0) comes)

-- what a replacement leaves, where the key is there and where it is not
pub replaced : (b : Bool) (n t s : Store) → b ≡ true → n ≡ (if b then t else s) → n ≡ t
replaced b n t s there is = is ∙ ap (λ (c : Bool). if c then t else s) there

pub unreplaced : (b : Bool) (n t s : Store) → b ≡ false → n ≡ (if b then t else s) → n ≡ s
unreplaced b n t s none is = is ∙ ap (λ (c : Bool). if c then t else s) none

-- ---- Set

pub set_there : (key value : List ℕ) (s : Store) → true ≡ is_some (value_of key s) → carried_out (Set key value) s ≡ (Done, with_pair key value s)
set_there key value s there = go (value_of key s) refl
  where
    go : (o : Option (List ℕ)) → value_of key s ≡ o → carried_out (Set key value) s ≡ (Done, with_pair key value s)
    go None is = absurd (false-true (ap is_some is) (sym there))
    go (Some old) is = by-value (Set key value) s (Some old) is

pub absent : (key : List ℕ) (s : Store) → false ≡ is_some (value_of key s) → value_of key s ≡ None
absent key s none = go (value_of key s) refl
  where
    go : (o : Option (List ℕ)) → value_of key s ≡ o → value_of key s ≡ None
    go None is = is
    go (Some old) is = absurd (false-true (sym none) (ap is_some is))

pub set_full : (key value : List ℕ) (s : Store) → false ≡ is_some (value_of key s) → length s ≡ 4096
    → carried_out (Set key value) s ≡ (Full, s)
unfolding most_keys
set_full key value s none full = by-value (Set key value) s None (absent key s none)
    ∙ ap (λ (b : Bool). if b then both Full s else both Done (with_pair key value s)) (eq-eqb (length s) 4096 full)

pub set_new : (key value : List ℕ) (s : Store) → false ≡ is_some (value_of key s) → (length s ≡ 4096 → ⊥)
    → carried_out (Set key value) s ≡ (Done, with_pair key value s)
unfolding most_keys
set_new key value s none room = by-value (Set key value) s None (absent key s none)
    ∙ ap (λ (b : Bool). if b then both Full s else both Done (with_pair key value s))
    (unless (length s == 4096) (λ is. room (eqb-true (length s) 4096 is)))

-- ---- Get

pub get_there : (key old : List ℕ) (s : Store) → Some old ≡ value_of key s → carried_out (Get key) s ≡ (Value old, s)
get_there key old s there = by-value (Get key) s (Some old) (sym there)

pub get_absent : (key : List ℕ) (s : Store) → None ≡ value_of key s → carried_out (Get key) s ≡ (Absent, s)
get_absent key s none = by-value (Get key) s None (sym none)

pub get_leaves : (key : List ℕ) (s : Store) → (carried_out (Get key) s).1 ≡ s
get_leaves key s = go (value_of key s) refl
  where
    go : (o : Option (List ℕ)) → value_of key s ≡ o → (carried_out (Get key) s).1 ≡ s
    go None is = ap (λ (x : Answer × Store). x.1) (by-value (Get key) s None is)
    go (Some old) is = ap (λ (x : Answer × Store). x.1) (by-value (Get key) s (Some old) is)

-- ---- Remove

pub remove_there : (key : List ℕ) (s : Store) → true ≡ is_some (value_of key s) → carried_out (Remove key) s ≡ (Done, without key s)
remove_there key s there = go (value_of key s) refl
  where
    go : (o : Option (List ℕ)) → value_of key s ≡ o → carried_out (Remove key) s ≡ (Done, without key s)
    go None is = absurd (false-true (ap is_some is) (sym there))
    go (Some old) is = by-value (Remove key) s (Some old) is

pub remove_absent : (key : List ℕ) (s : Store) → false ≡ is_some (value_of key s) → carried_out (Remove key) s ≡ (Absent, without key s)
remove_absent key s none = by-value (Remove key) s None (absent key s none)
    ∙ ap (λ (t : Store). both Absent t) (sym (all-others key s (absent key s none)))

-- ---- Exchange

pub exchange_absent : (key expected value : List ℕ) (s : Store) → None ≡ value_of key s → carried_out (Exchange key expected value) s ≡ (Absent, s)
exchange_absent key expected value s none = by-value (Exchange key expected value) s None (sym none)

pub exchange_differs : (key expected value old : List ℕ) (s : Store) → Some old ≡ value_of key s → same_bytes old expected ≡ false
    → carried_out (Exchange key expected value) s ≡ (Differs old, s)
exchange_differs key expected value old s there other = by-value (Exchange key expected value) s (Some old) (sym there)
    ∙ ap (λ (b : Bool). if b then both Done (with_pair key value s) else both (Differs old) s) other

pub exchange_there : (key expected value old : List ℕ) (s : Store) → Some old ≡ value_of key s → same_bytes old expected ≡ true
    → carried_out (Exchange key expected value) s ≡ (Done, with_pair key value s)
exchange_there key expected value old s there same = by-value (Exchange key expected value) s (Some old) (sym there)
    ∙ ap (λ (b : Bool). if b then both Done (with_pair key value s) else both (Differs old) s) same

-- ---- a payload

pub applied-none : (s : Store) (payload : List ℕ) → request_of payload ≡ Err tt → applied s payload ≡ (NoCommand, s)
unfolding applied
applied-none s payload is = ap (λ (r : Reading Command). elim r [ Ok c ↦ carried_out c s | Err fault ↦ both NoCommand s ]) is

pub applied-some : (s : Store) (payload : List ℕ) (c : Command) → request_of payload ≡ Ok c → applied s payload ≡ carried_out c s
unfolding applied
applied-some s payload c is = ap (λ (r : Reading Command). elim r [ Ok c ↦ carried_out c s | Err fault ↦ both NoCommand s ]) is

-- what a command leaves is a store within its limits
pub stays : (s : Store) (payload : List ℕ) (c : Command) → IsStore s → request_of payload ≡ Ok c → IsStore (carried_out c s).1
stays s payload c within is = subst (λ (a : Answer × Store). IsStore a.1) (applied-some s payload c is) (stays_store s payload within)

pub answered-none : (s : Store) (payload before after : List ℕ) → request_of payload ≡ Err tt → after ≡ before ++ answer_bytes NoCommand
    → after ≡ before ++ answer_bytes (applied s payload).0
answered-none s payload before after none is =
    is ∙ sym (ap (λ (x : Answer × Store). before ++ answer_bytes x.0) (applied-none s payload none))

pub applied-after : (s t n : Store) (payload : List ℕ) (c : Command) → request_of payload ≡ Ok c → t ≡ s → n ≡ (carried_out c t).1
    → n ≡ (applied s payload).1
applied-after s t n payload c is same comes = comes ∙ ap (λ (u : Store). (carried_out c u).1) same
    ∙ sym (ap (λ (x : Answer × Store). x.1) (applied-some s payload c is))

pub answered-after : (s t : Store) (payload : List ℕ) (c : Command) (before after : List ℕ) → request_of payload ≡ Ok c → t ≡ s
    → after ≡ before ++ answer_bytes (carried_out c t).0 → after ≡ before ++ answer_bytes (applied s payload).0
answered-after s t payload c before after is same comes =
    comes ∙ ap (λ (u : Store). before ++ answer_bytes (carried_out c u).0) same
    ∙ sym (ap (λ (x : Answer × Store). before ++ answer_bytes x.0) (applied-some s payload c is))

pub kept : (s n : Store) (payload : List ℕ) (c : Command) → IsStore s → request_of payload ≡ Ok c → n ≡ (carried_out c s).1 → IsStore n
kept s n payload c within is comes = subst IsStore (sym comes) (stays s payload c within is)
