-- A store within its limits stays so, whatever payload is carried out.
use Rattle.std.proofs.Common.{◌≡◌, ◌⊎◌, inl, inr, ℕ, zero, suc, ◌+◌, ◌<◌, ◌≤◌, List, [], ◌∷◌, length, take, drop, Option, Some, None, Bool, true, false, refl, sym, ap, ◌∙◌, subst, arith, Ok, Err}
use Rattle.std.specs.Prelude.{if◌then◌else◌, ◌==◌, not, nat_lt, filter, find, option_map, Result}
use Rattle.std.specs.List.{AllByRecursion}
use Rattle.std.specs.Int.{w8, w16}
use Rattle.std.proofs.lemmas.Bool.{eqb-true, eq-eqb, ltb-true, ltb-false}
use Rattle.std.proofs.lemmas.List.{length-take}
use Rattle.byte_defs.specs.Equality.{same_bytes}
use Rattle.byte_defs.specs.Fields.{◌>>=◌, refuse_if, number_at, bytes_at}
use Rattle.byte_defs.specs.Orders.{numbers_below}
use Rattle.byte_defs.proofs.Fields.{bind_ok, refuse_ok, guard_ok, ok_is, not_zero}
use Rattle.store_defs.specs.Stores.{Pair, Store, Command, Set, Get, Remove, Exchange, Answer, Done, Full, Differs, NoCommand, Reading, applied, carried_out, command_behind, exchange_at, found, missed, is_of_key, key_at, key_of, most_key_bytes, most_keys, most_value_bytes, request_of, set_at, store_after, tag_bytes, text_within, value_at, value_of, with_pair, without, IsPair, IsStore, AreRising}
use Rattle.store_defs.specs.Laws.{StaysStore}
use Rattle.store_laws.proofs.Maps.{same-is, is-same, other-than, first, found-by}
use Rattle.store_laws.proofs.Orders.{above, below-below, not-below-itself}
use Rattle.store_laws.proofs.Tests.{false-true}

abbrev pub broken : Unit {0}
broken = tt

abbrev pub done : {A : Type 0} → A → Reading A
done x = Ok x

-- ---- what is read is in its ranges

bytes-long : (n : ℕ) (bytes out rest : List ℕ) → bytes_at broken n bytes ≡ Ok (out, rest) → length out ≡ n
bytes-long n bytes out rest e =
    let g = guard_ok (nat_lt (length bytes) n) broken (take n bytes, drop n bytes) (out, rest) e in
    let long : n ≤ length bytes = ltb-false (length bytes) n g.0 in
    let len : length (take n bytes) ≡ n = omega (arith, length-take n bytes, long) in
    sym (ap (λ (p : List ℕ × List ℕ). length p.0) g.1) ∙ len

pub key-long : (bytes out rest : List ℕ) → key_at bytes ≡ Ok (out, rest) → (1 ≤ length out) × (length out ≤ most_key_bytes)
unfolding key_at
key-long bytes out rest e =
    let n = bind_ok (number_at broken w8 bytes)
    (λ len. refuse_if (len.0 == 0) broken >>= λ _. refuse_if (nat_lt most_key_bytes len.0) broken >>= λ _. bytes_at broken len.0 len.1) (out, rest) e in
    let z = refuse_ok (n.0.0 == 0) broken (λ _. refuse_if (nat_lt most_key_bytes n.0.0) broken >>= λ _. bytes_at broken n.0.0 n.0.1) (out, rest) n.2 in
    let m = refuse_ok (nat_lt most_key_bytes n.0.0) broken (λ _. bytes_at broken n.0.0 n.0.1) (out, rest) z.1 in
    let len = bytes-long n.0.0 n.0.1 out rest m.1 in
    let some = not_zero n.0.0 z.0 in
    let most = ltb-false most_key_bytes n.0.0 m.0 in
    (omega (arith, len, some), omega (arith, len, most))

pub within-long : (most : ℕ) (bytes out rest : List ℕ) → text_within most bytes ≡ Ok (out, rest) → length out ≤ most
unfolding text_within
within-long most bytes out rest e =
    let n = bind_ok (number_at broken w16 bytes) (λ len. refuse_if (nat_lt most len.0) broken >>= λ _. bytes_at broken len.0 len.1) (out, rest) e in
    let m = refuse_ok (nat_lt most n.0.0) broken (λ _. bytes_at broken n.0.0 n.0.1) (out, rest) n.2 in
    let len = bytes-long n.0.0 n.0.1 out rest m.1 in
    let le = ltb-false most n.0.0 m.0 in
    omega (arith, len, le)

-- a command of a key and values of their lengths
abbrev IsCommand : Command → Type 0
IsCommand (Set key value) = IsPair (key, value)
IsCommand (Get key) = Unit {0}
IsCommand (Remove key) = Unit {0}
IsCommand (Exchange key expected value) = IsPair (key, value)

chosen : {A : Type 0} (b : Bool) (x y z : A) → (if b then x else y) ≡ z → (x ≡ z) ⊎ (y ≡ z)
chosen true x y z e = inl e
chosen false x y z e = inr e

module _ (what : ℕ) (key bytes : List ℕ) (some : 1 ≤ length key) (most : length key ≤ most_key_bytes) (c : Command) (rest : List ℕ) where
  pair-of : (value : List ℕ) → length value ≤ most_value_bytes → IsPair (key, value)
  pair-of value le = record { some = some; key = most; value = le }

  set-so : set_at key bytes ≡ Ok (c, rest) → IsCommand c
  unfolding set_at
  set-so e =
      let v = bind_ok (value_at bytes) (λ v. done (Set key v.0, v.1)) (c, rest) e in
      subst (λ (x : Command × List ℕ). IsCommand x.0) (ok_is (Set key v.0.0, v.0.1) (c, rest) v.2)
      (pair-of v.0.0 (within-long most_value_bytes bytes v.0.0 v.0.1 v.1))

  exchange-so : exchange_at key bytes ≡ Ok (c, rest) → IsCommand c
  unfolding exchange_at
  exchange-so e =
      let x = bind_ok (value_at bytes) (λ x. value_at x.1 >>= (λ v. done (Exchange key x.0 v.0, v.1))) (c, rest) e in
      let v = bind_ok (value_at x.0.1) (λ v. done (Exchange key x.0.0 v.0, v.1)) (c, rest) x.2 in
      subst (λ (y : Command × List ℕ). IsCommand y.0) (ok_is (Exchange key x.0.0 v.0.0, v.0.1) (c, rest) v.2)
      (pair-of v.0.0 (within-long most_value_bytes x.0.1 v.0.0 v.0.1 v.1))

  abbrev fails : Reading (Command × List ℕ)
  fails = Err broken

  no_ok : fails ≡ done (c, rest) → ⊥
  no_ok h = cc

  behind-so : command_behind what key bytes ≡ Ok (c, rest) → IsCommand c
  unfolding command_behind
  behind-so e =
      elim (chosen (what == 1) _ _ _ e) [
        | inl h ↦ set-so h
        | inr a ↦ elim (chosen (what == 2) _ _ _ a) [
          | inl h ↦ subst (λ (y : Command × List ℕ). IsCommand y.0) (ok_is (Get key, bytes) (c, rest) h) tt
          | inr b ↦ elim (chosen (what == 3) _ _ _ b) [
            | inl h ↦ subst (λ (y : Command × List ℕ). IsCommand y.0) (ok_is (Remove key, bytes) (c, rest) h) tt
            | inr d ↦ elim (chosen (what == 4) _ _ _ d) [
              | inl h ↦ exchange-so h
              | inr f ↦ absurd (no_ok f)
            ]
          ]
        ]
      ]

request-so : (payload : List ℕ) (c : Command) → request_of payload ≡ Ok c → IsCommand c
unfolding request_of
request-so payload c e =
    let t = bind_ok (bytes_at broken tag_bytes payload) (λ tag. number_at broken w8 tag.1 >>= λ what. key_at what.1 >>= λ key.
    command_behind what.0 key.0 key.1 >>= λ command. refuse_if (nat_lt 0 (length command.1)) broken >>= λ _. done command.0) c e in
    let w = bind_ok (number_at broken w8 t.0.1) (λ what. key_at what.1 >>= λ key.
    command_behind what.0 key.0 key.1 >>= λ command. refuse_if (nat_lt 0 (length command.1)) broken >>= λ _. done command.0) c t.2 in
    let k = bind_ok (key_at w.0.1) (λ key. command_behind w.0.0 key.0 key.1 >>= λ command.
    refuse_if (nat_lt 0 (length command.1)) broken >>= λ _. done command.0) c w.2 in
    let d = bind_ok (command_behind w.0.0 k.0.0 k.0.1) (λ command. refuse_if (nat_lt 0 (length command.1)) broken >>= λ _. done command.0) c k.2 in
    let r = refuse_ok (nat_lt 0 (length d.0.1)) broken (λ _. done d.0.0) c d.2 in
    let long = key-long w.0.1 k.0.0 k.0.1 k.1 in
    subst IsCommand (ok_is d.0.0 c r.1) (behind-so w.0.0 k.0.0 k.0.1 long.0 long.1 d.0.0 d.0.1 d.1)

-- ---- a pair that is put in

module _ (key value : List ℕ) where
  rising-with : (s : Store) (before : List ℕ) → numbers_below before key ≡ true → AreRising before s → AreRising before (with_pair key value s)
  unfolding with_pair
  rising-with [] before above_it rising = (above_it, tt)
  rising-with (e ∷ s) before above_it rising = go (numbers_below key e.0) refl (same_bytes e.0 key) refl (rising-with s e.0)
    where
      go : (b : Bool) → numbers_below key e.0 ≡ b → (c : Bool) → same_bytes e.0 key ≡ c
          → (numbers_below e.0 key ≡ true → AreRising e.0 s → AreRising e.0 (with_pair key value s))
          → AreRising before (if b then (key, value) ∷ e ∷ s else if c then (key, value) ∷ s else e ∷ with_pair key value s)
      go true lower c same rest = (above_it, (lower, rising.1))
      go false lower true same rest = (above_it, subst (λ k. AreRising k s) (same-is e.0 key same) rising.1)
      go false lower false same rest =
          (rising.0, rest (above key e.0 lower (λ is. false-true same (is-same e.0 key (sym is)))) rising.1)

  each-with : (s : Store) → IsPair (key, value) → AllByRecursion IsPair s → AllByRecursion IsPair (with_pair key value s)
  unfolding with_pair
  each-with [] its each = (its, tt)
  each-with (e ∷ s) its each = go (numbers_below key e.0) (same_bytes e.0 key) (each-with s its each.1)
    where
      go : (b c : Bool) → AllByRecursion IsPair (with_pair key value s)
          → AllByRecursion IsPair (if b then (key, value) ∷ e ∷ s else if c then (key, value) ∷ s else e ∷ with_pair key value s)
      go true c rest = (its, each)
      go false true rest = (its, each.1)
      go false false rest = (each.0, rest)

  length-with : (s : Store) → length (with_pair key value s) ≤ suc (length s)
  unfolding with_pair
  length-with [] = omega arith
  length-with (e ∷ s) = go (numbers_below key e.0) (same_bytes e.0 key) (length-with s)
    where
      go : (b c : Bool) → length (with_pair key value s) ≤ suc (length s)
          → length (if b then (key, value) ∷ e ∷ s else if c then (key, value) ∷ s else e ∷ with_pair key value s) ≤ suc (suc (length s))
      go true c rest = omega arith
      go false true rest = omega arith
      go false false rest = omega (arith, rest)

  -- what is below a rising list is not in it
  absent : (s : Store) (before : List ℕ) → numbers_below key before ≡ true → AreRising before s → value_of key s ≡ None
  absent [] before below rising = refl
  absent (e ∷ s) before below rising =
      let lower : numbers_below key e.0 ≡ true = below-below key before e.0 below rising.0 in
      first (is_of_key key) e s false
      (other-than e.0 key (λ is. not-below-itself key (subst (λ k. numbers_below key k ≡ true) is lower)))
      ∙ absent s e.0 lower rising.1

  -- a key that stands is replaced
  length-stays : (s : Store) (before old : List ℕ) → AreRising before s → value_of key s ≡ Some old → length (with_pair key value s) ≡ length s
  unfolding with_pair
  length-stays [] before old rising e = absurd cc
  length-stays (e ∷ s) before old rising there = go (numbers_below key e.0) refl (same_bytes e.0 key) refl (length-stays s e.0 old rising.1)
    where
      lacks : {o : Option (List ℕ)} → o ≡ None → o ≡ Some old → ⊥
      lacks n s' = cc

      later : same_bytes e.0 key ≡ false → value_of key s ≡ Some old
      later same = sym (first (is_of_key key) e s false same) ∙ there

      go : (b : Bool) → numbers_below key e.0 ≡ b → (c : Bool) → same_bytes e.0 key ≡ c
          → (value_of key s ≡ Some old → length (with_pair key value s) ≡ length s)
          → length (if b then (key, value) ∷ e ∷ s else if c then (key, value) ∷ s else e ∷ with_pair key value s) ≡ suc (length s)
      go true lower c same rest = absurd (lacks
          (first (is_of_key key) e s false
          (other-than e.0 key (λ is. not-below-itself key (subst (λ k. numbers_below key k ≡ true) is lower)))
          ∙ absent s e.0 lower rising.1) there)
      go false lower true same rest = refl
      go false lower false same rest = ap suc (rest (later same))

-- ---- a key that is taken out

module _ (test : Pair → Bool) where
  rising-filter : (s : Store) (before : List ℕ) → AreRising before s → AreRising before (filter test s)
  rising-filter [] before rising = tt
  rising-filter (e ∷ s) before rising = go (test e) (rising-filter s)
    where
      lower : (t : Store) → AreRising e.0 t → AreRising before t
      lower [] r = tt
      lower (d ∷ t) r = (below-below before e.0 d.0 rising.0 r.0, r.1)

      go : (b : Bool) → ((before : List ℕ) → AreRising before s → AreRising before (filter test s))
          → AreRising before (if b then e ∷ filter test s else filter test s)
      go true rest = (rising.0, rest e.0 rising.1)
      go false rest = lower (filter test s) (rest e.0 rising.1)

  each-filter : (s : Store) → AllByRecursion IsPair s → AllByRecursion IsPair (filter test s)
  each-filter [] each = tt
  each-filter (e ∷ s) each = go (test e) (each-filter s each.1)
    where
      go : (b : Bool) → AllByRecursion IsPair (filter test s) → AllByRecursion IsPair (if b then e ∷ filter test s else filter test s)
      go true rest = (each.0, rest)
      go false rest = rest

  length-filter-few : (s : Store) → length (filter test s) ≤ length s
  length-filter-few [] = omega arith
  length-filter-few (e ∷ s) = go (test e) (length-filter-few s)
    where
      go : (b : Bool) → length (filter test s) ≤ length s → length (if b then e ∷ filter test s else filter test s) ≤ suc (length s)
      go true le = omega (arith, le)
      go false le = omega (arith, le)

-- ---- a command

not-empty : (key : List ℕ) → 1 ≤ length key → numbers_below [] key ≡ true
not-empty [] le = absurd (omega (arith, le))
not-empty (k ∷ key) le = refl

has-room : (n m : ℕ) → n ≤ m → (n == m) ≡ false → n < m
has-room n m le differ = go (nat_lt n m) refl
  where
    go : (b : Bool) → nat_lt n m ≡ b → n < m
    go true lt = ltb-true n m lt
    go false ge = absurd (false-true differ (eq-eqb n m (let a = ltb-false n m ge in omega (arith, a, le))))

abbrev store-of : Answer × Store → Store
store-of x = x.1

module _ (s : Store) (is : IsStore s) where
  put-in : (key value : List ℕ) → IsPair (key, value) → length (with_pair key value s) ≤ most_keys → IsStore (with_pair key value s)
  put-in key value its few = record {
    count = few;
    rising = rising-with key value s [] (not-empty key its.some) is.rising;
    each = each-with key value s its is.each;
  }

  replaced : (key value old : List ℕ) → IsPair (key, value) → value_of key s ≡ Some old → IsStore (with_pair key value s)
  replaced key value old its there =
      put-in key value its (subst (λ n. n ≤ most_keys) (sym (length-stays key value s [] old is.rising there)) is.count)

  taken-out : (key : List ℕ) → IsStore (without key s)
  taken-out key = record {
    count = (let few = length-filter-few (λ e. not (is_of_key key e)) s in let le = is.count in omega (arith, few, le));
    rising = rising-filter (λ e. not (is_of_key key e)) s [] is.rising;
    each = each-filter (λ e. not (is_of_key key e)) s is.each;
  }

  found-so : (c : Command) (old : List ℕ) → IsCommand c → value_of (key_of c) s ≡ Some old → IsStore (store-of (found c old s))
  found-so (Set key value) old its there = replaced key value old its there
  found-so (Get key) old its there = is
  found-so (Remove key) old its there = taken-out key
  found-so (Exchange key expected value) old its there = go (same_bytes old expected)
    where
      go : (b : Bool) → IsStore (store-of (if b then (Done, with_pair key value s) else (Differs old, s)))
      go true = replaced key value old its there
      go false = is

  missed-so : (c : Command) → IsCommand c → IsStore (store-of (missed c s))
  missed-so (Set key value) its = go (length s == most_keys) refl
    where
      go : (b : Bool) → (length s == most_keys) ≡ b → IsStore (store-of (if b then (Full, s) else (Done, with_pair key value s)))
      go true full = is
      go false room = put-in key value its
          (let n = length-with key value s in let lt = has-room (length s) most_keys is.count room in omega (arith, n, lt))
  missed-so (Get key) its = is
  missed-so (Remove key) its = is
  missed-so (Exchange key expected value) its = is

  out-so : (c : Command) → IsCommand c → IsStore (store-of (carried_out c s))
  unfolding carried_out
  out-so c its = go (value_of (key_of c) s) refl
    where
      go : (o : Option (List ℕ)) → value_of (key_of c) s ≡ o
          → IsStore (store-of (elim o [ None ↦ missed c s | Some old ↦ found c old s ]))
      go None e = missed-so c its
      go (Some old) e = found-so c old its e

pub stays_store : StaysStore
unfolding applied
stays_store s payload is = go (request_of payload) refl
  where
    go : (r : Reading Command) → request_of payload ≡ r → IsStore (store-of (elim r [ Ok c ↦ carried_out c s | Err fault ↦ (NoCommand, s) ]))
    go (Ok c) e = out-so s is c (request-so payload c e)
    go (Err fault) e = is

-- after any payloads
pub stays-after : (payloads : List (List ℕ)) (s : Store) → IsStore s → IsStore (store_after s payloads)
unfolding store_after
stays-after [] s is = is
stays-after (payload ∷ payloads) s is = stays-after payloads (applied s payload).1 (stays_store s payload is)

pub empty-store : IsStore []
unfolding most_keys
empty-store = record { count = omega arith; rising = tt; each = tt }
