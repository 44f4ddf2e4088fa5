-- Stores, replies and states: what is spelled is read, and what is read is spelled so.
use Rattle.std.proofs.Common.{◌≡◌, ℕ, zero, suc, ◌≤◌, ◌<◌, Bool, true, false, List, [], ◌∷◌, ◌++◌, length, Ok, Err, refl, sym, ap, subst, ◌∙◌, append_assoc, arith}
use Rattle.std.specs.Prelude.{◌==◌, not, nat_lt, Result}
use Rattle.std.specs.List.{flat_map, AllByRecursion}
use Rattle.std.specs.Int.{w8, w16, w32}
use Rattle.std.proofs.lemmas.Bool.{ltb-false, le-ltb, eqb-true}
use Rattle.std.proofs.lemmas.List.{append-nil, nil_from_length, length-append}
use Rattle.byte_defs.specs.Fields.{◌>>=◌, refuse_if, number_at, bytes_at, two_bytes, four_bytes, text}
use Rattle.byte_defs.specs.Orders.{numbers_below}
use Rattle.byte_defs.proofs.Fields.{IsBytes, Takes, Takes-then, bind_ok, refuse_ok, ok_is, byte_takes, byte_again, short_takes, short_again, long_takes, long_again, bytes_takes, bytes_again, not_zero, is_some, not_false}
use Rattle.message_defs.specs.Limits.{last_process, last_number, most_payload_bytes, most_signature_bytes}
use Rattle.store_defs.specs.Stores.{Pair, Store, Reading, key_at, most_key_bytes, most_keys, most_value_bytes, pair_bytes, pairs_at, store_bytes, store_of, text_within, value_at, IsPair, IsStore, AreRising}
use Rattle.store_defs.specs.Records.{Reply, StateRecord, IsReply, IsStateRecord, last_position, most_answer_bytes, reply_bytes, reply_of, short_at, small_at, state_at, state_bytes, state_record_of}
use Rattle.store_defs.specs.Laws.{StoreIsRead, StoreIsSpelled, ReplyIsRead, ReplyIsSpelled, StateIsRead, StateIsSpelled}
use Rattle.store_laws.proofs.Staying.{broken, done}

-- ---- steps

pub bind_is : {A B : Type 0} (r : Reading A) (f : A → Reading B) (x : A) (y : Reading B) → r ≡ Ok x → f x ≡ y → (r >>= f) ≡ y
bind_is r f x y e g = ap (λ (k : Reading _). k >>= f) e ∙ g

pub pass : {B : Type 0} (b : Bool) (f : Unit {0} → Reading B) → b ≡ false → (refuse_if b tt >>= f) ≡ f tt
pass b f e = ap (λ (k : Bool). refuse_if k tt >>= f) e

-- ---- parts, spelled and read

key_again : (key rest : List ℕ) → 1 ≤ length key → length key ≤ most_key_bytes → key_at (length key ∷ (key ++ rest)) ≡ Ok (key, rest)
unfolding key_at
key_again key rest some most =
    bind_is (number_at broken w8 (length key ∷ (key ++ rest)))
    (λ len. refuse_if (len.0 == 0) broken >>= λ _. refuse_if (nat_lt most_key_bytes len.0) broken >>= λ _. bytes_at broken len.0 len.1)
    (length key, key ++ rest) (Ok (key, rest)) (byte_again broken (length key) (key ++ rest))
    (pass (length key == 0) (λ _. refuse_if (nat_lt most_key_bytes (length key)) broken >>= λ _. bytes_at broken (length key) (key ++ rest))
    (is_some (length key) some)
    ∙ pass (nat_lt most_key_bytes (length key)) (λ _. bytes_at broken (length key) (key ++ rest)) (le-ltb _ _ most)
    ∙ bytes_again broken key rest)

pub within_again : (most : ℕ) (t rest : List ℕ) → length t ≤ most → most < 65536 → text_within most (text t ++ rest) ≡ Ok (t, rest)
unfolding text_within
within_again most t rest le lt =
    bind_is (number_at broken w16 (two_bytes (length t) ++ (t ++ rest)))
    (λ len. refuse_if (nat_lt most len.0) broken >>= λ _. bytes_at broken len.0 len.1) (length t, t ++ rest) (Ok (t, rest))
    (short_again broken (length t) (t ++ rest) (omega (arith, le, lt)))
    (pass (nat_lt most (length t)) (λ _. bytes_at broken (length t) (t ++ rest)) (le-ltb _ _ le) ∙ bytes_again broken t rest)

pub small_again : (most n : ℕ) (rest : List ℕ) → n ≤ most → small_at most (n ∷ rest) ≡ Ok (n, rest)
unfolding small_at
small_again most n rest le =
    bind_is (number_at broken w8 (n ∷ rest)) (λ k. refuse_if (nat_lt most k.0) broken >>= λ _. done k) (n, rest) (done (n, rest))
    (byte_again broken n rest) (pass (nat_lt most n) (λ _. done (n, rest)) (le-ltb _ _ le))

pub short_number_again : (n : ℕ) (rest : List ℕ) → n ≤ last_number → short_at (two_bytes n ++ rest) ≡ Ok (n, rest)
unfolding short_at
short_number_again n rest le =
    bind_is (number_at broken w16 (two_bytes n ++ rest)) (λ k. refuse_if (nat_lt last_number k.0) broken >>= λ _. done k) (n, rest)
    (done (n, rest)) (short_again broken n rest (omega (arith, le))) (pass (nat_lt last_number n) (λ _. done (n, rest)) (le-ltb _ _ le))

key_takes : (bytes key rest : List ℕ) → IsBytes bytes → key_at bytes ≡ Ok (key, rest)
    → Takes bytes (length key ∷ key) rest × (1 ≤ length key) × (length key ≤ most_key_bytes)
unfolding key_at
key_takes bytes key rest fits e =
    let n = bind_ok (number_at broken w8 bytes)
    (λ len. refuse_if (len.0 == 0) broken >>= λ _. refuse_if (nat_lt most_key_bytes len.0) broken >>= λ _. bytes_at broken len.0 len.1) (key, rest) e in
    let z = refuse_ok (n.0.0 == 0) broken (λ _. refuse_if (nat_lt most_key_bytes n.0.0) broken >>= λ _. bytes_at broken n.0.0 n.0.1) (key, rest) n.2 in
    let m = refuse_ok (nat_lt most_key_bytes n.0.0) broken (λ _. bytes_at broken n.0.0 n.0.1) (key, rest) z.1 in
    let t = byte_takes broken bytes n.0.0 n.0.1 fits n.1 in
    let b = bytes_takes broken n.0.0 n.0.1 key rest t.0.rest_fits m.1 in
    subst (λ (k : ℕ). Takes bytes (k ∷ key) rest × (1 ≤ k) × (k ≤ most_key_bytes)) (sym b.1)
    (Takes-then bytes (n.0.0 ∷ []) n.0.1 key rest t.0 b.0, not_zero n.0.0 z.0, ltb-false most_key_bytes n.0.0 m.0)

pub within_takes : (most : ℕ) (bytes out rest : List ℕ) → IsBytes bytes → text_within most bytes ≡ Ok (out, rest)
    → Takes bytes (text out) rest × (length out ≤ most)
unfolding text_within
within_takes most bytes out rest fits e =
    let n = bind_ok (number_at broken w16 bytes) (λ len. refuse_if (nat_lt most len.0) broken >>= λ _. bytes_at broken len.0 len.1) (out, rest) e in
    let r = refuse_ok (nat_lt most n.0.0) broken (λ _. bytes_at broken n.0.0 n.0.1) (out, rest) n.2 in
    let t = short_takes broken bytes n.0.0 n.0.1 fits n.1 in
    let b = bytes_takes broken n.0.0 n.0.1 out rest t.0.rest_fits r.1 in
    subst (λ (k : ℕ). Takes bytes (two_bytes k ++ out) rest × (k ≤ most)) (sym b.1)
    (Takes-then bytes (two_bytes n.0.0) n.0.1 out rest t.0 b.0, ltb-false most n.0.0 r.0)

pub small_takes : (most : ℕ) (bytes : List ℕ) (n : ℕ) (rest : List ℕ) → IsBytes bytes → small_at most bytes ≡ Ok (n, rest)
    → Takes bytes (n ∷ []) rest × (n ≤ most)
unfolding small_at
small_takes most bytes n rest fits e =
    let k = bind_ok (number_at broken w8 bytes) (λ k. refuse_if (nat_lt most k.0) broken >>= λ _. done k) (n, rest) e in
    let r = refuse_ok (nat_lt most k.0.0) broken (λ _. done k.0) (n, rest) k.2 in
    let t = byte_takes broken bytes k.0.0 k.0.1 fits k.1 in
    subst (λ (x : ℕ × List ℕ). Takes bytes (x.0 ∷ []) x.1 × (x.0 ≤ most)) (ok_is k.0 (n, rest) r.1) (t.0, ltb-false most k.0.0 r.0)

pub short_number_takes : (bytes : List ℕ) (n : ℕ) (rest : List ℕ) → IsBytes bytes → short_at bytes ≡ Ok (n, rest)
    → Takes bytes (two_bytes n) rest × (n ≤ last_number)
unfolding short_at
short_number_takes bytes n rest fits e =
    let k = bind_ok (number_at broken w16 bytes) (λ k. refuse_if (nat_lt last_number k.0) broken >>= λ _. done k) (n, rest) e in
    let r = refuse_ok (nat_lt last_number k.0.0) broken (λ _. done k.0) (n, rest) k.2 in
    let t = short_takes broken bytes k.0.0 k.0.1 fits k.1 in
    subst (λ (x : ℕ × List ℕ). Takes bytes (two_bytes x.0) x.1 × (x.0 ≤ last_number)) (ok_is k.0 (n, rest) r.1)
    (t.0, ltb-false last_number k.0.0 r.0)

-- ---- stores

pairs_again : (s : Store) (before rest : List ℕ) → AreRising before s → AllByRecursion IsPair s
    → pairs_at (length s) before (flat_map pair_bytes s ++ rest) ≡ Ok (s, rest)
unfolding pairs_at
pairs_again [] before rest rising each = refl
pairs_again (e ∷ s) before rest rising each =
    let y : Reading (Store × List ℕ) = Ok (e ∷ s, rest) in
    let others : List ℕ = flat_map pair_bytes s ++ rest in
    let is = each.0 in
    bind_is (key_at (flat_map pair_bytes (e ∷ s) ++ rest))
    (λ key. refuse_if (not (numbers_below before key.0)) broken >>= λ _. value_at key.1 >>= λ value.
    pairs_at (length s) key.0 value.1 >>= λ more. done ((key.0, value.0) ∷ more.0, more.1))
    (e.0, text e.1 ++ others) y
    (ap key_at (append_assoc (length e.0 ∷ (e.0 ++ text e.1)) (flat_map pair_bytes s) rest
    ∙ ap (λ (l : List ℕ). length e.0 ∷ l) (append_assoc e.0 (text e.1) others))
    ∙ key_again e.0 (text e.1 ++ others) is.some is.key)
    (pass (not (numbers_below before e.0)) (λ _. value_at (text e.1 ++ others) >>= λ value.
    pairs_at (length s) e.0 value.1 >>= λ more. done ((e.0, value.0) ∷ more.0, more.1)) (ap not rising.0)
    ∙ bind_is (value_at (text e.1 ++ others)) (λ value. pairs_at (length s) e.0 value.1 >>= λ more. done ((e.0, value.0) ∷ more.0, more.1))
    (e.1, others) y (within_again most_value_bytes e.1 others is.value (omega arith))
    (bind_is (pairs_at (length s) e.0 others) (λ more. done ((e.0, e.1) ∷ more.0, more.1)) (s, rest) y
    (pairs_again s e.0 rest rising.1 each.1) refl))

pub few-keys : most_keys < 65536
unfolding most_keys
few-keys = omega arith

pub store_is_read : StoreIsRead
unfolding store_of store_bytes
store_is_read s is =
    let y : Reading Store = Ok s in
    let body : List ℕ = flat_map pair_bytes s in
    bind_is (number_at broken w16 (two_bytes (length s) ++ body))
    (λ count. refuse_if (nat_lt most_keys count.0) broken >>= λ _. pairs_at count.0 [] count.1 >>= λ pairs.
    refuse_if (nat_lt 0 (length pairs.1)) broken >>= λ _. done pairs.0) (length s, body) y
    (short_again broken (length s) body (let le = is.count in let few = few-keys in omega (arith, le, few)))
    (pass (nat_lt most_keys (length s)) (λ _. pairs_at (length s) [] body >>= λ pairs.
    refuse_if (nat_lt 0 (length pairs.1)) broken >>= λ _. done pairs.0) (le-ltb _ _ is.count)
    ∙ bind_is (pairs_at (length s) [] body) (λ pairs. refuse_if (nat_lt 0 (length pairs.1)) broken >>= λ _. done pairs.0) (s, []) y
    (ap (pairs_at (length s) []) (sym (append-nil body)) ∙ pairs_again s [] [] is.rising is.each) refl)

pairs_takes : (n : ℕ) (before bytes : List ℕ) (s : Store) (rest : List ℕ) → IsBytes bytes → pairs_at n before bytes ≡ Ok (s, rest)
    → Takes bytes (flat_map pair_bytes s) rest × (length s ≡ n) × AreRising before s × AllByRecursion IsPair s
unfolding pairs_at
pairs_takes zero before bytes s rest fits e =
    subst (λ (x : Store × List ℕ). Takes bytes (flat_map pair_bytes x.0) x.1 × (length x.0 ≡ 0) × AreRising before x.0 × AllByRecursion IsPair x.0)
    (ok_is ([], bytes) (s, rest) e) (record { parts = refl; rest_fits = fits }, refl, tt, tt)
pairs_takes (suc n) before bytes s rest fits e =
    let k = bind_ok (key_at bytes) (λ key. refuse_if (not (numbers_below before key.0)) broken >>= λ _. value_at key.1 >>= λ value.
    pairs_at n key.0 value.1 >>= λ more. done ((key.0, value.0) ∷ more.0, more.1)) (s, rest) e in
    let r = refuse_ok (not (numbers_below before k.0.0)) broken (λ _. value_at k.0.1 >>= λ value.
    pairs_at n k.0.0 value.1 >>= λ more. done ((k.0.0, value.0) ∷ more.0, more.1)) (s, rest) k.2 in
    let v = bind_ok (value_at k.0.1) (λ value. pairs_at n k.0.0 value.1 >>= λ more. done ((k.0.0, value.0) ∷ more.0, more.1)) (s, rest) r.1 in
    let o = bind_ok (pairs_at n k.0.0 v.0.1) (λ more. done ((k.0.0, v.0.0) ∷ more.0, more.1)) (s, rest) v.2 in
    let tk = key_takes bytes k.0.0 k.0.1 fits k.1 in
    let tv = within_takes most_value_bytes k.0.1 v.0.0 v.0.1 tk.0.rest_fits v.1 in
    let to = pairs_takes n k.0.0 v.0.1 o.0.0 o.0.1 tv.0.rest_fits o.1 in
    subst (λ (x : Store × List ℕ). Takes bytes (flat_map pair_bytes x.0) x.1 × (length x.0 ≡ suc n) × AreRising before x.0 × AllByRecursion IsPair x.0)
    (ok_is ((k.0.0, v.0.0) ∷ o.0.0, o.0.1) (s, rest) o.2) (
      subst (λ (t : List ℕ). Takes bytes t o.0.1) (sym (append_assoc (length k.0.0 ∷ k.0.0) (text v.0.0) (flat_map pair_bytes o.0.0)))
          (Takes-then bytes (length k.0.0 ∷ k.0.0) k.0.1 (text v.0.0 ++ flat_map pair_bytes o.0.0) o.0.1 tk.0
          (Takes-then k.0.1 (text v.0.0) v.0.1 (flat_map pair_bytes o.0.0) o.0.1 tv.0 to.0)),
      ap suc to.1,
      (not_false (numbers_below before k.0.0) r.0, to.2),
      (record { some = tk.1; key = tk.2; value = tv.1 }, to.3),
    )

pub store_is_spelled : StoreIsSpelled
unfolding store_of store_bytes
store_is_spelled bytes s fits e =
    let n = bind_ok (number_at broken w16 bytes) (λ count. refuse_if (nat_lt most_keys count.0) broken >>= λ _. pairs_at count.0 [] count.1 >>= λ pairs.
    refuse_if (nat_lt 0 (length pairs.1)) broken >>= λ _. done pairs.0) s e in
    let m = refuse_ok (nat_lt most_keys n.0.0) broken (λ _. pairs_at n.0.0 [] n.0.1 >>= λ pairs.
    refuse_if (nat_lt 0 (length pairs.1)) broken >>= λ _. done pairs.0) s n.2 in
    let p = bind_ok (pairs_at n.0.0 [] n.0.1) (λ pairs. refuse_if (nat_lt 0 (length pairs.1)) broken >>= λ _. done pairs.0) s m.1 in
    let r = refuse_ok (nat_lt 0 (length p.0.1)) broken (λ _. done p.0.0) s p.2 in
    let tn = short_takes broken bytes n.0.0 n.0.1 fits n.1 in
    let tp = pairs_takes n.0.0 [] n.0.1 p.0.0 p.0.1 tn.0.rest_fits p.1 in
    let none : p.0.1 ≡ [] = nil_from_length p.0.1 (omega (arith, ltb-false _ _ r.0)) in
    let whole : bytes ≡ two_bytes (length p.0.0) ++ flat_map pair_bytes p.0.0 =
    tn.0.parts ∙ ap (λ (l : List ℕ). two_bytes n.0.0 ++ l) (tp.0.parts ∙ ap (λ (l : List ℕ). flat_map pair_bytes p.0.0 ++ l) none
    ∙ append-nil (flat_map pair_bytes p.0.0)) ∙ ap (λ (k : ℕ). two_bytes k ++ flat_map pair_bytes p.0.0) (sym tp.1) in
    let le : length p.0.0 ≤ most_keys = subst (λ (k : ℕ). k ≤ most_keys) (sym tp.1) (ltb-false most_keys n.0.0 m.0) in
    subst (λ (x : Store). (bytes ≡ two_bytes (length x) ++ flat_map pair_bytes x) × IsStore x) (ok_is p.0.0 s r.1)
    (whole, record { count = le; rising = tp.2; each = tp.3 })
