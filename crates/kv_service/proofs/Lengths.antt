-- How long a state is, and what is left of it while its pairs are gone through.
use Rattle.std.proofs.Common.{◌≡◌, ℕ, ◌+◌, ◌≤◌, List, ◌∷◌, ◌++◌, length, sym, ap, ◌∙◌, append_assoc, arith}
use Rattle.std.specs.List.{flat_map}
use Rattle.std.proofs.lemmas.List.{length-append}
use Rattle.byte_defs.specs.Fields.{two_bytes, text}
use Rattle.store_defs.specs.Stores.{Pair, Store, pair_bytes, store_bytes, most_keys, IsStore}
use Rattle.kv_service.specs.Pairs.{pair_of}
use Rattle.store_records.proofs.Lengths.{length-store}
use Rattle.kv_service.proofs.Entries.{Bytes, Entries, pairs, length-pairs}

pub few : (es : Entries) → IsStore (pairs es) → length es ≤ 4096
unfolding most_keys
few es is = let count = is.count in omega (arith, length-pairs es, count)

pub state-long : (s : Store) → length (store_bytes s) ≡ 2 + length (flat_map pair_bytes s)
unfolding store_bytes
state-long s = omega (arith, length-append (two_bytes (length s)) (flat_map pair_bytes s))

pair-long : (e : Pair) → length (pair_bytes e) ≡ 3 + (length e.0 + length e.1)
pair-long e = omega (arith, length-append e.0 (text e.1))

-- the first of the pairs that are left
left-long : (it rest : Entries) (e : Bytes × Bytes) → it ≡ e ∷ rest
    → length (flat_map pair_bytes (pairs it)) ≡ (3 + (length e.0.items + length e.1.items)) + length (flat_map pair_bytes (pairs rest))
left-long it rest e is =
    let one : length (flat_map pair_bytes (pairs (e ∷ rest))) ≡ (3 + (length e.0.items + length e.1.items)) + length (flat_map pair_bytes (pairs rest)) =
    omega (arith, length-append (pair_bytes (pair_of e)) (flat_map pair_bytes (pairs rest)), pair-long (pair_of e)) in
    ap (λ (l : Entries). length (flat_map pair_bytes (pairs l))) is ∙ one

-- ---- the length is counted

pub counted-begins : (es it : Entries) → it ≡ es → 2 + length (flat_map pair_bytes (pairs it)) ≡ length (store_bytes (pairs es))
counted-begins es it is = ap (λ (l : Entries). 2 + length (flat_map pair_bytes (pairs l))) is ∙ sym (state-long (pairs es))

pub counted-within : (total : ℕ) (s : Store) (it rest : Entries) (e : Bytes × Bytes) → it ≡ e ∷ rest
    → total + length (flat_map pair_bytes (pairs it)) ≡ length (store_bytes s) → IsStore s
    → total + (3 + (length e.0.items + length e.1.items)) ≤ 2371586
counted-within total s it rest e is so within = omega (arith, left-long it rest e is, so, length-store s within)

-- ---- the bytes are appended

pub begun : (es it : Entries) (n : ℕ) (before head after : List ℕ) → it ≡ es → n ≡ length es → head ≡ two_bytes n → after ≡ before ++ head
    → after ++ flat_map pair_bytes (pairs it) ≡ before ++ store_bytes (pairs es)
unfolding store_bytes
begun es it n before head after is count head_is after_is =
    let one : after ++ flat_map pair_bytes (pairs it) ≡ (before ++ head) ++ flat_map pair_bytes (pairs es) =
    λ i. after_is i ++ flat_map pair_bytes (pairs (is i)) in
    one
    ∙ append_assoc before head (flat_map pair_bytes (pairs es))
    ∙ ap (λ (h : List ℕ). before ++ (h ++ flat_map pair_bytes (pairs es)))
    (head_is ∙ ap (λ (k : ℕ). two_bytes k) (count ∙ sym (length-pairs es)))

pub room-left : (s : Store) (it rest : Entries) (e : Bytes × Bytes) (out before : List ℕ) (room : ℕ) → it ≡ e ∷ rest
    → out ++ flat_map pair_bytes (pairs it) ≡ before ++ store_bytes s → length before + length (store_bytes s) ≤ room
    → length out + (3 + (length e.0.items + length e.1.items)) ≤ room
room-left s it rest e out before room is so fits =
    omega (arith, left-long it rest e is, ap length so, length-append out (flat_map pair_bytes (pairs it)), length-append before (store_bytes s), fits)
