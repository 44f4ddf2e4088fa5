-- How long the spelling of a store is at most: two bytes, and for each of 4,096 pairs a key of 64 bytes, a value of 512 and three of lengths.
use Rattle.std.proofs.Common.{ℕ, ◌*◌, ◌≤◌, List, [], ◌∷◌, length, subst, sym, arith}
use Rattle.std.specs.List.{flat_map, AllByRecursion}
use Rattle.std.proofs.lemmas.List.{length-append}
use Rattle.byte_defs.specs.Fields.{two_bytes, text}
use Rattle.store_defs.specs.Stores.{Pair, Store, pair_bytes, store_bytes, most_keys, IsPair, IsStore}
use Rattle.store_defs.specs.Records.{StateRecord, IsStateRecord}

length-pair : (e : Pair) → IsPair e → length (pair_bytes e) ≤ 579
length-pair e is = let k = is.key in let v = is.value in omega (arith, length-append e.0 (text e.1), k, v)

length-pairs : (s : Store) → AllByRecursion IsPair s → length (flat_map pair_bytes s) ≤ 579 * length s
length-pairs [] each = omega arith
length-pairs (e ∷ s) each =
    let one = length-pair e each.0 in
    let others = length-pairs s each.1 in
    omega (arith, length-append (pair_bytes e) (flat_map pair_bytes s), one, others)

pub length-store : (s : Store) → IsStore s → length (store_bytes s) ≤ 2371586
unfolding store_bytes most_keys
length-store s is =
    let count = is.count in
    let pairs = length-pairs s is.each in
    omega (arith, length-append (two_bytes (length s)) (flat_map pair_bytes s), count, pairs)

pub length-state : (r : StateRecord) → IsStateRecord r → length r.state ≤ 2371586
length-state r is = subst (λ (l : List ℕ). length l ≤ 2371586) (sym is.state.2) (length-store is.state.0 is.state.1)
