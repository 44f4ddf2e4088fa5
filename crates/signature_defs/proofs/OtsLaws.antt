-- A one-time signature leads to the public key of the key that made it.
use Rattle.std.proofs.Common.{◌≡◌, ℕ, ◌+◌, ◌-◌, ◌*◌, ◌%◌, ◌^◌, ◌<◌, ◌≤◌, ◌==◌, if◌then◌else◌, List, ◌++◌, length, Option, Some, None, refl, ap, ◌∙◌, arith, length-append, eq-eqb}
use Rattle.std.specs.Option.{option_map, option_and_then}
use Rattle.std.proofs.lemmas.Nat.{mod_below, pow_pos}
use Rattle.sha2.specs.Sha256.{sha256}
use Rattle.sha2.proofs.Facts256.{length-sha256}
use Rattle.signature_defs.specs.declared.OtsType.{OtsType}
use Rattle.signature_defs.specs.declared.OtsType.TheVariants.{W1, W2, W4, W8}
use Rattle.signature_defs.specs.Strings.{part, strings, u32str, u32_at, u16str}
use Rattle.signature_defs.specs.LmOts.{D_PBLC, candidate_by, chain, chain_head, digit, message_hash, ots_chains, ots_signature, ots_signature_length, ots_signature_type, ots_steps, ots_type_of, ots_typecode, randomizer, reached_end, secret, signed_value}
use Rattle.signature_defs.specs.Laws.{CandidateIsKey}
use Rattle.signature_defs.proofs.StringLaws.{length-strings, same_strings}
use Rattle.signature_defs.proofs.PartLaws.{part_behind, part_front, part_strings, u32_front}
use Rattle.signature_defs.proofs.ChainLaws.{chain_rest, length-chain}

pub typecode_small : (kind : OtsType) → ots_typecode kind < 2 ^ 32
typecode_small W1 = omega arith
typecode_small W2 = omega arith
typecode_small W4 = omega arith
typecode_small W8 = omega arith

pub type_of_typecode : (kind : OtsType) → ots_type_of (ots_typecode kind) ≡ Some kind
type_of_typecode W1 = refl
type_of_typecode W2 = refl
type_of_typecode W4 = refl
type_of_typecode W8 = refl

pub typecode_of_type : (code : ℕ) (kind : OtsType) → ots_type_of code ≡ Some kind → code ≡ ots_typecode kind
typecode_of_type code kind e = grind arith

pub typecode_range : (kind : OtsType) → (1 ≤ ots_typecode kind) × (ots_typecode kind ≤ 4)
typecode_range W1 = omega arith
typecode_range W2 = omega arith
typecode_range W4 = omega arith
typecode_range W8 = omega arith

below_power : (x w : ℕ) → x % 2 ^ w ≤ 2 ^ w - 1
below_power x w = omega (arith, mod_below x (2 ^ w) (pow_pos w))

pub digit_le : (kind : OtsType) (hash : List ℕ) (i : ℕ) → digit kind hash i ≤ ots_steps kind
digit_le kind hash i = below_power _ _

pub length-signed_value : (kind : OtsType) (id : List ℕ) (q : ℕ) (seed hash : List ℕ) (i : ℕ)
    → length (signed_value kind id q seed hash i) ≡ 32
length-signed_value kind id q seed hash i = length-chain (chain_head id q i) (secret id q seed i) 0 (digit kind hash i) (length-sha256 _)

pub length-ots_signature : (kind : OtsType) (id : List ℕ) (q : ℕ) (seed message : List ℕ)
    → length (ots_signature kind id q seed message) ≡ ots_signature_length kind
length-ots_signature kind id q seed message =
    let c : List ℕ = randomizer id q seed in
    let value : ℕ → List ℕ = signed_value kind id q seed (message_hash id q c message) in
    let random : length c ≡ 32 = length-sha256 _ in
    let values = length-strings value (ots_chains kind) 32 (length-signed_value kind id q seed (message_hash id q c message)) in
    length-append (u32str (ots_typecode kind) ++ c) (strings value (ots_chains kind)) ∙ omega (arith, random, values)

pub type_of_signature : (kind : OtsType) (id : List ℕ) (q : ℕ) (seed message : List ℕ)
    → ots_signature_type (ots_signature kind id q seed message) ≡ Some kind
type_of_signature kind id q seed message =
    let sig : List ℕ = ots_signature kind id q seed message in
    let c : List ℕ = randomizer id q seed in
    let rest : List ℕ = c ++ strings (signed_value kind id q seed (message_hash id q c message)) (ots_chains kind) in
    let named : ots_type_of (u32_at 0 sig)
    ≡ Some kind = ap ots_type_of (u32_front (ots_typecode kind) rest (typecode_small kind)) ∙ type_of_typecode kind in
    let long : OtsType → Option OtsType = λ k. if length sig == ots_signature_length k then Some k else None in
    ap (option_and_then long) named ∙ rw
    (eq-eqb (length sig) (ots_signature_length kind) (length-ots_signature kind id q seed message)) refl

random_part : (kind : OtsType) (id : List ℕ) (q : ℕ) (seed message : List ℕ)
    → part 4 32 (ots_signature kind id q seed message) ≡ randomizer id q seed
random_part kind id q seed message = part_front (randomizer id q seed) _ 32 (length-sha256 _)

value_part : (kind : OtsType) (id : List ℕ) (q : ℕ) (seed message : List ℕ) (i : ℕ) → i < ots_chains kind
    → part (36 + 32 * i) 32 (ots_signature kind id q seed message)
    ≡ signed_value kind id q seed (message_hash id q (randomizer id q seed) message) i
value_part kind id q seed message i lt =
    let c : List ℕ = randomizer id q seed in
    let hash : List ℕ = message_hash id q c message in
    let random : length c ≡ 32 = length-sha256 _ in
    let front : length (u32str (ots_typecode kind) ++ c) ≡ 36 = omega (arith, random, length-append (u32str (ots_typecode kind)) c) in
    part_behind (u32str (ots_typecode kind) ++ c) (strings (signed_value kind id q seed hash) (ots_chains kind)) 36 (32 * i) 32 front
    ∙ part_strings (signed_value kind id q seed hash) 32 (length-signed_value kind id q seed hash) (ots_chains kind) i lt

reaches_end : (kind : OtsType) (id : List ℕ) (q : ℕ) (seed message : List ℕ) (i : ℕ) → i < ots_chains kind
    → reached_end kind id q (message_hash id q (part 4 32 (ots_signature kind id q seed message)) message)
    (ots_signature kind id q seed message) i
    ≡ chain (chain_head id q i) 0 (ots_steps kind) (secret id q seed i)
reaches_end kind id q seed message i lt =
    let sig : List ℕ = ots_signature kind id q seed message in
    let hash : List ℕ = message_hash id q (randomizer id q seed) message in
    ap (λ (c : List ℕ). reached_end kind id q (message_hash id q c message) sig i) (random_part kind id q seed message)
    ∙ chain_rest (chain_head id q i) (secret id q seed i) (part (36 + 32 * i) 32 sig) (digit kind hash i) (ots_steps kind)
    (digit_le kind hash i) (value_part kind id q seed message i lt)

pub candidate_is_key : CandidateIsKey
candidate_is_key kind id q seed message =
    let sig : List ℕ = ots_signature kind id q seed message in
    let by : OtsType → List ℕ = λ k. candidate_by k id q message sig in
    let ends = same_strings _ _ (ots_chains kind) (reaches_end kind id q seed message) in
    ap (option_map by) (type_of_signature kind id q seed message)
    ∙ ap (λ (s : List ℕ). Some (sha256 (id ++ u32str q ++ u16str D_PBLC ++ s))) ends
