-- LM-OTS one-time signatures with SHA-256, so that n = 32 (RFC 8554, section 4). Beyond the RFC's names: `kind` is the
-- typecode's parameter set, `id` is I, `q` the number of the leaf, `seed` the SEED of Appendix A.
-- Names here (* for this crate alone):
--   parameter sets (4.1, table 1): ots_typecode, ots_type_of, ots_width, ots_chains, ots_shift*, ots_steps, ots_signature_length,
--     D_PBLC, D_MESG*
--   chains: chain_head, chain
--   keys: secret, key_of_ends*, ots_public_key*
--   digits: checksum*, digit, message_hash
--   signatures: randomizer, signed_value, ots_signature, reached_end, candidate_by, ots_signature_type*, ots_candidate*
use Rattle.std.specs.Prelude.{ℕ, zero, suc, ◌+◌, ◌-◌, ◌*◌, ◌/◌, ◌^◌, ◌==◌, if◌then◌else◌, List, [], ◌∷◌, ◌++◌, length, Option, Some, None}
use Rattle.std.specs.Option.{option_map, option_and_then}
use Rattle.byte_defs.specs.Choices.{first_that_holds}
use Rattle.sha2.specs.Sha256.{sha256}
use Rattle.signature_defs.specs.declared.OtsType.{OtsType}
use Rattle.signature_defs.specs.declared.OtsType.TheVariants.{W1, W2, W4, W8}
use Rattle.signature_defs.specs.Strings.{u8str, u16str, u32str, part, u32_at, coef, strings, sums}

-- ---- parameter sets (4.1, table 1)

-- the typecode
abbrev pub ots_typecode : OtsType → ℕ
ots_typecode W1 = 1
ots_typecode W2 = 2
ots_typecode W4 = 3
ots_typecode W8 = 4

abbrev pub ots_type_of : ℕ → Option OtsType
ots_type_of code = first_that_holds ((code == 1, W1) ∷ (code == 2, W2) ∷ (code == 3, W4) ∷ (code == 4, W8) ∷ [])

-- w, the bits of a digit
abbrev pub ots_width : OtsType → ℕ
ots_width W1 = 1
ots_width W2 = 2
ots_width W4 = 4
ots_width W8 = 8

-- p, the number of chains
abbrev pub ots_chains : OtsType → ℕ
ots_chains W1 = 265
ots_chains W2 = 133
ots_chains W4 = 67
ots_chains W8 = 34

-- ls, by how many bits the checksum is shifted to the left
abbrev pub ots_shift : OtsType → ℕ
ots_shift W1 = 7
ots_shift W2 = 6
ots_shift W4 = 4
ots_shift W8 = 0

-- 2^w - 1: a chain's number of steps, and the largest digit
abbrev pub ots_steps : OtsType → ℕ
ots_steps kind = 2 ^ ots_width kind - 1

-- typecode, C, y[0], ..., y[p - 1] (4.5)
abbrev pub ots_signature_length : OtsType → ℕ
ots_signature_length kind = 4 + 32 * (ots_chains kind + 1)

abbrev pub D_PBLC : ℕ
D_PBLC = 0x8080

abbrev pub D_MESG : ℕ
D_MESG = 0x8181

-- ---- chains

-- what each hash of chain i begins with
abbrev pub chain_head : List ℕ → ℕ → ℕ → List ℕ
chain_head id q i = id ++ u32str q ++ u16str i

-- a chain's value n steps on from the value before step j (4.3, 4.5 and 4.6, in the loops of algorithms 1, 3 and 4b)
unfoldable pub chain : List ℕ → ℕ → ℕ → List ℕ → List ℕ
chain head j zero tmp = tmp
chain head j (suc n) tmp = sha256 (head ++ u8str (j + n) ++ chain head j n tmp)

-- ---- keys

-- x[i], where chain i begins (Appendix A)
abbrev pub secret : List ℕ → ℕ → List ℕ → ℕ → List ℕ
secret id q seed i = sha256 (chain_head id q i ++ u8str 0xff ++ seed)

-- the ends of all chains hashed to a public key (4.3, algorithm 1, step 4)
abbrev pub key_of_ends : OtsType → List ℕ → ℕ → (ℕ → List ℕ) → List ℕ
key_of_ends kind id q ends = sha256 (id ++ u32str q ++ u16str D_PBLC ++ strings ends (ots_chains kind))

-- K (4.3, algorithm 1)
abbrev pub ots_public_key : OtsType → List ℕ → ℕ → List ℕ → List ℕ
ots_public_key kind id q seed = key_of_ends kind id q (λ i. chain (chain_head id q i) 0 (ots_steps kind) (secret id q seed i))

-- ---- digits

-- Cksm (4.4, algorithm 2)
abbrev pub checksum : OtsType → List ℕ → List ℕ
checksum kind hash = u16str (sums (λ i. ots_steps kind - coef hash i (ots_width kind)) (256 / ots_width kind) * 2 ^ ots_shift kind)

-- digit i of Q || Cksm(Q), where Q is the message's hash
abbrev pub digit : OtsType → List ℕ → ℕ → ℕ
digit kind hash i = coef (hash ++ checksum kind hash) i (ots_width kind)

-- Q (4.5, algorithm 3, step 3)
abbrev pub message_hash : List ℕ → ℕ → List ℕ → List ℕ → List ℕ
message_hash id q c message = sha256 (id ++ u32str q ++ u16str D_MESG ++ c ++ message)

-- ---- signatures

-- C. The RFC leaves its choice open (4.5); here it is made from SEED as a further x[i] would be, with i = 0xFFFD.
abbrev pub randomizer : List ℕ → ℕ → List ℕ → List ℕ
randomizer id q seed = secret id q seed 0xFFFD

-- y[i]: chain i after as many steps as the digit says
abbrev pub signed_value : OtsType → List ℕ → ℕ → List ℕ → List ℕ → ℕ → List ℕ
signed_value kind id q seed hash i = chain (chain_head id q i) 0 (digit kind hash i) (secret id q seed i)

-- 4.5, algorithm 3
abbrev pub ots_signature : OtsType → List ℕ → ℕ → List ℕ → List ℕ → List ℕ
ots_signature kind id q seed message =
    let c = randomizer id q seed in
    u32str (ots_typecode kind) ++ c ++ strings (signed_value kind id q seed (message_hash id q c message)) (ots_chains kind)

-- the end of chain i, reached from y[i] by the steps that are left (4.6, algorithm 4b, step 3)
abbrev pub reached_end : OtsType → List ℕ → ℕ → List ℕ → List ℕ → ℕ → List ℕ
reached_end kind id q hash sig i = chain (chain_head id q i) (digit kind hash i) (ots_steps kind - digit kind hash i)
    (part (36 + 32 * i) 32 sig)

-- Kc, from a signature of this parameter set
abbrev pub candidate_by : OtsType → List ℕ → ℕ → List ℕ → List ℕ → List ℕ
candidate_by kind id q message sig = key_of_ends kind id q (reached_end kind id q (message_hash id q (part 4 32 sig) message) sig)

-- the parameter set that a signature names and has the length of
abbrev pub ots_signature_type : List ℕ → Option OtsType
ots_signature_type sig = option_and_then (λ kind. if length sig == ots_signature_length kind then Some kind else None)
    (ots_type_of (u32_at 0 sig))

-- Kc, the public key that a signature leads to; none where the type is unknown or the length is not the type's (4.6, algorithm 4b)
abbrev pub ots_candidate : List ℕ → ℕ → List ℕ → List ℕ → Option (List ℕ)
ots_candidate id q message sig = option_map (λ kind. candidate_by kind id q message sig) (ots_signature_type sig)
