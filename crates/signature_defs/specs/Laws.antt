-- That what is signed is valid, and that no leaf signs two texts, as laws of the definitions.
use Rattle.std.specs.Prelude.{◌≡◌, ◌≢◌, ℕ, ◌^◌, ◌<◌, ◌≤◌, true, List, length, Some}
use Rattle.signature_defs.specs.declared.OtsType.{OtsType}
use Rattle.signature_defs.specs.LmOts.{ots_candidate, ots_public_key, ots_signature}
use Rattle.signature_defs.specs.Lms.{lms_height_of, lms_public_key, lms_signature, lms_valid}
use Rattle.signature_defs.specs.Hss.{HssSecret, hss_public_key, hss_signature, hss_valid, leaf_number, signed_text, tree_number}

-- a signature of a one-time key leads to its public key
abbrev pub CandidateIsKey : Type 0
CandidateIsKey =
    (kind : OtsType) (id : List ℕ) (q : ℕ) (seed message : List ℕ)
    → ots_candidate id q message (ots_signature kind id q seed message) ≡ Some (ots_public_key kind id q seed)

-- a signature of any leaf of a tree is valid under the tree's public key
abbrev pub SignatureIsValid : Type 0
SignatureIsValid =
    (kind : OtsType) (code h : ℕ) (id seed : List ℕ) (q : ℕ) (message : List ℕ)
    → lms_height_of code ≡ Some h → length id ≡ 16 → q < 2 ^ h
    → lms_valid (lms_public_key code kind h id seed) message (lms_signature code kind h id seed q message) ≡ true

-- ---- trees in levels

-- the key has 1 to 8 levels of trees that the RFC knows
pub record IsHssSecret (key : HssSecret) : Type 0 where
  pub some : 1 ≤ key.levels
  pub few : key.levels ≤ 8
  pub known : lms_height_of key.code ≡ Some key.h
  pub sized : length key.id ≡ 16

-- a signature of any number is valid under the key
abbrev pub HssSignatureIsValid : Type 0
HssSignatureIsValid =
    (key : HssSecret) (c : ℕ) (message : List ℕ)
    → IsHssSecret key → hss_valid (hss_public_key key) message (hss_signature key c message) ≡ true

-- Signatures of two numbers that use one leaf of one tree have one text signed there. So a key that gives each number to one
-- message signs no two texts with one leaf.
abbrev pub LeafSignsOneText : Type 0
LeafSignsOneText =
    (key : HssSecret) (d c c' : ℕ) (message message' : List ℕ)
    → d < key.levels → c ≢ c' → tree_number key d c ≡ tree_number key d c' → leaf_number key d c ≡ leaf_number key d c'
    → signed_text key c d message ≡ signed_text key c' d message'
