-- The ranges of what a line says, by its form alone.
use Rattle.std.proofs.Common.{◌≡◌, ◌≢◌, ℕ, ◌^◌, ◌<◌, ◌≤◌, Bool, true, List, length, AllPairs}
use Rattle.std.specs.List.{AllByRecursion}
use Rattle.signature_defs.specs.declared.OtsType.{OtsType}
use Rattle.signature_defs.specs.Schemes.{Scheme}
use Rattle.signature_defs.specs.Schemes as schemes
use Rattle.signature_defs.specs.Secrets.{levels_are_built}
use Rattle.text_defs.specs.Words.{AreBytes}
use Rattle.kit_defs.specs.Kits.{KitLine, Version, SchemeIs, GroupIs, Key, Genesis, Port, PlainHost, LmsHost, HssHost, Pair, key_length, line_words}

-- In what follows `may` says of which schemes the kit may be.

-- a public key of one of the schemes
abbrev pub IsPublicKey : (Scheme → Bool) → List ℕ → Type 0
IsPublicKey may key = (scheme : Scheme) × (may scheme ≡ true) × AreBytes (key_length scheme) key

pub record IsGenesis (members : List ℕ) : Type 0 where
  pub some : 1 ≤ length members
  pub most : length members ≤ 16
  pub numbers : AllByRecursion (λ m. m ≤ 63) members
  pub distinct : AllPairs (λ m n. m ≢ n) members

pub record IsLmsHost (may : Scheme → Bool) (process code : ℕ) (id seed : List ℕ) : Type 0 where
  pub number : process ≤ 63
  pub scheme_may : may schemes.Lms ≡ true
  pub least : 5 ≤ code
  pub most : code ≤ 7
  pub id_is : AreBytes 16 id
  pub seed_is : AreBytes 32 seed

pub record IsHssHost (may : Scheme → Bool) (process levels code : ℕ) (kind : OtsType) (id seed : List ℕ) : Type 0 where
  pub number : process ≤ 63
  pub scheme_may : may schemes.Hss ≡ true
  pub built : levels_are_built levels code kind ≡ true
  pub id_is : AreBytes 16 id
  pub seed_is : AreBytes 32 seed

abbrev pub IsLine : (Scheme → Bool) → KitLine → Type 0
IsLine may (Version version) = Unit {0}
IsLine may (SchemeIs scheme) = may scheme ≡ true
IsLine may (GroupIs group) = AreBytes 16 group
IsLine may (Key process key) = (process ≤ 63) × IsPublicKey may key
IsLine may (Genesis members) = IsGenesis members
IsLine may (Port process port) = (process ≤ 63) × (1 ≤ port) × (port ≤ 65535)
IsLine may (PlainHost process total) = (process ≤ 63) × (may schemes.Plain ≡ true) × (total < 2 ^ 32)
IsLine may (LmsHost process code kind id seed) = IsLmsHost may process code id seed
IsLine may (HssHost process levels code kind id seed) = IsHssHost may process levels code kind id seed
IsLine may (Pair process other key) = (process ≤ 63) × (other ≤ 63) × (process ≢ other) × AreBytes 32 key

-- the words spell the line, which is in its ranges
abbrev pub Reads : (Scheme → Bool) → List (List ℕ) → KitLine → Type 0
Reads may words said = (words ≡ line_words said) × IsLine may said
