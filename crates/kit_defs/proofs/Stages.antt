-- How far a reading has come: what stands, in its ranges, and the lines that it stands for.
use Rattle.std.proofs.Common.{◌≡◌, ◌≢◌, ℕ, ◌+◌, ◌≤◌, ◌⊎◌, List, [], ◌∷◌, ◌++◌, length, map, drop, flat_map, AllPairs, Some, None, IsTrue}
use Rattle.std.specs.List.{AllByRecursion}
use Rattle.byte_defs.specs.Members.{has}
use Rattle.signature_defs.specs.Schemes.{Scheme}
use Rattle.signature_defs.specs.Secrets.{scheme_of, public_key_of}
use Rattle.text_defs.specs.Words.{AreBytes}
use Rattle.kit_defs.specs.Kits.{AreKeys, Host, IsHost, IsSecret, KitLine, KitVersion, Version, SchemeIs, GroupIs, Genesis, key_length, key_line, key_of, host_lines, others_than, port_line, roster_of, version_of}
use Rattle.kit_defs.specs.KitReading.{Draft, nothing}

pub data Stage : Type 0 where
  Start : Stage
  Versioned : (version : KitVersion) → Stage
  Schemed : (scheme : Scheme) → Stage
  Keyed : (scheme : Scheme) (group : List ℕ) (keys : List (ℕ × List ℕ)) → Stage
  Listed : (scheme : Scheme) (group : List ℕ) (keys : List (ℕ × List ℕ)) (first : ℕ) (others : List ℕ) (ports : List (ℕ × ℕ))
      (hosts : List Host) → Stage

abbrev pub draft_of : Stage → Draft
draft_of Start = nothing
draft_of (Versioned version) = record {
  version = Some version;
  scheme = None;
  group = None;
  keys = [];
  genesis = [];
  ports = [];
  hosts = [];
}
draft_of (Schemed scheme) = record {
  version = Some (version_of scheme);
  scheme = Some scheme;
  group = None;
  keys = [];
  genesis = [];
  ports = [];
  hosts = [];
}
draft_of (Keyed scheme group keys) = record {
  version = Some (version_of scheme);
  scheme = Some scheme;
  group = Some group;
  keys = keys;
  genesis = [];
  ports = [];
  hosts = [];
}
draft_of (Listed scheme group keys first others ports hosts) = record {
  version = Some (version_of scheme);
  scheme = Some scheme;
  group = Some group;
  keys = keys;
  genesis = first ∷ others;
  ports = ports;
  hosts = hosts;
}

abbrev pub head_lines : Scheme → List ℕ → List KitLine → List KitLine
head_lines scheme group lines = Version (version_of scheme) ∷ SchemeIs scheme ∷ GroupIs group ∷ lines

abbrev pub stage_lines : Stage → List KitLine
stage_lines Start = []
stage_lines (Versioned version) = Version version ∷ []
stage_lines (Schemed scheme) = Version (version_of scheme) ∷ SchemeIs scheme ∷ []
stage_lines (Keyed scheme group keys) = head_lines scheme group (map key_line keys)
stage_lines (Listed scheme group keys first others ports hosts) = head_lines scheme group
    (map key_line keys ++ Genesis (first ∷ others) ∷ map port_line ports) ++ flat_map host_lines hosts

-- ---- the ranges

-- a host whose first pair lines stand
pub record IsBegun (scheme : Scheme) (keys : List (ℕ × List ℕ)) (h : Host) : Type 0 where
  pub secret : IsSecret h.secret
  pub scheme_is : scheme_of h.secret ≡ scheme
  pub key : key_of keys h.process ≡ Some (public_key_of h.secret)
  pub front : roster_of h.pairs ++ drop (length h.pairs) (others_than h.process (roster_of keys)) ≡ others_than h.process (roster_of keys)
  pub shared : AllByRecursion (λ p. AreBytes 32 p.1) h.pairs

-- by rising numbers from this one on, and only the last one's pair lines are on their way
abbrev pub AreBegun : Scheme → List (ℕ × List ℕ) → ℕ → List Host → Type 0
AreBegun scheme keys least [] = Unit {0}
AreBegun scheme keys least (h ∷ []) = (least ≤ h.process) × IsBegun scheme keys h
AreBegun scheme keys least (h ∷ g ∷ hosts) = (least ≤ h.process) × IsHost scheme keys h × AreBegun scheme keys (h.process + 1) (g ∷ hosts)

pub record IsListed (scheme : Scheme) (group : List ℕ) (keys : List (ℕ × List ℕ)) (genesis : List ℕ) (ports : List (ℕ × ℕ))
    (hosts : List Host) : Type 0 where
  pub group_is : AreBytes 16 group
  pub keys_are : AreKeys (key_length scheme) 0 keys
  pub most : length genesis ≤ 16
  pub listed : AllByRecursion (λ m. IsTrue (has (roster_of keys) m)) genesis
  pub distinct : AllPairs (λ m n. m ≢ n) genesis
  -- the port lines of the roster's first processes stand, and no host line before the last of them
  pub front : map (λ p. p.0) ports ++ drop (length ports) (roster_of keys) ≡ roster_of keys
  pub ports_are : AllByRecursion (λ p. (1 ≤ p.1) × (p.1 ≤ 65535)) ports
  pub ports_first : (drop (length ports) (roster_of keys) ≡ []) ⊎ (hosts ≡ [])
  pub hosts_are : AreBegun scheme keys 0 hosts

abbrev pub IsStage : Stage → Type 0
IsStage Start = Unit {0}
IsStage (Versioned version) = Unit {0}
IsStage (Schemed scheme) = Unit {0}
IsStage (Keyed scheme group keys) = AreBytes 16 group × AreKeys (key_length scheme) 0 keys
IsStage (Listed scheme group keys first others ports hosts) = IsListed scheme group keys (first ∷ others) ports hosts
