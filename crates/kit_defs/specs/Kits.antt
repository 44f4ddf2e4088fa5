-- Kits: what the processes of a group start with. The first lines are public, the others are each host's secrets.
--   rampart kit 1 | rampart kit 2    the version, which the scheme has: 2 of HSS, 1 of the others
--   scheme plain | scheme lms | scheme hss
--   group HEX                        16 bytes
--   key P HEX                        for each process of the roster by rising number: 32 bytes plain, 56 bytes LMS, 60 bytes HSS
--   genesis P P P                    the members of the first view in rank order: 1 to 16 different ones of the roster
--   port P N                         for each process of the roster by rising number: N from 1 to 65,535
-- and for each process that is hosted by rising number
--   host P plain TOTAL | host P lms H W I SEED      the typecodes, 16 bytes and 32 bytes in hexadecimal
--   | host P hss L H W I SEED                       the number of levels, and the same of each tree, I and SEED of the top one
--   pair P Q HEX                     32 bytes, for each other process Q of the roster by rising number
-- The key of a process is its host's public key.
-- Names here (* for this crate alone):
--   Host, Kit, roster_of, others_than, key_of
--   lines: KitVersion, version_of, KitLine, version_word*, scheme_word*, line_words, key_line, port_line, secret_line, pair_line,
--     host_lines, public_lines, kit_lines*, text_of_lines
--   the spelling: kit_text, kit_digest
--   the ranges: key_length, AreKeys, IsSecret, IsHost, AreHosts, IsKit
use Rattle.std.specs.Prelude.{◌≡◌, ◌≢◌, ℕ, ◌+◌, ◌<◌, ◌≤◌, ◌^◌, ◌==◌, not, true, List, [], ◌∷◌, ◌++◌, length, map, filter, find, Option, Some, option_map, codes, IsTrue}
use Rattle.std.specs.List.{flat_map, AllByRecursion, AllPairs}
use Rattle.std.specs.Fmt.{decimal}
use Rattle.hex.specs.Hex.{encode_lower}
use Rattle.sha2.specs.Sha256.{sha256}
use Rattle.byte_defs.specs.Members.{has}
use Rattle.signature_defs.specs.declared.OtsType.{OtsType}
use Rattle.signature_defs.specs.LmOts.{ots_typecode}
use Rattle.signature_defs.specs.Schemes.{Scheme}
use Rattle.signature_defs.specs.Schemes as schemes
use Rattle.signature_defs.specs.Secrets.{Secret, Plain, Lms, Hss, levels_are_built, scheme_of, public_key_of}
use Rattle.text_defs.specs.Words.{line_text, AreBytes}

-- what a process that is hosted holds
pub record Host : Type 0 where
  pub process : ℕ
  pub secret : Secret
  -- the keys that it shares with the other processes, by their rising numbers
  pub pairs : List (ℕ × List ℕ)

-- what the processes of a group start with
pub record Kit : Type 0 where
  pub scheme : Scheme
  pub group : List ℕ
  -- the roster: each process and its public key
  pub keys : List (ℕ × List ℕ)
  -- in rank order
  pub genesis : List ℕ
  -- each process of the roster and its port
  pub ports : List (ℕ × ℕ)
  pub hosts : List Host

-- the processes of a roster
abbrev pub roster_of : List (ℕ × List ℕ) → List ℕ
roster_of keys = map (λ k. k.0) keys

-- the others of a roster
abbrev pub others_than : ℕ → List ℕ → List ℕ
others_than p roster = filter (λ q. not (q == p)) roster

-- the public key of a process
abbrev pub key_of : List (ℕ × List ℕ) → ℕ → Option (List ℕ)
key_of keys p = option_map (λ k. k.1) (find (λ k. k.0 == p) keys)

-- ---- lines

-- the versions of the format
pub data KitVersion : Type 0 where
  One : KitVersion
  Two : KitVersion

-- the version in which kits of a scheme are spelled
abbrev pub version_of : Scheme → KitVersion
version_of schemes.Plain = One
version_of schemes.Lms = One
version_of schemes.Hss = Two

-- what a line says
pub data KitLine : Type 0 where
  Version : (version : KitVersion) → KitLine
  SchemeIs : (scheme : Scheme) → KitLine
  GroupIs : (group : List ℕ) → KitLine
  Key : (process : ℕ) (key : List ℕ) → KitLine
  Genesis : (members : List ℕ) → KitLine
  Port : (process port : ℕ) → KitLine
  PlainHost : (process total : ℕ) → KitLine
  LmsHost : (process code : ℕ) (kind : OtsType) (id seed : List ℕ) → KitLine
  HssHost : (process levels code : ℕ) (kind : OtsType) (id seed : List ℕ) → KitLine
  Pair : (process other : ℕ) (key : List ℕ) → KitLine

-- the word of a version
abbrev pub version_word : KitVersion → List ℕ
version_word One = codes "1"
version_word Two = codes "2"

-- the word of a signature scheme
abbrev pub scheme_word : Scheme → List ℕ
scheme_word schemes.Plain = codes "plain"
scheme_word schemes.Lms = codes "lms"
scheme_word schemes.Hss = codes "hss"

-- the words of a line, as the table above has them
abbrev pub line_words : KitLine → List (List ℕ)
line_words (Version version) = codes "rampart" ∷ codes "kit" ∷ version_word version ∷ []
line_words (SchemeIs scheme) = codes "scheme" ∷ scheme_word scheme ∷ []
line_words (GroupIs group) = codes "group" ∷ encode_lower group ∷ []
line_words (Key process key) = codes "key" ∷ decimal process ∷ encode_lower key ∷ []
line_words (Genesis members) = codes "genesis" ∷ map decimal members
line_words (Port process port) = codes "port" ∷ decimal process ∷ decimal port ∷ []
line_words (PlainHost process total) = codes "host" ∷ decimal process ∷ codes "plain" ∷ decimal total ∷ []
line_words (LmsHost process code kind id seed) = codes "host" ∷ decimal process ∷ codes "lms" ∷ decimal code ∷ decimal (ots_typecode kind)
    ∷ encode_lower id ∷ encode_lower seed ∷ []
line_words (HssHost process levels code kind id seed) =
    codes "host" ∷ decimal process ∷ codes "hss" ∷ decimal levels ∷ decimal code ∷ decimal (ots_typecode kind) ∷ encode_lower id
    ∷ encode_lower seed ∷ []
line_words (Pair process other key) = codes "pair" ∷ decimal process ∷ decimal other ∷ encode_lower key ∷ []

-- the line of a process and its public key
abbrev pub key_line : ℕ × List ℕ → KitLine
key_line k = Key k.0 k.1

-- the line of a process and its port
abbrev pub port_line : ℕ × ℕ → KitLine
port_line p = Port p.0 p.1

-- the line of a host and its secret. A plain one has the total alone, since its key is the public key
abbrev pub secret_line : ℕ → Secret → KitLine
secret_line process (Plain key total) = PlainHost process total
secret_line process (Lms code kind id seed) = LmsHost process code kind id seed
secret_line process (Hss levels code kind id seed) = HssHost process levels code kind id seed

-- the line of a host, another process and the key that they share
abbrev pub pair_line : ℕ → ℕ × List ℕ → KitLine
pair_line process pair = Pair process pair.0 pair.1

-- the line of a host, and after it those of its pairs
abbrev pub host_lines : Host → List KitLine
host_lines h = secret_line h.process h.secret ∷ map (pair_line h.process) h.pairs

-- the lines that all may know
abbrev pub public_lines : Kit → List KitLine
public_lines kit = Version (version_of kit.scheme) ∷ SchemeIs kit.scheme ∷ GroupIs kit.group
    ∷ (map key_line kit.keys ++ Genesis kit.genesis ∷ map port_line kit.ports)

-- the lines of a kit, the secret ones last
abbrev pub kit_lines : Kit → List KitLine
kit_lines kit = public_lines kit ++ flat_map host_lines kit.hosts

-- the text of these lines
abbrev pub text_of_lines : List KitLine → List ℕ
text_of_lines lines = flat_map (λ line. line_text (line_words line)) lines

-- ---- the spelling

-- the text of a kit
abbrev pub kit_text : Kit → List ℕ
kit_text kit = text_of_lines (kit_lines kit)

-- of the public lines
abbrev pub kit_digest : Kit → List ℕ
kit_digest kit = sha256 (text_of_lines (public_lines kit))

-- ---- the ranges

-- how many bytes a public key has
abbrev pub key_length : Scheme → ℕ
key_length schemes.Plain = 32
key_length schemes.Lms = 56
key_length schemes.Hss = 60

-- by rising numbers from this one on, each with a key of `size` bytes
abbrev pub AreKeys : ℕ → ℕ → List (ℕ × List ℕ) → Type 0
AreKeys size least [] = Unit {0}
AreKeys size least (k ∷ keys) = (least ≤ k.0) × (k.0 ≤ 63) × AreBytes size k.1 × AreKeys size (k.0 + 1) keys

-- a plain secret has a key of 32 bytes and a total below 2^32; one of LMS a tree of typecode 5 to 7, an identifier of 16 bytes and a
-- seed of 32 bytes; and one of HSS levels that are built, and both of the top tree
abbrev pub IsSecret : Secret → Type 0
IsSecret (Plain key total) = AreBytes 32 key × (total < 2 ^ 32)
IsSecret (Lms code kind id seed) = (5 ≤ code) × (code ≤ 7) × AreBytes 16 id × AreBytes 32 seed
IsSecret (Hss levels code kind id seed) = (levels_are_built levels code kind ≡ true) × AreBytes 16 id × AreBytes 32 seed

-- the secret of a host is in its ranges and of the kit's scheme, its public key is the host's in the roster, and the host shares a key of
-- 32 bytes with each other process of the roster, by rising numbers
pub record IsHost (scheme : Scheme) (keys : List (ℕ × List ℕ)) (h : Host) : Type 0 where
  pub secret : IsSecret h.secret
  pub scheme_is : scheme_of h.secret ≡ scheme
  pub key : key_of keys h.process ≡ Some (public_key_of h.secret)
  pub shared_with : roster_of h.pairs ≡ others_than h.process (roster_of keys)
  pub shared : AllByRecursion (λ p. AreBytes 32 p.1) h.pairs

-- by rising numbers from this one on
abbrev pub AreHosts : Scheme → List (ℕ × List ℕ) → ℕ → List Host → Type 0
AreHosts scheme keys least [] = Unit {0}
AreHosts scheme keys least (h ∷ hosts) = (least ≤ h.process) × IsHost scheme keys h × AreHosts scheme keys (h.process + 1) hosts

-- a kit in its ranges: what has a spelling that is read again
pub record IsKit (kit : Kit) : Type 0 where
  pub group : AreBytes 16 kit.group
  pub keys : AreKeys (key_length kit.scheme) 0 kit.keys
  pub some : 1 ≤ length kit.genesis
  pub most : length kit.genesis ≤ 16
  pub listed : AllByRecursion (λ m. IsTrue (has (roster_of kit.keys) m)) kit.genesis
  pub distinct : AllPairs (λ m n. m ≢ n) kit.genesis
  pub ported : map (λ p. p.0) kit.ports ≡ roster_of kit.keys
  pub ports : AllByRecursion (λ p. (1 ≤ p.1) × (p.1 ≤ 65535)) kit.ports
  pub hosts : AreHosts kit.scheme kit.keys 0 kit.hosts
