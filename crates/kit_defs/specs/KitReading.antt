-- Reading a kit line by line, with the first fault. A line has one fault, the first of this table that holds:
--   Line         it has more than 70,000 bytes
--   Repeated     a line that begins with the same word, and with the same process numbers after key, port, host and pair, was read before
--   Line         it is no line of a kit of the version and scheme so far, or it names a process outside the roster, once the genesis
--                was read, or it belongs before a line that was read
--   Missing      a line that belongs before it was not read
--   Line         a genesis line names a process outside the roster
--   KeyMismatch  the public key of a host's secret is not the one of its key line
-- After the last line: Line where the text does not end with a line feed, Missing where a line that a kit has was not read.
-- Names here (* for this crate alone):
--   faults: KitFault
--   what words say, by their form alone: version_by, is_of*, is_scheme*, may_be, scheme_of_word*, scheme_in*, scheme_by, group_by,
--     key_in*, public_key_by*, key_by, members_by, genesis_by, port_by, plain_host_by*, kind_by*, lms_host_by*, hss_host_by*,
--     secret_by*, host_by, pair_by, line_by
--   a kit as far as it was read: Draft, nothing, has_genesis, first_of, last_of, next_port, lacks_port, next_other, next_pair, may_of
--   Repeated: host_stands, is_repeated
--   Line: named_by*, is_outside, host_above, is_hosted, is_late, is_of_strangers*
--   Missing: is_pair*, is_early
--   KeyMismatch: listed_key, matching
--   a line that is taken: with_pair, with_host, with_matching*, with_line, most_line_bytes, take_line
--   the whole text: kit_by*, finish, lines_at, kit_of
use Rattle.std.specs.Prelude.{ℕ, ◌+◌, ◌==◌, ◌&&◌, ◌||◌, not, nat_le, nat_lt, ◌^◌, ◌-◌, Bool, true, false, if◌then◌else◌, List, [], ◌∷◌, ◌++◌, length, drop, Option, Some, None, is_some, option_map, option_and_then, codes, Result, Ok, Err}
use Rattle.std.specs.Option.{is_none, unwrap_or, option_or, option_flatten, ok_or}
use Rattle.std.specs.List.{list_any}
use Rattle.std.specs.Fmt.{decimal}
use Rattle.byte_defs.specs.Choices.{first_that_holds, is_some_and, and_then}
use Rattle.byte_defs.specs.Equality.{same_bytes}
use Rattle.byte_defs.specs.Fields.{◌>>=◌, refuse_if}
use Rattle.byte_defs.specs.Members.{has}
use Rattle.signature_defs.specs.declared.OtsType.{OtsType}
use Rattle.signature_defs.specs.LmOts.{ots_type_of}
use Rattle.signature_defs.specs.Schemes.{Scheme}
use Rattle.signature_defs.specs.Schemes as schemes
use Rattle.signature_defs.specs.Secrets.{Secret, Plain, Lms, Hss, levels_are_built, public_key_of}
use Rattle.text_defs.specs.Words.{words_of, parts_of, begin_with, number_within, process_of, bytes_of}
use Rattle.kit_defs.specs.Kits.{Kit, KitVersion, One, Two, Host, KitLine, Version, SchemeIs, GroupIs, Key, Genesis, Port, PlainHost, LmsHost, HssHost, Pair, key_length, roster_of, others_than, key_of}

-- ---- faults

-- with the number of the line, counted from 1
pub data KitFault : Type 0 where
  Line : (line : ℕ) → KitFault
  Repeated : (line : ℕ) → KitFault
  Missing : (line : ℕ) → KitFault
  -- the public key that the secret makes, and the one of the key line
  KeyMismatch : (line : ℕ) (made listed : List ℕ) → KitFault

-- ---- what words say, by their form alone

-- what the words after `rampart` say
abbrev pub version_by : List (List ℕ) → Option KitLine
version_by (kit ∷ number ∷ []) =
    if same_bytes kit (codes "kit")
    then first_that_holds ((same_bytes number (codes "1"), Version One) ∷ (same_bytes number (codes "2"), Version Two) ∷ []) else None
version_by _ = None

-- kits of the scheme are spelled in the version
abbrev pub is_of : KitVersion → Scheme → Bool
is_of One schemes.Plain = true
is_of One schemes.Lms = true
is_of One schemes.Hss = false
is_of Two schemes.Plain = false
is_of Two schemes.Lms = false
is_of Two schemes.Hss = true

-- it is this scheme
abbrev pub is_scheme : Scheme → Scheme → Bool
is_scheme schemes.Plain schemes.Plain = true
is_scheme schemes.Plain schemes.Lms = false
is_scheme schemes.Plain schemes.Hss = false
is_scheme schemes.Lms schemes.Plain = false
is_scheme schemes.Lms schemes.Lms = true
is_scheme schemes.Lms schemes.Hss = false
is_scheme schemes.Hss schemes.Plain = false
is_scheme schemes.Hss schemes.Lms = false
is_scheme schemes.Hss schemes.Hss = true

-- the kit may be of the scheme: it is the one that was given; else one of the version that was given; else any
abbrev pub may_be : Option KitVersion → Option Scheme → Scheme → Bool
may_be None None scheme = true
may_be (Some version) None scheme = is_of version scheme
may_be None (Some reported) scheme = is_scheme reported scheme
may_be (Some version) (Some reported) scheme = is_scheme reported scheme

-- In what follows `may` says which schemes the kit may have.

-- the scheme of a word
abbrev pub scheme_of_word : List ℕ → Option Scheme
scheme_of_word word = first_that_holds (
    (same_bytes word (codes "plain"), schemes.Plain)
    ∷ (same_bytes word (codes "lms"), schemes.Lms)
    ∷ (same_bytes word (codes "hss"), schemes.Hss) ∷ [])

-- the scheme of a word, where the kit may be of it
abbrev pub scheme_in : (Scheme → Bool) → List ℕ → Option Scheme
scheme_in may word = and_then (scheme_of_word word) (λ scheme. if may scheme then Some scheme else None)

-- what the words after `scheme` say
abbrev pub scheme_by : (Scheme → Bool) → List (List ℕ) → Option KitLine
scheme_by may (word ∷ []) = option_map SchemeIs (scheme_in may word)
scheme_by may _ = None

-- what the words after `group` say
abbrev pub group_by : List (List ℕ) → Option KitLine
group_by (group ∷ []) = option_map GroupIs (bytes_of 16 group)
group_by _ = None

-- a public key of this scheme, where the kit may be of it
abbrev pub key_in : (Scheme → Bool) → List ℕ → Scheme → Option (List ℕ)
key_in may word scheme = if may scheme then bytes_of (key_length scheme) word else None

-- a public key of one of the schemes
abbrev pub public_key_by : (Scheme → Bool) → List ℕ → Option (List ℕ)
public_key_by may word = option_or (key_in may word schemes.Plain) (option_or (key_in may word schemes.Lms) (key_in may word schemes.Hss))

-- what the words after `key` say
abbrev pub key_by : (Scheme → Bool) → List (List ℕ) → Option KitLine
key_by may (process ∷ key ∷ []) = and_then (process_of process) (λ p. option_map (Key p) (public_key_by may key))
key_by may _ = None

-- the numbers of processes, each different from those before
unfoldable pub members_by : List ℕ → List (List ℕ) → Option (List ℕ)
members_by before [] = Some before
members_by before (word ∷ words) = and_then (process_of word) (λ p. if has before p then None else members_by (before ++ p ∷ []) words)

-- what the words after `genesis` say: 1 to 16 different processes
abbrev pub genesis_by : List (List ℕ) → Option KitLine
genesis_by words = if nat_le 1 (length words) && nat_le (length words) 16 then option_map Genesis (members_by [] words) else None

-- what the words after `port` say
abbrev pub port_by : List (List ℕ) → Option KitLine
port_by (process ∷ port ∷ []) = and_then (process_of process) (λ p. option_map (Port p) (number_within 1 65535 port))
port_by _ = None

-- what the words after `host P plain` say
abbrev pub plain_host_by : ℕ → List (List ℕ) → Option KitLine
plain_host_by p (total ∷ []) = option_map (PlainHost p) (number_within 0 (2 ^ 32 - 1) total)
plain_host_by p _ = None

-- the one-time parameter set of a typecode
abbrev pub kind_by : List ℕ → Option OtsType
kind_by word = option_and_then ots_type_of (number_within 1 4 word)

-- what the words after `host P lms` say
abbrev pub lms_host_by : ℕ → List (List ℕ) → Option KitLine
lms_host_by p (code ∷ kind ∷ id ∷ seed ∷ []) =
    and_then (number_within 5 7 code) (λ h. and_then (kind_by kind) (λ w.
    and_then (bytes_of 16 id) (λ i. option_map (LmsHost p h w i) (bytes_of 32 seed))))
lms_host_by p _ = None

-- what the words after `host P hss` say
abbrev pub hss_host_by : ℕ → List (List ℕ) → Option KitLine
hss_host_by p (levels ∷ code ∷ kind ∷ id ∷ seed ∷ []) =
    and_then (number_within 1 3 levels) (λ l. and_then (number_within 5 7 code) (λ h. and_then (kind_by kind) (λ w.
    if levels_are_built l h w then and_then (bytes_of 16 id) (λ i. option_map (HssHost p l h w i) (bytes_of 32 seed)) else None)))
hss_host_by p _ = None

-- what the words after the scheme's word say
abbrev pub secret_by : ℕ → List (List ℕ) → Scheme → Option KitLine
secret_by p more schemes.Plain = plain_host_by p more
secret_by p more schemes.Lms = lms_host_by p more
secret_by p more schemes.Hss = hss_host_by p more

-- what the words after `host` say
abbrev pub host_by : (Scheme → Bool) → List (List ℕ) → Option KitLine
host_by may (process ∷ word ∷ more) = and_then (process_of process) (λ p. and_then (scheme_in may word) (secret_by p more))
host_by may _ = None

-- what the words after `pair` say
abbrev pub pair_by : List (List ℕ) → Option KitLine
pair_by (process ∷ other ∷ key ∷ []) = and_then (process_of process) (λ p. and_then (process_of other) (λ q.
    if p == q then None else option_map (Pair p q) (bytes_of 32 key)))
pair_by _ = None

-- the line of a kit that these words are
unfoldable pub line_by : (Scheme → Bool) → List (List ℕ) → Option KitLine
line_by may [] = None
line_by may (word ∷ words) = option_flatten (first_that_holds (
    (same_bytes word (codes "rampart"), version_by words)
    ∷ (same_bytes word (codes "scheme"), scheme_by may words)
    ∷ (same_bytes word (codes "group"), group_by words)
    ∷ (same_bytes word (codes "key"), key_by may words)
    ∷ (same_bytes word (codes "genesis"), genesis_by words)
    ∷ (same_bytes word (codes "port"), port_by words)
    ∷ (same_bytes word (codes "host"), host_by may words)
    ∷ (same_bytes word (codes "pair"), pair_by words) ∷ []))

-- ---- a kit as far as it was read

-- what was read of a kit so far
pub record Draft : Type 0 where
  pub version : Option KitVersion
  pub scheme : Option Scheme
  pub group : Option (List ℕ)
  pub keys : List (ℕ × List ℕ)
  -- empty where the line was not read
  pub genesis : List ℕ
  pub ports : List (ℕ × ℕ)
  -- the pair lines of the last one may be on their way
  pub hosts : List Host

-- before the first line
abbrev pub nothing : Draft
nothing = record { version = None; scheme = None; group = None; keys = []; genesis = []; ports = []; hosts = [] }

-- the genesis line was read
abbrev pub has_genesis : Draft → Bool
has_genesis d = not (length d.genesis == 0)

-- the first element, where there is one
abbrev pub first_of : {A : Type 0} → List A → Option A
first_of [] = None
first_of (x ∷ xs) = Some x

-- the last element, where there is one
abbrev pub last_of : {A : Type 0} → List A → Option A
last_of [] = None
last_of (x ∷ []) = Some x
last_of (x ∷ y ∷ more) = last_of (y ∷ more)

-- the process of the roster whose port line comes next
abbrev pub next_port : Draft → Option ℕ
next_port d = first_of (drop (length d.ports) (roster_of d.keys))

-- a line up to the last port line was not read
abbrev pub lacks_port : Draft → Bool
lacks_port d = not (has_genesis d) || is_some (next_port d)

-- the other process of the roster that this host's next pair line names
abbrev pub next_other : Draft → Host → Option ℕ
next_other d h = first_of (drop (length h.pairs) (others_than h.process (roster_of d.keys)))

-- the two processes whose pair line comes next
abbrev pub next_pair : Draft → Option (ℕ × ℕ)
next_pair d = option_and_then (λ h. option_map (λ q. (h.process, q)) (next_other d h)) (last_of d.hosts)

-- which schemes the kit may have, by the lines so far
abbrev pub may_of : Draft → Scheme → Bool
may_of d = may_be d.version d.scheme

-- ---- Repeated

-- the words begin as the line of this host does, or one of its pair lines
abbrev pub host_stands : List (List ℕ) → Host → Bool
host_stands words h =
    begin_with (codes "host" ∷ decimal h.process ∷ []) words
    || list_any (λ p. begin_with (codes "pair" ∷ decimal h.process ∷ decimal p.0 ∷ []) words) h.pairs

-- a line was read that begins with the same word, and with the same process numbers after key, port, host and pair
unfoldable pub is_repeated : Draft → List (List ℕ) → Bool
is_repeated d words =
    (is_some d.version && begin_with (codes "rampart" ∷ []) words)
    || ((is_some d.scheme && begin_with (codes "scheme" ∷ []) words)
    || ((is_some d.group && begin_with (codes "group" ∷ []) words)
    || (list_any (λ k. begin_with (codes "key" ∷ decimal k.0 ∷ []) words) d.keys
    || ((has_genesis d && begin_with (codes "genesis" ∷ []) words)
    || (list_any (λ p. begin_with (codes "port" ∷ decimal p.0 ∷ []) words) d.ports
    || list_any (host_stands words) d.hosts)))))

-- ---- Line

-- the processes that a port, host or pair line names
abbrev pub named_by : KitLine → List ℕ
named_by (Port process port) = process ∷ []
named_by (PlainHost process total) = process ∷ []
named_by (LmsHost process code kind id seed) = process ∷ []
named_by (HssHost process levels code kind id seed) = process ∷ []
named_by (Pair process other key) = process ∷ other ∷ []
named_by _ = []

-- the genesis was read, and the line names a process outside the roster
abbrev pub is_outside : Draft → KitLine → Bool
is_outside d line = has_genesis d && list_any (λ p. not (has (roster_of d.keys) p)) (named_by line)

-- a host line of a process above this one was read
abbrev pub host_above : Draft → ℕ → Bool
host_above d p = list_any (λ h. nat_lt p h.process) d.hosts

-- the host line of the process was read
abbrev pub is_hosted : Draft → ℕ → Bool
is_hosted d p = list_any (λ h. h.process == p) d.hosts

-- the line belongs before one that was read
abbrev pub is_late : Draft → KitLine → Bool
is_late d (Key process key) = has_genesis d || list_any (λ k. nat_lt process k.0) d.keys
is_late d (PlainHost process total) = host_above d process
is_late d (LmsHost process code kind id seed) = host_above d process
is_late d (HssHost process levels code kind id seed) = host_above d process
is_late d (Pair process other key) = not (is_hosted d process) && host_above d process
is_late d _ = false

-- the line is a genesis line, and names a process outside the roster
abbrev pub is_of_strangers : Draft → KitLine → Bool
is_of_strangers d (Genesis members) = list_any (λ p. not (has (roster_of d.keys) p)) members
is_of_strangers d _ = false

-- ---- Missing

-- the pair is of these two processes
abbrev pub is_pair : ℕ → ℕ → ℕ × ℕ → Bool
is_pair p q pair = (pair.0 == p) && (pair.1 == q)

-- a line that belongs before it was not read
abbrev pub is_early : Draft → KitLine → Bool
is_early d (Version version) = false
is_early d (SchemeIs scheme) = is_none d.version
is_early d (GroupIs group) = is_none d.scheme
is_early d (Key process key) = is_none d.group
is_early d (Genesis members) = length d.keys == 0
is_early d (Port process port) = not (has_genesis d) || not (is_some_and (next_port d) (λ p. p == process))
is_early d (PlainHost process total) = lacks_port d || is_some (next_pair d)
is_early d (LmsHost process code kind id seed) = lacks_port d || is_some (next_pair d)
is_early d (HssHost process levels code kind id seed) = lacks_port d || is_some (next_pair d)
is_early d (Pair process other key) = lacks_port d || not (is_some_and (next_pair d) (is_pair process other))

-- ---- KeyMismatch

-- the public key of the process's key line
abbrev pub listed_key : Draft → ℕ → List ℕ
listed_key d p = unwrap_or (key_of d.keys p) []

-- the public key of this secret is the one of the process's key line
abbrev pub matching : ℕ → Draft → ℕ → Secret → Result (Unit {0}) KitFault
matching n d p secret = refuse_if (not (same_bytes (public_key_of secret) (listed_key d p)))
    (KeyMismatch n (public_key_of secret) (listed_key d p))

-- ---- a line that is taken

-- the pair, after those of the last host
abbrev pub with_pair : ℕ × List ℕ → List Host → List Host
with_pair pair [] = []
with_pair pair (h ∷ []) = record h { pairs = h.pairs ++ pair ∷ [] } ∷ []
with_pair pair (h ∷ g ∷ hosts) = h ∷ with_pair pair (g ∷ hosts)

-- the draft with this host after the others
abbrev pub with_host : Draft → ℕ → Secret → Draft
with_host d process secret = record d { hosts = d.hosts ++ record { process = process; secret = secret; pairs = [] } ∷ [] }

-- the same, where the secret makes the public key of the process's key line
abbrev pub with_matching : ℕ → Draft → ℕ → Secret → Result Draft KitFault
with_matching n d process secret = do
  _ ← matching n d process secret
  Ok (with_host d process secret)

-- the draft with this line after those that were read
abbrev pub with_line : ℕ → Draft → KitLine → Result Draft KitFault
with_line n d (Version version) = Ok (record d { version = Some version })
with_line n d (SchemeIs scheme) = Ok (record d { scheme = Some scheme })
with_line n d (GroupIs group) = Ok (record d { group = Some group })
with_line n d (Key process key) = Ok (record d { keys = d.keys ++ (process, key) ∷ [] })
with_line n d (Genesis members) = Ok (record d { genesis = members })
with_line n d (Port process port) = Ok (record d { ports = d.ports ++ (process, port) ∷ [] })
with_line n d (PlainHost process total) = Ok (with_host d process (Plain (listed_key d process) total))
with_line n d (LmsHost process code kind id seed) = with_matching n d process (Lms code kind id seed)
with_line n d (HssHost process levels code kind id seed) = with_matching n d process (Hss levels code kind id seed)
with_line n d (Pair process other key) = Ok (record d { hosts = with_pair (other, key) d.hosts })

-- how many bytes a line has at most
abbrev pub most_line_bytes : ℕ
most_line_bytes = 70000

-- the draft with the line of this number, or the line's fault
unfoldable pub take_line : ℕ → Draft → List ℕ → Result Draft KitFault
take_line n d line = do
  _ ← refuse_if (nat_lt most_line_bytes (length line)) (Line n)
  _ ← refuse_if (is_repeated d (words_of line)) (Repeated n)
  said ← ok_or (line_by (may_of d) (words_of line)) (Line n)
  _ ← refuse_if (is_outside d said || is_late d said) (Line n)
  _ ← refuse_if (is_early d said) (Missing n)
  _ ← refuse_if (is_of_strangers d said) (Line n)
  with_line n d said

-- ---- the whole text

-- the kit of a draft whose lines were all read
abbrev pub kit_by : Draft → Scheme → List ℕ → Kit
kit_by d scheme group = record { scheme = scheme; group = group; keys = d.keys; genesis = d.genesis; ports = d.ports; hosts = d.hosts }

-- where all lines of a kit were read, the kit; else one is missing where this line would be
unfoldable pub finish : ℕ → Draft → Result Kit KitFault
finish n d = do
  _ ← refuse_if (lacks_port d || is_some (next_pair d)) (Missing n)
  scheme ← ok_or d.scheme (Missing n)
  group ← ok_or d.group (Missing n)
  Ok (kit_by d scheme group)

-- the lines from this number on
unfoldable pub lines_at : ℕ → Draft → List (List ℕ) → Result Kit KitFault
lines_at n d [] = Err (Line n)
lines_at n d (rest ∷ []) = if length rest == 0 then finish n d else Err (Line n)
lines_at n d (line ∷ next ∷ more) = do
  taken ← take_line n d line
  lines_at (n + 1) taken (next ∷ more)

-- the kit that the text spells
unfoldable pub kit_of : List ℕ → Result Kit KitFault
kit_of bytes = lines_at 1 nothing (parts_of bytes)
