-- The command that words ask for, word by word.
-- Names here (* for this crate alone):
--   behind*, plain_by*, is_colon_behind*, tree_by*, lms_by*, hss_by*, plan_of*, order_of*, payload_of*, spelled_payload*, rising_from*,
--     listed_of, hosting_of*, other_of*, command_of*
use Rattle.std.specs.Prelude.{ℕ, ◌+◌, ◌/◌, ◌^◌, ◌-◌, ◌==◌, ◌&&◌, nat_le, Bool, true, false, if◌then◌else◌, List, [], ◌∷◌, length, take, drop, slice_index, Option, Some, None, option_map, option_and_then, codes}
use Rattle.std.specs.Option.{option_or, unwrap_or}
use Rattle.byte_defs.specs.Equality.{same_bytes}
use Rattle.byte_defs.specs.Choices.{and_then}
use Rattle.signature_defs.specs.declared.OtsType.{OtsType}
use Rattle.signature_defs.specs.LmOts.{ots_type_of}
use Rattle.signature_defs.specs.Secrets.{levels_are_built}
use Rattle.kit_defs.specs.declared.KeyPlan.{KeyPlan}
use Rattle.kit_defs.specs.declared.KeyPlan.TheVariants.{Plain, Lms, Hss}
use Rattle.text_defs.specs.Words.{number_within, bytes_of}
use Rattle.command_line.specs.Commands.{KitOrder, Command, Replay, Chain, Gen, Keygen, Node, Resume, Guard, Serve, Ask, Audit}

-- what comes after this front
abbrev pub behind : List ℕ → List ℕ → Option (List ℕ)
behind front word = if same_bytes (take (length front) word) front then Some (drop (length front) word) else None

-- the plan of plain keys, which make `total` signatures
abbrev pub plain_by : List ℕ → Option KeyPlan
plain_by total = option_map Plain (number_within 0 (2 ^ 32 - 1) total)

-- the word has n bytes, and a colon after the first
abbrev pub is_colon_behind : ℕ → List ℕ → Bool
is_colon_behind n word = (length word == n) && (slice_index word 1 == 58)

-- two digits with a colon between them: the typecodes of a tree
abbrev pub tree_by : List ℕ → Option (ℕ × OtsType)
tree_by word =
    if is_colon_behind 3 word then and_then (number_within 5 7 (take 1 word))
    (λ code. option_map (λ kind. (code, kind)) (option_and_then ots_type_of (number_within 1 4 (drop 2 word)))) else None

-- the plan of one tree for each process
abbrev pub lms_by : List ℕ → Option KeyPlan
lms_by word = option_map (λ tree. Lms tree.0 tree.1) (tree_by word)

-- the plan of trees in levels, where they are built: a digit, and after a colon the typecodes of a tree
abbrev pub hss_by : List ℕ → Option KeyPlan
hss_by word =
    if is_colon_behind 5 word then and_then (number_within 1 3 (take 1 word)) (λ levels. and_then (tree_by (drop 2 word)) (λ tree.
    if levels_are_built levels tree.0 tree.1 then Some (Hss levels tree.0 tree.1) else None)) else None

-- the plan that the word spells
abbrev pub plan_of : List ℕ → Option KeyPlan
plan_of word =
    option_or (and_then (behind (codes "plain:") word) plain_by)
    (option_or (and_then (behind (codes "lms:") word) lms_by) (and_then (behind (codes "hss:") word) hss_by))

-- the order that the four words after `keygen` spell
abbrev pub order_of : List ℕ → List ℕ → List ℕ → List ℕ → Option KitOrder
order_of members roster keys seed =
    and_then (number_within 1 16 members) (λ n. and_then (number_within n 64 roster) (λ r. and_then (plan_of keys) (λ plan.
    option_map (λ s. record { members = n; roster = r; keys = plan; seed = s }) (bytes_of 32 seed))))

-- the payload that the word spells: two digits for each of 1 to 1,024 bytes
abbrev pub payload_of : List ℕ → Option (List ℕ)
payload_of word = if nat_le 2 (length word) && nat_le (length word) 2048 then bytes_of (length word / 2) word else None

-- the same of a word that spells one
abbrev pub spelled_payload : List ℕ → List ℕ
spelled_payload word = unwrap_or (payload_of word) []

-- the rising numbers up to 63 that the words spell, from this one on
abbrev pub rising_from : ℕ → List (List ℕ) → Option (List ℕ)
rising_from least [] = Some []
rising_from least (word ∷ words) = and_then (number_within least 63 word) (λ p. option_map (λ ps. p ∷ ps) (rising_from (p + 1) words))

-- the processes that the words after `audit` spell, one at least
abbrev pub listed_of : List (List ℕ) → Option (List ℕ)
listed_of [] = None
listed_of (word ∷ words) = rising_from 0 (word ∷ words)

-- the node that the word asks for, whose journal is in this file
abbrev pub hosting_of : List ℕ → List ℕ → Option Command
hosting_of word file =
    if same_bytes word (codes "node") then Some (Node file) else
    (if same_bytes word (codes "resume") then Some (Resume file) else
    (if same_bytes word (codes "guard") then Some (Guard file) else
    (if same_bytes word (codes "serve") then Some (Serve file) else None)))

-- the command that the words ask for, unless it is an audit
abbrev pub other_of : List (List ℕ) → Option Command
other_of (word ∷ []) =
    if same_bytes word (codes "replay") then Some (Replay false) else
    (if same_bytes word (codes "chain") then Some Chain else None)
other_of (word ∷ further ∷ []) =
    if same_bytes word (codes "gen") then option_map Gen (number_within 0 (2 ^ 32 - 1) further) else
    (if same_bytes word (codes "ask") then option_map Ask (payload_of further) else
    (if same_bytes word (codes "replay") && same_bytes further (codes "short") then Some (Replay true) else hosting_of word further))
other_of (word ∷ members ∷ roster ∷ keys ∷ seed ∷ []) = if same_bytes word (codes "keygen")
    then option_map Keygen (order_of members roster keys seed) else None
other_of _ = None

-- the command that the words ask for
abbrev pub command_of : List (List ℕ) → Option Command
command_of [] = None
command_of (word ∷ further) = if same_bytes word (codes "audit") then option_map Audit (listed_of further) else other_of (word ∷ further)
