-- The commands of the program, and the words that ask for them.
--   replay                    the schedule that is read gives its report
--   replay short              and its short report
--   chain                     the kit and the proofs that are read give the views that they show
--   gen NUMBER                the schedule that the number makes, which is below 2^32
--   keygen N R KEYS SEED      a new kit: N members, 1 to 16, of R processes, N to 64; KEYS is plain:T, lms:H:W with the
--                             typecodes of height, 5 to 7, and one-time parameter set, 1 to 4, or hss:L:H:W with L levels of such
--                             trees, where they are built; SEED is 32 bytes in hexadecimal
--   node FILE                 the kit and the script that are read run a node, whose journal is the file of this name; any word is one
--   resume FILE               the same, from the snapshot that is read after the kit
--   guard FILE                a node as a guard: on evidence it has its processes ask to remove others
--   serve FILE                a node whose processes serve a store
--   ask HEX                   the kit, reply keys, view and replies that are read give what enough members of the view answered to this
--                             payload: 1 to 1,024 bytes in hexadecimal
--   audit P P ..              the kit and the journals that are read give what they say of these processes, which are taken as correct:
--                             one at least, by rising numbers up to 63
use Rattle.std.specs.Prelude.{◌≡◌, ℕ, Bool, true, false, ◌^◌, ◌<◌, ◌≤◌, List, [], ◌∷◌, ◌++◌, length, map, codes, All}
use Rattle.std.specs.List.Sorted.{IsStrictlyIncreasing}
use Rattle.std.specs.Fmt.{decimal}
use Rattle.hex.specs.Hex.{encode_lower, IsBytes}
use Rattle.signature_defs.specs.declared.OtsType.{OtsType}
use Rattle.signature_defs.specs.LmOts.{ots_typecode}
use Rattle.kit_defs.specs.declared.KeyPlan.{KeyPlan}
use Rattle.kit_defs.specs.declared.KeyPlan.TheVariants.{Plain, Lms, Hss}
use Rattle.text_defs.specs.Words.{AreBytes}
use Rattle.kit_defs.specs.KitMaking.{IsPlan}

-- what a new kit is to be like
pub record KitOrder : Type 0 where
  pub members : ℕ
  pub roster : ℕ
  pub keys : KeyPlan
  pub seed : List ℕ

-- what the program is asked to do
pub data Command : Type 0 where
  -- the long report or the short one
  Replay : (short : Bool) → Command
  -- the views that proofs show after a kit
  Chain : Command
  Gen : (number : ℕ) → Command
  Keygen : (order : KitOrder) → Command
  -- a node, whose journal is the file of this name
  Node : (file : List ℕ) → Command
  -- a node that begins by a snapshot
  Resume : (file : List ℕ) → Command
  -- a node that is a guard
  Guard : (file : List ℕ) → Command
  -- a node whose processes serve a store
  Serve : (file : List ℕ) → Command
  -- what the members of a view answered to a payload
  Ask : (payload : List ℕ) → Command
  -- an audit of journals, in which these processes are taken as correct
  Audit : (listed : List ℕ) → Command

-- ---- the words

-- the typecodes of a tree: H:W
abbrev pub tree_word : ℕ → OtsType → List ℕ
tree_word code kind = decimal code ++ (codes ":" ++ decimal (ots_typecode kind))

-- the word of a plan: plain:T, lms:H:W, or hss:L:H:W
abbrev pub plan_word : KeyPlan → List ℕ
plan_word (Plain total) = codes "plain:" ++ decimal total
plan_word (Lms code kind) = codes "lms:" ++ tree_word code kind
plan_word (Hss levels code kind) = codes "hss:" ++ (decimal levels ++ (codes ":" ++ tree_word code kind))

-- the words of a command
abbrev pub command_words : Command → List (List ℕ)
command_words (Replay false) = codes "replay" ∷ []
command_words (Replay true) = codes "replay" ∷ codes "short" ∷ []
command_words Chain = codes "chain" ∷ []
command_words (Gen number) = codes "gen" ∷ decimal number ∷ []
command_words (Keygen order) = codes "keygen" ∷ decimal order.members ∷ decimal order.roster ∷ plan_word order.keys
    ∷ encode_lower order.seed ∷ []
command_words (Node file) = codes "node" ∷ file ∷ []
command_words (Resume file) = codes "resume" ∷ file ∷ []
command_words (Guard file) = codes "guard" ∷ file ∷ []
command_words (Serve file) = codes "serve" ∷ file ∷ []
command_words (Ask payload) = codes "ask" ∷ encode_lower payload ∷ []
command_words (Audit listed) = codes "audit" ∷ map decimal listed

-- ---- the ranges

-- an order that can be carried out: 1 to 16 members, all of them of the roster, which has at most 64 processes; a plan that can be carried
-- out; and a seed of 32 bytes
pub record IsOrder (order : KitOrder) : Type 0 where
  pub some : 1 ≤ order.members
  pub few : order.members ≤ 16
  pub within : order.members ≤ order.roster
  pub most : order.roster ≤ 64
  pub keys : IsPlan order.keys
  pub seed : AreBytes 32 order.seed

-- a payload that answers can be asked of: 1 to 1,024 bytes
pub record IsPayload (payload : List ℕ) : Type 0 where
  pub some : 1 ≤ length payload
  pub few : length payload ≤ 1024
  pub bytes : IsBytes payload

-- processes that an audit can take as correct: one at least, by rising numbers up to 63, which are 64 at most
pub record AreListed (listed : List ℕ) : Type 0 where
  pub some : 1 ≤ length listed
  pub rising : IsStrictlyIncreasing listed
  pub few : All (λ p. p ≤ 63) listed

-- a Gen has a number of 32 bits, a Keygen an order that can be carried out, an Ask a payload that answers can be
-- asked of, and an Audit processes that it can take as correct
abbrev pub IsCommand : Command → Type 0
IsCommand (Replay short) = Unit {0}
IsCommand Chain = Unit {0}
IsCommand (Gen number) = number < 2 ^ 32
IsCommand (Keygen order) = IsOrder order
IsCommand (Node file) = Unit {0}
IsCommand (Resume file) = Unit {0}
IsCommand (Guard file) = Unit {0}
IsCommand (Serve file) = Unit {0}
IsCommand (Ask payload) = IsPayload payload
IsCommand (Audit listed) = AreListed listed

-- the words are those of the command
pub record Asks (words : List (List ℕ)) (command : Command) : Type 0 where
  pub fits : IsCommand command
  pub spelled : words ≡ command_words command
