-- What the lines of a story spell: the bytes of a part of a schedule.
--   group NAME SCHEME             or `group NAME SCHEME batch LIMIT`
--   process P ROLE KEY            KEY is `plain TOTAL`, `plain HEX TOTAL`, `lms H W ID SEED` or `hss L H W ID SEED`
--   genesis P ..
--   submit P PAYLOAD
--   raw P from Q BYTES
--   pass FRAME to P
--   drain COUNT to MASK
--   lie P to MASK: STATEMENT
--   suspect P of Q, join P of Q
--   renew P, tick P
-- Names here (* for this crate alone):
--   the group: limit_at, front_bytes, group_at
--   processes: short_key, total_at, short_at, whole_at, plain_at, tree_at, levels_at, key_at, listed_at
--   the first view: members_behind, genesis_at
--   events: submit_at, raw_at, pass_at, drain_at, lie_at, about_at, alone_at, kind_of_word, event_by
use Rattle.std.specs.Prelude.{ℕ, ◌+◌, ◌^◌, ◌-◌, Bool, ◌==◌, nat_le, if◌then◌else◌, List, [], ◌∷◌, ◌++◌, length, Option, Some, None, codes, Result, Ok, Err}
use Rattle.std.specs.List.{repeat}
use Rattle.byte_defs.specs.Choices.{first_that_holds}
use Rattle.byte_defs.specs.Equality.{same_bytes}
use Rattle.byte_defs.specs.Fields.{◌>>=◌, four_bytes, text}
use Rattle.text_defs.specs.Words.{process_of}
use Rattle.replay_defs.specs.declared.Scheme.{Scheme}
use Rattle.replay_defs.specs.declared.Scheme.TheVariants as schemes
use Rattle.replay_defs.specs.Schedules.{eight_bytes, scheme_byte, version_of, magic, limit_bytes}
use Rattle.story_defs.specs.declared.Expected.{Expected}
use Rattle.story_defs.specs.declared.Expected.TheVariants as expected
use Rattle.story_defs.specs.Words.{Words, Step, next_at, said_at, number_at, process_at, payload_at, sized_at, word_at, ended, mask_at, scheme_of_word, scheme_word, role_of_word}
use Rattle.story_defs.specs.Statements.{statement_at}

-- ---- the group

-- the batch limit, which is 1 where none is given
unfoldable pub limit_at : Words → Result ℕ Expected
limit_at [] = Ok 1
limit_at (word ∷ words) = do
  batch ← word_at expected.Group (codes "batch") (word ∷ words)
  limit ← number_at expected.Group 2 16 batch.1
  end ← ended expected.Group limit.1
  Ok limit.0

-- the bytes up to the group's name
abbrev pub front_bytes : Scheme → ℕ → List ℕ → List ℕ
front_bytes scheme limit group = magic (version_of scheme limit) ++ (scheme_byte scheme ∷ (limit_bytes limit ++ group))

-- the words after `group`: the scheme, and the bytes up to the name
unfoldable pub group_at : Words → Result (Scheme × List ℕ) Expected
group_at words = do
  group ← sized_at expected.Group 16 words
  scheme ← said_at expected.Group scheme_of_word group.1
  limit ← limit_at scheme.1
  Ok (scheme.0, front_bytes scheme.0 limit group.0)

-- ---- processes

-- the key of a process that has the short form: 32 bytes of its number
abbrev pub short_key : ℕ → List ℕ
short_key p = repeat 32 (p ∷ [])

-- how many bodies a plain key signs
abbrev pub total_at : Words → Result ℕ Expected
total_at words = do
  total ← number_at expected.Process 0 (2 ^ 32 - 1) words
  end ← ended expected.Process total.1
  Ok total.0

-- the total alone, for the short form
abbrev pub short_at : ℕ → Words → Result (List ℕ) Expected
short_at p words = total_at words >>= λ total. Ok (short_key p ++ four_bytes total)

-- the key and the total
abbrev pub whole_at : Words → Result (List ℕ) Expected
whole_at words = do
  key ← sized_at expected.Process 32 words
  total ← total_at key.1
  Ok (key.0 ++ four_bytes total)

-- key32 and total4: in one word the total alone
unfoldable pub plain_at : ℕ → Words → Result (List ℕ) Expected
plain_at p [] = Err expected.Process
plain_at p (word ∷ []) = short_at p (word ∷ [])
plain_at p (word ∷ next ∷ words) = whole_at (word ∷ next ∷ words)

-- height1, type1, id16, seed32
unfoldable pub tree_at : Words → Result (List ℕ) Expected
tree_at words = do
  height ← number_at expected.Process 0 255 words
  kind ← number_at expected.Process 0 255 height.1
  id ← sized_at expected.Process 16 kind.1
  seed ← sized_at expected.Process 32 id.1
  end ← ended expected.Process seed.1
  Ok (height.0 ∷ kind.0 ∷ (id.0 ++ seed.0))

-- levels1, and the tree's parameters
unfoldable pub levels_at : Words → Result (List ℕ) Expected
levels_at words = do
  levels ← number_at expected.Process 0 255 words
  tree ← tree_at levels.1
  Ok (levels.0 ∷ tree)

-- the key of a process, after the scheme's word
abbrev pub key_at : Scheme → ℕ → Words → Result (List ℕ) Expected
key_at schemes.Plain p words = plain_at p words
key_at schemes.Lms p words = tree_at words
key_at schemes.Hss p words = levels_at words

-- the words after `process`: process1, role1 and key
unfoldable pub listed_at : Scheme → Words → Result (List ℕ) Expected
listed_at scheme words = do
  process ← process_at expected.Process words
  role ← said_at expected.Process role_of_word process.1
  name ← word_at expected.Process (scheme_word scheme) role.1
  key ← key_at scheme process.0 name.1
  Ok (process.0 ∷ role.0 ∷ key)

-- ---- the first view

-- these members, and those that all the words name
unfoldable pub members_behind : List ℕ → Words → Result (List ℕ) Expected
members_behind before [] = Ok before
members_behind before (word ∷ words) = elim
    (process_of word) [ None ↦ Err expected.Genesis | Some p ↦ members_behind (before ++ p ∷ []) words ]

-- the words after `genesis`: the number of members, at most 16, and each of them
unfoldable pub genesis_at : Words → Result (List ℕ) Expected
genesis_at words = members_behind [] words >>= λ members. if nat_le (length members) 16 then Ok (length members ∷ members)
    else Err expected.Genesis

-- ---- events

unfoldable pub submit_at : Words → Result (List ℕ) Expected
submit_at words = do
  at ← process_at expected.Submit words
  payload ← payload_at expected.Submit 65535 at.1
  end ← ended expected.Submit payload.1
  Ok (1 ∷ at.0 ∷ text payload.0)

unfoldable pub raw_at : Words → Result (List ℕ) Expected
raw_at words = do
  to ← process_at expected.Raw words
  word ← word_at expected.Raw (codes "from") to.1
  from ← process_at expected.Raw word.1
  frame ← payload_at expected.Raw 65535 from.1
  end ← ended expected.Raw frame.1
  Ok (2 ∷ to.0 ∷ from.0 ∷ text frame.0)

unfoldable pub pass_at : Words → Result (List ℕ) Expected
pass_at words = do
  frame ← number_at expected.Pass 0 (2 ^ 32 - 1) words
  word ← word_at expected.Pass (codes "to") frame.1
  to ← process_at expected.Pass word.1
  end ← ended expected.Pass to.1
  Ok (3 ∷ (four_bytes frame.0 ++ to.0 ∷ []))

unfoldable pub drain_at : Words → Result (List ℕ) Expected
drain_at words = do
  count ← number_at expected.Drain 0 (2 ^ 32 - 1) words
  mask ← mask_at expected.Drain count.1
  end ← ended expected.Drain mask.1
  Ok (4 ∷ (four_bytes count.0 ++ eight_bytes mask.0))

unfoldable pub lie_at : Words → Result (List ℕ) Expected
lie_at words = do
  signer ← process_at expected.Lie words
  mask ← mask_at expected.Lie signer.1
  sign ← word_at expected.Lie (codes ":") mask.1
  statement ← statement_at expected.Lie sign.1
  Ok (5 ∷ signer.0 ∷ (eight_bytes mask.0 ++ text statement))

-- `P of Q`, of a Suspect or a Join, by its tag
unfoldable pub about_at : Expected → ℕ → Words → Result (List ℕ) Expected
about_at x tag words = do
  at ← process_at x words
  word ← word_at x (codes "of") at.1
  other ← process_at x word.1
  end ← ended x other.1
  Ok (tag ∷ at.0 ∷ other.0 ∷ [])

-- `P`, of a Renew or a Tick, by its tag
unfoldable pub alone_at : Expected → ℕ → Words → Result (List ℕ) Expected
alone_at x tag words = do
  at ← process_at x words
  end ← ended x at.1
  Ok (tag ∷ at.0 ∷ [])

-- the kind of an event, as what is expected of its line, by its word
abbrev pub kind_of_word : List ℕ → Option Expected
kind_of_word word = first_that_holds (
    (same_bytes word (codes "submit"), expected.Submit)
    ∷ (same_bytes word (codes "raw"), expected.Raw)
    ∷ (same_bytes word (codes "pass"), expected.Pass)
    ∷ (same_bytes word (codes "drain"), expected.Drain)
    ∷ (same_bytes word (codes "lie"), expected.Lie)
    ∷ (same_bytes word (codes "suspect"), expected.Suspect)
    ∷ (same_bytes word (codes "join"), expected.Join)
    ∷ (same_bytes word (codes "renew"), expected.Renew)
    ∷ (same_bytes word (codes "tick"), expected.Tick) ∷ [])

-- the bytes of an event of this kind
abbrev pub event_by : Expected → Words → Result (List ℕ) Expected
event_by expected.Submit words = submit_at words
event_by expected.Raw words = raw_at words
event_by expected.Pass words = pass_at words
event_by expected.Drain words = drain_at words
event_by expected.Lie words = lie_at words
event_by expected.Suspect words = about_at expected.Suspect 6 words
event_by expected.Join words = about_at expected.Join 7 words
event_by expected.Renew words = alone_at expected.Renew 8 words
event_by expected.Tick words = alone_at expected.Tick 9 words
event_by _ words = Err expected.Event
