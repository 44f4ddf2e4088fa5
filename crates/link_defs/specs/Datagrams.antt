-- A datagram: who speaks to whom in which group, a frame, and a tag that only the two of them can make.
-- Names here (* for this crate alone):
--   Datagram, magic, tagged, sealed, Known, Comes
--   the first fault: tag_bytes*, least_bytes*, before_tag*, tag_of*, key_or_fault*, opened_parts, opened
--   the two laws: to_me, OpenedCame*, ComingIsOpened*
use Rattle.std.specs.Prelude.{◌≡◌, ℕ, ◌-◌, ◌==◌, nat_lt, not, List, [], ◌∷◌, ◌++◌, length, take, drop, slice_index, Option, Some, None, Result, Ok, Err}
use Rattle.byte_defs.specs.Equality.{same_bytes}
use Rattle.byte_defs.specs.Fields.{◌>>=◌, refuse_if}
use Rattle.link_defs.specs.Hmac.{hmac}
use Rattle.link_defs.specs.declared.LinkFault.{LinkFault}
use Rattle.link_defs.specs.declared.LinkFault.TheVariants.{Short, Magic, OtherGroup, NotForMe, UnknownPeer, BadTag}

pub record Datagram : Type 0 where
  pub group : List ℕ
  pub from : ℕ
  pub to : ℕ
  pub frame : List ℕ

-- the letters RPD1
abbrev pub magic : List ℕ
magic = 0x52 ∷ 0x50 ∷ 0x44 ∷ 0x31 ∷ []

-- what is tagged: all bytes of the datagram before the tag
abbrev pub tagged : Datagram → List ℕ
tagged d = magic ++ d.group ++ d.from ∷ d.to ∷ d.frame

-- the bytes of a datagram under the key of its pair
abbrev pub sealed : List ℕ → Datagram → List ℕ
sealed key d = tagged d ++ hmac key (tagged d)

-- what a process knows: its own number, its group, and a key for each process that it shares one with
pub record Known : Type 0 where
  pub me : ℕ
  pub group : List ℕ
  pub pair : ℕ → Option (List ℕ)

-- A datagram comes in these bytes to a process that knows this: it is of its group and for it, and tagged with the key
-- that it shares with the sender.
pub record Comes (known : Known) (bytes : List ℕ) (d : Datagram) : Type 0 where
  pub group : d.group ≡ known.group
  pub to : d.to ≡ known.me
  pub key : List ℕ
  pub shared : known.pair d.from ≡ Some key
  pub spelled : bytes ≡ sealed key d

-- ---- the first fault

-- the bytes of a tag, and of a datagram with an empty frame
unfoldable pub tag_bytes : ℕ
tag_bytes = 32

unfoldable pub least_bytes : ℕ
least_bytes = 54

-- the bytes before the tag, and the tag
abbrev pub before_tag : List ℕ → List ℕ
before_tag bytes = take (length bytes - tag_bytes) bytes

abbrev pub tag_of : List ℕ → List ℕ
tag_of bytes = drop (length bytes - tag_bytes) bytes

-- the key that there has to be
abbrev pub key_or_fault : Option (List ℕ) → Result (List ℕ) LinkFault
key_or_fault None = Err UnknownPeer
key_or_fault (Some key) = Ok key

-- the sender and the frame before a tag, or the first fault
unfoldable pub opened_parts : Known → List ℕ → List ℕ → Result (ℕ × List ℕ) LinkFault
opened_parts known t tag = do
  _ ← refuse_if (not (same_bytes (take 4 t) magic)) Magic
  _ ← refuse_if (not (same_bytes (take 16 (drop 4 t)) known.group)) OtherGroup
  _ ← refuse_if (not (slice_index t 21 == known.me)) NotForMe
  key ← key_or_fault (known.pair (slice_index t 20))
  _ ← refuse_if (not (same_bytes tag (hmac key t))) BadTag
  Ok (slice_index t 20, drop 22 t)

-- the sender and the frame of a datagram, or the first fault of the bytes as one
unfoldable pub opened : Known → List ℕ → Result (ℕ × List ℕ) LinkFault
opened known bytes = do
  _ ← refuse_if (nat_lt (length bytes) least_bytes) Short
  opened_parts known (before_tag bytes) (tag_of bytes)

-- ---- the two laws

-- this frame, of this sender, to a process that knows this
abbrev pub to_me : Known → ℕ → List ℕ → Datagram
to_me known from frame = record { group = known.group; from = from; to = known.me; frame = frame }

-- what is opened came, as its spelling
abbrev pub OpenedCame : Type 0
OpenedCame = (known : Known) (bytes : List ℕ) (from : ℕ) (frame : List ℕ) → opened known bytes ≡ Ok (from, frame)
    → Comes known bytes (to_me known from frame)

-- what comes is opened
abbrev pub ComingIsOpened : Type 0
ComingIsOpened = (known : Known) (bytes : List ℕ) (d : Datagram) → length known.group ≡ 16 → Comes known bytes d
    → opened known bytes ≡ Ok (d.from, d.frame)
