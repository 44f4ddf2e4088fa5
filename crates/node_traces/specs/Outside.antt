-- What the calls of a node do to its link, its output and its input, where these say what becomes of them.
--
-- The link is seen as the datagrams that were sent, those that are coming on each port, and how often it failed.
--   Binds, Done             nothing changes
--   SendsTo P D, Done       D was sent to P, and more datagrams may be coming
--   ReceivesOn P, Came D    the first that was coming on P is taken; D is its first 61,440 bytes
--   ReceivesOn P, Done      none was coming on P
--   one of these, Failed    nothing changes but that the count of faults rose
-- The output is seen as the bytes that were written, and how often it failed.
--   Writes T, Done          T was written
--   Writes T, Failed        a front of T was written, and the count of faults rose
-- The input is seen as the bytes that are left of it, and how often it failed.
--   ReadsLine, Came L       L and its line feed are taken; L is no longer than a line may be
--   ReadsLine, Broken       what is left begins with no such line, and is left
--   ReadsLine, Done         nothing is left
--   ReadsLine, Failed       nothing is taken, and the count of faults rose
-- Any other call, and any other answer, changes nothing there.
-- Names here (* for this crate alone):
--   the link: LinkSeen, most_datagram_bytes, LinkFailed, LinkSent*, CameFirst, CameOn, LinkTaken*, NoneOn, LinkEmpty*, LinkStep,
--     LinkAnswered
--   the output: SinkSeen, SinkWrote, SinkFailed, SinkStep, SinkAnswered
--   the input: SourceSeen, LineTaken, NoLine, AtEnd, SourceTook, SourceBroke, SourceEnded, SourceFailed, SourceStep, SourceAnswered
--   the law: DoneInARow*
use Rattle.std.specs.Prelude.{◌≡◌, ◌≢◌, ℕ, ◌<◌, List, [], ◌∷◌, ◌++◌, length, take, Option, Some, None}
use Rattle.std.specs.Io.KnownBytes.{Appends}
use Rattle.input_defs.specs.Lines.{line_within}
use Rattle.rp_base.specs.Causes.{Rose}
use Rattle.rp_base.specs.Links.{Sends}
use Rattle.rp_base.specs.Streams.{AppendsPrefix}
use Rattle.node_defs.specs.Nodes.{Call, Binds, Writes, SendsTo, ReceivesOn, ReadsLine, Answer, Done, Failed, Came, Broken}
use Rattle.node_traces.specs.Ways.{Step, Through}

-- ---- the link

pub record LinkSeen : Type 0 where
  pub sent : Option (List (ℕ × List ℕ))
  pub coming : Option (ℕ → List (List ℕ))
  pub faults : ℕ

-- how many bytes of a datagram a node reads
unfoldable pub most_datagram_bytes : ℕ
most_datagram_bytes = 61440

-- the call failed: nothing was sent, and nothing was taken
pub record LinkFailed (k l : LinkSeen) : Type 0 where
  pub sent : l.sent ≡ k.sent
  pub coming : l.coming ≡ k.coming
  pub rose : Rose k.faults l.faults

-- the datagram was sent to the port
pub record LinkSent (k l : LinkSeen) (port : ℕ) (datagram : List ℕ) : Type 0 where
  pub sends : Sends k.sent l.sent k.coming l.coming port datagram
  pub steady : l.faults ≡ k.faults

-- the first datagram that was coming on the port is taken, and of it these bytes were read; those on other ports stay
pub record CameFirst (old new : ℕ → List (List ℕ)) (port : ℕ) (bytes : List ℕ) : Type 0 where
  pub datagram : List ℕ
  pub first : old port ≡ datagram ∷ new port
  pub read : bytes ≡ take most_datagram_bytes datagram
  pub others : (q : ℕ) → q ≢ port → new q ≡ old q

abbrev pub CameOn : Option (ℕ → List (List ℕ)) → Option (ℕ → List (List ℕ)) → ℕ → List ℕ → Type 0
CameOn None new port bytes = Unit {0}
CameOn (Some old) None port bytes = ⊥
CameOn (Some old) (Some new) port bytes = CameFirst old new port bytes

pub record LinkTaken (k l : LinkSeen) (port : ℕ) (bytes : List ℕ) : Type 0 where
  pub sent : l.sent ≡ k.sent
  pub came : CameOn k.coming l.coming port bytes
  pub steady : l.faults ≡ k.faults

-- none is coming on the port
abbrev pub NoneOn : Option (ℕ → List (List ℕ)) → Option (ℕ → List (List ℕ)) → ℕ → Type 0
NoneOn None new port = Unit {0}
NoneOn (Some old) None port = ⊥
NoneOn (Some old) (Some new) port = (old port ≡ []) × (new ≡ old)

pub record LinkEmpty (k l : LinkSeen) (port : ℕ) : Type 0 where
  pub sent : l.sent ≡ k.sent
  pub none : NoneOn k.coming l.coming port
  pub steady : l.faults ≡ k.faults

abbrev pub LinkStep : Step LinkSeen
LinkStep k (Binds port, Failed) l = LinkFailed k l
LinkStep k (SendsTo port datagram, Done) l = LinkSent k l port datagram
LinkStep k (SendsTo port datagram, Failed) l = LinkFailed k l
LinkStep k (ReceivesOn port, Came bytes) l = LinkTaken k l port bytes
LinkStep k (ReceivesOn port, Done) l = LinkEmpty k l port
LinkStep k (ReceivesOn port, Failed) l = LinkFailed k l
LinkStep k _ l = k ≡ l

-- the link did what it answered, call by call
abbrev pub LinkAnswered : LinkSeen → List (Call × Answer) → LinkSeen → Type 0
LinkAnswered k cs l = Through LinkStep k cs l

-- ---- the output

pub record SinkSeen : Type 0 where
  pub written : Option (List ℕ)
  pub faults : ℕ

pub record SinkWrote (k l : SinkSeen) (text : List ℕ) : Type 0 where
  pub appended : Appends k.written l.written text
  pub steady : l.faults ≡ k.faults

pub record SinkFailed (k l : SinkSeen) (text : List ℕ) : Type 0 where
  pub front : AppendsPrefix k.written l.written text
  pub rose : Rose k.faults l.faults

abbrev pub SinkStep : Step SinkSeen
SinkStep k (Writes text, Done) l = SinkWrote k l text
SinkStep k (Writes text, Failed) l = SinkFailed k l text
SinkStep k _ l = k ≡ l

-- the output took what the node wrote, call by call
abbrev pub SinkAnswered : SinkSeen → List (Call × Answer) → SinkSeen → Type 0
SinkAnswered k cs l = Through SinkStep k cs l

-- ---- the input

pub record SourceSeen : Type 0 where
  -- the bytes that no line has taken
  pub left : Option (List ℕ)
  pub faults : ℕ

-- what is left begins with this line, of at most `most` bytes, and after it the rest is left
abbrev pub LineTaken : ℕ → Option (List ℕ) → Option (List ℕ) → List ℕ → Type 0
LineTaken most None new line = Unit {0}
LineTaken most (Some old) None line = ⊥
LineTaken most (Some old) (Some new) line = line_within most old ≡ Some (line, new)

-- what is left is no line, nor the end
abbrev pub NoLine : ℕ → Option (List ℕ) → Type 0
NoLine most None = Unit {0}
NoLine most (Some old) = (line_within most old ≡ None) × (0 < length old)

abbrev pub AtEnd : Option (List ℕ) → Type 0
AtEnd None = Unit {0}
AtEnd (Some old) = old ≡ []

pub record SourceTook (most : ℕ) (k l : SourceSeen) (line : List ℕ) : Type 0 where
  pub taken : LineTaken most k.left l.left line
  pub steady : l.faults ≡ k.faults

pub record SourceBroke (most : ℕ) (k l : SourceSeen) : Type 0 where
  pub broken : NoLine most k.left
  pub left : l.left ≡ k.left
  pub steady : l.faults ≡ k.faults

pub record SourceEnded (k l : SourceSeen) : Type 0 where
  pub ended : AtEnd k.left
  pub left : l.left ≡ k.left
  pub steady : l.faults ≡ k.faults

pub record SourceFailed (k l : SourceSeen) : Type 0 where
  pub left : l.left ≡ k.left
  pub rose : Rose k.faults l.faults

-- lines have at most `most` bytes
abbrev pub SourceStep : ℕ → Step SourceSeen
SourceStep most k (ReadsLine, Came line) l = SourceTook most k l line
SourceStep most k (ReadsLine, Broken) l = SourceBroke most k l
SourceStep most k (ReadsLine, Done) l = SourceEnded k l
SourceStep most k (ReadsLine, Failed) l = SourceFailed k l
SourceStep most k _ l = k ≡ l

-- the input gave what the node read, call by call
abbrev pub SourceAnswered : ℕ → SourceSeen → List (Call × Answer) → SourceSeen → Type 0
SourceAnswered most k cs l = Through (SourceStep most) k cs l

-- ---- the law

-- what two lists of calls did one after the other, both together did: to a link, an output and an input
pub record DoneInARow : Type 0 where
  pub link : (k l m : LinkSeen) (cs ds : List (Call × Answer)) → LinkAnswered k cs l → LinkAnswered l ds m → LinkAnswered k (cs ++ ds) m
  pub sink : (k l m : SinkSeen) (cs ds : List (Call × Answer)) → SinkAnswered k cs l → SinkAnswered l ds m → SinkAnswered k (cs ++ ds) m
  pub source : (most : ℕ) (k l m : SourceSeen) (cs ds : List (Call × Answer)) → SourceAnswered most k cs l → SourceAnswered most l ds m
      → SourceAnswered most k (cs ++ ds) m
