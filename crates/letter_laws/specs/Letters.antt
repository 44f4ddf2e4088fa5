-- To whom a turn sends, and how long its frames are.
use Rattle.std.specs.Prelude.{◌≡◌, ◌≢◌, ℕ, ◌≤◌, List, length, All, Some, IsTrue}
use Rattle.byte_defs.specs.Members.{has}
use Rattle.message_defs.specs.Limits.{most_frame_bytes}
use Rattle.message_defs.specs.Spelling.{IsClaim}
use Rattle.message_defs.specs.Updates.{Value}
use Rattle.group_defs.specs.Views.{is_possible}
use Rattle.group_defs.specs.Process.{Setting, Pool, Left, Process, keyed, start}
use Rattle.group_defs.specs.Sending.{frames_of}
use Rattle.group_defs.specs.Family.{handed_to}
use Rattle.group_defs.specs.Events.{Event, Hand, Turn, after, outcome, run}

-- ---- to whom

-- a frame is not the process's own
abbrev pub IsFromOther : ℕ → Event → Type 0
IsFromOther me (Hand from frame) = from ≢ me
IsFromOther me _ = Unit {0}

-- another process, which the roster has a key of
abbrev pub IsOther : Setting → ℕ → ℕ → Type 0
IsOther s me q = IsTrue (has (keyed s) q) × (q ≢ me)

-- it is process `me`, and the roster has keys of the members of its view and of whom its decision adds
pub record IsKeyed (s : Setting) (me : ℕ) (p : Process) : Type 0 where
  pub number : p.me ≡ me
  pub members : All (λ m. IsTrue (has (keyed s) m)) p.pool.view.members
  pub possible : (d : ℕ × Value) → p.decision ≡ Some d → IsTrue (is_possible (keyed s) p.pool.view d.1.update)

-- so it is as it starts, where the roster has keys of the first members
abbrev pub StartIsKeyed : Type 0
StartIsKeyed = (s : Setting) (me limit : ℕ) → All (λ m. IsTrue (has (keyed s) m)) s.genesis.members → IsKeyed s me (start s me limit)

-- Whatever it was handed from there on, as long as no frame is its own, it sends only to others that the roster has keys of. (One that is
-- handed a Want of its own answers itself.)
abbrev pub SendsToOthers : Type 0
SendsToOthers = (s : Setting) (me : ℕ) (p : Process) (ts : List Turn) (t : Turn) → IsKeyed s me p → IsFromOther me t.event
    → All (λ out. All (IsOther s me) out.to) (outcome s (run s p ts) t).sends

-- ---- how long

-- what the process signed, and what it keeps of others, is what a frame can carry
pub record AreInRange (p : Process) : Type 0 where
  pub signed : All IsClaim p.signed
  pub heard : All IsClaim p.pool.heard
  pub previous : (h : Pool) → p.previous ≡ Some h → All IsClaim h.heard
  pub commits : All (λ (l : Left). All IsClaim l.commit) p.left

-- A frame has at most 61,000 bytes, where after the turn the process keeps only what a frame can carry. (The definitions alone don't say
-- so: a claim is packed into a frame of its own whatever its length, and a signer may sign at any length.)
abbrev pub FramesAreShort : Type 0
FramesAreShort = (s : Setting) (p : Process) (t : Turn) → AreInRange (after s p t)
    → All (λ out. All (λ frame. length frame ≤ most_frame_bytes) (frames_of out.parcel)) (outcome s p t).sends

-- What a process keeps is in range, where all that it was handed is, and all that it has signed.
abbrev pub KeptIsInRange : Type 0
KeptIsInRange = (s : Setting) (me limit : ℕ) (ts : List Turn) → All IsClaim (handed_to ts) → All IsClaim (run s (start s me limit) ts).signed
    → AreInRange (run s (start s me limit) ts)
