-- What a guard sends when its process is to accuse another.
use Rattle.std.specs.Prelude.{◌≡◌, ℕ, ◌≤◌, ◌==◌, ◌&&◌, not, List, [], ◌∷◌, ◌++◌, length, filter, All, Option, Some, None}
use Rattle.std.specs.List.{flat_map}
use Rattle.byte_defs.specs.Members.{has}
use Rattle.byte_defs.specs.Orders.{sorted}
use Rattle.message_defs.specs.Statements.{Claim}
use Rattle.message_defs.specs.Spelling.{IsClaim}
use Rattle.group_defs.specs.Process.{Setting, Process, keyed}
use Rattle.group_defs.specs.Sending as plain
use Rattle.group_defs.specs.Sending.{Bundle, frames_of, sends_to}
use Rattle.member_events.specs.declared.events.Sending.{Sending}
use Rattle.node_defs.specs.Casts.{Cast}
use Rattle.node_defs.specs.Nodes.{Answer, Said}
use Rattle.node_service.specs.Answers.{CanBeSent, letters_in, letters_to}
use Rattle.guard_defs.specs.Lines.{accuse_line, conflict_of}

-- ---- which letters

-- the letters of what is sent: each of its frames to each of these
abbrev pub letters_of : List plain.Sending → List (ℕ × List ℕ)
letters_of sends = flat_map (λ out. flat_map (λ bytes. letters_to (out.to, bytes)) (frames_of out.parcel)) sends

-- the other members of the view of which the roster has a key, rising: only to these a process can send
abbrev pub listed_others : Setting → Process → List ℕ
listed_others s now = sorted (λ m. m ∷ []) (filter (λ m. not (m == now.me) && has (keyed s) m) now.pool.view.members)

-- the letters of the accusation to these
abbrev pub letters_listed : Setting → Process → ℕ → List (ℕ × List ℕ)
letters_listed s now q = elim (conflict_of now q) [
  | None ↦ []
  | Some pair ↦ letters_of (sends_to (listed_others s now) (Bundle (pair.0 ∷ pair.1 ∷ [])))
]

-- a frame can carry both claims that the process keeps of q, if it keeps some
abbrev pub CanCarry : Process → ℕ → Type 0
CanCarry now q = (pair : Claim × Claim) → conflict_of now q ≡ Some pair → IsClaim pair.0 × IsClaim pair.1

-- These letters go: those of the accusation where a frame can carry it, and else none. In a process that came to be by the events of a run
-- a frame can, and all members of its view have keys: then the accusation goes whole (`AccusationsAreWhole`).
pub record AreLetters (s : Setting) (now : Process) (q : ℕ) (letters : List (ℕ × List ℕ)) : Type 0 where
  pub all : CanCarry now q → letters ≡ letters_listed s now q
  pub none : ¬ CanCarry now q → letters ≡ []

-- ---- the answer

-- the answer is that the process accuses q: the line of it, and its letters
pub record Accuses (s : Setting) (now : Process) (q : ℕ) (a : Answer) : Type 0 where
  pub letters : List (ℕ × List ℕ)
  pub said : a ≡ Said (accuse_line now q) letters
  pub are : AreLetters s now q letters

-- process p of the cast accuses q: the lines grew by the line of it, and what is to be sent by its letters
pub record HasAccused (c : Cast) (p : ℕ) (now : Process) (q : ℕ) (old new : List ℕ) (sends sends_now : List Sending) : Type 0 where
  pub more : List Sending
  pub reported : new ≡ old ++ accuse_line now q
  pub grown : sends_now ≡ sends ++ more
  pub can : All (CanBeSent c p) (letters_in more)
  pub are : AreLetters c.setting now q (letters_in more)

-- ---- its frame

-- what is packed of two claims: the one frame of their Bundle, where a frame can carry both, and else none
abbrev pub Packs : Claim → Claim → Option (List ℕ) → Type 0
Packs a b (Some bytes) = IsClaim a × IsClaim b × (frames_of (Bundle (a ∷ b ∷ [])) ≡ bytes ∷ []) × (length bytes ≤ 61000)
Packs a b None = ¬ (IsClaim a × IsClaim b)

-- the frame to these, if there is one
abbrev pub sent : List ℕ → Option (List ℕ) → List Sending
sent to None = []
sent to (Some bytes) = record { to = to; frame = bytes } ∷ []
