-- What a service answers to a call, and what it has heard then.
use Rattle.std.specs.Prelude.{◌≡◌, ◌≢◌, ℕ, ◌<◌, ◌≤◌, Bool, true, false, List, [], ◌∷◌, ◌++◌, length, map, flat_map, All, Option, Some, None, IsTrue}
use Rattle.byte_defs.specs.Members.{has}
use Rattle.group_defs.specs.Process.{Process, keyed}
use Rattle.member_events.specs.declared.events.Sending.{Sending}
use Rattle.node_defs.specs.Casts.{Cast}
use Rattle.node_defs.specs.Nodes.{Call, Words, Answer, Done, Said, Named}
use Rattle.node_text.specs.Outcomes.{frame_to}
use Rattle.node_traces.specs.Service.{Asked, one_asked}

-- the text begins with what was there before
abbrev pub GoesOn : List ℕ → List ℕ → Type 0
GoesOn before now = (more : List ℕ) × (now ≡ before ++ more)

-- the lines grew by this text, the service's answer to the call, at which it was shown these processes of the cast
pub record HasAnswered {V : Type 0} (heard : V → List Asked → Type 0) (service : V) (before : List Asked) (c : Cast) (shown : List Process)
    (call : Call) (old new : List ℕ) : Type 0 where
  pub text : List ℕ
  pub reported : new ≡ old ++ text
  pub has : heard service (before ++ one_asked c shown call (Said text []))

-- ---- whom to suspect

-- the process is above this one
abbrev pub IsAbove : Option ℕ → ℕ → Type 0
IsAbove None q = Unit {0}
IsAbove (Some p) q = p < q

-- it names a process, or nobody
abbrev pub named_by : Option ℕ → Answer
named_by None = Done
named_by (Some q) = Named q

-- ---- a line of its own

-- the letters of a frame: one to each of these
abbrev pub letters_to : List ℕ × List ℕ → List (ℕ × List ℕ)
letters_to out = map (λ q. (q, out.1)) out.0

-- the letters of what is to be sent, in order: each a process that it goes to, and a frame
abbrev pub letters_in : List Sending → List (ℕ × List ℕ)
letters_in sends = flat_map (λ out. letters_to (frame_to out)) sends

-- process p can send the letter: it goes to another process of the roster, and the frame has at most 61,000 bytes
pub record CanBeSent (c : Cast) (p : ℕ) (letter : ℕ × List ℕ) : Type 0 where
  pub listed : IsTrue (has (keyed c.setting) letter.0)
  pub other : letter.0 ≢ p
  pub short : length letter.1 ≤ 61000

-- It has answered the line with a text, by which the lines grew, and with letters, by which what is to be sent grew.
pub record SaysTo {V : Type 0} (heard : V → List Asked → Type 0) (service : V) (before : List Asked) (c : Cast) (p : ℕ) (now : Process)
    (line old new : List ℕ) (sends sends_now : List Sending) : Type 0 where
  pub text : List ℕ
  pub more : List Sending
  pub reported : new ≡ old ++ text
  pub sent : sends_now ≡ sends ++ more
  pub can : All (CanBeSent c p) (letters_in more)
  pub has : heard service (before ++ one_asked c (now ∷ []) (Words p line) (Said text (letters_in more)))

-- The line is none of it: it says and sends nothing.
pub record HasNone {V : Type 0} (heard : V → List Asked → Type 0) (service : V) (before : List Asked) (c : Cast) (p : ℕ) (now : Process)
    (line old new : List ℕ) (sends sends_now : List Sending) : Type 0 where
  pub lines : new ≡ old
  pub silent : sends_now ≡ sends
  pub has : heard service (before ++ one_asked c (now ∷ []) (Words p line) Done)

-- the one or the other
abbrev pub AnswersLine : {V : Type 0} → (V → List Asked → Type 0) → V → List Asked → Cast → ℕ → Process → List ℕ → List ℕ → List ℕ
    → List Sending → List Sending → Bool → Type 0
AnswersLine heard service before c p now line old new sends sends_now true = SaysTo heard service before c p now line old new sends sends_now
AnswersLine heard service before c p now line old new sends sends_now false = HasNone heard service before c p now line old new sends sends_now
