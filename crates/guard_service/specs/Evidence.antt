-- What a frame shows, as the code has it.
use Rattle.std.specs.Prelude.{◌≡◌, ℕ, ◌+◌, Bool, ◌==◌, ◌&&◌, ◌||◌, List, [], Option, Some, None}
use Rattle.std.specs.List.{list_any}
use Rattle.byte_defs.specs.Choices.{is_some_and}
use Rattle.byte_defs.specs.Members.{has}
use Rattle.message_defs.specs.Claims as plain
use Rattle.message_defs.specs.Statements.{Claim}
use Rattle.group_defs.specs.Process.{Setting, Process}
use Rattle.member_events.specs.Below.{given}
use Rattle.member_events.specs.declared.events.Note.{Note}
use Rattle.frame_codec.specs.declared.groups.FrameView.{FrameView}
use Rattle.frame_codec.specs.Views.{frame_view}
use Rattle.node_service.specs.Words.{note}
use Rattle.conviction_defs.specs.Convictions.{is_convicted}
use Rattle.guard_defs.specs.Guarding.{liar_of, may_expel}

-- the note calls q a liar
abbrev pub is_called : Note → ℕ → Bool
is_called n q = is_some_and (liar_of (note n)) (λ liar. liar == q)

-- the claims of a frame that was split, if it could be; none, where they have a fault
abbrev pub claims_shown : Option FrameView → List Claim
claims_shown None = []
claims_shown (Some frame) = given (plain.claims_of (frame_view frame))

-- q makes one of these claims
abbrev pub makes_one : List Claim → ℕ → Bool
makes_one claims q = list_any (λ c. c.signer == q) claims

-- these are all who make claims in the frame
abbrev pub AreSigners : List ℕ → Option FrameView → Type 0
AreSigners ps frame = (q : ℕ) → has ps q ≡ makes_one (claims_shown frame) q

-- a note calls q a liar, or the frame convicts it
abbrev pub is_shown : Setting → Option FrameView → List Note → ℕ → Bool
is_shown s frame notes q = list_any (λ n. is_called n q) notes || is_convicted s (claims_shown frame) q

-- the process may expel q, and it is shown
abbrev pub is_named : Setting → Option FrameView → List Note → Process → ℕ → Bool
is_named s frame notes now q = may_expel now q && is_shown s frame notes q

-- the first number above the process that was named last
abbrev pub first_of : Option ℕ → ℕ
first_of None = 0
first_of (Some last) = last + 1
