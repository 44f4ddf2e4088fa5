-- The verdict on a claim, and what hearing it changes.
use Rattle.std.specs.Prelude.{ℕ, ◌+◌, Bool, false, ◌||◌, not, nat_lt, nat_le, ◌==◌, List, [], ◌∷◌, ◌++◌, if◌then◌else◌, Some, None, is_some, unwrap_or}
use Rattle.std.specs.List.{list_any}
use Rattle.message_defs.specs.Below.{first_that_holds, is_some_and}
use Rattle.group_defs.specs.Views.{is_member}
use Rattle.message_defs.specs.Statements.{Statement, Init, Echo, Order, Place, Keep, Last, Suggest, Ack, Ready, Claim, slot_of, view_of, messages_of}
use Rattle.group_defs.specs.Process.{Setting, Process, key_of, delivered_from, places_in}
use Rattle.group_defs.specs.Certified.{claim_on, heard_on, says, number_of_members}
use Rattle.group_defs.specs.Due.{window}
use Rattle.message_defs.specs.Spelling.{body}

-- what becomes of a claim: only Heard and Conflict change anything
pub data Verdict : Type 0 where
  Old : Verdict
  Early : Verdict
  Stranger : Verdict
  OutOfWindow : Verdict
  Known : Verdict
  Unsigned : Verdict
  Conflict : Verdict
  Heard : Verdict

-- the signature is valid under the signer's roster key, on the body of the claim
abbrev pub is_valid : Setting → Claim → Bool
is_valid s c = is_some_and (key_of s c.signer) (λ key. s.valid key (body s.group c.signer c.statement) c.signature)

-- the signer, or a sender that the statement names, is not a member
abbrev pub is_strange : Process → Claim → Bool
is_strange p c = not (is_member p.pool.view c.signer) || list_any (λ m. not (is_member p.pool.view m.sender)) (messages_of c.statement)

-- the place, the number or the rank is too far ahead
abbrev pub is_beyond : Process → ℕ → Statement → Bool
is_beyond p signer (Init x l payload) = nat_le (delivered_from signer p.delivered + window) l
is_beyond p signer (Echo x m payload) = nat_le (delivered_from m.sender p.delivered + window) m.number
is_beyond p signer (Order x k b) = nat_le (places_in p.delivered + window) k
is_beyond p signer (Place x k b) = nat_le (places_in p.delivered + window) k
is_beyond p signer (Keep x k b) = nat_le (places_in p.delivered + window) k
is_beyond p signer (Last x r ready) = nat_le (number_of_members p.pool) r
is_beyond p signer (Suggest x r v) = nat_le (number_of_members p.pool) r
is_beyond p signer (Ack x r v) = nat_le (number_of_members p.pool) r
is_beyond p signer (Ready x r v) = nat_le (number_of_members p.pool) r
is_beyond p signer _ = false

-- the first of these that holds, else Heard: the view is over, or not yet installed; the signer or a named sender is no member; the
-- statement is too far ahead; the signer has said just this; the signature is not valid; the signer has said something else on the slot
abbrev pub verdict : Setting → Process → Claim → Verdict
verdict s p c = unwrap_or (first_that_holds (
    (nat_lt (view_of c.statement) p.pool.view.number, Old)
    ∷ (nat_lt p.pool.view.number (view_of c.statement), Early)
    ∷ (is_strange p c, Stranger)
    ∷ (is_beyond p c.signer c.statement, OutOfWindow)
    ∷ (says p.pool c.statement c.signer, Known)
    ∷ (not (is_valid s c), Unsigned)
    ∷ (is_some (heard_on p.pool c.signer (slot_of c.statement)), Conflict)
    ∷ [])) Heard

-- ---- what it changes

-- the process with the claim after those that it has heard
abbrev pub with_heard : Process → Claim → Process
with_heard p c = record p { pool = record { view = p.pool.view; heard = p.pool.heard ++ c ∷ [] } }

-- the pair is kept where none of this signer is
abbrev pub kept_conflicts : Process → Claim → List (Claim × Claim)
kept_conflicts p c =
    if list_any (λ pair. pair.1.signer == c.signer) p.conflicts then p.conflicts
    else p.conflicts ++ elim (claim_on p.pool.heard c.signer (slot_of c.statement)) [ None ↦ [] | Some first ↦ (first, c) ∷ [] ]

-- a heard claim is kept, and so is the first conflict of a signer
abbrev pub with_verdict : Verdict → Process → Claim → Process
with_verdict Heard p c = with_heard p c
with_verdict Conflict p c = record p { conflicts = kept_conflicts p c }
with_verdict _ p c = p

-- the process after a claim has got its verdict
abbrev pub hear : Setting → Process → Claim → Process
hear s p c = with_verdict (verdict s p c) p c

-- the claims get their verdicts one after the other
unfoldable pub hear_all : Setting → Process → List Claim → Process
hear_all s p [] = p
hear_all s p (c ∷ cs) = hear_all s (hear s p c) cs
