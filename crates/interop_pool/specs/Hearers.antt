-- Who hears, and the verdicts that it finds.
use Rattle.std.specs.Prelude.{◌≡◌, ℕ, zero, suc, ◌<◌, All, List, [], ◌∷◌, ◌++◌, length, replicate}
use Rattle.signature_defs.specs.Plain.{plain_valid}
use Rattle.message_defs.specs.Statements.{Claim}
use Rattle.group_defs.specs.Views.{View}
use Rattle.group_defs.specs.Process.{Setting, Process, Delivered, start}
use Rattle.group_defs.specs.Hearing.{Verdict, verdict, hear}
use Rattle.bench_parts.specs.Keys.{plain_keys}
use Rattle.view_table.specs.Views.{as_view, IsNumberedView}
use Rattle.claim_index.specs.Kept.{empty_pool}
use Rattle.claim_pool.specs.Settings.{as_setting}

-- the number and the members, who are processes, make a view, and there is a count for each member
pub record IsHearer (number : ℕ) (members counts : List ℕ) : Type 0 where
  pub view : IsNumberedView (as_view number members)
  pub processes : All (λ m. m < 64) members
  pub counted : length counts ≡ length members

-- the member's messages with numbers below this one, each delivered at the place of its number
unfoldable pub first_messages : ℕ → ℕ → List Delivered
first_messages member zero = []
first_messages member (suc n) =
    record { place = n; message = record { sender = member; number = n }; payload = [] } ∷ first_messages member n

-- of each member as many as its count says
unfoldable pub delivered_of : List ℕ → List ℕ → List Delivered
delivered_of (m ∷ members) (n ∷ counts) = first_messages m n ++ delivered_of members counts
delivered_of _ _ = []

-- signatures are plain, the group's name is 16 zeros, and these processes have these keys
abbrev pub setting_with : List (ℕ × List ℕ) → Setting
setting_with roster = as_setting plain_valid (replicate 16 0) roster

-- the processes 0 to 47 have keys, each 32 bytes of its number
abbrev pub setting : Setting
setting = setting_with (plain_keys 48)

-- a process in this view that has heard nothing yet, and has delivered `counts` of the messages of each member
abbrev pub hearer : View → List ℕ → Process
hearer v counts = record (start setting 0 1) { pool = empty_pool v; delivered = delivered_of v.members counts }

-- the verdicts on claims that are heard one after the other
unfoldable pub verdicts : Setting → Process → List Claim → List Verdict
verdicts s p [] = []
verdicts s p (c ∷ cs) = verdict s p c ∷ verdicts s (hear s p c) cs
