-- What a transfer makes of a state, in two steps: the first reason not to count it, and what comes of it once it is counted.
use Rattle.std.specs.Prelude.{ℕ, Bool, not, ◌==◌, nat_lt, if◌then◌else◌, List, [], ◌∷◌, length, Option, Some}
use Rattle.std.specs.Option.{option_or}
use Rattle.byte_defs.specs.Choices.{first_that_holds}
use Rattle.group_defs.specs.Views.{faulty, is_member}
use Rattle.store_defs.specs.declared.Taken.{Taken}
use Rattle.store_defs.specs.declared.Taken.TheVariants.{OtherView, Stranger, Unsigned, Known, Ready, Counted}
use Rattle.store_defs.specs.Records.{StateRecord}
use Rattle.store_defs.specs.Votes.{Valid}
use Rattle.store_defs.specs.Transfers.{Transfer, givers, is_counted, is_signed}

-- the first reason not to count a state
abbrev pub refusal : Valid → List ℕ → Option (List ℕ) → Transfer → StateRecord → Option Taken
refusal valid group key t r = first_that_holds (
    (not (r.view == t.view.number), OtherView)
    ∷ (not (is_member t.view r.signer), Stranger)
    ∷ (not (is_signed valid group key r), Unsigned)
    ∷ (is_counted t r.signer, Known)
    ∷ [])

-- more than f members gave the state
abbrev pub is_enough : Transfer → List ℕ → Bool
is_enough t state = nat_lt (faulty (length t.view.members)) (givers t state)

-- what is answered where the state was counted
abbrev pub verdict : Transfer → List ℕ → Taken
verdict t state = if is_enough t state then Ready else Counted (givers t state)

-- the first state that is enough stays
abbrev pub with_ready : Transfer → List ℕ → Transfer
with_ready t state = if is_enough t state then record t { state = option_or t.state (Some state) } else t
