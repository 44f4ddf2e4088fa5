-- Parts of statements as their bytes say them, before the ranges are tested.
use Rattle.std.specs.Prelude.{ℕ, List, Option, Result, Ok}
use Rattle.std.specs.Option.{option_map}
use Rattle.byte_defs.specs.Fields.{◌>>=◌}
use Rattle.message_defs.specs.declared.FrameFault.{FrameFault}
use Rattle.message_defs.specs.Updates as plain
use Rattle.message_defs.specs.Statements.{Batch}
use Rattle.message_defs.specs.Reading.{messages_at, messages_within}
use Rattle.statements.specs.declared.fields.RawUpdate.{RawUpdate}
use Rattle.statements.specs.declared.fields.RawUpdate.TheVariants.{Remove, Add, Renew}
use Rattle.statements.specs.declared.fields.RawValue.{RawValue}

abbrev pub raw_update : RawUpdate → plain.Update
raw_update (Remove p) = plain.Remove p
raw_update (Add p) = plain.Add p
raw_update Renew = plain.Renew

abbrev pub raw_value : RawValue → plain.Value
raw_value v = record { update = raw_update v.update; cut = v.cut }

abbrev pub raw_report : Option (ℕ × RawValue) → Option (ℕ × plain.Value)
raw_report ready = option_map (λ r. (r.0, raw_value r.1)) ready

-- the value if the test answers Ok, and else the fault of the test
abbrev pub passed : {A : Type 0} → Result (Unit {0}) FrameFault → A → Result A FrameFault
passed test a = test >>= λ _. Ok a

-- the n messages that the bytes begin with, if each of them is in range
abbrev pub in_range : ℕ → List ℕ → Result Batch FrameFault
in_range n bytes = messages_at n bytes >>= λ ms. passed (messages_within ms.0) ms.0
