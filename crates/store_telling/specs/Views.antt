-- What the code reads, as plain data.
use Rattle.std.specs.Prelude.{ℕ}
use Rattle.store_defs.specs.Stores as stores
use Rattle.store_records.specs.declared.command.Command.{Command}
use Rattle.store_records.specs.Views.{command}
use Rattle.store_telling.specs.declared.answers.Answer.{Answer}
use Rattle.store_telling.specs.declared.answers.Answer.TheVariants.{Done, Value, Absent, NoCommand, Full, Differs}

-- an answer of the store
abbrev pub answer : Answer → stores.Answer
answer Done = stores.Done
answer (Value value) = stores.Value value.now
answer Absent = stores.Absent
answer NoCommand = stores.NoCommand
answer Full = stores.Full
answer (Differs value) = stores.Differs value.now

-- a command with its tag
abbrev pub asked : ℕ × Command → ℕ × stores.Command
asked a = (a.0, command a.1)
