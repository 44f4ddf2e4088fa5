-- What became of a file.
use Rattle.std.specs.Prelude.{◌≡◌, Bool, true, false, Result, IsErr}
use Rattle.file_disk.specs.declared.named_file.Stage.{Stage}
use Rattle.file_disk.specs.declared.named_file.Stage.TheVariants.{Unopened, Open, Lost}
use Rattle.file_disk.specs.declared.named_file.NamedFile.{NamedFile}

abbrev pub is_open_stage : {F : Type 0} → Stage F → Bool
is_open_stage Unopened = false
is_open_stage (Open file) = true
is_open_stage Lost = false

abbrev pub is_lost_stage : {F : Type 0} → Stage F → Bool
is_lost_stage Unopened = false
is_lost_stage (Open file) = false
is_lost_stage Lost = true

abbrev pub is_open : {R F D : Type 0} → NamedFile R F D → Bool
is_open f = is_open_stage f.stage

abbrev pub is_lost : {R F D : Type 0} → NamedFile R F D → Bool
is_lost f = is_lost_stage f.stage

-- once it is lost, each call fails and it stays lost
abbrev pub StaysLost : {R F D T E : Type 0} → NamedFile R F D → NamedFile R F D → Result T E → Type 0
StaysLost old new result = is_lost old ≡ true → IsErr result × (is_lost new ≡ true)
