-- How often the streams failed.
use Rattle.std.specs.Prelude.{ℕ}
use Rattle.net_edge.specs.declared.streams.Reading.{Reading}
use Rattle.net_edge.specs.declared.streams.Writing.{Writing}

abbrev pub faults_read : {R : Type 0} → Reading R → ℕ
faults_read s = s.faults

abbrev pub faults_written : {W : Type 0} → Writing W → ℕ
faults_written s = s.faults
