-- Where things are in a picture: a column for each process, and a row for each thing that happens.
use Rattle.std.specs.Prelude.{ℕ, ◌+◌, ◌*◌, nat_lt, nat_le, if◌then◌else◌, List, length, count_by}
use Rattle.replay_defs.specs.Schedules.{Listed}
use Rattle.picture_defs.specs.Elements.{Point}

-- from one column to the next: with many processes they are closer
abbrev pub gap : List Listed → ℕ
gap ls = if nat_le (length ls) 4 then 200 else (if nat_le (length ls) 8 then 150 else 110)

-- the column of a process, by how many have a lower number
abbrev pub column : List Listed → ℕ → ℕ
column ls p = 90 + gap ls * count_by (λ l. nat_lt l.process p) ls

-- the row of this number, from 0
abbrev pub row : ℕ → ℕ
row k = 60 + 15 * k

-- where a process is in a row
abbrev pub place : List Listed → ℕ → ℕ → Point
place ls p k = record { x = column ls p; y = row k }

-- how wide the picture is
abbrev pub width : List Listed → ℕ
width ls = 90 + gap ls * length ls

-- how high it is with n rows: two lines of text have room below them, and the ten lines of the legend
abbrev pub height : ℕ → ℕ
height n = row n + 210
