-- What a report is of, and what holds of its family.
use Rattle.std.specs.Prelude.{◌≡◌, Bool, List, ℕ, Ok}
use Rattle.group_defs.specs.Process.{keyed}
use Rattle.group_defs.specs.Accounts.{Bounded, Agree, Sound}
use Rattle.group_defs.specs.Family.{Family, accounts, numbers, Honest}
use Rattle.replay_defs.specs.Schedules.{Schedule}
use Rattle.replay_defs.specs.Reading.{schedule_of}
use Rattle.replay_defs.specs.Worlds.{World, world_of, family_of}
use Rattle.replay_defs.specs.Reports as plain

-- Where what was handed over of correct processes is their own word, and in each view that they installed at most f of n members are not
-- correct, they agree and are sound: their views of one number are equal, what they delivered in a view are fronts of one sequence, and
-- members that installed the next view delivered all of it; and each view has its cause, and each sequence is in order and is what its
-- senders accepted.
abbrev pub Headline : Family → Type 0
Headline f = Honest f → Bounded (accounts f) (numbers f) → Agree (accounts f) × Sound (accounts f) (keyed f.setting)

-- the text is the report of the schedule's own world at its end, and its family is as the headline says
pub record IsReportOf (short : Bool) (sch : Schedule) (text : List ℕ) : Type 0 where
  pub world : World
  pub end : world_of sch ≡ Ok world
  pub written : text ≡ plain.report_by short world (family_of sch.header world)
  pub headline : Headline (family_of sch.header world)

-- the text is the report of the schedule that the bytes spell
pub record IsReported (short : Bool) (bytes text : List ℕ) : Type 0 where
  pub schedule : Schedule
  pub read : schedule_of bytes ≡ Ok schedule
  pub report : IsReportOf short schedule text
