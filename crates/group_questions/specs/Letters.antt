-- What was delivered, in the definitions' words; and when two views are equal.
use Rattle.std.specs.Prelude.{◌==◌, ◌&&◌, Bool, List, map}
use Rattle.byte_defs.specs.Equality.{same_bytes}
use Rattle.group_defs.specs.Views.{View}
use Rattle.group_defs.specs.Process.{Letter, without_places}
use Rattle.member_events.specs.declared.events.Delivered.{Delivered}
use Rattle.accounts.specs.Views.{delivery}

-- the messages, without their places
abbrev pub letters : List Delivered → List Letter
letters ds = without_places (map delivery ds)

-- views are equal where number and members are
abbrev pub same_view : View → View → Bool
same_view v w = (v.number == w.number) && same_bytes v.members w.members
