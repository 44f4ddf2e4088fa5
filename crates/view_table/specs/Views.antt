-- What a view of the code, and a fault of an update, are in the definitions.
use Rattle.std.specs.Prelude.{ℕ, List}
use Rattle.message_defs.specs.Spelling.{IsViewNumber}
use Rattle.rp_base.specs.declared.updates.UpdateFault.{UpdateFault}
use Rattle.rp_base.specs.declared.updates.UpdateFault.TheVariants.{ViewsSpent, AlreadyMember, GroupFull, NotMember, LastMember}
use Rattle.group_defs.specs.Views as defs
use Rattle.group_defs.specs.Views.{View, IsView}

-- the view of this number and these members
abbrev pub as_view : ℕ → List ℕ → View
as_view number members = record { number = number; members = members }

-- the number is at most 1,023, and the members are 1 to 16, each once
abbrev pub IsNumberedView : View → Type 0
IsNumberedView v = IsViewNumber v.number × IsView v

-- why no view follows
abbrev pub fault : UpdateFault → defs.UpdateFault
fault ViewsSpent = defs.ViewsSpent
fault AlreadyMember = defs.AlreadyMember
fault GroupFull = defs.GroupFull
fault NotMember = defs.NotMember
fault LastMember = defs.LastMember
