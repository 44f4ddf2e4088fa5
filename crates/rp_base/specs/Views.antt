-- What updates and values mean.
use Rattle.rp_base.specs.declared.updates.Update.{Update}
use Rattle.rp_base.specs.declared.updates.Update.TheVariants.{Remove, Add, Renew}
use Rattle.rp_base.specs.declared.updates.Value.{Value}
use Rattle.message_defs.specs.Updates as defs

abbrev pub update : Update → defs.Update
update (Remove p) = defs.Remove p
update (Add p) = defs.Add p
update Renew = defs.Renew

abbrev pub value : Value → defs.Value
value v = record { update = update v.update; cut = v.cut }
