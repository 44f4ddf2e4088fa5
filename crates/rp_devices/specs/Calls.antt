-- The calls of a device in memory.
use Rattle.std.specs.Prelude.{ℕ, ◌+◌, ◌-◌, ◌^◌, ◌==◌, nat_le, ◌||◌, min, Bool, if◌then◌else◌, Vec}
use Rattle.std.specs.List.{list_any}
use Rattle.std.specs.declared.alloc.Global.{Global}
use Rattle.rp_devices.specs.declared.calls.Calls.{Calls}

-- none was made, and none is to fail but those in the list
abbrev pub fresh : Vec ℕ Global → Calls
fresh failing = record { made = 0; failing = failing; stop = 2 ^ 64 - 1; faults = 0 }

-- the next call is in the list of those that are to fail, or all are from one on that came
abbrev pub is_to_fail : Calls → Bool
is_to_fail c = nat_le c.stop c.made || list_any (λ n. n == c.made) c.failing.items

-- one more, up to the end of the type
abbrev pub one_more : ℕ → ℕ
one_more n = min (n + 1) (2 ^ 64 - 1)

-- after the next call
abbrev pub called : Calls → Calls
called c = record c { made = one_more c.made; faults = if is_to_fail c then one_more c.faults else c.faults }

-- after a fault besides
abbrev pub faulted : Calls → Calls
faulted c = record c { faults = one_more c.faults }
