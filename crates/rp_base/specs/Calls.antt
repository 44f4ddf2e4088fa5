-- The calls of a device in memory.
use Rattle.std.specs.Prelude.{ℕ, ◌+◌, ◌-◌, ◌^◌, ◌==◌, min, Bool, if◌then◌else◌}
use Rattle.std.specs.List.{list_any}
use Rattle.rp_base.specs.declared.calls.Calls.{Calls}

-- the next call is in the list of those that are to fail
abbrev pub is_to_fail : Calls → Bool
is_to_fail c = list_any (λ n. n == c.made) c.failing.items

-- one more, up to the end of the type
abbrev pub one_more : ℕ → ℕ
one_more n = min (n + 1) (2 ^ 64 - 1)

-- after the next call
abbrev pub called : Calls → Calls
called c = record c { made = one_more c.made; faults = if is_to_fail c then one_more c.faults else c.faults }

-- after a fault besides
abbrev pub faulted : Calls → Calls
faulted c = record c { faults = one_more c.faults }
