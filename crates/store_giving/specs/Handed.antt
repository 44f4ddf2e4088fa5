-- The state keys that a process was handed.
use Rattle.std.specs.Prelude.{ℕ, List, Option, None, option_map, get_or}
use Rattle.sig_scheme.specs.Keys.{key_bytes}
use Rattle.store_giving.specs.declared.handed.StateKeys.{StateKeys}

-- the key of a process, where one was handed in
abbrev pub key_of : StateKeys → ℕ → Option (List ℕ)
key_of t p = option_map key_bytes (get_or t.keys.items p None)
