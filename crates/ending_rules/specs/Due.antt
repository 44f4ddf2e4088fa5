-- What a call answers for the process whose place it is handed.
use Rattle.std.specs.Prelude.{◌≡◌, ℕ, nat_lt, Bool, true, Option, Some, None}
use Rattle.byte_defs.specs.Members.{has}
use Rattle.message_defs.specs.Statements.{Statement}
use Rattle.group_defs.specs.Process.{Kind, Setting, Pool, Process, keyed}
use Rattle.group_defs.specs.Due.{least_due}
use Rattle.rule_laws.specs.Heard.{IsPool}
use Rattle.own_place.specs.declared.own.Own.{Own}
use Rattle.own_place.specs.Owns.{IsOwnOf}

-- the place has the setting's processes with keys
abbrev pub HasKeys : Setting → Own → Type 0
HasKeys s own = (q : ℕ) → has (keyed s) q ≡ has own.keyed q

-- the statement is the least of its kind that is due to each process whose place and pool these are; none where none is due
abbrev pub IsLeastDue : Pool → Own → Kind → Option Statement → Type 0
IsLeastDue h own kind o = IsPool h → (s : Setting) (p : Process) → IsOwnOf s p h own → least_due s p kind ≡ o

-- the number is below the other one, where there is one
abbrev pub is_below : ℕ → Option ℕ → Bool
is_below k None = true
is_below k (Some n) = nat_lt k n
